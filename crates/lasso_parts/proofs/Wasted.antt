-- How much of the memory can be waste, in an arena that was never cleared: at most the first bucket and
-- four times the bytes copied in, whatever limits were set between.
--
-- A bucket that is left has less room than the next text, so the buckets that were left take less than
-- twice what was copied; the current one is at most the first, or twice a size that was left, or what the
-- limit left for a text that is in it; a bucket of exact size is full. Four linear facts say so, and each
-- case of storing keeps them. There is no spare before the first clear.
use Rattle.std.proofs.Common.{◌≡◌, ℕ, ◌+◌, ◌*◌, Some, None, ap, arith}
use Rattle.std.proofs.lemmas.Grind.{common_steps}
use Rattle.lasso_parts.specs.Account.{Account, store, spare_for, smallest_spare}
use Rattle.lasso_parts.specs.Waste.{IsThrifty}

-- where there are no spares, none is found
none_to_take : (first n : ℕ) (a : Account) → a.spare ≡ 0 → spare_for first a n ≡ None
none_to_take first n a e = ap (λ (s : ℕ). smallest_spare s (2 * first) s n) e

-- storing keeps them
pub thrifty_store : (first copied n : ℕ) (a b : Account) → IsThrifty first copied a → store first a n ≡ Some b → IsThrifty first (copied + n) b
thrifty_store first copied n a b h e =
    let none = none_to_take first n a h.spare in
    record { spare = grind (arith, common_steps, e, none); usage = grind (arith, common_steps, e, none); doubling = grind (arith, common_steps, e, none); room = grind (arith, common_steps, e, none) }
