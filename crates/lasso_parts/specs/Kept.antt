-- Key types that keep the number of their position plus one, so that what they keep is never 0. `Spur`,
-- `MiniSpur`, `MicroSpur` and `LargeSpur` keep it in 32, 16, 8 and 64 bits; the last number of each is the
-- greatest of its width, less one.
use Rattle.std.specs.Prelude.{◌≡◌, ◌↔◌, ◌==◌, ℕ, ◌+◌, ◌-◌, ◌<◌, ◌≤◌, ◌^◌, ◌++◌, List, Option, Some, None, IsSome, IsTrue, nat_lt, if◌then◌else◌, codes, decimal}
use Rattle.std.proofs.Common.{arith}
use Rattle.std.proofs.lemmas.Bool.Decides.{nat_tests}

-- what a key keeps is from 1 to the greatest number of its width
abbrev pub IsKeptNumber : ℕ → ℕ → Type 0
IsKeptNumber greatest kept = (0 < kept) × (kept ≤ greatest)

-- the key of a position, if there is one
abbrev pub kept_at : ℕ → ℕ → Option ℕ
kept_at greatest n = if nat_lt n greatest then Some (n + 1) else None

-- `Name(kept)`
abbrev pub kept_text : List ℕ → ℕ → List ℕ
kept_text name kept = name ++ (codes "(" ++ (decimal kept ++ codes ")"))

-- the laws of keys, for any width below 2 ^ 64
pub kept_made : (greatest : ℕ) → greatest ≤ 2 ^ 64 → (n kept : ℕ) → kept_at greatest n ≡ Some kept → (n < 2 ^ 64) × IsKeptNumber greatest kept × (kept - 1 ≡ n)
kept_made greatest width n kept made = grind (arith, nat_tests)

pub kept_made_again : (greatest kept : ℕ) → IsKeptNumber greatest kept → kept_at greatest (kept - 1) ≡ Some kept
kept_made_again greatest kept is_kept = grind (arith, nat_tests)

pub kept_equal : (greatest a b : ℕ) → IsKeptNumber greatest a → IsKeptNumber greatest b → IsTrue (a == b) ↔ (a - 1 ≡ b - 1)
kept_equal greatest a b is_kept is_kept' = (λ e. grind (arith, nat_tests), λ e. grind (arith, nat_tests))

-- which positions have keys
pub kept_range : (greatest n : ℕ) → IsSome (kept_at greatest n) ↔ (n < greatest)
kept_range greatest n = (λ h. grind (arith, nat_tests, h), λ h. grind (arith, nat_tests))
