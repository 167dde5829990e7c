-- The first room of an interner.
use Rattle.std.specs.Prelude.{ℕ, ◌==◌, ◌&&◌, Bool}
use Rattle.std.specs.Ordering.{on, then_cmp, nat_cmp}
use Rattle.std.specs.declared.cmp.Ordering.{Ordering}

-- the number of texts that there is room for, and the bytes of the first bucket
pub record Sizes : Type 0 where
  pub strings : ℕ
  pub bytes : ℕ

-- less room for texts comes first, and of equal ones less room for bytes
abbrev pub sizes_cmp : Sizes → Sizes → Ordering
sizes_cmp = then_cmp (on (λ (s : Sizes). s.strings) nat_cmp) (on (λ (s : Sizes). s.bytes) nat_cmp)

-- both are equal
abbrev pub sizes_eq : Sizes → Sizes → Bool
sizes_eq one other = (one.strings == other.strings) && (one.bytes == other.bytes)
