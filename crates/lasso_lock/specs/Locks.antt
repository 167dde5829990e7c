-- What a reader of a lock holds.
use Rattle.std.specs.Prelude.{Bool, true, false, Option, Some, None}
use Rattle.std.specs.Coded.{Coded, coded×, coded_option}
use base.Stored.{coded_via}

-- a reader's hold: the lock's tag, and the value that is read
pub record Hold (T X : Type 0) : Type 0 where
  pub tag : T
  pub value : Option X

abbrev pub hold_coded : {T X : Type 0} → Coded T → Coded X → Coded (Hold T X)
hold_coded {T} {X} c d = coded_via (coded× c (coded_option d)) (λ (h : Hold T X). (h.tag, h.value)) (λ x y e i. record { tag = (e i).0; value = (e i).1 })

-- what was seen in the latch
abbrev pub value_of : {X : Type 0} → Option (Option X) → Option X
value_of None = None
value_of (Some x) = x

-- the latch was seen, and there was a value in it
abbrev pub has_value : {X : Type 0} → Option (Option X) → Bool
has_value None = false
has_value (Some None) = false
has_value (Some (Some x)) = true
