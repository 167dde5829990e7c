-- The value of decimal digits.
use Rattle.std.specs.Prelude.{ℕ, ◌+◌, ◌-◌, ◌*◌, ◌^◌, Bool, ◌&&◌, List, [], ◌∷◌, length, nat_le, nat_lt, Option, Some, None, if◌then◌else◌}

-- an ASCII digit
abbrev pub is_digit : ℕ → Bool
is_digit b = nat_le 48 b && nat_le b 57

-- the value of digits that follow digits of this value, if it is below 2 ^ 64
abbrev pub digits_after : ℕ → List ℕ → Option ℕ
digits_after value [] = Some value
digits_after value (b ∷ bytes) =
    if is_digit b && nat_lt (value * 10 + (b - 48)) (2 ^ 64) then digits_after (value * 10 + (b - 48)) bytes else None

-- the value of 1 to 20 digits
abbrev pub digits_value : List ℕ → Option ℕ
digits_value word = if nat_le 1 (length word) && nat_le (length word) 20 then digits_after 0 word else None
