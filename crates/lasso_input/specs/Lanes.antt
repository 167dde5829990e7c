-- What is computed for each lane of a vector.
use Rattle.std.specs.Prelude.{ℕ, ◌+◌, ◌%◌, nat_le, if◌then◌else◌}

-- the digit of a number below 16
abbrev pub digit_lane : ℕ → ℕ
digit_lane number = (number + (if nat_le 10 number then 87 else 48)) % 256

-- the number below 16 that has this digit: the last four bits, and 9 more for a letter
abbrev pub number_lane : ℕ → ℕ
number_lane digit = (digit % 16 + (if nat_le 65 digit then 9 else 0)) % 256
