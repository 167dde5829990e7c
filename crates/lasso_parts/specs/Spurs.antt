-- The four key types in the words of a contract that speaks of one of them: which position a key stands for, and the key of a position.
-- Contracts see such a key as the number that it keeps.
use Rattle.std.specs.Prelude.{ℕ, ◌-◌, Option}
use Rattle.lasso_parts.specs.Kept.{kept_at}

-- which position a `Spur` stands for, which keeps 32 bits
abbrev pub spur_number : ℕ → ℕ
spur_number key = key - 1

-- the `Spur` of a position, or none
abbrev pub spur_at : ℕ → Option ℕ
spur_at = kept_at 4294967295

-- the same of a `MiniSpur`, which keeps 16 bits
abbrev pub mini_spur_number : ℕ → ℕ
mini_spur_number key = key - 1

-- the `MiniSpur` of a position, or none
abbrev pub mini_spur_at : ℕ → Option ℕ
mini_spur_at = kept_at 65535

-- the same of a `MicroSpur`, which keeps 8 bits
abbrev pub micro_spur_number : ℕ → ℕ
micro_spur_number key = key - 1

-- the `MicroSpur` of a position, or none
abbrev pub micro_spur_at : ℕ → Option ℕ
micro_spur_at = kept_at 255

-- the same of a `LargeSpur`, which keeps 64 bits
abbrev pub large_spur_number : ℕ → ℕ
large_spur_number key = key - 1

-- the `LargeSpur` of a position, or none
abbrev pub large_spur_at : ℕ → Option ℕ
large_spur_at = kept_at 18446744073709551615
