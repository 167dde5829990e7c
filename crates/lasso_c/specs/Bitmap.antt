-- Bitmaps as Arrow has them: bit i of byte i / 8, counted from the least, is 1 where row i is present.
use Rattle.std.specs.Prelude.{ℕ, ◌+◌, ◌*◌, ◌/◌, ◌%◌, ◌^◌, Bool, true, zero, suc, List, [], ◌∷◌, length, map, take, drop, not, nat_eq, nat_le, slice_index, if◌then◌else◌}
use Rattle.std.specs.Int.{div_ceil}

-- whether the row of this number is present. Without a bitmap each row is present
abbrev pub present_at : List ℕ → ℕ → Bool
present_at [] at = true
present_at (byte ∷ more) at = nat_eq (slice_index (byte ∷ more) (at / 8) / 2 ^ (at % 8) % 2) 1

-- whether a bitmap has a bit for each of a number of rows, or is none
abbrev pub bits_fit : List ℕ → ℕ → Bool
bits_fit [] rows = true
bits_fit (byte ∷ more) rows = nat_le rows (8 * length (byte ∷ more))

-- the byte whose bits from the least on are these
abbrev pub byte_of : List Bool → ℕ
byte_of [] = 0
byte_of (bit ∷ bits) = (if bit then 1 else 0) + 2 * byte_of bits

-- a number of bytes of these bits, eight in each
abbrev pub bytes_of : ℕ → List Bool → List ℕ
bytes_of zero bits = []
bytes_of (suc count) bits = byte_of (take 8 bits) ∷ bytes_of count (drop 8 bits)

-- the bitmap of these bits, whose last byte has 0 after them
abbrev pub bitmap_of : List Bool → List ℕ
bitmap_of bits = bytes_of (div_ceil (length bits) 8) bits

-- the bits of codes: 0 for the code of nulls
abbrev pub code_bits : ℕ → List ℕ → List Bool
code_bits null codes = map (λ code. not (nat_eq code null)) codes
