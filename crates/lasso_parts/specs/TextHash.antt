-- The hash of a text under a seed of 128 bits, as a definition.
--
-- A text of at most sixteen bytes is two numbers, its head and its tail, which overlap; a longer one is lanes of sixteen
-- bytes, the last of which overlaps the one before. Each lane is one product of two numbers, and each factor has a part
-- that depends on the seed. The length turns the seed's half in the last product.
use Rattle.std.specs.Prelude.{ℕ, zero, suc, ◌+◌, ◌-◌, ◌*◌, ◌/◌, ◌%◌, ◌^◌, length, take, drop, if◌then◌else◌, nat_le, slice_index, bit_and, bit_xor}
use Rattle.core.specs.Int.{w32, w64, from_le_bytes, rotate_left}
use Rattle.lasso_parts.specs.Texts.{Text}
use Rattle.lasso_parts.specs.declared.hasher.TextHasher.{TextHasher}
use Rattle.lasso_parts.specs.declared.hasher.TextState.{TextState}

-- the two halves of the 128 bits of the product, joined by xor
unfoldable pub folded : ℕ → ℕ → ℕ
folded a b = bit_xor (bit_and (a * b) (2 ^ 64 - 1)) (a * b / 2 ^ 64)

-- the eight bytes from the index on as one number, the lowest first
unfoldable pub word : Text → ℕ → ℕ
word text at = from_le_bytes w64 (take 8 (drop at text))

-- the four bytes from the index on as one number, the lowest first
unfoldable pub half_word : Text → ℕ → ℕ
half_word text at = from_le_bytes w32 (take 4 (drop at text))

-- the first, the middle and the last of one to three bytes as one number
unfoldable pub few : Text → ℕ
few text = slice_index text 0 + 256 * slice_index text (length text / 2) + 65536 * slice_index text (length text - 1)

-- the first eight bytes of a text of at most sixteen as one number: the first four, all three, or none, if it is shorter
unfoldable pub head : Text → ℕ
head text = if nat_le 8 (length text) then word text 0 else if nat_le 4 (length text) then half_word text 0 else if nat_le 1 (length text) then few text else 0

-- the last eight bytes of a text of at most sixteen as one number: the last four, or none, if it is shorter
unfoldable pub tail : Text → ℕ
tail text = if nat_le 8 (length text) then word text (length text - 8) else if nat_le 4 (length text) then half_word text (length text - 4) else 0

-- the state after the first n lanes of sixteen bytes
unfoldable pub after_lanes : ℕ → ℕ → Text → ℕ → ℕ
after_lanes state factor text zero = state
after_lanes state factor text (suc n) = folded (bit_xor (word text (16 * n)) (after_lanes state factor text n)) (bit_xor (word text (16 * n + 8)) factor)

-- the factor of the last lane, which the length turns
abbrev pub last_factor : ℕ → Text → ℕ
last_factor factor text = rotate_left w64 factor (length text % 64)

-- the state after a text of at most sixteen bytes
unfoldable pub after_short : ℕ → ℕ → Text → ℕ
after_short state factor text = folded (bit_xor (head text) state) (bit_xor (tail text) (last_factor factor text))

-- the state after a text of more bytes
unfoldable pub after_long : ℕ → ℕ → Text → ℕ
after_long state factor text = folded (bit_xor (word text (length text - 16)) (after_lanes state factor text ((length text - 1) / 16))) (bit_xor (word text (length text - 8)) (last_factor factor text))

-- the state after a text
unfoldable pub after : ℕ → ℕ → Text → ℕ
after state factor text = if nat_le (length text) 16 then after_short state factor text else after_long state factor text

-- the hasher after one write of these bytes
abbrev pub written : TextHasher → Text → TextHasher
written hasher text = record { state = after hasher.state hasher.factor text; factor = hasher.factor }

-- the hasher that these start from
abbrev pub started : TextState → TextHasher
started hasher = record { state = hasher.state; factor = hasher.factor }

-- the hash that it ends with
abbrev pub finished : TextHasher → ℕ
finished hasher = hasher.state

-- what a seed of two numbers starts from: each is joined with digits of π, so that no part is 0 for the seed 0, 0
abbrev pub seeded : ℕ → ℕ → TextState
seeded seed0 seed1 = record { state = bit_xor seed0 0x243f_6a88_85a3_08d3; factor = bit_xor seed1 0x1319_8a2e_0370_7344 }

-- the hash of a text under a seed
abbrev pub text_hash : ℕ → ℕ → Text → ℕ
text_hash seed0 seed1 text = after (bit_xor seed0 0x243f_6a88_85a3_08d3) (bit_xor seed1 0x1319_8a2e_0370_7344) text
