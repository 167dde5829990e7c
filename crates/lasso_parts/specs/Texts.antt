-- Lists of texts: where a text is, distinct lists, and the keys of positions.
--
-- A key type has a function `key_at` from numbers to keys: the key of number n, or none if the type lacks it.
-- Each key has a number, the position that it stands for. The laws that each key type proves (`Key` in
-- `src/keys.rt`): the key of number n is a value of the type, has the number n, and n is below 2 ^ 64; a
-- value of the type is the key of its number; two values are equal exactly if their numbers are.
use Rattle.std.specs.Prelude.{ℕ, ◌<◌, List, Option, IsSome, position, bytes_eq, option_and_then}
use Rattle.std.specs.List as lists

-- a text is the list of its bytes
abbrev pub Text : Type 0
Text = List ℕ

-- the text's position in the list, counted from 0, or none
abbrev pub position_of : List Text → Text → Option ℕ
position_of texts text = position (λ t. bytes_eq t text) texts

-- no two texts are equal
abbrev pub IsDistinct : List Text → Type 0
IsDistinct texts = lists.IsDistinct bytes_eq texts

-- a list of n texts fits the keys if each of its positions has one. A key type may lack a number and have
-- greater ones: a list then never grows past the first number that it lacks
abbrev pub Fits : {K : Type 0} → (ℕ → Option K) → ℕ → Type 0
Fits key_at n = (i : ℕ) → i < n → IsSome (key_at i)

-- the key of the text's position, or none if the text is absent
abbrev pub key_of : {K : Type 0} → (ℕ → Option K) → List Text → Text → Option K
key_of key_at texts text = option_and_then key_at (position_of texts text)
