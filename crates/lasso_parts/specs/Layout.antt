-- A layout: texts in one buffer of bytes, beside a buffer of offsets, as Arrow lays out arrays of strings: text k
-- is the bytes from offset k to offset k + 1. So there is one more offset than texts.
use Rattle.std.specs.Prelude.{◌≡◌, ℕ, ◌+◌, List, [], ◌∷◌, length, map, min}
use Rattle.std.specs.List.{slice_range}
use Rattle.std.proofs.Common.{sym}
use Rattle.std.proofs.lemmas.List.{map-id}
use Rattle.lasso_parts.specs.Texts.{Text}

-- the greatest offset of 32 bits, a signed number: 2 ^ 31 - 1
abbrev pub greatest_offset : ℕ
greatest_offset = 2147483647

-- that of 64 bits: 2 ^ 63 - 1
abbrev pub greatest_large_offset : ℕ
greatest_large_offset = 9223372036854775807

-- how far offsets of this greatest one may reach into the bytes
abbrev pub reach : ℕ → List ℕ → ℕ
reach greatest bytes = min (length bytes) greatest

-- the texts between an offset and those after it
abbrev pub texts_from : List ℕ → ℕ → List ℕ → List Text
texts_from bytes from [] = []
texts_from bytes from (to ∷ offsets) = slice_range bytes from to ∷ texts_from bytes to offsets

-- the texts of a buffer with these offsets; no offsets at all mean no texts
abbrev pub layout_texts : List ℕ → List ℕ → List Text
layout_texts bytes [] = []
layout_texts bytes (from ∷ offsets) = texts_from bytes from offsets

-- the offsets of texts that lie one after another from an offset on
abbrev pub offsets_from : ℕ → List Text → List ℕ
offsets_from at [] = at ∷ []
offsets_from at (text ∷ texts) = at ∷ offsets_from (at + length text) texts

-- offsets that are numbers
pub numbers_each : (offsets : List ℕ) → offsets ≡ map (λ offset. offset) offsets
numbers_each offsets = sym (map-id offsets)
