-- A short text in an array: the bytes at its front.
use Rattle.std.specs.Prelude.{ℕ, ◌≤◌, List, take, IsUtf8}
use Rattle.lasso_parts.specs.Texts.{Text}

-- the text at the front of the array
abbrev pub front : ℕ → List ℕ → Text
front len bytes = take len bytes

-- the first bytes of the array, at most 14, are text
abbrev pub IsShort : ℕ → List ℕ → Type 0
IsShort len bytes = (len ≤ 14) × IsUtf8 (take len bytes)
