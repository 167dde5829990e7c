-- The lines of bytes.
use Rattle.std.specs.Prelude.{ℕ, ◌≡◌, ◌⊎◌, false, Bool, cond, List, [], ◌∷◌, ◌++◌, nat_eq}
use Rattle.std.specs.List.{onto_first}

-- whether the byte is a line feed
abbrev pub is_line_feed : ℕ → Bool
is_line_feed b = nat_eq b 10

-- the lines of bytes: each line feed ends a line and is no part of it, and bytes after the last one are a
-- line too; a carriage return is an ordinary byte
abbrev pub lines_of : List ℕ → List (List ℕ)
lines_of [] = []
lines_of (b ∷ bytes) = cond (is_line_feed b) ([] ∷ lines_of bytes) (onto_first b (lines_of bytes))

-- no byte is a line feed
abbrev pub NoFeed : List ℕ → Type 0
NoFeed [] = Unit {0}
NoFeed (b ∷ bytes) = (is_line_feed b ≡ false) × NoFeed bytes

-- the first line of the bytes and the rest: the line has no line feed, and is followed by one and the rest;
-- or the line is all bytes, and nothing is left
abbrev pub IsFirstLine : List ℕ → List ℕ → List ℕ → Type 0
IsFirstLine bytes line rest = NoFeed line × ((bytes ≡ line ++ 10 ∷ rest) ⊎ ((bytes ≡ line) × (rest ≡ [])))
