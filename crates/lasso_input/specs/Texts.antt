-- The texts of lines of any bytes.
use Rattle.std.specs.Prelude.{ℕ, ◌≡◌, ◌&&◌, All, Bool, true, false, not, List, [], ◌∷◌, ◌++◌, drop, nat_eq, if◌then◌else◌}
use Rattle.std.specs.List.{starts_with}
use Rattle.std.specs.Result.{result_unwrap_or}
use Rattle.std.specs.Str.{is_utf8, IsUtf8}
use Rattle.hex.specs.Hex.{IsBytes, decode_of, encode_lower}

-- the mark, which is U+10FFFF, in UTF-8
abbrev pub mark : List ℕ
mark = 244 ∷ 143 ∷ 191 ∷ 191 ∷ []

-- whether the bytes begin with the mark
unfoldable pub is_marked : List ℕ → Bool
is_marked bytes = starts_with nat_eq bytes mark

-- UTF-8 without the first byte of the mark: each line of it is its own text
abbrev pub IsPlain : List ℕ → Type 0
IsPlain bytes = IsUtf8 bytes × All (λ b. nat_eq b 244 ≡ false) bytes

-- whether the line is its own text: it is UTF-8 and doesn't begin with the mark
unfoldable pub is_own_text : List ℕ → Bool
is_own_text line = is_utf8 line && not (is_marked line)

-- the mark, and then the bytes as lower-case hexadecimal digits, two a byte
unfoldable pub escaped : List ℕ → List ℕ
escaped bytes = mark ++ encode_lower bytes

-- the text of a line: the line, if it is its own text, and else the mark and its digits
unfoldable pub text_of : List ℕ → List ℕ
text_of line = if is_own_text line then line else escaped line

-- the line of a text: what begins with the mark is read as digits, of both cases; all else, and what has no proper
-- digits, is the text itself
unfoldable pub line_of : List ℕ → List ℕ
line_of text = if is_marked text then result_unwrap_or (decode_of (drop 4 text)) text else text

-- whether the line is let in: any line, or only one that is UTF-8
abbrev pub is_let_in : Bool → List ℕ → Bool
is_let_in false line = true
is_let_in true line = is_utf8 line

-- the line of a line's text is the line
abbrev pub TextsGiveLines : Type 0
TextsGiveLines = (line : List ℕ) → IsBytes line → line_of (text_of line) ≡ line

-- lines that have one text are equal
abbrev pub EqualTextsHaveEqualLines : Type 0
EqualTextsHaveEqualLines = (one other : List ℕ) → IsBytes one → IsBytes other → text_of one ≡ text_of other → one ≡ other

-- the text of a line is UTF-8
abbrev pub TextsAreUtf8 : Type 0
TextsAreUtf8 = (line : List ℕ) → IsUtf8 (text_of line)
