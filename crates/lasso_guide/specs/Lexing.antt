-- How a source text is cut into tokens.
use Rattle.std.specs.Prelude.{◌≡◌, ℕ, ◌<◌, ◌==◌, ◌||◌, ◌++◌, List, [], ◌∷◌, Bool, true, false, if◌then◌else◌, nat_le, length, map, All, Contains, Some, slice_get, slice_index}
use Rattle.std.specs.Char.{is_ascii_alphabetic, is_ascii_digit, is_ascii_whitespace}
use Rattle.lasso.specs.Spurs.{spur_number}
use Rattle.lasso.specs.Texts.{Text}
use Rattle.lasso_guide.specs.declared.lexer.Kind.{Kind}
use Rattle.lasso_guide.specs.declared.lexer.Kind.TheVariants.{Letters, Digits, Space, Mark}
use Rattle.lasso_guide.specs.declared.lexer.Token.{Token}
use Rattle.lasso_guide.specs.declared.lexer.Token.TheVariants.{Name, Number, Symbol}
use Rattle.lasso_guide.specs.declared.lexer.TheConstants.{KEYWORDS}

-- ---- keywords

-- their texts
abbrev pub keywords : List Text
keywords = map (λ word. word.now) KEYWORDS

-- each text of the first list is at its position in the second
abbrev pub Keep : List Text → List Text → Type 0
Keep before after = (n : ℕ) (text : Text) → slice_get before n ≡ Some text → slice_get after n ≡ Some text

-- the key's text is one of the keywords
abbrev pub IsKeyword : List Text → ℕ → Type 0
IsKeyword texts key = (text : Text) × (slice_get texts (spur_number key) ≡ Some text) × Contains keywords text

-- ---- pieces

-- what a byte begins. Bytes past ASCII are letters
abbrev pub kind_of : ℕ → Kind
kind_of byte =
    if is_ascii_digit byte then Digits
    else (if is_ascii_whitespace byte then Space
    else (if is_ascii_alphabetic byte || (byte == 95 || nat_le 0x80 byte) then Letters
    else Mark))

-- whether a piece goes on with a byte of this kind: a word with letters and digits, a number with digits,
-- white space with white space, and a symbol with none
abbrev pub goes_on : Kind → Kind → Bool
goes_on Letters Letters = true
goes_on Letters Digits = true
goes_on Digits Digits = true
goes_on Space Space = true
goes_on _ _ = false

-- whether a piece goes on with this byte
abbrev pub continues : Kind → ℕ → Bool
continues kind byte = goes_on kind (kind_of byte)

-- the text is the longest piece at its start, and what follows it
pub record IsPiece (text piece after : Text) : Type 0 where
  pub whole : piece ++ after ≡ text
  pub begins : 0 < length piece
  pub inside : (i : ℕ) → 0 < i → i < length piece → continues (kind_of (slice_index piece 0)) (slice_index piece i) ≡ true
  pub stops : 0 < length after → continues (kind_of (slice_index piece 0)) (slice_index after 0) ≡ false

-- ---- tokens

-- the token of a piece, where keys stand for these texts
abbrev pub IsTokenOf : List Text → Text → Token → Type 0
IsTokenOf texts piece (Name key) = (kind_of (slice_index piece 0) ≡ Letters) × (slice_get texts (spur_number key) ≡ Some piece)
IsTokenOf texts piece (Number digits) = (kind_of (slice_index piece 0) ≡ Digits) × (digits.now ≡ piece)
IsTokenOf texts piece (Symbol symbol) = (kind_of (slice_index piece 0) ≡ Mark) × (symbol.now ≡ piece)

-- the tokens of a text are those of its pieces in order, with white space before, between and after them
abbrev pub IsCutInto : List Text → Text → List Token → Type 0
IsCutInto texts text [] = All (λ byte. kind_of byte ≡ Space) text
IsCutInto texts text (token ∷ tokens) =
    (space rest piece after : Text) × (space ++ rest ≡ text) × All (λ byte. kind_of byte ≡ Space) space
    × IsPiece rest piece after × IsTokenOf texts piece token × IsCutInto texts after tokens
