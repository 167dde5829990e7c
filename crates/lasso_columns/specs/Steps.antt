-- How the lines of a stream are encoded round by round.
use Rattle.std.specs.Prelude.{ℕ, ◌≡◌, Bool, true, false, List, [], ◌++◌, Option, Some, Result}
use Rattle.std.specs.declared.io.Error.{Error}
use Rattle.lasso_parts.specs.Texts.{Text}
use Rattle.lasso_single.specs.Interner.{InternerView}
use Rattle.lasso_columns.specs.Blocks.{numbered}
use Rattle.lasso_columns.specs.Rows.{EncodesRows}
use Rattle.lasso_columns.specs.Streams.{AreBytesBy, FollowBy}
use Rattle.lasso_columns.specs.Texts.{texts_by}
use Rattle.lasso_columns.specs.declared.line_texts.LineTexts.{LineTexts}
use Rattle.lasso_columns.specs.declared.stream.StreamError.{StreamError}
use Rattle.lasso_columns.specs.declared.stream.StreamError.TheVariants.{Line, Read}

-- what an encoder of a stream has read ahead, the texts of lines; whether more lines follow them, or why a read failed
-- after them; and how many rounds may follow
pub record EncoderView : Type 0 where
  pub by : LineTexts
  pub ahead : List Text
  pub more : Result Bool Error
  pub rounds_left : ℕ

-- these lines are left: those with these texts, which were read ahead, and those that follow them
abbrev pub AreAhead : LineTexts → (ahead : List Text) → (more : Result Bool Error) → (left : Option (List ℕ)) → (lines : List (List ℕ)) → Type 0
AreAhead by ahead more left lines =
    (first : List (List ℕ)) × (others : List (List ℕ)) × (lines ≡ first ++ others) × (ahead ≡ texts_by by first) × AreBytesBy by first × FollowBy by more left others

-- after a round these lines are left; or none, and nothing of the input
abbrev pub AreAheadAfter : Bool → LineTexts → (ahead : List Text) → (more : Result Bool Error) → (left : Option (List ℕ)) → (lines : List (List ℕ)) → Type 0
AreAheadAfter true by ahead more left lines = AreAhead by ahead more left lines
AreAheadAfter false by ahead more left lines = (left ≡ Some []) × (lines ≡ [])

-- these lines are left to an encoder, if its input has these bytes left
abbrev pub AreLeft : EncoderView → (left : Option (List ℕ)) → (lines : List (List ℕ)) → Type 0
AreLeft encoder left lines = AreAhead encoder.by encoder.ahead encoder.more left lines

-- the same after a round that said whether more lines follow
abbrev pub AreLeftAfter : Bool → EncoderView → (left : Option (List ℕ)) → (lines : List (List ℕ)) → Type 0
AreLeftAfter goes_on encoder left lines = AreAheadAfter goes_on encoder.by encoder.ahead encoder.more left lines

-- the first of these lines were encoded, and P holds of the others
abbrev pub EncodesFirst : LineTexts → Option Text → InternerView → (lines : List (List ℕ)) → List ℕ → InternerView → List ℕ → (P : List (List ℕ) → Type 0) → Type 0
EncodesFirst by null old lines before new after P =
    (first : List (List ℕ)) × (rest : List (List ℕ)) × (lines ≡ first ++ rest) × AreBytesBy by first × EncodesRows null old (texts_by by first) [] before new after × P rest

-- the same error, and if it is that of a line, of the line with this number
abbrev pub stream_error_at : StreamError → ℕ → StreamError
stream_error_at (Line error) number = Line (numbered error number)
stream_error_at (Read error) number = Read error
