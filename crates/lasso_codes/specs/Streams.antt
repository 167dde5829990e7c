-- How calls change the bytes that a reader has left and those that a writer has, if they are known.
use Rattle.std.specs.Prelude.{ℕ, ◌≡◌, ◌⊎◌, ◌<◌, Bool, true, false, List, [], ◌∷◌, ◌++◌, length, take, Option, Some, None, Result, Err, MatchResult, option_map, if◌then◌else◌}
use Rattle.std.specs.Io.{StopsAt}
use Rattle.std.specs.Io.KnownBytes.{Appends}
use Rattle.lasso_input.specs.Lines.{lines_of, is_line_feed}
use Rattle.lasso_codes.specs.Errors.{IsWriteError, FailsWriting}
use Rattle.lasso_codes.specs.Views.{InputView, OutputView}
use Rattle.lasso_codes.specs.declared.input.Cut.{Cut}
use Rattle.lasso_codes.specs.declared.input.Cut.TheVariants.{Whole, Part, End}
use Rattle.lasso_codes.specs.declared.error.RunError.{RunError}
use Rattle.lasso_codes.specs.declared.error.RunError.TheVariants.{WriteFailed}

-- P holds of the bytes, if they are known
abbrev pub IfKnown : Option (List ℕ) → (List ℕ → Type 0) → Type 0
IfKnown known P = (bytes : List ℕ) → known ≡ Some bytes → P bytes

-- the first list begins the second
abbrev pub Begins : List ℕ → List ℕ → Type 0
Begins part whole = (rest : List ℕ) × (whole ≡ part ++ rest)

-- known bytes grow by a part for which P holds
abbrev pub Writes : Option (List ℕ) → Option (List ℕ) → (List ℕ → Type 0) → Type 0
Writes before after P = (part : List ℕ) × Appends before after part × P part

-- all bytes were written; or a write failed, and the part is a beginning of them
abbrev pub WritesAll : List ℕ → Result (Unit {0}) RunError → List ℕ → Type 0
WritesAll bytes result part = MatchResult result (λ _. part ≡ bytes) (λ error. IsWriteError error × Begins part bytes)

-- a run over this input wrote a part, and ended as Ends says of the input and the part
abbrev pub Reports : InputView → OutputView → OutputView → (List ℕ → List ℕ → Type 0) → Type 0
Reports input before after Ends = IfKnown input.left (λ bytes. Writes before.written after.written (Ends bytes))

-- if the run ended since a write failed, this is as `FailsWriting` says. If another error came before that, it had ended
-- as Ends says of that error, the input and the part
abbrev pub ReportsFailure : Result (Unit {0}) RunError → InputView → InputView → OutputView → OutputView → (Result (Unit {0}) RunError → List ℕ → List ℕ → Type 0) → Type 0
ReportsFailure result input input' before after Ends =
    result ≡ Err WriteFailed → FailsWriting input input' before after (λ error. Reports input before after (Ends (Err error)))

-- a read up to a line feed failed: some of the known bytes were read, of which no byte but the last is a line
-- feed, and the others are left
abbrev pub LosesPart : Option (List ℕ) → Option (List ℕ) → Type 0
LosesPart before after =
    (bytes : List ℕ) → before ≡ Some bytes → (begun : List ℕ) × (left : List ℕ) × (after ≡ Some left) × (bytes ≡ begun ++ left) × StopsAt begun 10

-- a read failed after the first n of these lines: a part of the next line was read, and the bytes after it are left
abbrev pub FailsAfter : List (List ℕ) → ℕ → Option (List ℕ) → Type 0
FailsAfter lines n after =
    (begun : List ℕ) × (left : List ℕ) × (after ≡ Some left) × (lines ≡ take n lines ++ lines_of (begun ++ left)) × StopsAt begun 10

-- reading stopped before the end. P holds of the bytes that were read, as if the input had ended after them; a line feed
-- that came last may be left out
abbrev pub StopsShort : List ℕ → Option (List ℕ) → (List ℕ → Type 0) → Type 0
StopsShort bytes after P =
    (seen : List ℕ) × (left : List ℕ) × (after ≡ Some left) × ((bytes ≡ seen ++ left) ⊎ (bytes ≡ seen ++ 10 ∷ left)) × P seen

-- the line was read and its line feed, and these bytes are left; or nothing is
abbrev pub IsFed : List ℕ → List ℕ → List ℕ → Type 0
IsFed bytes line left = (bytes ≡ line ++ 10 ∷ left) ⊎ (left ≡ [])

-- the first line of the known bytes was read, and the lines of the rest are left; or there were no bytes
abbrev pub TakesLine : Option (List ℕ) → Option (List ℕ) → Bool → List ℕ → Type 0
TakesLine before after true line =
    (bytes : List ℕ) → before ≡ Some bytes → (rest : List ℕ) × (after ≡ Some rest) × (lines_of bytes ≡ line ∷ lines_of rest) × IsFed bytes line rest
TakesLine before after false line = (bytes : List ℕ) → before ≡ Some bytes → bytes ≡ []

-- the first line, if a line feed ends it, and the bytes after that
abbrev pub cut_line : List ℕ → Option (List ℕ × List ℕ)
cut_line [] = None
cut_line (b ∷ bytes) = if is_line_feed b then Some ([], bytes) else option_map (λ cut. (b ∷ cut.0, cut.1)) (cut_line bytes)

-- a line that ends with a line feed was read; or there were bytes without a line feed; or there were no bytes
abbrev pub CutsLine : Option (List ℕ) → Option (List ℕ) → Cut → List ℕ → Type 0
CutsLine before after Whole line =
    (bytes : List ℕ) → before ≡ Some bytes → (rest : List ℕ) × (after ≡ Some rest) × (cut_line bytes ≡ Some (line, rest))
CutsLine before after Part line = (bytes : List ℕ) → before ≡ Some bytes → (after ≡ Some []) × (0 < length bytes) × (cut_line bytes ≡ None)
CutsLine before after End line = (bytes : List ℕ) → before ≡ Some bytes → (after ≡ Some []) × (bytes ≡ [])

-- a read up to a line feed failed: what was read of the known bytes has none
abbrev pub LosesLine : Option (List ℕ) → Option (List ℕ) → Type 0
LosesLine before after = IfKnown before (λ bytes. StopsShort bytes after (λ seen. cut_line seen ≡ None))

-- the first byte was read; or there were no bytes
abbrev pub TakesByte : Option (List ℕ) → Option (List ℕ) → Option ℕ → Type 0
TakesByte before after (Some byte) = (bytes : List ℕ) → before ≡ Some bytes → (rest : List ℕ) × (after ≡ Some rest) × (bytes ≡ byte ∷ rest)
TakesByte before after None = (bytes : List ℕ) → before ≡ Some bytes → (after ≡ Some []) × (bytes ≡ [])
