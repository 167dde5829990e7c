-- How far encoding a stream has come.
--
-- The lines of the known bytes are those that were encoded, and those that are left. Each round encodes the first of
-- those, and the others are left after it.
use Rattle.std.proofs.Common.{ℕ, ◌≡◌, ◌+◌, ◌-◌, Bool, true, false, List, [], ◌∷◌, ◌++◌, length, Option, Some, refl, sym, ap, subst, ◌∙◌, append_assoc, append-nil}
use Rattle.std.specs.Prelude.{Vec}
use Rattle.lasso_parts.specs.Texts.{Text}
use Rattle.lasso_single.specs.Interner.{InternerView}
use Rattle.lasso_columns.specs.Blocks.{numbered}
use Rattle.lasso_columns.specs.Rows.{EncodesRows, IsRowFault}
use Rattle.lasso_columns.specs.Steps.{AreLeft, AreLeftAfter, EncodesFirst, EncoderView, stream_error_at}
use Rattle.lasso_columns.specs.Streams.{AreBytesBy, StopsInStreamBy}
use Rattle.lasso_columns.specs.Texts.{texts_by}
use Rattle.lasso_columns.specs.declared.line_texts.LineTexts.{LineTexts}
use Rattle.lasso_columns.specs.declared.stream.StreamError.{StreamError}
use Rattle.lasso_columns.specs.declared.stream.StreamError.TheVariants.{Line, Read}
use Rattle.lasso_columns.proofs.EncodedRows.{rows_begin, rows_join, rows_wider}
use Rattle.lasso_columns.proofs.PutBlocks.{renumbered}
use Rattle.lasso_columns.proofs.TextLines.{bytes_both, bytes_none, texts_both, texts_none}

-- the first lines were encoded, and the others are left; if the last round said that none follow, there are none
abbrev pub Streamed : Bool → LineTexts → Option Text → InternerView → List (List ℕ) → List ℕ → InternerView → List ℕ → EncoderView → Option (List ℕ) → Type 0
Streamed goes_on by null old lines before new after encoder left = EncodesFirst by null old lines before new after (AreLeftAfter goes_on encoder left)

-- no line was encoded
pub stream_begins : (by : LineTexts) (null : Option Text) (old : InternerView) (lines : List (List ℕ)) (before : List ℕ) (encoder : EncoderView) (left : Option (List ℕ)) → AreLeft encoder left lines → Streamed true by null old lines before old before encoder left
stream_begins by null old lines before encoder left ahead =
    ([], lines, refl, bytes_none by, rows_begin null old (texts_by by []) [] before (sym (texts_none by)), ahead)

module _ (by : LineTexts) (null : Option Text) (old mid new : InternerView) (lines : List (List ℕ)) (before middle : List ℕ) where
  -- the texts of the first lines and of those after them
  both_rows : (first next : List (List ℕ)) (rest : List Text) (after : List ℕ) → EncodesRows null old (texts_by by first) [] before mid middle → EncodesRows null mid (texts_by by next) rest middle new after → EncodesRows null old (texts_by by (first ++ next)) rest before new after
  both_rows first next rest after so_far rows =
      let wider = rows_wider null old mid (texts_by by first) [] (texts_by by next) before middle so_far in
      subst (λ (ts : List Text). EncodesRows null old ts rest before new after) (sym (texts_both by first next))
      (rows_join null old mid new (texts_by by first ++ texts_by by next) (texts_by by next) rest before middle after wider rows)

  module _ (encoder : EncoderView) (left : Option (List ℕ)) (so_far : Streamed true by null old lines before mid middle encoder left) (same : encoder.by ≡ by) where
    split_both : (first rest : List (List ℕ)) → so_far.1 ≡ first ++ rest → lines ≡ (so_far.0 ++ first) ++ rest
    split_both first rest split = so_far.2 ∙ ap (λ (ls : List (List ℕ)). so_far.0 ++ ls) split ∙ sym (append_assoc so_far.0 first rest)

    -- one round more
    pub stream_next : (after : List ℕ) (goes_on : Bool) (encoder' : EncoderView) (left' : Option (List ℕ)) → ((ls : List (List ℕ)) → AreLeft encoder left ls → EncodesFirst encoder.by null mid ls middle new after (AreLeftAfter goes_on encoder' left')) → Streamed goes_on by null old lines before new after encoder' left'
    stream_next after goes_on encoder' left' step =
        let next = subst (λ b. EncodesFirst b null mid so_far.1 middle new after (AreLeftAfter goes_on encoder' left')) same (step so_far.1 so_far.5) in
        (so_far.0 ++ next.0, next.1, split_both next.0 next.1 next.2, bytes_both by so_far.0 next.0 so_far.3 next.3, both_rows so_far.0 next.0 [] after so_far.4 next.4, next.5)

    -- the next round stops
    pub stream_stops : {B : Type 0} (after : Vec ℕ B) (left' : Option (List ℕ)) (error : StreamError) (number : ℕ) → ((ls : List (List ℕ)) → AreLeft encoder left ls → StopsInStreamBy encoder.by null mid ls middle new after left' error) → number ≡ length after.items - length before + 1 → StopsInStreamBy by null old lines before new after left' (stream_error_at error number)
    stream_stops after left' (Line error) number step is =
        let next = subst (λ b. StopsInStreamBy b null mid so_far.1 middle new after left' (Line error)) same (step so_far.1 so_far.5) in
        let rows = both_rows so_far.0 next.0 (next.4.0 ∷ next.4.1) after.items so_far.4 next.4.2 in
        let fault = renumbered null new after next.4.0 (length after.items - length middle + 1) number error next.4.3 in
        (so_far.0 ++ next.0, next.1, split_both next.0 next.1 next.2, bytes_both by so_far.0 next.0 so_far.3 next.3, (next.4.0, next.4.1, rows, subst (λ n. IsRowFault null new after next.4.0 n (numbered error number)) is fault))
    stream_stops after left' (Read error) number step is =
        let next = subst (λ b. StopsInStreamBy b null mid so_far.1 middle new after left' (Read error)) same (step so_far.1 so_far.5) in
        (so_far.0 ++ next.0, next.1, split_both next.0 next.1 next.2, bytes_both by so_far.0 next.0 so_far.3 next.3, (both_rows so_far.0 next.0 [] after.items so_far.4 next.4.0, next.4.1))

-- all lines were encoded
module _ (by : LineTexts) (null : Option Text) (old new : InternerView) (lines : List (List ℕ)) (before after : List ℕ) (encoder : EncoderView) (left : Option (List ℕ)) (so_far : Streamed false by null old lines before new after encoder left) where
  all_lines : lines ≡ so_far.0
  all_lines = so_far.2 ∙ ap (λ (ls : List (List ℕ)). so_far.0 ++ ls) so_far.5.1 ∙ append-nil so_far.0

  pub stream_rows : EncodesRows null old (texts_by by lines) [] before new after
  stream_rows = subst (λ (ls : List (List ℕ)). EncodesRows null old (texts_by by ls) [] before new after) (sym all_lines) so_far.4

  pub stream_bytes : AreBytesBy by lines
  stream_bytes = subst (λ (ls : List (List ℕ)). AreBytesBy by ls) (sym all_lines) so_far.3

  pub stream_used : left ≡ Some []
  stream_used = so_far.5.0
