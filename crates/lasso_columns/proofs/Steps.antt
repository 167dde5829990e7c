-- One round of a stream.
--
-- The lines that are left are those of the blocks that were read ahead, and those that follow. Putting the blocks
-- encodes the first ones. The others are those of the blocks that were read meanwhile, and those after them.
use Rattle.std.proofs.Common.{ℕ, ◌≡◌, Bool, true, false, List, [], length, Option, Some, Result, Ok, Err, refl, sym, subst, ◌∙◌}
use Rattle.std.specs.Prelude.{IfErr, Vec}
use Rattle.std.specs.declared.io.Error.{Error}
use Rattle.lasso_parts.specs.Texts.{Text}
use Rattle.lasso_single.specs.Interner.{InternerView}
use Rattle.lasso_columns.specs.Blocks.{StopsInRound}
use Rattle.lasso_columns.specs.Rows.{EncodesRows, StopsAtRow}
use Rattle.lasso_columns.specs.Steps.{AreAhead, AreAheadAfter, EncodesFirst}
use Rattle.lasso_columns.specs.Streams.{AreUnreadBy, EndsRound, FollowBy, ReadsTexts, StopsInStreamBy, lines_in}
use Rattle.lasso_columns.specs.Texts.{texts_by}
use Rattle.lasso_columns.specs.declared.line_texts.LineTexts.{LineTexts}
use Rattle.lasso_columns.specs.declared.faults.LineError.{LineError}
use Rattle.lasso_columns.specs.declared.stream.StreamError.{StreamError}
use Rattle.lasso_columns.specs.declared.stream.StreamError.TheVariants.{Line, Read}
use Rattle.lasso_columns.proofs.TextLines.{unread_by}

-- ---- whether more lines follow

ended_goes : (more : Result Bool Error) → more ≡ Ok false → more ≡ Ok true → ⊥
ended_goes more end goes = let no : Ok false ≡ Ok true = sym end ∙ goes in cc

-- a read has failed, so the blocks are the last
pub err_goes : (more : Result Bool Error) (error : Error) → more ≡ Err error → more ≡ Ok true → ⊥
err_goes more error failed goes = let no : Err error ≡ Ok true = sym failed ∙ goes in cc

-- and its error is that of the blocks
pub err_same : (more : Result Bool Error) (error : Error) → more ≡ Err error → IfErr more (λ failed. error ≡ failed)
err_same more error is = subst (λ m. IfErr m (λ failed. error ≡ failed)) (sym is) refl

-- no read has failed
pub no_err : (more : Result Bool Error) (b : Bool) (P : Error → Type 0) → more ≡ Ok b → IfErr more P
no_err more b P is = subst (λ m. IfErr m P) (sym is) tt

module _ {A : Type 0} (by : LineTexts) (null : Option Text) (old new : InternerView) (lines : List (List ℕ)) (before : List ℕ) (blocks : List (Vec ℕ A)) (more : Result Bool Error) (left : Option (List ℕ)) (ahead : AreAhead by (lines_in blocks) more left lines) where
  -- the blocks were put
  put_rows : (after : List ℕ) → EncodesRows null old (lines_in blocks) [] before new after → EncodesRows null old (texts_by by ahead.0) [] before new after
  put_rows after rows = subst (λ (ts : List Text). EncodesRows null old ts [] before new after) ahead.3 rows

  -- and the next blocks were read
  step_on : (after : List ℕ) (left' : Option (List ℕ)) (blocks' : List (Vec ℕ A)) (more' : Result Bool Error) → EncodesRows null old (lines_in blocks) [] before new after → more ≡ Ok true → ReadsTexts by left left' blocks' more' → EncodesFirst by null old lines before new after (AreAhead by (lines_in blocks') more' left')
  step_on after left' blocks' more' rows goes read =
      let follow : FollowBy by (Ok true) left ahead.1 = subst (λ m. FollowBy by m left ahead.1) goes ahead.5 in
      let next = read follow.0 follow.1 in
      (ahead.0, ahead.1, ahead.2, ahead.4, put_rows after rows, (next.0, next.1, follow.2 ∙ next.2, next.3, next.4, next.5))

  -- and the input has ended
  step_end : (after : List ℕ) → EncodesRows null old (lines_in blocks) [] before new after → more ≡ Ok false → EncodesFirst by null old lines before new after (λ rest. (left ≡ Some []) × (rest ≡ []))
  step_end after rows end =
      let follow : FollowBy by (Ok false) left ahead.1 = subst (λ m. FollowBy by m left ahead.1) end ahead.5 in
      (ahead.0, ahead.1, ahead.2, ahead.4, put_rows after rows, (follow.0, follow.1))

  -- either of the two
  pub step_ends : (after : List ℕ) (goes_on : Bool) (left' : Option (List ℕ)) (blocks' : List (Vec ℕ A)) (more' : Result Bool Error) → EncodesRows null old (lines_in blocks) [] before new after → more ≡ Ok goes_on → (more ≡ Ok true → ReadsTexts by left left' blocks' more') → (¬ (more ≡ Ok true) → left' ≡ left) → EncodesFirst by null old lines before new after (AreAheadAfter goes_on by (lines_in blocks') more' left')
  step_ends after true left' blocks' more' rows is read kept = step_on after left' blocks' more' rows is (read is)
  step_ends after false left' blocks' more' rows is read kept =
      let same : left' ≡ left = kept (λ goes. ended_goes more is goes) in
      subst (λ l. EncodesFirst by null old lines before new after (AreAheadAfter false by (lines_in blocks') more' l)) (sym same) (step_end after rows is)

  -- and a read has failed
  pub step_breaks : {B : Type 0} (after : Vec ℕ B) (error : Error) (left' : Option (List ℕ)) → EncodesRows null old (lines_in blocks) [] before new after.items → IfErr more (λ failed. error ≡ failed) → left' ≡ left → StopsInStreamBy by null old lines before new after left' (Read error)
  step_breaks after error left' rows same kept =
      (ahead.0, ahead.1, ahead.2, ahead.4, (put_rows after.items rows, subst (λ l. AreUnreadBy by error l ahead.1) (sym kept) (unread_by by more left ahead.1 error ahead.5 same)))

  -- a line of the blocks is at fault
  pub step_stops : {B : Type 0} (after : Vec ℕ B) (left' : Option (List ℕ)) (error : LineError) (start : ℕ) → StopsInRound null old (lines_in blocks) before new after start error → start ≡ length before → StopsInStreamBy by null old lines before new after left' (Line error)
  step_stops after left' error start stops is =
      let at_row : StopsAtRow null old (lines_in blocks) before new after error = subst (λ n. StopsInRound null old (lines_in blocks) before new after n error) is stops in
      (ahead.0, ahead.1, ahead.2, ahead.4, subst (λ (ts : List Text). StopsAtRow null old ts before new after error) ahead.3 at_row)

  -- the round was the last
  pub step_last : {B : Type 0} (after : Vec ℕ B) (start : ℕ) (error : StreamError) → EndsRound null old (lines_in blocks) more before new after start error → start ≡ length before → StopsInStreamBy by null old lines before new after left error
  step_last after start (Line error) ends is = step_stops after left error start ends is
  step_last after start (Read error) ends is = step_breaks after error left ends.0 ends.1 refl
