-- The distinct lines, written one after another.
--
-- One more line leaves the report as it is, or appends the line if no line before was the same: the
-- interner's list has the texts of the distinct lines so far, and a text is new exactly if its line is. So the report of the first lines is a beginning of
-- the report of all, and what is written after each line is the report so far. A run that ends early has
-- written the report of the lines before, or a beginning of it.
use Rattle.std.proofs.Common.{ℕ, ◌≡◌, ◌+◌, List, [], ◌∷◌, ◌++◌, length, take, drop, Option, Some, Bool, true, false, cond, is_some, Result, Ok, Err, ◌⊎◌, refl, sym, ap, subst, ◌∙◌, append_assoc, inl, inr, ◌-◌, ◌^◌, ◌≤◌, arith}
use Rattle.std.specs.Prelude.{flat_map, All, slice_get, IsSomeAnd}
use Rattle.std.specs.Io.{StopsAt}
use Rattle.hex.specs.Hex.{IsBytes}
use Rattle.std.proofs.lemmas.List.{append-nil, take-append-drop}
use Rattle.lasso_parts.specs.Texts.{Text, position_of}
use Rattle.lasso_single.specs.Filling.{extend}
use Rattle.lasso_single.specs.Intern.{InternsIn}
use Rattle.lasso_single.specs.Interner.{InternerView, made_with}
use Rattle.lasso_single.proofs.Filled.{accepted}
use Rattle.lasso_single.specs.Coding.{spur_at}
use Rattle.lasso_input.specs.Lines.{lines_of}
use Rattle.lasso_input.specs.Texts.{text_of}
use Rattle.lasso_columns.specs.Parts.{new_texts}
use Rattle.lasso_columns.specs.declared.faults.LineError.TheVariants.{Refused}
use Rattle.lasso_parts.specs.declared.util.LassoErrorKind.TheVariants.{FailedAllocation}
use Rattle.lasso_columns.proofs.Counted.{list_push}
use Rattle.lasso_codes.specs.Distinct.{with_feed, distinct_report, passed, FailsAt, PassError, DistinctEnd}
use Rattle.lasso_codes.specs.Errors.{IsReadError, IsWriteError, IsWriteEnd}
use Rattle.lasso_codes.specs.Limits.{line_texts, AreLetIn, AreTaken, IsLetIn, IsLineFault}
use Rattle.lasso_codes.specs.Stages.{OnTheWay}
use Rattle.lasso_codes.specs.Streams.{Begins, IsFed, LosesPart}
use Rattle.lasso_codes.specs.declared.error.RunError.{RunError}
use Rattle.lasso_codes.specs.declared.error.RunError.TheVariants.{Line, TooManyLines, ReadFailed, WriteFailed, ReaderGone, Column}
use Rattle.lasso_codes.proofs.LineTexts.{distinct_are_bytes, extend_line, lines_are_bytes, list_of_lines, position_of_text}
use Rattle.lasso_codes.proofs.Taken.{taken_push, taken_all, taken_first, taken_let_in, taken_few, taken_next}
use Rattle.lasso_codes.proofs.Failing.{by_read_error, by_write_end, by_write_error}

-- ---- the report of one line more

fed_push : (lines : List Text) (line : Text) → flat_map with_feed (lines ++ line ∷ []) ≡ flat_map with_feed lines ++ with_feed line
fed_push [] line = append-nil (with_feed line)
fed_push (l ∷ lines) line = ap (λ bs. with_feed l ++ bs) (fed_push lines line) ∙ sym (append_assoc (with_feed l) (flat_map with_feed lines) (with_feed line))

fed_last : (lines : List Text) (line : Text) (there : Bool) → flat_map with_feed (cond there lines (lines ++ line ∷ [])) ≡ flat_map with_feed lines ++ cond there [] (with_feed line)
fed_last lines line true = sym (append-nil (flat_map with_feed lines))
fed_last lines line false = fed_push lines line

report_more : (lines : List Text) (line : Text) → distinct_report (lines ++ line ∷ []) ≡ distinct_report lines ++ cond (is_some (position_of (new_texts [] lines) line)) [] (with_feed line)
report_more lines line =
    ap (λ (ls : List Text). flat_map with_feed ls) (sym (list_push lines (new_texts [] lines) line refl)) ∙ fed_last (new_texts [] lines) line (is_some (position_of (new_texts [] lines) line))

-- the same by the texts of the distinct lines
pub report_push : (lines : List Text) (line : Text) → All IsBytes lines → IsBytes line → distinct_report (lines ++ line ∷ []) ≡ distinct_report lines ++ passed (line_texts (new_texts [] lines)) line
report_push lines line all bytes =
    report_more lines line
    ∙ ap (λ o. distinct_report lines ++ cond (is_some o) [] (with_feed line)) (sym (position_of_text (new_texts [] lines) line (distinct_are_bytes lines all) bytes))

begins_then : (part mid whole : List ℕ) → Begins part mid → Begins mid whole → Begins part whole
begins_then part mid whole a b = (a.0 ++ b.0, b.1 ∙ ap (λ bs. bs ++ b.0) a.1 ∙ append_assoc part a.0 b.0)

pub report_begins : (done more : List Text) → Begins (distinct_report done) (distinct_report (done ++ more))
report_begins done [] = ([], ap distinct_report (append-nil done) ∙ sym (append-nil (distinct_report done)))
report_begins done (line ∷ more) =
    begins_then (distinct_report done) (distinct_report (done ++ line ∷ [])) (distinct_report (done ++ line ∷ more)) (cond (is_some (position_of (new_texts [] done) line)) [] (with_feed line), report_more done line)
    (subst (λ (ls : List Text). Begins (distinct_report (done ++ line ∷ [])) (distinct_report ls)) (append_assoc done (line ∷ []) more) (report_begins (done ++ line ∷ []) more))

first_begins : (lines : List Text) (n : ℕ) (part : List ℕ) → part ≡ distinct_report (take n lines) → Begins part (distinct_report lines)
first_begins lines n part is =
    let whole : Begins (distinct_report (take n lines)) (distinct_report lines) = subst (λ (ls : List Text). Begins (distinct_report (take n lines)) (distinct_report ls)) (take-append-drop n lines) (report_begins (take n lines) (drop n lines)) in
    subst (λ bs. Begins bs (distinct_report lines)) (sym is) whole

-- ---- a run on its way

-- the list has the texts of the distinct lines
way_list : (input : List ℕ) (only : Bool) (limit : ℕ) (rest : List ℕ) (number : ℕ) (now : InternerView) (part : List ℕ) (way : OnTheWay input only limit rest number now part) → now.texts ≡ line_texts (new_texts [] way.done)
way_list input only limit rest number now part way = list_of_lines (made_with 4096 limit) now way.done refl (lines_are_bytes only way.done way.taken.let_in) way.list

nothing_after : (begun left : List ℕ) → begun ++ left ≡ [] → left ≡ []
nothing_after [] left none = none
nothing_after (b ∷ begun) left none = absurd (cc)

-- what was read is the lines with their line feeds
fed_both : (input rest left : List ℕ) (done : List Text) (line : Text) → (input ≡ flat_map with_feed done ++ rest) ⊎ (rest ≡ []) → IsFed rest line left → lines_of rest ≡ line ∷ lines_of left → (input ≡ flat_map with_feed (done ++ line ∷ []) ++ left) ⊎ (left ≡ [])
fed_both input rest left done line (inl so_far) (inl ended) cut =
    let more : rest ≡ with_feed line ++ left = ended ∙ sym (append_assoc line (10 ∷ []) left) in
    inl (so_far ∙ ap (λ bs. flat_map with_feed done ++ bs) more ∙ sym (append_assoc (flat_map with_feed done) (with_feed line) left) ∙ ap (λ bs. bs ++ left) (sym (fed_push done line)))
fed_both input rest left done line (inl so_far) (inr none) cut = inr none
fed_both input rest left done line (inr none) ended cut = let same : lines_of [] ≡ line ∷ lines_of left = ap lines_of (sym none) ∙ cut in absurd (cc)

-- a line that a line feed ends, whatever follows the bytes
pub fed_more : (bytes line rest later : List ℕ) → bytes ≡ line ++ 10 ∷ rest → bytes ++ later ≡ line ++ 10 ∷ (rest ++ later)
fed_more bytes line rest later is = ap (λ bs. bs ++ later) is ∙ append_assoc line (10 ∷ rest) later

-- one line more
pub way_push : (input : List ℕ) (only : Bool) (limit : ℕ) (rest : List ℕ) (number : ℕ) (now after : InternerView) (part more left : List ℕ) (line : Text) (key : ℕ) → OnTheWay input only limit rest number now part → lines_of rest ≡ line ∷ lines_of left → IsLetIn only line → InternsIn spur_at now (text_of line) (Ok key) after → more ≡ passed now.texts line → IsFed rest line left → OnTheWay input only limit left (number + 1) after (part ++ more)
way_push input only limit rest number now after part more left line key way cut let_in interns is ended = record {
  done = way.done ++ line ∷ [];
  taken = taken_push input rest only number way.done line left way.taken cut let_in;
  list = extend_line (made_with 4096 limit) now after way.done line key way.list interns;
  part_is =
      ap (λ bs. bs ++ more) way.part_is ∙ ap (λ bs. distinct_report way.done ++ bs) (is ∙ ap (λ (ls : List Text). passed ls line) (way_list input only limit rest number now part way))
      ∙ sym (report_push way.done line (lines_are_bytes only way.done way.taken.let_in) let_in.0);
  fed = fed_both input rest left way.done line way.fed ended cut;
}

module _ (input : List ℕ) (only : Bool) (limit : ℕ) (rest : List ℕ) (number : ℕ) (now : InternerView) (part : List ℕ) (way : OnTheWay input only limit rest number now part) where
  -- the part is the report of the first lines
  way_first : part ≡ distinct_report (take (length way.done) (lines_of input))
  way_first = way.part_is ∙ ap distinct_report (sym (taken_first input rest only number way.done way.taken))

  way_begins : Begins part (distinct_report (lines_of input))
  way_begins = first_begins (lines_of input) (length way.done) part way_first

  number_is : length way.done + 1 ≡ number
  number_is = way.taken.counted

  lines_few : length way.done ≤ length (lines_of input)
  lines_few = taken_few input rest only number way.done way.taken

  -- the first lines were taken
  first_let_in : AreLetIn only (take (length way.done) (lines_of input))
  first_let_in = taken_let_in input rest only number way.done way.taken

  first_list : extend spur_at (made_with 4096 limit) (line_texts (take (length way.done) (lines_of input))) accepted now
  first_list = subst (λ (ls : List Text). extend spur_at (made_with 4096 limit) (line_texts ls) accepted now) (sym (taken_first input rest only number way.done way.taken)) way.list

  first_taken : AreTaken only limit (take (length way.done) (lines_of input))
  first_taken = (first_let_in, (now, first_list))

  -- the input has ended
  pub way_ends : (after : Option (List ℕ)) → rest ≡ [] → DistinctEnd input only limit after part (Ok tt)
  way_ends after none =
      let all : lines_of input ≡ way.done = taken_all input rest only number way.done way.taken none in
      (subst (λ (ls : List Text). AreTaken only limit ls) (sym all) (way.taken.let_in, (now, way.list)), way.part_is ∙ ap distinct_report (sym all))

  -- there are more lines than `usize` can number
  pub way_many : (after : Option (List ℕ)) → 2 ^ 64 - 1 ≤ number → DistinctEnd input only limit after part (Err TooManyLines)
  way_many after many = (length way.done, way_first, omega (arith, number_is, many), lines_few, first_taken)

  -- a read fails at the next line, or at the end
  fails_where : (begun left : List ℕ) → rest ≡ begun ++ left → StopsAt begun 10 → (input ≡ flat_map with_feed way.done ++ rest) ⊎ (rest ≡ []) → ((bs : List ℕ) × (input ≡ flat_map with_feed (take (length way.done) (lines_of input)) ++ (bs ++ left)) × StopsAt bs 10) ⊎ ((length way.done ≡ length (lines_of input)) × (left ≡ []))
  fails_where begun left split stops (inl fed) =
      let done : take (length way.done) (lines_of input) ≡ way.done = taken_first input rest only number way.done way.taken in
      inl (begun, fed ∙ ap (λ bs. flat_map with_feed way.done ++ bs) split ∙ ap (λ (ls : List Text). flat_map with_feed ls ++ (begun ++ left)) (sym done), stops)
  fails_where begun left split stops (inr none) = inr (ap length (sym (taken_all input rest only number way.done way.taken none)), nothing_after begun left (sym split ∙ none))

  fails_at : (before after : Option (List ℕ)) → before ≡ Some rest → LosesPart before after → FailsAt input (length way.done) after
  fails_at before after there lost = let cut = lost rest there in (cut.1, cut.2, fails_where cut.0 cut.1 cut.3 cut.4 way.fed)

  pub way_read_fails : (before after : Option (List ℕ)) (error : RunError) → before ≡ Some rest → LosesPart before after → IsReadError number error → DistinctEnd input only limit after part (Err error)
  way_read_fails before after error there lost is =
      by_read_error (λ e. DistinctEnd input only limit after part (Err e)) number error is
      (length way.done, way_first, inr (first_let_in, (now, first_list, inl (ap (λ n. Refused n FailedAllocation) (sym number_is), lines_few))))
      (length way.done, way_first, first_taken, fails_at before after there lost)

  pub way_write_fails : (after : Option (List ℕ)) (error : RunError) → IsWriteError error → DistinctEnd input only limit after part (Err error)
  way_write_fails after error is = by_write_error (λ e. DistinctEnd input only limit after part (Err e)) error is way_begins way_begins

  -- the next line is refused or not let in, or a part of it was written
  passed_begins : (line more : List ℕ) (left : List (List ℕ)) → lines_of rest ≡ line ∷ left → IsBytes line → Begins more (passed now.texts line) → Begins (part ++ more) (distinct_report (lines_of input))
  passed_begins line more left cut bytes b =
      let pushed : distinct_report (way.done ++ line ∷ []) ≡ part ++ passed now.texts line =
      report_push way.done line (lines_are_bytes only way.done way.taken.let_in) bytes ∙ ap (λ (ls : List Text). distinct_report way.done ++ passed ls line) (sym (way_list input only limit rest number now part way)) ∙ ap (λ bs. bs ++ passed now.texts line) (sym way.part_is) in
      let there : Begins (part ++ more) (distinct_report (way.done ++ line ∷ [])) = (b.0, pushed ∙ ap (λ bs. part ++ bs) b.1 ∙ sym (append_assoc part more b.0)) in
      let whole : way.done ++ line ∷ [] ++ left ≡ lines_of input = append_assoc way.done (line ∷ []) left ∙ ap (λ (ls : List Text). way.done ++ ls) (sym cut) ∙ sym way.taken.split in
      begins_then (part ++ more) (distinct_report (way.done ++ line ∷ [])) (distinct_report (lines_of input)) there
      (subst (λ (ls : List Text). Begins (distinct_report (way.done ++ line ∷ [])) (distinct_report ls)) whole (report_begins (way.done ++ line ∷ []) left))

  pub way_pass_fails : (after : Option (List ℕ)) (line more left : List ℕ) (error : RunError) → lines_of rest ≡ line ∷ lines_of left → PassError only now line number more error → DistinctEnd input only limit after (part ++ more) (Err error)
  way_pass_fails after line more left (Line error) cut is =
      let same : part ++ more ≡ part = ap (λ bs. part ++ bs) is.0 ∙ append-nil part in
      let faulty : IsLineFault only now line (length way.done + 1) error = subst (λ n. IsLineFault only now line n error) (sym number_is) is.1 in
      let next : IsSomeAnd (slice_get (lines_of input) (length way.done)) (λ l. IsLineFault only now l (length way.done + 1) error) =
      subst (λ o. IsSomeAnd o (λ l. IsLineFault only now l (length way.done + 1) error)) (sym (taken_next input rest only number way.done line (lines_of left) way.taken cut)) faulty in
      (length way.done, same ∙ way_first, inr (first_let_in, (now, first_list, inr next)))
  way_pass_fails after line more left TooManyLines cut is = absurd is
  way_pass_fails after line more left ReadFailed cut is = absurd is
  way_pass_fails after line more left WriteFailed cut is = passed_begins line more (lines_of left) cut is.0.0 is.1
  way_pass_fails after line more left ReaderGone cut is = passed_begins line more (lines_of left) cut is.0.0 is.1
  way_pass_fails after line more left (Column column error) cut is = absurd is

-- ---- the end

-- there was no memory for the interner
pub end_unmade : (input : List ℕ) (only : Bool) (limit : ℕ) (after : Option (List ℕ)) (error : RunError) → error ≡ Line (Refused 0 FailedAllocation) → DistinctEnd input only limit after [] (Err error)
end_unmade input only limit after error is = subst (λ f. DistinctEnd input only limit after [] (Err f)) (sym is) (0, refl, inl (refl, refl))

-- what is written when the last flush fails is a beginning
end_begins : (input : List ℕ) (only : Bool) (limit : ℕ) (after : Option (List ℕ)) (part : List ℕ) (result : Result (Unit {0}) RunError) → DistinctEnd input only limit after part result → Begins part (distinct_report (lines_of input))
end_begins input only limit after part (Ok x) end = ([], sym end.1 ∙ sym (append-nil part))
end_begins input only limit after part (Err (Line error)) end = first_begins (lines_of input) end.0 part end.1
end_begins input only limit after part (Err TooManyLines) end = first_begins (lines_of input) end.0 part end.1
end_begins input only limit after part (Err ReadFailed) end = first_begins (lines_of input) end.0 part end.1
end_begins input only limit after part (Err WriteFailed) end = end
end_begins input only limit after part (Err ReaderGone) end = end
end_begins input only limit after part (Err (Column column error)) end = absurd end

-- the run ends as it did before the flush, or with the error of the flush
pub end_then : (input : List ℕ) (only : Bool) (limit : ℕ) (after : Option (List ℕ)) (part : List ℕ) (given result : Result (Unit {0}) RunError) → DistinctEnd input only limit after part given → (result ≡ given) ⊎ IsWriteEnd result → DistinctEnd input only limit after part result
end_then input only limit after part given result end (inl same) = subst (DistinctEnd input only limit after part) (sym same) end
end_then input only limit after part given result end (inr is) =
    let begun = end_begins input only limit after part given end in by_write_end (DistinctEnd input only limit after part) result is begun begun
