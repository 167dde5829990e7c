-- Lines that were counted one after another, and their report.
--
-- The lines of the input are those that were counted, and then those of the rest. If nothing is left, all
-- were counted, and the ranked texts are each distinct line once with its count. The report is written from
-- its start, so what was written when a write fails is a beginning of it. Nothing is written before that.
use Rattle.std.proofs.Common.{ℕ, ◌≡◌, ◌+◌, Bool, List, [], ◌∷◌, ◌++◌, length, map, take, drop, get_or, ◌⊎◌, ◌<◌, min, Option, Some, Result, Ok, Err, refl, sym, ap, subst, ◌∙◌, arith, append_assoc, inl, inr, ◌-◌, ◌^◌, ◌≤◌}
use Rattle.std.specs.Prelude.{flat_map, slice_get, IsSomeAnd, IsPermutation, IsSorted, sum_by}
use Rattle.std.proofs.lemmas.Bool.{cases_order}
use Rattle.std.proofs.lemmas.Grind.{flat_map-append}
use Rattle.std.proofs.lemmas.List.{append-nil, map_push, map-append, take-map, take_more, take_all, take-append-drop}
use Rattle.std.proofs.lemmas.List.Elements.{All-nil}
use Rattle.lasso_parts.specs.Texts.{Text}
use Rattle.lasso_parts.specs.declared.util.LassoErrorKind.TheVariants.{FailedAllocation}
use Rattle.lasso_single.specs.Filling.{extend}
use Rattle.lasso_single.specs.Intern.{InternsIn}
use Rattle.lasso_single.specs.Interner.{InternerView, made_with}
use Rattle.lasso_single.proofs.Filled.{accepted}
use Rattle.lasso_single.specs.Coding.{spur_at}
use Rattle.lasso_input.specs.Lines.{lines_of}
use Rattle.lasso_input.specs.Texts.{text_of}
use Rattle.lasso_columns.specs.declared.faults.LineError.{LineError}
use Rattle.lasso_columns.specs.declared.faults.LineError.TheVariants.{Refused}
use Rattle.lasso_columns.specs.Counts.{AreCounts, ranked_cmp}
use Rattle.lasso_codes.specs.Counts.{count_line, counted_lines, CountingError, CountsEnd, IsBegun}
use Rattle.lasso_codes.specs.Errors.{IsReadError, IsWriteEnd}
use Rattle.lasso_codes.specs.Limits.{line_texts, AreLetIn, AreTaken, IsLetIn, IsLineFault}
use Rattle.lasso_codes.specs.Stages.{Counting}
use Rattle.lasso_codes.specs.Streams.{LosesPart, WritesAll}
use Rattle.lasso_codes.specs.declared.error.RunError.{RunError}
use Rattle.lasso_codes.specs.declared.error.RunError.TheVariants.{Line, TooManyLines, ReadFailed, WriteFailed, ReaderGone, Column}
use Rattle.lasso_codes.proofs.LineTexts.{extend_line, texts_push}
use Rattle.lasso_codes.proofs.Taken.{taken_push, taken_all, taken_fails, taken_first, taken_let_in, taken_few, taken_next}
use Rattle.lasso_codes.proofs.Failing.{by_read_error, by_write_end, by_write_error}

-- one line more
-- no line was counted
pub counting_begins : (input : List ℕ) (only : Bool) (old : InternerView) (counts : List ℕ) → old.texts ≡ [] → counts ≡ [] → Counting input input only 1 old old counts
counting_begins input only old counts no_texts no_counts = record {
  done = [];
  taken = record { split = refl; let_in = All-nil (IsLetIn only); counted = refl };
  counted = none_counted old.texts counts no_texts no_counts;
  list = (refl, refl);
}
  where
    none_counted : (list : List Text) (counts : List ℕ) → list ≡ [] → counts ≡ [] → AreCounts [] list counts
    none_counted list counts no_texts no_counts = rw (no_texts, no_counts) (record { list_is = refl; each = λ text. refl; lengths = refl; total = refl })

pub counting_push : (input rest : List ℕ) (only : Bool) (number : ℕ) (old now after : InternerView) (counts : List ℕ) (line left counts' : List ℕ) (key : ℕ) → Counting input rest only number old now counts → lines_of rest ≡ line ∷ lines_of left → IsLetIn only line → InternsIn spur_at now (text_of line) (Ok key) after → ((texts : List Text) → AreCounts texts now.texts counts → AreCounts (texts ++ text_of line ∷ []) after.texts counts') → Counting input left only (number + 1) old after counts'
counting_push input rest only number old now after counts line left counts' key so_far cut let_in interns counts_line = record {
  done = so_far.done ++ line ∷ [];
  taken = taken_push input rest only number so_far.done line left so_far.taken cut let_in;
  counted = subst (λ (ts : List Text). AreCounts ts after.texts counts') (sym (texts_push so_far.done line)) (counts_line (line_texts so_far.done) so_far.counted);
  list = extend_line old now after so_far.done line key so_far.list interns;
}

module _ (input rest : List ℕ) (only : Bool) (number : ℕ) (old now : InternerView) (counts : List ℕ) (so_far : Counting input rest only number old now counts) where
  -- the input has ended
  pub counting_ends : rest ≡ [] → AreLetIn only (lines_of input) × AreCounts (line_texts (lines_of input)) now.texts counts
  counting_ends none =
      let all : lines_of input ≡ so_far.done = taken_all input rest only number so_far.done so_far.taken none in
      (subst (λ (ls : List Text). AreLetIn only ls) (sym all) so_far.taken.let_in, subst (λ (ls : List Text). AreCounts (line_texts ls) now.texts counts) (sym all) so_far.counted)

  pub counting_interned : rest ≡ [] → extend spur_at old (line_texts (lines_of input)) accepted now
  counting_interned none = subst (λ (ls : List Text). extend spur_at old (line_texts ls) accepted now) (sym (taken_all input rest only number so_far.done so_far.taken none)) so_far.list

  lines_few : length so_far.done ≤ length (lines_of input)
  lines_few = taken_few input rest only number so_far.done so_far.taken

  -- the first lines were interned
  first_let_in : AreLetIn only (take (length so_far.done) (lines_of input))
  first_let_in = taken_let_in input rest only number so_far.done so_far.taken

  first_list : (limit : ℕ) → old ≡ made_with 4096 limit → extend spur_at (made_with 4096 limit) (line_texts (take (length so_far.done) (lines_of input))) accepted now
  first_list limit made =
      let list : extend spur_at (made_with 4096 limit) (line_texts so_far.done) accepted now = subst (λ (i : InternerView). extend spur_at i (line_texts so_far.done) accepted now) made so_far.list in
      subst (λ (ls : List Text). extend spur_at (made_with 4096 limit) (line_texts ls) accepted now) (sym (taken_first input rest only number so_far.done so_far.taken)) list

  -- there are more lines than `usize` can number
  pub counting_many : (limit : ℕ) (after : Option (List ℕ)) → 2 ^ 64 - 1 ≤ number → CountingError only limit (lines_of input) after TooManyLines
  counting_many limit after many = omega (arith, so_far.taken.counted, lines_few, many)

  pub counting_read_fails : (limit : ℕ) (before after : Option (List ℕ)) (error : RunError) → old ≡ made_with 4096 limit → before ≡ Some rest → LosesPart before after → IsReadError number error → CountingError only limit (lines_of input) after error
  counting_read_fails limit before after error made there lost is =
      by_read_error (CountingError only limit (lines_of input) after) number error is
      (length so_far.done, inr (first_let_in, (now, first_list limit made, inl (ap (λ n. Refused n FailedAllocation) (sym so_far.taken.counted), lines_few))))
      (length so_far.done, (first_let_in, (now, first_list limit made)), taken_fails input rest only number so_far.done so_far.taken before after there lost)

  -- the next line is refused or not let in
  pub counting_line_fails : (limit : ℕ) (after : Option (List ℕ)) (line left : List ℕ) (error : LineError) → old ≡ made_with 4096 limit → lines_of rest ≡ line ∷ lines_of left → IsLineFault only now line number error → CountingError only limit (lines_of input) after (Line error)
  counting_line_fails limit after line left error made cut is =
      let faulty : IsLineFault only now line (length so_far.done + 1) error = subst (λ n. IsLineFault only now line n error) (sym so_far.taken.counted) is in
      let next : IsSomeAnd (slice_get (lines_of input) (length so_far.done)) (λ l. IsLineFault only now l (length so_far.done + 1) error) =
      subst (λ o. IsSomeAnd o (λ l. IsLineFault only now l (length so_far.done + 1) error)) (sym (taken_next input rest only number so_far.done line (lines_of left) so_far.taken cut)) faulty in
      (length so_far.done, inr (first_let_in, (now, first_list limit made, inr next)))

-- ---- the report

both_parts : {X : Type 0} (see : X → ℕ × Text) (xs : List X) (x : X) → flat_map count_line (map see (xs ++ x ∷ [])) ≡ flat_map count_line (map see xs) ++ count_line (see x)
both_parts see xs x =
    ap (λ ps. flat_map count_line ps) (map_push see xs x) ∙ flat_map-append count_line (map see xs) (see x ∷ []) ∙ ap (λ bs. flat_map count_line (map see xs) ++ bs) (append-nil (count_line (see x)))

all_parts : {X : Type 0} (see : X → ℕ × Text) (xs : List X) (n : ℕ) → flat_map count_line (map see xs) ≡ flat_map count_line (map see (take n xs)) ++ flat_map count_line (map see (drop n xs))
all_parts see xs n =
    ap (λ ys. flat_map count_line (map see ys)) (sym (take-append-drop n xs)) ∙ ap (λ ps. flat_map count_line ps) (map-append see (take n xs) (drop n xs))
    ∙ flat_map-append count_line (map see (take n xs)) (map see (drop n xs))

-- the report of the first ranked lines and one more
pub lines_push : {X : Type 0} (see : X → ℕ × Text) (xs : List X) (i : ℕ) (d : X) → i < length xs → flat_map count_line (map see (take (i + 1) xs)) ≡ flat_map count_line (map see (take i xs)) ++ count_line (see (get_or xs i d))
lines_push see xs i d small =
    ap (λ ys. flat_map count_line (map see ys)) (take_more xs i d small) ∙ both_parts see (take i xs) (get_or xs i d)

-- a part of a ranked line is written
pub lines_fail : {X : Type 0} (see : X → ℕ × Text) (xs : List X) (i : ℕ) (d : X) (part more : List ℕ) (error : RunError) → i < length xs → part ≡ flat_map count_line (map see (take i xs)) → WritesAll (count_line (see (get_or xs i d))) (Err error) more → WritesAll (flat_map count_line (map see xs)) (Err error) (part ++ more)
lines_fail see xs i d part more error small so_far written =
    let one = count_line (see (get_or xs i d)) in
    let rest = flat_map count_line (map see (drop (i + 1) xs)) in
    let front : flat_map count_line (map see (take (i + 1) xs)) ≡ part ++ one = lines_push see xs i d small ∙ ap (λ bs. bs ++ one) (sym so_far) in
    let whole : flat_map count_line (map see xs) ≡ flat_map count_line (map see (take (i + 1) xs)) ++ rest = all_parts see xs (i + 1) in
    let grown : part ++ one ≡ (part ++ more) ++ written.1.0 = ap (λ bs. part ++ bs) written.1.1 ∙ sym (append_assoc part more written.1.0) in
    (written.0, (written.1.0 ++ rest, whole ∙ ap (λ bs. bs ++ rest) (front ∙ grown) ∙ append_assoc (part ++ more) written.1.0 rest))

-- a report is written, or a beginning of it
pub report_written : (input : List ℕ) (only : Bool) (limit top : ℕ) (after : Option (List ℕ)) (ranked : List (ℕ × Text)) (part : List ℕ) (result : Result (Unit {0}) RunError) → AreTaken only limit (lines_of input) → IsPermutation (counted_lines (lines_of input)) ranked → IsSorted ranked_cmp ranked → sum_by (λ pair. pair.0) ranked ≡ length (lines_of input) → WritesAll (flat_map count_line (take top ranked)) result part → CountsEnd input only limit top after part result
report_written input only limit top after ranked part (Ok x) texts order sorted total written = (texts, (ranked, order, sorted, total, written))
report_written input only limit top after ranked part (Err error) texts order sorted total written =
    let begun : IsBegun (lines_of input) top part = inr (flat_map count_line (take top ranked), (ranked, order, sorted, total, refl), written.1) in by_write_error (λ e. CountsEnd input only limit top after part (Err e)) error written.0 begun begun

-- lines were not counted, and nothing is written
pub none_written : (input : List ℕ) (only : Bool) (limit top : ℕ) (after : Option (List ℕ)) (error : RunError) → CountingError only limit (lines_of input) after error → CountsEnd input only limit top after [] (Err error)
none_written input only limit top after (Line error) is = (refl, is)
none_written input only limit top after TooManyLines is = (refl, is)
none_written input only limit top after ReadFailed is = (refl, is)
none_written input only limit top after WriteFailed is = absurd is
none_written input only limit top after ReaderGone is = absurd is
none_written input only limit top after (Column column error) is = absurd is

-- out of memory outside of a line
pub unmade : (only : Bool) (limit : ℕ) (lines : List Text) (after : Option (List ℕ)) (error : RunError) → error ≡ Line (Refused 0 FailedAllocation) → CountingError only limit lines after error
unmade only limit lines after error is = subst (CountingError only limit lines after) (sym is) (0, inl (refl, refl))

take_least : {X : Type 0} (xs : List X) (top : ℕ) → take (min (length xs) top) xs ≡ take top xs
take_least xs top = elim (cases_order (length xs) top) [
  | inl same ↦ let least : min (length xs) top ≡ top = omega (arith, same) in ap (λ n. take n xs) least
  | inr (inl less) ↦ let least : min (length xs) top ≡ length xs = omega (arith, less) in ap (λ n. take n xs) least ∙ take_all (length xs) xs (omega arith) ∙ sym (take_all top xs (omega (arith, less)))
  | inr (inr more) ↦ let least : min (length xs) top ≡ top = omega (arith, more) in ap (λ n. take n xs) least
]

-- the first `top` lines, as the code cuts them out
pub first_ranked : {X : Type 0} (see : X → ℕ × Text) (xs whole : List X) (top most : ℕ) → most ≡ min (length xs) top → whole ≡ xs → map see (take most whole) ≡ take top (map see xs)
first_ranked see xs whole top most is same =
    ap (λ n. map see (take n whole)) is ∙ ap (λ ys. map see (take (min (length xs) top) ys)) same ∙ ap (map see) (take_least xs top) ∙ sym (take-map see top xs)

end_begun : (input : List ℕ) (only : Bool) (limit top : ℕ) (after : Option (List ℕ)) (part : List ℕ) (result : Result (Unit {0}) RunError) → CountsEnd input only limit top after part result → IsBegun (lines_of input) top part
end_begun input only limit top after part (Ok x) end = inr (part, end.1, ([], sym (append-nil part)))
end_begun input only limit top after part (Err (Line error)) end = inl end.0
end_begun input only limit top after part (Err TooManyLines) end = inl end.0
end_begun input only limit top after part (Err ReadFailed) end = inl end.0
end_begun input only limit top after part (Err WriteFailed) end = end
end_begun input only limit top after part (Err ReaderGone) end = end
end_begun input only limit top after part (Err (Column column error)) end = absurd end

-- the run ends as it did before the flush, or with the error of the flush
pub end_then : (input : List ℕ) (only : Bool) (limit top : ℕ) (after : Option (List ℕ)) (part : List ℕ) (given result : Result (Unit {0}) RunError) → CountsEnd input only limit top after part given → (result ≡ given) ⊎ IsWriteEnd result → CountsEnd input only limit top after part result
end_then input only limit top after part given result end (inl same) = subst (CountsEnd input only limit top after part) (sym same) end
end_then input only limit top after part given result end (inr is) =
    let begun = end_begun input only limit top after part given end in by_write_end (CountsEnd input only limit top after part) result is begun begun
