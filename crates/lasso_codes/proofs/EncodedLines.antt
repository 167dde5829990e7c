-- Lines that were encoded one after another, and their column.
--
-- A number is that of a null, or the position of its line in the list. The list only grows at its end, so
-- positions stay the same, and the numbers are those of the entries of the lines. If nothing of the input is
-- left, all lines were encoded, and the list is their dictionary. The column is written after that, from its
-- start, so what was written when a write fails is a beginning of it.
use Rattle.std.proofs.Common.{ℕ, ◌≡◌, ◌+◌, ◌^◌, ◌<◌, ◌≤◌, ◌==◌, Bool, true, false, not, cond, List, [], ◌∷◌, ◌++◌, length, map, take, is_some, Option, Some, None, ◌⊎◌, Result, Ok, Err, refl, sym, ap, subst, ◌∙◌, arith, inl, inr, ◌-◌}
use Rattle.std.specs.Prelude.{All, slice_get, IfSome, IsSomeAnd}
use Rattle.std.proofs.lemmas.Bool.Decides.{nat_tests}
use Rattle.std.proofs.lemmas.List.{append-nil, length-map}
use Rattle.std.proofs.lemmas.List.Elements.{All-head, All-tail, filter-append}
use Rattle.lasso_parts.specs.Texts.{Text, position_of}
use Rattle.lasso_parts.specs.declared.util.LassoErrorKind.TheVariants.{FailedAllocation}
use Rattle.lasso_single.specs.Filling.{extend}
use Rattle.lasso_single.specs.Interner.{InternerView, made_with}
use Rattle.lasso_single.proofs.Filled.{accepted}
use Rattle.lasso_columns.proofs.Interned.{list_interned}
use Rattle.lasso_single.proofs.Coded.{position_stays}
use Rattle.lasso_single.specs.Coding.{spur_at}
use Rattle.hex.specs.Hex.{IsBytes}
use Rattle.lasso_input.specs.Lines.{lines_of}
use Rattle.lasso_input.specs.Texts.{line_of, text_of}
use Rattle.lasso_columns.specs.declared.faults.LineError.{LineError}
use Rattle.lasso_columns.specs.declared.faults.LineError.TheVariants.{Refused}
use Rattle.lasso_columns.specs.Rows.{is_null, texts_of}
use Rattle.lasso_codes.specs.Columns.{dictionary_of, entry_of, entry_at, column_of, column_bytes}
use Rattle.lasso_codes.specs.Encode.{IsNoNull, IsNumberedAs, IsNumbered, AreNumbered, AreCodable, EncodingError, EncodeEnd}
use Rattle.lasso_codes.specs.Errors.{IsReadError, IsWriteEnd}
use Rattle.lasso_codes.specs.Limits.{line_texts, Admits, AreLetIn, IsLetIn, IsLineFault}
use Rattle.lasso_codes.specs.Stages.{IsEntryAs, AreEntries, Encoding}
use Rattle.lasso_codes.specs.Streams.{LosesPart, Begins, WritesAll}
use Rattle.lasso_codes.specs.declared.error.RunError.{RunError}
use Rattle.lasso_codes.specs.declared.error.RunError.TheVariants.{Line, TooManyLines, ReadFailed, WriteFailed, ReaderGone, Column}
use Rattle.lasso_codes.proofs.FewTexts.{few_texts}
use Rattle.lasso_codes.proofs.LineTexts.{distinct_are_bytes, extend_line, kept_are_bytes, lines_are_bytes, lines_back, list_of_lines, position_of_text}
use Rattle.lasso_codes.proofs.Taken.{taken_fails, taken_push, taken_all, taken_first, taken_let_in, taken_few, taken_next}
use Rattle.lasso_codes.proofs.Failing.{by_read_error, by_write_end, by_write_error}

-- ---- numbers of lines

entry_stays : (b : Bool) (list : List Text) (last line : Text) (number : ℕ) → IsEntryAs b list line number → IsEntryAs b (list ++ last ∷ []) line number
entry_stays true list last line number is = is
entry_stays false list last line number is = (position_stays list last (text_of line) number is.0, is.1)

entries_longer : (null : Option Text) (list : List Text) (last : Text) (lines : List Text) (numbers : List ℕ) → AreEntries null list lines numbers → AreEntries null (list ++ last ∷ []) lines numbers
entries_longer null list last [] [] are = are
entries_longer null list last [] (n ∷ ns) are = are
entries_longer null list last (l ∷ ls) [] are = are
entries_longer null list last (l ∷ ls) (n ∷ ns) are = (entry_stays (is_null null l) list last l n are.0, entries_longer null list last ls ns are.1)

-- they stay the same when a text is appended, or none
entries_stay : (null : Option Text) (there : Bool) (list : List Text) (last : Text) (lines : List Text) (numbers : List ℕ) → AreEntries null list lines numbers → AreEntries null (cond there list (list ++ last ∷ [])) lines numbers
entries_stay null true list last lines numbers are = are
entries_stay null false list last lines numbers are = entries_longer null list last lines numbers are

entries_push : (null : Option Text) (list lines : List Text) (numbers : List ℕ) (line : Text) (number : ℕ) → AreEntries null list lines numbers → IsEntryAs (is_null null line) list line number → AreEntries null list (lines ++ line ∷ []) (numbers ++ number ∷ [])
entries_push null list [] [] line number are is = (is, tt)
entries_push null list [] (n ∷ ns) line number are is = absurd are
entries_push null list (l ∷ ls) [] line number are is = absurd are
entries_push null list (l ∷ ls) (n ∷ ns) line number are is = (are.0, entries_push null list ls ns line number are.1 is)

entry_is : (b : Bool) (list : List Text) (line : Text) (number : ℕ) → IsEntryAs b list line number → entry_at number ≡ cond b None (position_of list (text_of line))
entry_is true list line number is = ap entry_at is
entry_is false list line number is =
    let small : number < 4294967295 = is.1 in
    let other : number == 4294967295 ≡ false = grind (arith, nat_tests) in
    let none : Option ℕ = None in
    ap (λ b. cond b none (Some number)) other ∙ sym is.0

-- `list` are the distinct lines; the interner has their texts
pub entries_are : (null : Option Text) (list lines : List Text) (numbers : List ℕ) → All IsBytes list → All IsBytes lines → AreEntries null (line_texts list) lines numbers → map entry_at numbers ≡ map (entry_of null list) lines
entries_are null list [] [] all all' are = refl
entries_are null list [] (n ∷ ns) all all' are = absurd are
entries_are null list (l ∷ ls) [] all all' are = absurd are
entries_are null list (l ∷ ls) (n ∷ ns) all all' are =
    let none : Option ℕ = None in
    let here : entry_at n ≡ entry_of null list l =
    entry_is (is_null null l) (line_texts list) l n are.0 ∙ ap (λ o. cond (is_null null l) none o) (position_of_text list l all (All-head IsBytes l ls all')) in
    let others : map entry_at ns ≡ map (entry_of null list) ls = entries_are null list ls ns all (All-tail IsBytes l ls all') are.1 in
    cc

-- ---- a run on its way

pub texts_push : (null : Option Text) (lines : List Text) (line : Text) (b : Bool) → is_null null line ≡ b → texts_of null (lines ++ line ∷ []) ≡ texts_of null lines ++ cond b [] (line ∷ [])
texts_push null lines line true e =
    filter-append (λ l. not (is_null null l)) lines (line ∷ []) ∙ ap (λ b. texts_of null lines ++ cond (not b) (line ∷ []) []) e
texts_push null lines line false e =
    filter-append (λ l. not (is_null null l)) lines (line ∷ []) ∙ ap (λ b. texts_of null lines ++ cond (not b) (line ∷ []) []) e

-- the numbers and the list with one line more
abbrev IsPushed : Option Text → InternerView → List Text → List ℕ → InternerView → Text → ℕ → Type 0
IsPushed null old done numbers after line entry =
    AreEntries null after.texts (done ++ line ∷ []) (numbers ++ entry ∷ []) × extend spur_at old (line_texts (texts_of null (done ++ line ∷ []))) accepted after

numbered_push : (null : Option Text) (old now after : InternerView) (done : List Text) (numbers : List ℕ) (line : Text) (entry : ℕ) (b : Bool) → is_null null line ≡ b → AreEntries null now.texts done numbers → extend spur_at old (line_texts (texts_of null done)) accepted now → IsNumberedAs b now line after entry → IsPushed null old done numbers after line entry
numbered_push null old now after done numbers line entry true e entries list is =
    let texts : texts_of null (done ++ line ∷ []) ≡ texts_of null done = texts_push null done line true e ∙ append-nil (texts_of null done) in
    let here : IsEntryAs (is_null null line) after.texts line entry = subst (λ b. IsEntryAs b after.texts line entry) (sym e) is.1 in
    let kept : AreEntries null after.texts done numbers = subst (λ (i : InternerView). AreEntries null i.texts done numbers) (sym is.0) entries in
    let same : extend spur_at old (line_texts (texts_of null done)) accepted after = subst (λ (i : InternerView). extend spur_at old (line_texts (texts_of null done)) accepted i) (sym is.0) list in
    (entries_push null after.texts done numbers line entry kept here, subst (λ (ts : List Text). extend spur_at old (line_texts ts) accepted after) (sym texts) same)
numbered_push null old now after done numbers line entry false e entries list is =
    let key = is.0.0 in
    let here : IsEntryAs (is_null null line) after.texts line entry = subst (λ b. IsEntryAs b after.texts line entry) (sym e) (is.1, is.2) in
    let kept : AreEntries null after.texts done numbers =
    subst (λ (ts : List Text). AreEntries null ts done numbers) (sym (list_interned spur_at now after (text_of line) key is.0.1)) (entries_stay null (is_some (position_of now.texts (text_of line))) now.texts (text_of line) done numbers entries) in
    let more : extend spur_at old (line_texts (texts_of null done ++ line ∷ [])) accepted after = extend_line old now after (texts_of null done) line key list is.0.1 in
    (entries_push null after.texts done numbers line entry kept here, subst (λ (ts : List Text). extend spur_at old (line_texts ts) accepted after) (sym (texts_push null done line false e)) more)

-- one line more
pub encoding_push : (input rest : List ℕ) (only : Bool) (number : ℕ) (null : Option Text) (old now after : InternerView) (numbers : List ℕ) (line left : List ℕ) (entry : ℕ) (numbers' : List ℕ) → Encoding input rest only number null old now numbers → lines_of rest ≡ line ∷ lines_of left → IsLetIn only line → IsNumbered null now line after entry → numbers' ≡ numbers ++ entry ∷ [] → Encoding input left only (number + 1) null old after numbers'
encoding_push input rest only number null old now after numbers line left entry numbers' so_far cut let_in is grown =
    let pushed = numbered_push null old now after so_far.done numbers line entry (is_null null line) refl so_far.entries so_far.list is in
    record {
      done = so_far.done ++ line ∷ [];
      taken = taken_push input rest only number so_far.done line left so_far.taken cut let_in;
      entries = subst (λ ns. AreEntries null after.texts (so_far.done ++ line ∷ []) ns) (sym grown) pushed.0;
      list = pushed.1;
    }

module _ (input rest : List ℕ) (only : Bool) (number : ℕ) (null : Option Text) (old now : InternerView) (numbers : List ℕ) (so_far : Encoding input rest only number null old now numbers) where
  -- the input has ended
  pub encoding_ends : old.texts ≡ [] → rest ≡ [] → AreLetIn only (lines_of input) × AreNumbered null (lines_of input) now.texts numbers
  encoding_ends empty none =
      let all : lines_of input ≡ so_far.done = taken_all input rest only number so_far.done so_far.taken none in
      let bytes = lines_are_bytes only so_far.done so_far.taken.let_in in
      let kept = kept_are_bytes null so_far.done bytes in
      let list : now.texts ≡ line_texts (dictionary_of null so_far.done) = list_of_lines old now (texts_of null so_far.done) empty kept so_far.list in
      let entries : map entry_at numbers ≡ map (entry_of null (dictionary_of null so_far.done)) so_far.done =
      entries_are null (dictionary_of null so_far.done) so_far.done numbers (distinct_are_bytes (texts_of null so_far.done) kept) bytes (subst (λ (ts : List Text). AreEntries null ts so_far.done numbers) list so_far.entries) in
      let none_yet : length old.texts ≤ 4294967295 = subst (λ (ts : List Text). length ts ≤ 4294967295) (sym empty) (omega arith) in
      let most : length now.texts ≤ 4294967295 = few_texts old now (line_texts (texts_of null so_far.done)) so_far.list none_yet in
      let few : length now.texts < 2 ^ 32 = omega (arith, most) in (
        subst (λ (ls : List Text). AreLetIn only ls) (sym all) so_far.taken.let_in,
        subst (λ (ls : List Text). AreNumbered null ls now.texts numbers) (sym all) (list, entries, few),
      )

  pub encoding_interned : rest ≡ [] → extend spur_at old (line_texts (texts_of null (lines_of input))) accepted now
  encoding_interned none =
      subst (λ (ls : List Text). extend spur_at old (line_texts (texts_of null ls)) accepted now) (sym (taken_all input rest only number so_far.done so_far.taken none)) so_far.list

  lines_few : length so_far.done ≤ length (lines_of input)
  lines_few = taken_few input rest only number so_far.done so_far.taken

  -- the first lines were interned
  first_let_in : AreLetIn only (take (length so_far.done) (lines_of input))
  first_let_in = taken_let_in input rest only number so_far.done so_far.taken

  first_list : (limit : ℕ) → old ≡ made_with 4096 limit → extend spur_at (made_with 4096 limit) (line_texts (texts_of null (take (length so_far.done) (lines_of input)))) accepted now
  first_list limit made =
      let list : extend spur_at (made_with 4096 limit) (line_texts (texts_of null so_far.done)) accepted now = subst (λ (i : InternerView). extend spur_at i (line_texts (texts_of null so_far.done)) accepted now) made so_far.list in
      subst (λ (ls : List Text). extend spur_at (made_with 4096 limit) (line_texts (texts_of null ls)) accepted now) (sym (taken_first input rest only number so_far.done so_far.taken)) list

  -- there are more lines than `usize` can number
  pub encoding_many : (limit : ℕ) (after : Option (List ℕ)) → 2 ^ 64 - 1 ≤ number → EncodingError only limit null (lines_of input) after TooManyLines
  encoding_many limit after many = omega (arith, so_far.taken.counted, lines_few, many)

  -- memory ran out, so a null may be concerned too
  lacks : (error : LineError) → error ≡ Refused (length so_far.done + 1) FailedAllocation → (o : Option Text) → IfSome o (λ line. IsNoNull null line error)
  lacks error is None = tt
  lacks error is (Some line) = subst (IsNoNull null line) (sym is) (inl refl)

  pub encoding_read_fails : (limit : ℕ) (before after : Option (List ℕ)) (error : RunError) → old ≡ made_with 4096 limit → before ≡ Some rest → LosesPart before after → IsReadError number error → EncodingError only limit null (lines_of input) after error
  encoding_read_fails limit before after error made there lost is =
      let full = ap (λ n. Refused n FailedAllocation) (sym so_far.taken.counted) in
      by_read_error (EncodingError only limit null (lines_of input) after) number error is
      (length so_far.done, inr (first_let_in, (now, first_list limit made, inl (full, lines_few)), lacks (Refused number FailedAllocation) full (slice_get (lines_of input) (length so_far.done))))
      (length so_far.done, first_let_in, (now, first_list limit made), taken_fails input rest only number so_far.done so_far.taken before after there lost)

  -- the next line is refused or not let in
  pub encoding_line_fails : (limit : ℕ) (after : Option (List ℕ)) (line left : List ℕ) (error : LineError) → old ≡ made_with 4096 limit → lines_of rest ≡ line ∷ lines_of left → IsLineFault only now line number error → IsNoNull null line error → EncodingError only limit null (lines_of input) after (Line error)
  encoding_line_fails limit after line left error made cut is no_null =
      let there : slice_get (lines_of input) (length so_far.done) ≡ Some line = taken_next input rest only number so_far.done line (lines_of left) so_far.taken cut in
      let faulty : IsLineFault only now line (length so_far.done + 1) error = subst (λ n. IsLineFault only now line n error) (sym so_far.taken.counted) is in
      let next : IsSomeAnd (slice_get (lines_of input) (length so_far.done)) (λ l. IsLineFault only now l (length so_far.done + 1) error) =
      subst (λ o. IsSomeAnd o (λ l. IsLineFault only now l (length so_far.done + 1) error)) (sym there) faulty in
      (length so_far.done, inr (first_let_in, (now, first_list limit made, inr next), subst (λ o. IfSome o (λ l. IsNoNull null l error)) (sym there) no_null))

-- ---- the column

written_end : (input : List ℕ) (only : Bool) (limit : ℕ) (null : Option Text) (binary : Bool) (after : Option (List ℕ)) (part : List ℕ) (result : Result (Unit {0}) RunError) → AreLetIn only (lines_of input) → AreCodable null (lines_of input) → Admits limit (line_texts (texts_of null (lines_of input))) → WritesAll (column_bytes binary null (lines_of input)) result part → EncodeEnd input only limit null binary after part result
written_end input only limit null binary after part (Ok x) texts few admitted written = (texts, written, few, admitted)
written_end input only limit null binary after part (Err error) texts few admitted written = by_write_error (λ e. EncodeEnd input only limit null binary after part (Err e)) error written.0 written.1 written.1

-- a column is written, or a beginning of it
pub column_written : (input : List ℕ) (only : Bool) (limit : ℕ) (null : Option Text) (binary : Bool) (after : Option (List ℕ)) (table list : List Text) (numbers : List ℕ) (part : List ℕ) (result : Result (Unit {0}) RunError) → AreLetIn only (lines_of input) → table ≡ map line_of list → AreNumbered null (lines_of input) list numbers → Admits limit (line_texts (texts_of null (lines_of input))) → length numbers < 2 ^ 64 → WritesAll (column_of binary table (map entry_at numbers)) result part → EncodeEnd input only limit null binary after part result
column_written input only limit null binary after table list numbers part result texts table_is are admitted many written =
    let lines = lines_of input in
    let dictionary = dictionary_of null lines in
    let table_lines : table ≡ dictionary =
    table_is ∙ ap (map line_of) are.0 ∙ lines_back dictionary (distinct_are_bytes (texts_of null lines) (kept_are_bytes null lines (lines_are_bytes only lines texts))) in
    let whole : column_of binary table (map entry_at numbers) ≡ column_bytes binary null lines =
    ap (λ (ts : List Text). column_of binary ts (map entry_at numbers)) table_lines ∙ ap (column_of binary dictionary) are.1 in
    let few : length dictionary < 2 ^ 32 = subst (λ n. n < 2 ^ 32) (ap length are.0 ∙ length-map dictionary text_of) are.2 in
    let count : length numbers ≡ length lines = sym (length-map numbers entry_at) ∙ ap length are.1 ∙ length-map lines (entry_of null dictionary) in
    written_end input only limit null binary after part result texts (few, subst (λ n. n < 2 ^ 64) count many) admitted (subst (λ bs. WritesAll bs result part) whole written)

-- lines were not encoded, and nothing is written
pub none_written : (input : List ℕ) (only : Bool) (limit : ℕ) (null : Option Text) (binary : Bool) (after : Option (List ℕ)) (error : RunError) → EncodingError only limit null (lines_of input) after error → EncodeEnd input only limit null binary after [] (Err error)
none_written input only limit null binary after (Line error) is = (refl, is)
none_written input only limit null binary after TooManyLines is = (refl, is)
none_written input only limit null binary after ReadFailed is = (refl, is)
none_written input only limit null binary after WriteFailed is = absurd is
none_written input only limit null binary after ReaderGone is = absurd is
none_written input only limit null binary after (Column column error) is = absurd is

-- out of memory outside of a line
pub unmade : (only : Bool) (limit : ℕ) (null : Option Text) (lines : List Text) (after : Option (List ℕ)) (error : RunError) → error ≡ Line (Refused 0 FailedAllocation) → EncodingError only limit null lines after error
unmade only limit null lines after error is = subst (EncodingError only limit null lines after) (sym is) (0, inl (refl, refl))

nothing_begins : (part whole : List ℕ) → part ≡ [] → Begins part whole
nothing_begins part whole none = (whole, ap (λ bs. bs ++ whole) (sym none))

end_begun : (input : List ℕ) (only : Bool) (limit : ℕ) (null : Option Text) (binary : Bool) (after : Option (List ℕ)) (part : List ℕ) (result : Result (Unit {0}) RunError) → EncodeEnd input only limit null binary after part result → Begins part (column_bytes binary null (lines_of input))
end_begun input only limit null binary after part (Ok x) end = ([], sym end.1 ∙ sym (append-nil part))
end_begun input only limit null binary after part (Err (Line error)) end = nothing_begins part (column_bytes binary null (lines_of input)) end.0
end_begun input only limit null binary after part (Err TooManyLines) end = nothing_begins part (column_bytes binary null (lines_of input)) end.0
end_begun input only limit null binary after part (Err ReadFailed) end = nothing_begins part (column_bytes binary null (lines_of input)) end.0
end_begun input only limit null binary after part (Err WriteFailed) end = end
end_begun input only limit null binary after part (Err ReaderGone) end = end
end_begun input only limit null binary after part (Err (Column column error)) end = absurd end

-- the run ends as it did before the flush, or with the error of the flush
pub end_then : (input : List ℕ) (only : Bool) (limit : ℕ) (null : Option Text) (binary : Bool) (after : Option (List ℕ)) (part : List ℕ) (given result : Result (Unit {0}) RunError) → EncodeEnd input only limit null binary after part given → (result ≡ given) ⊎ IsWriteEnd result → EncodeEnd input only limit null binary after part result
end_then input only limit null binary after part given result end (inl same) = subst (EncodeEnd input only limit null binary after part) (sym same) end
end_then input only limit null binary after part given result end (inr is) =
    let begun = end_begun input only limit null binary after part given end in by_write_end (EncodeEnd input only limit null binary after part) result is begun begun
