-- Columns that were merged one after another, and the merged column.
--
-- The texts of each dictionary are interned in order, and the table has the new code of each. So an entry's
-- code is rewritten to the new code of its text. The list only grows at its end, and a text keeps its code,
-- so the entries of the columns before stay the same. If nothing of the input is left, all columns were
-- merged, and the list is that of the distinct texts of all dictionaries.
use Rattle.std.proofs.Common.{ℕ, zero, suc, ◌≡◌, ◌+◌, ◌-◌, ◌^◌, ◌<◌, ◌≤◌, ◌==◌, Bool, false, cond, List, [], ◌∷◌, ◌++◌, length, get_or, map, take, Option, Some, None, ◌⊎◌, Result, Ok, Err, refl, sym, ap, subst, ◌∙◌, arith, append_assoc, inl, inr}
use Rattle.std.specs.Prelude.{All, slice_get, IsSomeAnd}
use Rattle.std.proofs.lemmas.Bool.Decides.{nat_tests}
use Rattle.std.proofs.lemmas.List.{append-nil, length-map, map_push, take-map}
use Rattle.std.proofs.lemmas.List.Elements.{All-append, All-nil}
use Rattle.std.proofs.lemmas.Option.{slice_get_past, slice_get_within, slice_get-get_or}
use Rattle.lasso_parts.proofs.TextLemmas.{position_here}
use Rattle.lasso_parts.specs.Texts.{Text, position_of}
use Rattle.lasso_parts.specs.declared.util.LassoError.{LassoError}
use Rattle.lasso_parts.specs.declared.util.LassoErrorKind.TheVariants.{FailedAllocation}
use Rattle.lasso_single.specs.Filling.{extend}
use Rattle.lasso_single.specs.Interner.{InternerView, made_with}
use Rattle.lasso_single.proofs.Filled.{accepted}
use Rattle.lasso_single.proofs.Coded.{map_some_length}
use Rattle.lasso_single.specs.Codes.{AreCodes}
use Rattle.lasso_single.specs.Coding.{spur_at, IsRefused}
use Rattle.lasso_columns.specs.declared.faults.LineError.TheVariants.{Refused}
use Rattle.lasso_codes.specs.Columns.{entry_at}
use Rattle.lasso_codes.specs.Errors.{IsReadError, IsWriteEnd}
use Rattle.hex.specs.Hex.{IsBytes}
use Rattle.lasso_input.specs.Texts.{line_of, text_of}
use Rattle.lasso_codes.specs.Limits.{line_texts, Admits}
use Rattle.lasso_codes.proofs.LineTexts.{distinct_are_bytes, extend_lines, list_of_lines, some_line, table_back}
use Rattle.lasso_codes.proofs.LineCodes.{recoded_items}
use Rattle.lasso_codes.specs.Merge.{code_or_past, recoded, entries_of, distinct_of, Merges, AdmitsColumns, MergesWithin, EntriesError, AddsEntry, AddsEntries, AreMerged, IsNotMerged, IsMergeError, IsMergeBegun, MergesShort, MergingError, MergedEnd}
use Rattle.lasso_codes.specs.Stages.{EntriesAhead}
use Rattle.lasso_codes.specs.Reading.{ReadItems, cut_entry, entry_items, head_of, head_before, on_header_line, texts_at, texts_before, texts_from, items_from, HasNoHeader, IsCut, IsTextError, LacksEntry, LacksText, TextsError, IsEntryError}
use Rattle.lasso_codes.specs.Streams.{StopsShort, WritesAll, cut_line}
use Rattle.lasso_codes.specs.declared.entries.Entry.{Entry}
use Rattle.lasso_codes.specs.declared.entries.Entry.TheVariants.{Missing, Bad, Null, Code}
use Rattle.lasso_codes.specs.declared.error.ColumnError.{ColumnError}
use Rattle.lasso_codes.specs.declared.error.ColumnError.TheVariants.{NoHeader, NoText, NotUtf8, Doubled, TextRefused, NoEntry, NotEntry, PastTexts, IsNull, NotMerged, HasEntries, Absent}
use Rattle.lasso_codes.specs.declared.error.RunError.{RunError}
use Rattle.lasso_codes.specs.declared.error.RunError.TheVariants.{Line, TooManyLines, ReadFailed, WriteFailed, ReaderGone, Column}
use Rattle.lasso_codes.specs.declared.reading.Header.{Header}
use Rattle.lasso_codes.proofs.FewTexts.{few_texts}
use Rattle.lasso_codes.proofs.Cuts.{Refuses, column_local, entries_cut, head_local, short_after, short_as, texts_local}
use Rattle.lasso_codes.proofs.Items.{before_error, column_read, column_unread, entries_all, entries_fail, entries_push, entry_error, texts_read}
use Rattle.lasso_codes.proofs.Failing.{by_read_error, by_write_end, by_write_error}

-- ---- interning texts, and then others

-- ---- the table of codes

code_there : (list texts : List Text) (table : List ℕ) (code number : ℕ) → AreCodes list texts table → slice_get table code ≡ Some number → (text : Text) × (slice_get texts code ≡ Some text) × (position_of list text ≡ Some number)
code_there list texts [] code number are at = absurd (cc)
code_there list [] (n ∷ ns) code number are at = absurd (cc)
code_there list (t ∷ ts) (n ∷ ns) zero number are at = let here : position_of list t ≡ Some number = cc in (t, refl, here)
code_there list (t ∷ ts) (n ∷ ns) (suc code) number are at = code_there list ts ns code number (cc) at

-- an entry's code is rewritten
pub code_rewritten : (list texts : List Text) (table : List ℕ) (code number : ℕ) → AreCodes list texts table → length list < 2 ^ 32 → code < length table → recoded list texts (Code code) number ≡ Ok (entry_at (get_or table code 0))
code_rewritten list texts table code number are few small =
    let rewritten = get_or table code 0 in
    let at : slice_get table code ≡ Some rewritten = slice_get-get_or table code 0 small in
    let there = code_there list texts table code rewritten are at in
    let inside : rewritten < length list = slice_get_within list rewritten there.0 (position_here list there.0 rewritten there.2) in
    let other : rewritten == 4294967295 ≡ false = let small : rewritten < 4294967295 = omega (arith, inside, few) in grind (arith, nat_tests) in
    let none : Option ℕ = None in
    let entry : entry_at rewritten ≡ Some rewritten = ap (λ b. cond b none (Some rewritten)) other in
    ap (λ o. code_or_past list o number) there.1 ∙ ap (λ (o : Option ℕ). Ok o) (there.2 ∙ sym entry)

pub code_past : (list texts : List Text) (table : List ℕ) (code number : ℕ) → AreCodes list texts table → length table ≤ code → recoded list texts (Code code) number ≡ Err (PastTexts number)
code_past list texts table code number are past = ap (λ o. code_or_past list o number) (slice_get_past texts code (omega (arith, past, map_some_length (position_of list) texts table are)))

same_error : (error other : ColumnError) → IsEntryError error → ◌≡◌ {A = Result (Option ℕ) ColumnError} (Err error) (Err other) → IsEntryError other
same_error error other is e = let same : error ≡ other = cc in subst IsEntryError same is

past_error : (list : List Text) (o : Option Text) (number : ℕ) (error : ColumnError) → code_or_past list o number ≡ Err error → IsEntryError error
past_error list None number error e = same_error (PastTexts number) error tt e
past_error list (Some text) number error e = absurd (cc)

pub recode_error : (list texts : List Text) (entry : Entry) (number : ℕ) (error : ColumnError) → recoded list texts entry number ≡ Err error → IsEntryError error
recode_error list texts Missing number error e = same_error (NoEntry number) error tt e
recode_error list texts Bad number error e = same_error (NotEntry number) error tt e
recode_error list texts Null number error e = absurd (cc)
recode_error list texts (Code code) number error e = past_error list (slice_get texts code) number error e

-- no entry is made of a missing one
pub recode_refuses : (list texts : List Text) → Refuses (recoded list texts)
recode_refuses list texts number = refl

-- ---- the entries of a column on their way

-- a read failed, or there was no memory
pub entries_read_fails : (read : ReadItems (Option ℕ)) (column : ℕ) (error : RunError) → IsReadError 0 error → EntriesError read column error
entries_read_fails read column error is = by_read_error (EntriesError read column) 0 error is refl tt

-- the entry at a position; its number is added, or the entry is bad
module _ (list texts : List Text) (header : Header) (bytes rest : List ℕ) (count : ℕ) (before numbers : List ℕ) (so_far : EntriesAhead (recoded list texts) header.binary bytes rest count before numbers) where
  abbrev entries_read : ReadItems (Option ℕ)
  entries_read = entry_items (recoded list texts) header bytes

  pub entries_end : (column : ℕ) (left : Option (List ℕ)) → left ≡ Some rest → count ≡ header.lines → AddsEntries (entry_items (recoded list texts) header) bytes column left before numbers (Ok tt)
  entries_end column left is all =
      let ended = entries_all (recoded list texts) header.binary bytes rest count so_far.done so_far.read header.lines all in
      (rest, is, ap (λ (r : ReadItems (Option ℕ)). r.1) ended, so_far.numbers_are ∙ ap (λ (r : ReadItems (Option ℕ)). map entry_at before ++ r.0) (sym ended))

  -- a read failed: an entry is missing in what was read
  pub entries_short : (after : Option (List ℕ)) → count < header.lines → StopsShort rest after (λ seen. cut_entry header.binary seen ≡ (Missing, [])) → StopsShort bytes after (LacksEntry (entry_items (recoded list texts) header) (λ _. Unit {0}))
  entries_short after small short =
      short_as bytes after (λ seen. items_from (recoded list texts) header.lines header.binary 1 seen ≡ (so_far.done, Err (NoEntry (count + 1)))) (LacksEntry (entry_items (recoded list texts) header) (λ _. Unit {0}))
      (entries_cut (recoded list texts) header.binary count header.lines bytes rest so_far.done after (recode_refuses list texts) so_far.read small short)
      (λ seen is. (count + 1, ap (λ (r : ReadItems (Option ℕ)). r.1) is, tt))

  module _ (entry : Entry) (left : List ℕ) (cut : cut_entry header.binary rest ≡ (entry, left)) where
    pub number_added : (made : Result (Option ℕ) ColumnError) (column : ℕ) (after : List ℕ) → recoded list texts entry (count + 1) ≡ made → AddsEntry made column numbers after (Ok tt) → EntriesAhead (recoded list texts) header.binary bytes left (count + 1) before after
    number_added (Ok item) column after is added = record {
      done = so_far.done ++ entry_at added.0 ∷ [];
      read = entries_push (recoded list texts) header.binary bytes rest count so_far.done so_far.read entry left (entry_at added.0) cut (is ∙ ap (λ (o : Option ℕ). Ok o) added.1);
      numbers_are =
          ap (map entry_at) added.2 ∙ map_push entry_at numbers added.0 ∙ ap (λ (es : List (Option ℕ)). es ++ entry_at added.0 ∷ []) so_far.numbers_are
          ∙ append_assoc (map entry_at before) so_far.done (entry_at added.0 ∷ []);
    }
    number_added (Err error) column after is added = absurd (cc)

    pub number_fails : (made : Result (Option ℕ) ColumnError) (column : ℕ) (after : List ℕ) (error : RunError) → count < header.lines → recoded list texts entry (count + 1) ≡ made → AddsEntry made column numbers after (Err error) → EntriesError entries_read column error
    number_fails (Ok item) column after error small is added = subst (λ f. EntriesError entries_read column f) (sym added) refl
    number_fails (Err reason) column after error small is added =
        let told : error ≡ Column column reason = cc in
        let ended = entries_fail (recoded list texts) header.binary bytes rest count so_far.done so_far.read header.lines small entry left cut reason is in
        rw told (refl, recode_error list texts entry (count + 1) reason is, ap (λ (r : ReadItems (Option ℕ)). r.1) ended)

-- ---- columns on their way

-- the columns before this one were merged, and the rest is left. Whatever follows these columns, they are merged so
pub record Merging (only : Bool) (input rest : List ℕ) (limit column : ℕ) (now : InternerView) (numbers : List ℕ) : Type 0 where
  pub count : ℕ
  pub texts : List Text
  pub front : List ℕ
  pub split : input ≡ front ++ rest
  pub any : (more : List ℕ) → Merges only count (front ++ more) texts (map entry_at numbers) more × AdmitsColumns only limit count (front ++ more)
  pub counted : count + 1 ≡ column
  pub are_bytes : All IsBytes texts
  pub list : extend spur_at (made_with 4096 limit) (line_texts texts) accepted now

-- no column was read
pub merging_begins : (only : Bool) (input : List ℕ) (limit : ℕ) (now : InternerView) (numbers : List ℕ) → now ≡ made_with 4096 limit → numbers ≡ [] → Merging only input input limit 1 now numbers
merging_begins only input limit now numbers made none = record {
  count = 0;
  texts = [];
  front = [];
  split = refl;
  any = λ more. ((refl, ap (map entry_at) none, refl), tt);
  counted = refl;
  are_bytes = All-nil IsBytes;
  list = (refl, made);
}

module _ (only : Bool) (input rest : List ℕ) (limit column : ℕ) (now : InternerView) (numbers : List ℕ) (way : Merging only input rest limit column now numbers) where
  -- the list has the texts of the distinct lines, and their codes fit
  list_is : now.texts ≡ line_texts (distinct_of way.texts)
  list_is = list_of_lines (made_with 4096 limit) now way.texts refl way.are_bytes way.list

  -- the limit was kept so far
  within_any : (more : List ℕ) → MergesWithin only limit way.count (way.front ++ more) way.texts (map entry_at numbers) more
  within_any more = ((way.any more).0, (way.any more).1, (now, way.list))

  within : MergesWithin only limit way.count input way.texts (map entry_at numbers) rest
  within = subst (λ bs. MergesWithin only limit way.count bs way.texts (map entry_at numbers) rest) (sym way.split) (within_any rest)

  pub merging_few : length now.texts < 2 ^ 32
  merging_few = let few : length now.texts ≤ 4294967295 = few_texts (made_with 4096 limit) now (line_texts way.texts) way.list (omega arith) in omega (arith, few)

  -- the input has ended
  pub merging_ends : rest ≡ [] → AreMerged input only limit now.texts numbers
  merging_ends none = (way.count, way.texts, subst (λ bs. MergesWithin only limit way.count input way.texts (map entry_at numbers) bs) none within, list_is, way.are_bytes, merging_few)

  -- there are more columns than `usize` can number
  pub merging_many : (after : Option (List ℕ)) → 2 ^ 64 - 1 ≤ column → MergingError input only limit after TooManyLines
  merging_many after many = let counted = way.counted in (way.count, way.texts, map entry_at numbers, rest, within, omega (arith, counted, many))

  -- the bytes are none, or end within the next column
  abbrev IsPart : List ℕ → Type 0
  IsPart bytes = (bytes ≡ []) ⊎ ((error : ColumnError) × IsCut bytes error × IsMergeError only limit way.texts bytes error)

  -- a read failed, or there was no memory
  pub merging_read_fails : (after : Option (List ℕ)) (error : RunError) → IsReadError 0 error → StopsShort rest after IsPart → MergingError input only limit after error
  merging_read_fails after error is short =
      by_read_error (MergingError input only limit after) 0 error is refl
      (short_after way.front input rest after IsPart (MergesShort only limit) way.split short (λ seen ends. (way.count, way.texts, map entry_at numbers, seen, within_any seen, ends)))

  pub merging_unmade : (after : Option (List ℕ)) (error : RunError) → error ≡ Line (Refused 0 FailedAllocation) → MergingError input only limit after error
  merging_unmade after error is = subst (MergingError input only limit after) (sym is) refl

  -- the column is bad
  column_fails : (after : Option (List ℕ)) (error : ColumnError) → IsMergeError only limit way.texts rest error → MergingError input only limit after (Column column error)
  column_fails after error is = (way.count, way.texts, map entry_at numbers, rest, within, sym way.counted, is)

  -- the bytes are none, or a header line that does not end
  header_cut : (seen : List ℕ) → cut_line seen ≡ None → IsPart seen
  header_cut [] none = inl refl
  header_cut (b ∷ seen) none = inr (NoHeader, none, ((omega arith, ap on_header_line none), λ entry. absurd entry))

  pub merging_header_fails : (after : Option (List ℕ)) (error : RunError) → (IsReadError 0 error × StopsShort rest after (λ seen. cut_line seen ≡ None)) ⊎ ((error ≡ Column column NoHeader) × HasNoHeader rest) → MergingError input only limit after error
  merging_header_fails after error (inl is) = merging_read_fails after error is.0 (short_as rest after (λ seen. cut_line seen ≡ None) IsPart is.1 header_cut)
  merging_header_fails after error (inr is) = subst (MergingError input only limit after) (sym is.0) (column_fails after NoHeader (is.1, λ entry. absurd entry))

  -- a text of the dictionary is bad or missing
  unread : (bytes left : List ℕ) (header : Header) → head_of bytes ≡ Some (header, left) → (reason : ColumnError) → texts_from only header.distinct [] left ≡ Err reason → Admits limit (line_texts (texts_before only header.distinct left reason)) → ((entries_of only (distinct_of (way.texts ++ texts_at only bytes)) bytes).1 ≡ Err reason) × Admits limit (line_texts (head_before only (head_of bytes) reason))
  unread bytes left header head reason is texts =
      let make = recoded (distinct_of (way.texts ++ texts_at only bytes)) in (
        ap (λ (r : ReadItems (Option ℕ)). r.1) (column_unread only make bytes left header head reason is),
        subst (λ (ts : List Text). Admits limit (line_texts ts)) (sym (before_error only bytes left header head reason)) texts,
      )

  text_fails : (bytes left : List ℕ) (header : Header) → head_of bytes ≡ Some (header, left) → (reason : ColumnError) → IsTextError only limit header.distinct left reason → IsMergeError only limit way.texts bytes reason
  text_fails bytes left header head NoHeader is = absurd is
  text_fails bytes left header head (TextRefused number error) is = (((header, left), head, is), λ entry. absurd entry)
  text_fails bytes left header head (NotMerged error) is = absurd is
  text_fails bytes left header head HasEntries is = absurd is
  text_fails bytes left header head (Absent number) is = absurd is
  text_fails bytes left header head (NoText number) is = (unread bytes left header head (NoText number) is.0 is.1, λ entry. absurd entry)
  text_fails bytes left header head (NotUtf8 number) is = (unread bytes left header head (NotUtf8 number) is.0 is.1, λ entry. absurd entry)
  text_fails bytes left header head (Doubled number) is = (unread bytes left header head (Doubled number) is.0 is.1, λ entry. absurd entry)
  text_fails bytes left header head (NoEntry number) is = absurd is
  text_fails bytes left header head (NotEntry number) is = absurd is
  text_fails bytes left header head (PastTexts number) is = absurd is
  text_fails bytes left header head (IsNull number) is = absurd is

  module _ (header : Header) (left : List ℕ) (head : head_of rest ≡ Some (header, left)) where
    texts_short : (seen : List ℕ) → LacksText only limit header.distinct seen → IsPart ((head_local rest header left head).front ++ seen)
    texts_short seen lacks =
        let first = head_local rest header left head in
        inr (NoText lacks.0, tt, text_fails (first.front ++ seen) seen header (first.same seen) (NoText lacks.0) lacks.1)

    pub merging_texts_fail : (after : Option (List ℕ)) (error : RunError) → TextsError only limit header.distinct column left after error → MergingError input only limit after error
    merging_texts_fail after error (inl is) =
        let first = head_local rest header left head in
        merging_read_fails after error is.0 (short_after first.front rest left after (LacksText only limit header.distinct) IsPart first.split is.1 texts_short)
    merging_texts_fail after error (inr is) = subst (MergingError input only limit after) (sym is.1) (column_fails after is.0 (text_fails rest left header head is.0 is.2))

    module _ (dictionary : List Text) (body : List ℕ) (read : texts_from only header.distinct [] left ≡ Ok (dictionary, body)) (admitted : Admits limit (line_texts dictionary)) where
      texts_are : texts_at only rest ≡ dictionary
      texts_are = texts_read only rest left header head dictionary body read

      -- a text is refused by the interner of the merged column
      pub merging_refused : (after : Option (List ℕ)) (error : LassoError) (n : ℕ) (new : InternerView) → extend spur_at now (take n (line_texts dictionary)) accepted new → IsSomeAnd (slice_get (line_texts dictionary) n) (λ text. IsRefused new text error) → MergingError input only limit after (Column column (NotMerged error))
      merging_refused after error n new list refused =
          let texts = subst (λ (ts : List Text). Admits limit (line_texts ts)) (sym texts_are) admitted in
          column_fails after (NotMerged error)
          (texts, subst (λ (ts : List Text). IsNotMerged limit way.texts ts error) (sym texts_are) (n, new, extend_lines (made_with 4096 limit) now new way.texts (take n dictionary) way.list (subst (λ (ts : List Text). extend spur_at now ts accepted new) (take-map text_of n dictionary) list), some_line dictionary n (λ text. IsRefused new text error) refused))

      module _ (dictionary_bytes : All IsBytes dictionary) (new : InternerView) (list : extend spur_at now (line_texts dictionary) accepted new) where
        all : extend spur_at (made_with 4096 limit) (line_texts (way.texts ++ dictionary)) accepted new
        all = extend_lines (made_with 4096 limit) now new way.texts dictionary way.list list

        all_bytes : All IsBytes (way.texts ++ dictionary)
        all_bytes = All-append IsBytes way.texts dictionary way.are_bytes dictionary_bytes

        new_is : new.texts ≡ line_texts (distinct_of (way.texts ++ dictionary))
        new_is = list_of_lines (made_with 4096 limit) new (way.texts ++ dictionary) refl all_bytes all

        pub merged_few : length new.texts < 2 ^ 32
        merged_few =
            let few : length new.texts ≤ 4294967295 = few_texts (made_with 4096 limit) new (line_texts (way.texts ++ dictionary)) all (omega arith) in omega (arith, few)

        -- the entries of bytes with this dictionary, by the texts
        abbrev reads : List ℕ → ReadItems (Option ℕ)
        reads = entry_items (recoded new.texts (line_texts dictionary)) header

        same_items : (bytes : List ℕ) → entry_items (recoded (distinct_of (way.texts ++ dictionary)) dictionary) header bytes ≡ reads bytes
        same_items bytes =
            let distinct = distinct_of (way.texts ++ dictionary) in
            recoded_items distinct dictionary (distinct_are_bytes (way.texts ++ dictionary) all_bytes) dictionary_bytes header.lines header.binary 1 bytes
            ∙ ap (λ (ts : List Text). items_from (recoded ts (line_texts dictionary)) header.lines header.binary 1 bytes) (sym new_is)

        -- and of bytes that begin with this header and dictionary
        module _ (bytes left' body' : List ℕ) (head' : head_of bytes ≡ Some (header, left')) (read' : texts_from only header.distinct [] left' ≡ Ok (dictionary, body')) where
          here : texts_at only bytes ≡ dictionary
          here = texts_read only bytes left' header head' dictionary body' read'

          entries_here : entries_of only (distinct_of (way.texts ++ texts_at only bytes)) bytes ≡ reads body'
          entries_here =
              ap (λ (ts : List Text). entries_of only (distinct_of (way.texts ++ ts)) bytes) here
              ∙ column_read only (recoded (distinct_of (way.texts ++ dictionary))) bytes left' header head' dictionary body' read' ∙ same_items body'

          entry_fails : (error : ColumnError) → IsEntryError error → (reads body').1 ≡ Err error → IsMergeError only limit way.texts bytes error
          entry_fails (NotMerged error) is e = absurd is
          entry_fails error is e = (
            entry_error only (recoded (distinct_of (way.texts ++ texts_at only bytes))) limit bytes error is (subst (λ (ts : List Text). Admits limit (line_texts ts)) (sym here) admitted) (ap (λ (r : ReadItems (Option ℕ)). r.1) entries_here ∙ e),
            λ entry. (new, subst (λ (ts : List Text). extend spur_at (made_with 4096 limit) (line_texts (way.texts ++ ts)) accepted new) (sym here) all),
          )

        -- one column more
        pub merging_push : (others : List ℕ) (numbers' : List ℕ) → (reads body).1 ≡ Ok others → map entry_at numbers' ≡ map entry_at numbers ++ (reads body).0 → Merging only input others limit (column + 1) new numbers'
        merging_push others numbers' ended added =
            let items = (reads body).0 in
            let col = column_local only (recoded (distinct_of (way.texts ++ dictionary))) rest left body others header dictionary items (recode_refuses (distinct_of (way.texts ++ dictionary)) dictionary) head read (same_items body ∙ ap (λ (o : Result (List ℕ) ColumnError). (items, o)) ended) in
            record {
              count = suc way.count;
              texts = way.texts ++ dictionary;
              front = way.front ++ col.front;
              split = way.split ∙ ap (λ bs. way.front ++ bs) col.split ∙ sym (append_assoc way.front col.front others);
              any = λ later.
                  let whole = sym (append_assoc way.front col.front later) in
                  let before = way.any (col.front ++ later) in
                  let merges = subst (λ bs. Merges only way.count bs way.texts (map entry_at numbers) (col.front ++ later)) whole before.0 in
                  let admits = subst (λ bs. AdmitsColumns only limit way.count bs) whole before.1 in (
                    (
                      way.texts,
                      map entry_at numbers,
                      col.front ++ later,
                      merges,
                      ap (λ (ts : List Text). way.texts ++ ts) (sym (col.texts later)),
                      ap (λ (r : ReadItems (Option ℕ)). r.1) (col.same later),
                      added ∙ ap (λ (r : ReadItems (Option ℕ)). map entry_at numbers ++ r.0) (sym (col.same later)),
                    ),
                    (admits, (way.texts, map entry_at numbers, col.front ++ later, merges, subst (λ (ts : List Text). Admits limit (line_texts ts)) (sym (col.texts later)) admitted)),
                  );
              counted = let before : way.count + 1 ≡ column = way.counted in omega (arith, before);
              are_bytes = all_bytes;
              list = all;
            }

        -- an entry is missing in what was read
        entry_short : (seen : List ℕ) → LacksEntry reads (λ _. Unit {0}) seen → IsPart ((head_local rest header left head).front ++ ((texts_local only header.distinct [] dictionary left body read).front ++ seen))
        entry_short seen lacks =
            let h = head_local rest header left head in
            let t = texts_local only header.distinct [] dictionary left body read in
            inr (NoEntry lacks.0, tt, entry_fails (h.front ++ (t.front ++ seen)) (t.front ++ seen) seen (h.same (t.front ++ seen)) (t.same seen) (NoEntry lacks.0) tt lacks.1)

        entries_cut_off : (after : Option (List ℕ)) → StopsShort body after (LacksEntry reads (λ _. Unit {0})) → StopsShort rest after IsPart
        entries_cut_off after short =
            let h = head_local rest header left head in
            let t = texts_local only header.distinct [] dictionary left body read in
            short_after h.front rest left after (λ bs. IsPart (h.front ++ bs)) IsPart h.split
            (short_after t.front left body after (LacksEntry reads (λ _. Unit {0})) (λ bs. IsPart (h.front ++ bs)) t.split short entry_short) (λ seen part. part)

        pub merging_entries_fail : (after : Option (List ℕ)) (error : RunError) → EntriesError (reads body) column error → (error ≡ ReadFailed → StopsShort body after (LacksEntry reads (λ _. Unit {0}))) → MergingError input only limit after error
        merging_entries_fail after (Line error) is short = is
        merging_entries_fail after TooManyLines is short = absurd is
        merging_entries_fail after ReadFailed is short = merging_read_fails after ReadFailed tt (entries_cut_off after (short refl))
        merging_entries_fail after WriteFailed is short = absurd is
        merging_entries_fail after ReaderGone is short = absurd is
        merging_entries_fail after (Column number error) is short =
            subst (λ n. MergingError input only limit after (Column n error)) (sym is.0) (column_fails after error (entry_fails rest left body head read error is.1 is.2))

-- ---- the one column

written_end : (only : Bool) (input : List ℕ) (limit : ℕ) (form : List Text → List (Option ℕ) → List ℕ) (after : Option (List ℕ)) (n : ℕ) (texts : List Text) (entries : List (Option ℕ)) (part : List ℕ) (result : Result (Unit {0}) RunError) → MergesWithin only limit n input texts entries [] → length (distinct_of texts) < 2 ^ 32 → length entries < 2 ^ 64 → WritesAll (form (distinct_of texts) entries) result part → MergedEnd input only limit form after part result
written_end only input limit form after n texts entries part (Ok x) merges few few' written = (n, texts, entries, merges, (few, few'), written)
written_end only input limit form after n texts entries part (Err error) merges few few' written =
    let begun : IsMergeBegun input only form part = inr (n, texts, entries, merges.0, written.1) in by_write_error (λ e. MergedEnd input only limit form after part (Err e)) error written.0 begun begun

-- the column is written, or a beginning of it
pub merged_written : (only : Bool) (input : List ℕ) (limit : ℕ) (form : List Text → List (Option ℕ) → List ℕ) (after : Option (List ℕ)) (table list : List Text) (numbers part : List ℕ) (result : Result (Unit {0}) RunError) → table ≡ map line_of list → AreMerged input only limit list numbers → length numbers < 2 ^ 64 → WritesAll (form table (map entry_at numbers)) result part → MergedEnd input only limit form after part result
merged_written only input limit form after table list numbers part result table_is are few written =
    let texts = are.1 in
    let entries = map entry_at numbers in
    written_end only input limit form after are.0 texts entries part result are.2 (subst (λ n. n < 2 ^ 32) (ap length are.3 ∙ length-map (distinct_of texts) text_of) are.5) (subst (λ n. n < 2 ^ 64) (sym (length-map numbers entry_at)) few)
    (subst (λ (ts : List Text). WritesAll (form ts entries) result part) (table_back table list (distinct_of texts) table_is are.3 (distinct_are_bytes texts are.4)) written)

-- columns were not merged, and nothing is written
pub none_merged : (only : Bool) (input : List ℕ) (limit : ℕ) (form : List Text → List (Option ℕ) → List ℕ) (after : Option (List ℕ)) (error : RunError) → MergingError input only limit after error → MergedEnd input only limit form after [] (Err error)
none_merged only input limit form after (Line error) is = (refl, is)
none_merged only input limit form after TooManyLines is = (refl, is)
none_merged only input limit form after ReadFailed is = (refl, is)
none_merged only input limit form after WriteFailed is = absurd is
none_merged only input limit form after ReaderGone is = absurd is
none_merged only input limit form after (Column column error) is = (refl, is)

-- there was no memory for the interner
pub unmade : (only : Bool) (input : List ℕ) (limit : ℕ) (after : Option (List ℕ)) (error : RunError) → error ≡ Line (Refused 0 FailedAllocation) → MergingError input only limit after error
unmade only input limit after error is = subst (MergingError input only limit after) (sym is) refl

end_begun : (only : Bool) (input : List ℕ) (limit : ℕ) (form : List Text → List (Option ℕ) → List ℕ) (after : Option (List ℕ)) (part : List ℕ) (result : Result (Unit {0}) RunError) → MergedEnd input only limit form after part result → IsMergeBegun input only form part
end_begun only input limit form after part (Ok x) end = inr (end.0, end.1, end.2, end.3.0, ([], sym end.5 ∙ sym (append-nil part)))
end_begun only input limit form after part (Err (Line error)) end = inl end.0
end_begun only input limit form after part (Err TooManyLines) end = inl end.0
end_begun only input limit form after part (Err ReadFailed) end = inl end.0
end_begun only input limit form after part (Err WriteFailed) end = end
end_begun only input limit form after part (Err ReaderGone) end = end
end_begun only input limit form after part (Err (Column column error)) end = inl end.0

-- the run ends as it did before the flush, or with the error of the flush
pub end_then : (only : Bool) (input : List ℕ) (limit : ℕ) (form : List Text → List (Option ℕ) → List ℕ) (after : Option (List ℕ)) (part : List ℕ) (given result : Result (Unit {0}) RunError) → MergedEnd input only limit form after part given → (result ≡ given) ⊎ IsWriteEnd result → MergedEnd input only limit form after part result
end_then only input limit form after part given result end (inl same) = subst (MergedEnd input only limit form after part) (sym same) end
end_then only input limit form after part given result end (inr is) =
    let begun = end_begun only input limit form after part given end in by_write_end (MergedEnd input only limit form after part) result is begun begun
