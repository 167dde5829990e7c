-- Columns after a dictionary, whose entries are rewritten by its codes.
--
-- The dictionary's interner is not changed. Each column's texts are looked up in it, so its table has their codes there; a
-- column without texts has the table of the dictionary's own texts. Entries are rewritten by the table as `merge` does it.
-- So after each column the entries so far are those that `Recodes` says, whatever follows the columns that were read.
use Rattle.std.proofs.Common.{ℕ, zero, suc, ◌≡◌, ◌+◌, ◌-◌, ◌^◌, ◌<◌, ◌≤◌, Bool, List, [], ◌∷◌, ◌++◌, length, map, take, Option, Some, None, ◌⊎◌, Result, Ok, Err, refl, sym, ap, subst, ◌∙◌, arith, append_assoc, inl, inr}
use Rattle.std.specs.Prelude.{All, IsSome, IsSomeAnd, slice_get, is_some}
use Rattle.std.proofs.lemmas.List.{append-nil, length-append, length-map, take-map}
use Rattle.std.proofs.lemmas.List.Elements.{All-cons, All-head, All-nil, All-tail, All-take}
use Rattle.hex.specs.Hex.{IsBytes}
use Rattle.lasso_parts.specs.Texts.{Text, position_of}
use Rattle.lasso_parts.specs.declared.util.LassoErrorKind.TheVariants.{FailedAllocation}
use Rattle.lasso_single.specs.Codes.{AreCodes}
use Rattle.lasso_single.specs.Filling.{extend}
use Rattle.lasso_single.specs.Interner.{InternerView, made_with}
use Rattle.lasso_single.specs.Coding.{spur_at}
use Rattle.lasso_single.proofs.Filled.{accepted}
use Rattle.lasso_input.specs.Texts.{text_of, is_let_in}
use Rattle.lasso_columns.specs.declared.faults.LineError.TheVariants.{Refused}
use Rattle.lasso_codes.specs.Columns.{entry_at}
use Rattle.lasso_codes.specs.Errors.{IsReadError, IsWriteEnd}
use Rattle.lasso_codes.specs.Limits.{line_texts, Admits}
use Rattle.lasso_codes.specs.Merge.{recoded, AddsEntries, AreFew, EntriesError}
use Rattle.lasso_codes.specs.Reading.{ReadItems, ReadTexts, entry_items, head_of, head_before, on_header_line, on_text, texts_at, texts_before, texts_from, HasNoHeader, IsCut, IsEntryError, IsTextError, LacksEntry, LacksText, TextsError}
use Rattle.lasso_codes.specs.Recode.{coded, coded_entries, texts_or, AddsColumn, AddsColumns, AreRecoded, BodyError, ColumnsError, ColumnsShort, DictionaryError, HasAll, HasTexts, IsAbsent, IsBodyCut, IsBodyError, IsDictionary, IsDictionaryCut, IsDictionaryError, IsFindFailure, IsRecodeBegun, IsRecodeError, RecodedEnd, Recodes, RecodesShort, RecodingError}
use Rattle.lasso_codes.specs.Streams.{StopsShort, WritesAll, cut_line}
use Rattle.lasso_codes.specs.declared.error.ColumnError.{ColumnError}
use Rattle.lasso_codes.specs.declared.error.ColumnError.TheVariants.{NoHeader, NoText, NotUtf8, Doubled, TextRefused, NoEntry, NotEntry, PastTexts, IsNull, NotMerged, HasEntries, Absent}
use Rattle.lasso_codes.specs.declared.error.RunError.{RunError}
use Rattle.lasso_codes.specs.declared.error.RunError.TheVariants.{Line, TooManyLines, ReadFailed, WriteFailed, ReaderGone, Column}
use Rattle.lasso_codes.specs.declared.reading.Header.{Header}
use Rattle.lasso_codes.proofs.Cuts.{Refuses, column_local, head_local, short_after, short_as, texts_local}
use Rattle.lasso_codes.proofs.FewTexts.{few_texts}
use Rattle.lasso_codes.proofs.Items.{before_error, column_read, column_unread, entry_error, texts_read}
use Rattle.lasso_codes.proofs.LineCodes.{recoded_items}
use Rattle.lasso_codes.proofs.LineTexts.{position_of_text, some_line}
use Rattle.lasso_codes.proofs.ReadTexts.{plain_test}
use Rattle.lasso_codes.proofs.Failing.{by_read_error, by_write_end, by_write_error}

-- ---- texts that the list has

-- a list that has codes for the texts of lines has the lines
pub has_coded : (list lines : List Text) (codes : List ℕ) → All IsBytes list → All IsBytes lines → AreCodes (line_texts list) (line_texts lines) codes → HasAll list lines
has_coded list [] codes list_bytes bytes are = All-nil (λ t. IsSome (position_of list t))
has_coded list (t ∷ lines) [] list_bytes bytes are = absurd (cc)
has_coded list (t ∷ lines) (c ∷ codes) list_bytes bytes are =
    let here : position_of (line_texts list) (text_of t) ≡ Some c = cc in
    let there : position_of list t ≡ Some c = sym (position_of_text list t list_bytes (All-head IsBytes t lines bytes)) ∙ here in
    All-cons (λ x. IsSome (position_of list x)) t lines (ap is_some there) (has_coded list lines codes list_bytes (All-tail IsBytes t lines bytes) (cc))

-- a line is absent if its text is
absent_line : (list lines : List Text) (n : ℕ) → All IsBytes list → All IsBytes lines → IsSomeAnd (slice_get lines n) (λ line. position_of (line_texts list) (text_of line) ≡ None) → IsSomeAnd (slice_get lines n) (λ line. position_of list line ≡ None)
absent_line list [] n list_bytes bytes is = absurd is
absent_line list (t ∷ lines) zero list_bytes bytes is = sym (position_of_text list t list_bytes (All-head IsBytes t lines bytes)) ∙ is
absent_line list (t ∷ lines) (suc n) list_bytes bytes is = absent_line list lines n list_bytes (All-tail IsBytes t lines bytes) is

-- the first line that the list lacks
pub absent_first : (list lines : List Text) (n : ℕ) → All IsBytes list → All IsBytes lines → ((codes : List ℕ) × AreCodes (line_texts list) (take n (line_texts lines)) codes) → IsSomeAnd (slice_get (line_texts lines) n) (λ text. position_of (line_texts list) text ≡ None) → IsAbsent list lines (n + 1)
absent_first list lines n list_bytes bytes found is = (
  n,
  refl,
  has_coded list (take n lines) found.0 list_bytes (All-take IsBytes n lines bytes) (subst (λ (ts : List Text). AreCodes (line_texts list) ts found.0) (take-map text_of n lines) found.1),
  absent_line list lines n list_bytes bytes (some_line lines n (λ text. position_of (line_texts list) text ≡ None) is),
)

-- ---- columns with and without texts

texts_next : (only : Bool) (n : ℕ) (list out : List Text) (rest : List ℕ) (cut : Option (Text × List ℕ)) → on_text only cut list (texts_from only n) ≡ Ok (out, rest) → ((list' : List Text) (bytes' : List ℕ) → texts_from only n list' bytes' ≡ Ok (out, rest) → length out ≡ length list' + n) → length out ≡ length list + suc n
texts_next only n list out rest None e then = absurd (cc)
texts_next only n list out rest (Some cut) e then =
    let list' = list ++ cut.0 ∷ [] in
    let out' : ColumnError = NotUtf8 (length list + 1) in
    let doubled : ColumnError = Doubled (length list + 1) in
    let first : ReadTexts = texts_from only n list' cut.1 in
    let more = then list' cut.1 (plain_test (is_let_in only cut.0) (is_some (position_of list cut.0)) out' doubled first (out, rest) e) in
    let long : length list' ≡ length list + 1 = length-append list (cut.0 ∷ []) in
    omega (arith, more, long)

-- as many texts are read as the header says
texts_length : (only : Bool) (n : ℕ) (list out : List Text) (bytes rest : List ℕ) → texts_from only n list bytes ≡ Ok (out, rest) → length out ≡ length list + n
texts_length only zero list out bytes rest e =
    let both : ◌≡◌ {A = List Text × List ℕ} (list, bytes) (out, rest) = cc in
    let same : length out ≡ length list = ap (λ (p : List Text × List ℕ). length p.0) (sym both) in
    omega (arith, same)
texts_length only (suc n) list out bytes rest e = texts_next only n list out rest (cut_line bytes) e (λ list' bytes' is. texts_length only n list' out bytes' rest is)

or_own : (list texts : List Text) → 0 < length texts → texts_or list texts ≡ texts
or_own list [] some = absurd (omega (arith, some))
or_own list (t ∷ texts) some = refl

-- a column whose header has texts has its own
pub own_texts : (only : Bool) (list texts : List Text) (distinct : ℕ) (bytes rest : List ℕ) → texts_from only distinct [] bytes ≡ Ok (texts, rest) → 0 < distinct → texts_or list texts ≡ texts
own_texts only list texts distinct bytes rest read some = let long = texts_length only distinct [] texts bytes rest read in or_own list texts (omega (arith, long, some))

-- no entry is made of a missing one
pub coded_refuses : (list texts : List Text) → Refuses (coded list texts)
coded_refuses list texts number = refl

-- ---- the dictionary

module _ (only : Bool) (limit : ℕ) (bytes left : List ℕ) (header : Header) (head : head_of bytes ≡ Some (header, left)) where
  -- a text of the dictionary is bad or missing
  pub dictionary_text : (reason : ColumnError) → header.lines ≡ 0 → IsTextError only limit header.distinct left reason → IsDictionaryError only limit bytes reason
  dictionary_text NoHeader none is = absurd is
  dictionary_text HasEntries none is = absurd is
  dictionary_text reason none is = (header, left, head, none, is)

no_header : (only : Bool) (limit : ℕ) (seen : List ℕ) → cut_line seen ≡ None → IsDictionaryCut only limit seen
no_header only limit seen none = (NoHeader, none, ap on_header_line none)

-- a read failed, or there was no memory
pub dictionary_read_fails : (only : Bool) (limit : ℕ) (bytes : List ℕ) (after : Option (List ℕ)) (error : RunError) → IsReadError 0 error → StopsShort bytes after (IsDictionaryCut only limit) → DictionaryError only limit bytes after error
dictionary_read_fails only limit bytes after error is short = by_read_error (DictionaryError only limit bytes after) 0 error is refl short

pub dictionary_header_fails : (only : Bool) (limit : ℕ) (bytes : List ℕ) (after : Option (List ℕ)) (error : RunError) → (IsReadError 0 error × StopsShort bytes after (λ seen. cut_line seen ≡ None)) ⊎ ((error ≡ Column 1 NoHeader) × HasNoHeader bytes) → DictionaryError only limit bytes after error
dictionary_header_fails only limit bytes after error (inl is) =
    dictionary_read_fails only limit bytes after error is.0 (short_as bytes after (λ seen. cut_line seen ≡ None) (IsDictionaryCut only limit) is.1 (no_header only limit))
dictionary_header_fails only limit bytes after error (inr is) = subst (DictionaryError only limit bytes after) (sym is.0) (refl, is.1.1)

pub dictionary_texts_fail : (only : Bool) (limit : ℕ) (bytes left : List ℕ) (header : Header) → head_of bytes ≡ Some (header, left) → header.lines ≡ 0 → (after : Option (List ℕ)) (error : RunError) → TextsError only limit header.distinct 1 left after error → DictionaryError only limit bytes after error
dictionary_texts_fail only limit bytes left header head none after error (inl is) =
    let first = head_local bytes header left head in
    dictionary_read_fails only limit bytes after error is.0 (short_after first.front bytes left after (LacksText only limit header.distinct) (IsDictionaryCut only limit) first.split is.1 (λ seen lacks.
    (NoText lacks.0, tt, dictionary_text only limit (first.front ++ seen) seen header (first.same seen) (NoText lacks.0) none lacks.1)))
dictionary_texts_fail only limit bytes left header head none after error (inr is) =
    subst (DictionaryError only limit bytes after) (sym is.1) (refl, dictionary_text only limit bytes left header head is.0 none is.2)

-- ---- the texts and entries of a column

-- a read failed, or there was no memory
body_read_fails : (only : Bool) (limit : ℕ) (list : List Text) (header : Header) (bytes : List ℕ) (column : ℕ) (after : Option (List ℕ)) (error : RunError) → IsReadError 0 error → StopsShort bytes after (IsBodyCut only limit list header) → BodyError only limit list header bytes column after error
body_read_fails only limit list header bytes column after error is short = by_read_error (BodyError only limit list header bytes column after) 0 error is refl short

pub body_unmade : (only : Bool) (limit : ℕ) (list : List Text) (header : Header) (bytes : List ℕ) (column : ℕ) (after : Option (List ℕ)) (error : RunError) → error ≡ Line (Refused 0 FailedAllocation) → BodyError only limit list header bytes column after error
body_unmade only limit list header bytes column after error is = subst (BodyError only limit list header bytes column after) (sym is) refl

pub body_texts_fail : (only : Bool) (limit : ℕ) (list : List Text) (header : Header) (bytes : List ℕ) (column : ℕ) (after : Option (List ℕ)) (error : RunError) → TextsError only limit header.distinct column bytes after error → BodyError only limit list header bytes column after error
body_texts_fail only limit list header bytes column after error (inl is) =
    body_read_fails only limit list header bytes column after error is.0 (short_as bytes after (LacksText only limit header.distinct) (IsBodyCut only limit list header) is.1 (λ seen lacks. inl lacks))
body_texts_fail only limit list header bytes column after error (inr is) = subst (BodyError only limit list header bytes column after) (sym is.1) (refl, inl is.2)

module _ (only : Bool) (limit : ℕ) (list : List Text) (header : Header) (bytes : List ℕ) (column : ℕ) (texts : List Text) (mid : List ℕ) (has : HasTexts only limit header bytes texts mid) where
  -- a text is absent
  pub body_absent : (after : Option (List ℕ)) (error : RunError) (number : ℕ) → error ≡ Column column (Absent number) → IsAbsent list texts number → BodyError only limit list header bytes column after error
  body_absent after error number is absent = subst (BodyError only limit list header bytes column after) (sym is) (refl, inr (texts, mid, has, inl (number, refl, absent)))

  -- codes were not found
  pub body_find_fails : (after : Option (List ℕ)) (error : RunError) → All IsBytes list → All IsBytes texts → IsFindFailure (line_texts list) (line_texts texts) column error → BodyError only limit list header bytes column after error
  body_find_fails after error list_bytes texts_bytes (inl is) = body_unmade only limit list header bytes column after error is
  body_find_fails after error list_bytes texts_bytes (inr (number, n, is, count, found, absent)) =
      body_absent after error number is (subst (IsAbsent list texts) (sym count) (absent_first list texts n list_bytes texts_bytes found absent))

  module _ (all : HasAll list texts) (list_bytes : All IsBytes list) (or_bytes : All IsBytes (texts_or list texts)) where
    abbrev reads : List ℕ → ReadItems (Option ℕ)
    reads = entry_items (coded list texts) header

    abbrev reads_texts : List ℕ → ReadItems (Option ℕ)
    reads_texts = entry_items (recoded (line_texts list) (line_texts (texts_or list texts))) header

    same_items : (bs : List ℕ) → reads bs ≡ reads_texts bs
    same_items bs = recoded_items list (texts_or list texts) list_bytes or_bytes header.lines header.binary 1 bs

    -- the entries were added
    pub body_ends : (left : Option (List ℕ)) (before after : List ℕ) (rest : List ℕ) → left ≡ Some rest → (reads_texts mid).1 ≡ Ok rest → map entry_at after ≡ map entry_at before ++ (reads_texts mid).0 → AddsColumn only limit list header bytes column left before after (Ok tt)
    body_ends left before after rest is ended added = (
      texts,
      mid,
      rest,
      has,
      all,
      is,
      ap (λ (r : ReadItems (Option ℕ)). r.1) (same_items mid) ∙ ended,
      added ∙ ap (λ (r : ReadItems (Option ℕ)). map entry_at before ++ r.0) (sym (same_items mid)),
    )

    -- an entry is missing in what was read
    entries_cut_off : (after : Option (List ℕ)) → StopsShort mid after (LacksEntry reads_texts (λ _. Unit {0})) → StopsShort bytes after (IsBodyCut only limit list header)
    entries_cut_off after short =
        let t = texts_local only header.distinct [] texts bytes mid has.0 in
        short_after t.front bytes mid after (LacksEntry reads_texts (λ _. Unit {0})) (IsBodyCut only limit list header) t.split short (λ seen lacks.
        inr (texts, seen, (t.same seen, has.1), all, (lacks.0, ap (λ (r : ReadItems (Option ℕ)). r.1) (same_items seen) ∙ lacks.1, tt)))

    pub body_entries_fail : (after : Option (List ℕ)) (error : RunError) → EntriesError (reads_texts mid) column error → (error ≡ ReadFailed → StopsShort mid after (LacksEntry reads_texts (λ _. Unit {0}))) → BodyError only limit list header bytes column after error
    body_entries_fail after (Line error) is short = is
    body_entries_fail after TooManyLines is short = absurd is
    body_entries_fail after ReadFailed is short = entries_cut_off after (short refl)
    body_entries_fail after WriteFailed is short = absurd is
    body_entries_fail after ReaderGone is short = absurd is
    body_entries_fail after (Column number error) is short =
        (is.0, inr (texts, mid, has, inr (all, is.1, ap (λ (r : ReadItems (Option ℕ)). r.1) (same_items mid) ∙ is.2)))

    -- the entries were added, or not all
    pub body_result : (left : Option (List ℕ)) (before after : List ℕ) (result : Result (Unit {0}) RunError) → AddsEntries reads_texts mid column left before after result → AddsColumn only limit list header bytes column left before after result
    body_result left before after (Ok x) is = body_ends left before after is.0 is.1 is.2 is.3
    body_result left before after (Err error) is = body_entries_fail left error is.0 is.1

-- a column without texts
pub no_texts : (only : Bool) (limit : ℕ) (header : Header) (bytes : List ℕ) → header.distinct ≡ 0 → HasTexts only limit header bytes [] bytes
no_texts only limit header bytes none = (ap (λ n. texts_from only n [] bytes) none, (made_with 4096 limit, (refl, refl)))

-- ---- one column of the rest

module _ (only : Bool) (limit : ℕ) (list : List Text) (n : ℕ) (bytes left : List ℕ) (header : Header) (head : head_of bytes ≡ Some (header, left)) where
  unread : (reason : ColumnError) → texts_from only header.distinct [] left ≡ Err reason → Admits limit (line_texts (texts_before only header.distinct left reason)) → ((coded_entries only list bytes).1 ≡ Err reason) × Admits limit (line_texts (head_before only (head_of bytes) reason))
  unread reason is texts = (
    ap (λ (r : ReadItems (Option ℕ)). r.1) (column_unread only (coded list) bytes left header head reason is),
    subst (λ (ts : List Text). Admits limit (line_texts ts)) (sym (before_error only bytes left header head reason)) texts,
  )

  text_fails : (reason : ColumnError) → IsTextError only limit header.distinct left reason → IsRecodeError only limit list n bytes reason
  text_fails NoHeader is = absurd is
  text_fails (TextRefused number error) is = (((header, left), head, is), λ entry. absurd entry)
  text_fails (NotMerged error) is = absurd is
  text_fails HasEntries is = absurd is
  text_fails (Absent number) is = absurd is
  text_fails (NoText number) is = (unread (NoText number) is.0 is.1, λ entry. absurd entry)
  text_fails (NotUtf8 number) is = (unread (NotUtf8 number) is.0 is.1, λ entry. absurd entry)
  text_fails (Doubled number) is = (unread (Doubled number) is.0 is.1, λ entry. absurd entry)
  text_fails (NoEntry number) is = absurd is
  text_fails (NotEntry number) is = absurd is
  text_fails (PastTexts number) is = absurd is
  text_fails (IsNull number) is = absurd is

  module _ (texts : List Text) (mid : List ℕ) (has : HasTexts only limit header left texts mid) where
    here : texts_at only bytes ≡ texts
    here = texts_read only bytes left header head texts mid has.0

    entry_fails : (error : ColumnError) → HasAll list texts → IsEntryError error → (entry_items (coded list texts) header mid).1 ≡ Err error → IsRecodeError only limit list n bytes error
    entry_fails NoHeader all is e = absurd is
    entry_fails (Absent number) all is e = absurd is
    entry_fails error all is e = (
      entry_error only (coded list) limit bytes error is (subst (λ (ts : List Text). Admits limit (line_texts ts)) (sym here) has.1)
          (ap (λ (r : ReadItems (Option ℕ)). r.1) (column_read only (coded list) bytes left header head texts mid has.0) ∙ e),
      λ entry. subst (HasAll list) (sym here) all,
    )

  pub body_fails : (error : ColumnError) → IsBodyError only limit list header left error → IsRecodeError only limit list n bytes error
  body_fails error (inl is) = text_fails error is
  body_fails error (inr (texts, mid, has, inl (number, is, absent))) = subst (IsRecodeError only limit list n bytes) (sym is) (header, left, mid, texts, head, has.0, has.1, absent)
  body_fails error (inr (texts, mid, has, inr (all, is, e))) = entry_fails texts mid has error all is e

  abbrev IsPart : List ℕ → Type 0
  IsPart seen = (seen ≡ []) ⊎ ((error : ColumnError) × IsCut seen error × IsRecodeError only limit list n seen error)

  pub body_cut : IsBodyCut only limit list header left → IsPart bytes
  body_cut (inl lacks) = inr (NoText lacks.0, tt, text_fails (NoText lacks.0) lacks.1)
  body_cut (inr (texts, mid, has, all, lacks)) = inr (NoEntry lacks.0, tt, entry_fails texts mid has (NoEntry lacks.0) all tt lacks.1)

-- ---- columns on their way

-- the columns before this one were taken, and the rest is left. Whatever follows these columns, they are taken so
pub record Recoding (only : Bool) (limit : ℕ) (list : List Text) (bytes rest : List ℕ) (column : ℕ) (entries : List (Option ℕ)) : Type 0 where
  pub count : ℕ
  pub front : List ℕ
  pub split : bytes ≡ front ++ rest
  pub any : (more : List ℕ) → Recodes only limit list count (front ++ more) entries more
  pub counted : count + 2 ≡ column

-- there was no memory for the table of the dictionary's codes
pub columns_unmade : (only : Bool) (limit : ℕ) (list : List Text) (bytes : List ℕ) (after : Option (List ℕ)) (error : RunError) → error ≡ Line (Refused 0 FailedAllocation) → ColumnsError only limit list bytes after error
columns_unmade only limit list bytes after error is = subst (ColumnsError only limit list bytes after) (sym is) refl

-- no column was read
pub recoding_begins : (only : Bool) (limit : ℕ) (list : List Text) (bytes : List ℕ) (numbers : List ℕ) → numbers ≡ [] → Recoding only limit list bytes bytes 2 (map entry_at numbers)
recoding_begins only limit list bytes numbers none = record {
  count = 0;
  front = [];
  split = refl;
  any = λ more. (ap (map entry_at) none, refl);
  counted = refl;
}

module _ (only : Bool) (limit : ℕ) (list : List Text) (bytes rest : List ℕ) (column : ℕ) (entries : List (Option ℕ)) (way : Recoding only limit list bytes rest column entries) where
  so_far : Recodes only limit list way.count bytes entries rest
  so_far = subst (λ bs. Recodes only limit list way.count bs entries rest) (sym way.split) (way.any rest)

  -- the input has ended, after a column
  pub recoding_ends : (after : Option (List ℕ)) → rest ≡ [] → 2 < column → AddsColumns only limit list bytes after entries (Ok tt)
  recoding_ends after none some =
      let n = way.count - 1 in
      let counted = way.counted in
      let all : way.count ≡ n + 1 = omega (arith, counted, some) in
      (n, subst (λ k. Recodes only limit list k bytes entries []) all (subst (λ bs. Recodes only limit list way.count bytes entries bs) none so_far))

  -- the column is bad
  column_fails : (after : Option (List ℕ)) (error : ColumnError) → IsRecodeError only limit list way.count rest error → ColumnsError only limit list bytes after (Column column error)
  column_fails after error is = (way.count, entries, rest, so_far, sym way.counted, is)

  -- or before one
  pub recoding_none : (after : Option (List ℕ)) → rest ≡ [] → column ≡ 2 → ColumnsError only limit list bytes after (Column 2 NoHeader)
  recoding_none after none first =
      let counted = way.counted in
      subst (λ k. ColumnsError only limit list bytes after (Column k NoHeader)) first (column_fails after NoHeader (ap head_of none, λ _. let zero_is : way.count ≡ 0 = omega (arith, counted, first) in zero_is))

  -- there are more columns than `usize` can number
  pub recoding_many : (after : Option (List ℕ)) → 2 ^ 64 - 1 ≤ column → ColumnsError only limit list bytes after TooManyLines
  recoding_many after many = let counted = way.counted in (way.count, entries, rest, so_far, omega (arith, counted, many))

  abbrev IsRest : List ℕ → Type 0
  IsRest seen = (seen ≡ []) ⊎ ((error : ColumnError) × IsCut seen error × IsRecodeError only limit list way.count seen error)

  -- a read failed, or there was no memory
  pub recoding_read_fails : (after : Option (List ℕ)) (error : RunError) → IsReadError 0 error → StopsShort rest after IsRest → ColumnsError only limit list bytes after error
  recoding_read_fails after error is short =
      by_read_error (ColumnsError only limit list bytes after) 0 error is refl
      (short_after way.front bytes rest after IsRest (ColumnsShort only limit list) way.split short (λ seen ends. (way.count, entries, seen, way.any seen, ends)))

  -- the bytes are none, or a header line that does not end
  header_cut : (seen : List ℕ) → cut_line seen ≡ None → IsRest seen
  header_cut [] none = inl refl
  header_cut (b ∷ seen) none = inr (NoHeader, none, (ap on_header_line none, λ empty. absurd (cc)))

  some_bytes : (bs : List ℕ) → 0 < length bs → bs ≡ [] → way.count ≡ 0
  some_bytes [] some none = absurd (omega (arith, some))
  some_bytes (b ∷ bs) some none = absurd (cc)

  pub recoding_header_fails : (after : Option (List ℕ)) (error : RunError) → (IsReadError 0 error × StopsShort rest after (λ seen. cut_line seen ≡ None)) ⊎ ((error ≡ Column column NoHeader) × HasNoHeader rest) → ColumnsError only limit list bytes after error
  recoding_header_fails after error (inl is) = recoding_read_fails after error is.0 (short_as rest after (λ seen. cut_line seen ≡ None) IsRest is.1 header_cut)
  recoding_header_fails after error (inr is) = subst (ColumnsError only limit list bytes after) (sym is.0) (column_fails after NoHeader (is.1.1, some_bytes rest is.1.0))

  module _ (header : Header) (left : List ℕ) (head : head_of rest ≡ Some (header, left)) where
    pub recoding_body_fails : (after : Option (List ℕ)) (error : RunError) → BodyError only limit list header left column after error → ColumnsError only limit list bytes after error
    recoding_body_fails after (Line error) is = is
    recoding_body_fails after TooManyLines is = absurd is
    recoding_body_fails after ReadFailed is =
        let h = head_local rest header left head in
        recoding_read_fails after ReadFailed tt (short_after h.front rest left after (IsBodyCut only limit list header) IsRest h.split is (λ seen cut. body_cut only limit list way.count (h.front ++ seen) seen header (h.same seen) cut))
    recoding_body_fails after WriteFailed is = absurd is
    recoding_body_fails after ReaderGone is = absurd is
    recoding_body_fails after (Column number error) is =
        subst (λ k. ColumnsError only limit list bytes after (Column k error)) (sym is.0) (column_fails after error (body_fails only limit list way.count rest left header head error is.1))

    -- one column more
    pub recoding_push : (texts : List Text) (mid others : List ℕ) (entries' : List (Option ℕ)) → HasTexts only limit header left texts mid → HasAll list texts → (entry_items (coded list texts) header mid).1 ≡ Ok others → entries' ≡ entries ++ (entry_items (coded list texts) header mid).0 → Recoding only limit list bytes others (column + 1) entries'
    recoding_push texts mid others entries' has all ended added =
        let items = (entry_items (coded list texts) header mid).0 in
        let col = column_local only (coded list) rest left mid others header texts items (coded_refuses list texts) head has.0 (ap (λ (o : Result (List ℕ) ColumnError). (items, o)) ended) in
        record {
          count = suc way.count;
          front = way.front ++ col.front;
          split = way.split ∙ ap (λ bs. way.front ++ bs) col.split ∙ sym (append_assoc way.front col.front others);
          any = λ later. (
            entries,
            col.front ++ later,
            subst (λ bs. Recodes only limit list way.count bs entries (col.front ++ later)) (sym (append_assoc way.front col.front later)) (way.any (col.front ++ later)),
            subst (λ (ts : List Text). Admits limit (line_texts ts)) (sym (col.texts later)) has.1,
            subst (HasAll list) (sym (col.texts later)) all,
            ap (λ (r : ReadItems (Option ℕ)). r.1) (col.same later),
            added ∙ ap (λ (r : ReadItems (Option ℕ)). entries ++ r.0) (sym (col.same later)),
          );
          counted = let before : way.count + 2 ≡ column = way.counted in omega (arith, before);
        }

-- ---- a run

-- the dictionary was not read
pub recoding_dictionary_fails : (only : Bool) (input : List ℕ) (limit : ℕ) (after : Option (List ℕ)) (error : RunError) → DictionaryError only limit input after error → RecodingError input only limit after error
recoding_dictionary_fails only input limit after (Line error) is = is
recoding_dictionary_fails only input limit after TooManyLines is = absurd is
recoding_dictionary_fails only input limit after ReadFailed is = short_as input after (IsDictionaryCut only limit) (RecodesShort only limit) is (λ seen cut. inl cut)
recoding_dictionary_fails only input limit after WriteFailed is = absurd is
recoding_dictionary_fails only input limit after ReaderGone is = absurd is
recoding_dictionary_fails only input limit after (Column column error) is = inl is

-- the dictionary and what follows it, whatever that is
dictionary_local : (only : Bool) (limit : ℕ) (input : List ℕ) (list : List Text) (mid : List ℕ) → IsDictionary only limit input list mid → (front : List ℕ) × (input ≡ front ++ mid) × ((more : List ℕ) → IsDictionary only limit (front ++ more) list more)
dictionary_local only limit input list mid (header, left, head, none, read, admits) =
    let h = head_local input header left head in
    let t = texts_local only header.distinct [] list left mid read in (
      h.front ++ t.front,
      h.split ∙ ap (λ bs. h.front ++ bs) t.split ∙ sym (append_assoc h.front t.front mid),
      λ more. (header, t.front ++ more, ap head_of (append_assoc h.front t.front more) ∙ h.same (t.front ++ more), none, t.same more, admits),
    )

-- the columns after it were not all taken
pub recoding_columns_fail : (only : Bool) (input : List ℕ) (limit : ℕ) (list : List Text) (mid : List ℕ) → IsDictionary only limit input list mid → (after : Option (List ℕ)) (error : RunError) → ColumnsError only limit list mid after error → RecodingError input only limit after error
recoding_columns_fail only input limit list mid first after (Line error) is = is
recoding_columns_fail only input limit list mid first after TooManyLines is = (list, mid, first, is)
recoding_columns_fail only input limit list mid first after ReadFailed is =
    let d = dictionary_local only limit input list mid first in
    short_after d.0 input mid after (ColumnsShort only limit list) (RecodesShort only limit) d.1 is (λ seen short. inr (list, seen, d.2 seen, short))
recoding_columns_fail only input limit list mid first after WriteFailed is = absurd is
recoding_columns_fail only input limit list mid first after ReaderGone is = absurd is
recoding_columns_fail only input limit list mid first after (Column column error) is = inr (list, mid, first, is)

-- not all was taken, and nothing is written
pub none_recoded : (only : Bool) (input : List ℕ) (limit : ℕ) (form : List Text → List (Option ℕ) → List ℕ) (after : Option (List ℕ)) (error : RunError) → RecodingError input only limit after error → RecodedEnd input only limit form after [] (Err error)
none_recoded only input limit form after (Line error) is = (refl, is)
none_recoded only input limit form after TooManyLines is = (refl, is)
none_recoded only input limit form after ReadFailed is = (refl, is)
none_recoded only input limit form after WriteFailed is = absurd is
none_recoded only input limit form after ReaderGone is = absurd is
none_recoded only input limit form after (Column column error) is = (refl, is)

-- there was no memory for the interner or the table
pub recoding_unmade : (only : Bool) (input : List ℕ) (limit : ℕ) (after : Option (List ℕ)) (error : RunError) → error ≡ Line (Refused 0 FailedAllocation) → RecodingError input only limit after error
recoding_unmade only input limit after error is = subst (RecodingError input only limit after) (sym is) refl

-- the codes of the dictionary fit
pub dictionary_few : (limit : ℕ) (made now : InternerView) → made ≡ made_with 4096 limit → extend spur_at made now.texts accepted now → length now.texts < 2 ^ 32
dictionary_few limit made now new list =
    let few : length now.texts ≤ 4294967295 = few_texts (made_with 4096 limit) now now.texts (subst (λ (i : InternerView). extend spur_at i now.texts accepted now) new list) (omega arith) in
    omega (arith, few)

-- and the entries
pub recoded_few : (limit : ℕ) (made now : InternerView) (list : List Text) (numbers : List ℕ) → made ≡ made_with 4096 limit → extend spur_at made now.texts accepted now → now.texts ≡ line_texts list → length numbers < 2 ^ 64 → AreFew list (map entry_at numbers)
recoded_few limit made now list numbers new interned texts_are long =
    let few = dictionary_few limit made now new interned in (
      subst (λ n. n < 2 ^ 32) (ap length texts_are ∙ length-map list text_of) few,
      subst (λ n. n < 2 ^ 64) (sym (length-map numbers entry_at)) long,
    )

-- all is written, or a beginning
pub recoded_written : (only : Bool) (input : List ℕ) (limit : ℕ) (form : List Text → List (Option ℕ) → List ℕ) (after : Option (List ℕ)) (list : List Text) (entries : List (Option ℕ)) (part : List ℕ) (result : Result (Unit {0}) RunError) → AreRecoded input only limit list entries → AreFew list entries → WritesAll (form list entries) result part → RecodedEnd input only limit form after part result
recoded_written only input limit form after list entries part (Ok x) are few written = (list, entries, are, few, written)
recoded_written only input limit form after list entries part (Err error) are few written =
    let begun : IsRecodeBegun input only limit form part = inr (list, entries, are, written.1) in by_write_error (λ e. RecodedEnd input only limit form after part (Err e)) error written.0 begun begun

end_begun : (only : Bool) (input : List ℕ) (limit : ℕ) (form : List Text → List (Option ℕ) → List ℕ) (after : Option (List ℕ)) (part : List ℕ) (result : Result (Unit {0}) RunError) → RecodedEnd input only limit form after part result → IsRecodeBegun input only limit form part
end_begun only input limit form after part (Ok x) end = inr (end.0, end.1, end.2, ([], sym end.4 ∙ sym (append-nil part)))
end_begun only input limit form after part (Err (Line error)) end = inl end.0
end_begun only input limit form after part (Err TooManyLines) end = inl end.0
end_begun only input limit form after part (Err ReadFailed) end = inl end.0
end_begun only input limit form after part (Err WriteFailed) end = end
end_begun only input limit form after part (Err ReaderGone) end = end
end_begun only input limit form after part (Err (Column column error)) end = inl end.0

-- the run ends as it did before the flush, or with the error of the flush
pub recoded_then : (only : Bool) (input : List ℕ) (limit : ℕ) (form : List Text → List (Option ℕ) → List ℕ) (after : Option (List ℕ)) (part : List ℕ) (given result : Result (Unit {0}) RunError) → RecodedEnd input only limit form after part given → (result ≡ given) ⊎ IsWriteEnd result → RecodedEnd input only limit form after part result
recoded_then only input limit form after part given result end (inl same) = subst (RecodedEnd input only limit form after part) (sym same) end
recoded_then only input limit form after part given result end (inr is) =
    let begun = end_begun only input limit form after part given end in by_write_end (RecodedEnd input only limit form after part) result is begun begun
