-- The lines of columns, written one after another.
--
-- After each column, the lines so far are written and the bytes after the column are left. Within a column,
-- the lines of the entries so far are written after those. So a run that ends early has written whole lines,
-- up to the error, or a beginning of the lines.
use Rattle.std.proofs.Common.{ℕ, suc, ◌≡◌, ◌+◌, ◌-◌, ◌<◌, Bool, List, [], ◌∷◌, ◌++◌, length, take, drop, Option, Some, None, Result, Ok, Err, ◌⊎◌, refl, sym, ap, subst, ◌∙◌, arith, append_assoc, inl, inr, ◌^◌, ◌≤◌}
use Rattle.std.specs.Prelude.{slice_get}
use Rattle.std.proofs.Math.Seq.{take-append_seam}
use Rattle.std.proofs.lemmas.Grind.{flat_map-append}
use Rattle.std.proofs.lemmas.List.{append-nil, take-append-drop}
use Rattle.lasso_parts.specs.Texts.{Text}
use Rattle.lasso_parts.specs.declared.util.LassoErrorKind.TheVariants.{FailedAllocation}
use Rattle.lasso_columns.specs.declared.faults.LineError.TheVariants.{Refused}
use Rattle.lasso_codes.specs.Decode.{text_or_past, null_line, line_at, decoded, Reads, AdmitsEach, fed_lines, DecodingError, WritesEntry, WritesLines, IsWhole, IsBegun, lines_before, DecodesPart, DecodesShort, DecodeEnd}
use Rattle.lasso_codes.specs.Distinct.{with_feed}
use Rattle.lasso_codes.specs.Errors.{IsReadError, IsWriteEnd}
use Rattle.lasso_codes.specs.Limits.{line_texts, Admits}
use Rattle.lasso_codes.specs.Stages.{LinesAhead}
use Rattle.lasso_codes.specs.Reading.{Makes, ReadItems, cut_entry, entry_items, items_from, head_of, on_header_line, texts_at, texts_from, on_head, HasNoHeader, IsTextError, LacksEntry, LacksText, TextsError, IsEntryError, IsColumnError}
use Rattle.lasso_codes.specs.Streams.{Begins, StopsShort, WritesAll, cut_line}
use Rattle.lasso_codes.specs.declared.entries.Entry.{Entry}
use Rattle.lasso_codes.specs.declared.entries.Entry.TheVariants.{Missing, Bad, Null, Code}
use Rattle.lasso_codes.specs.declared.error.ColumnError.{ColumnError}
use Rattle.lasso_codes.specs.declared.error.ColumnError.TheVariants.{NoHeader, NoText, TextRefused, NoEntry, NotEntry, PastTexts, IsNull, NotMerged, HasEntries, Absent}
use Rattle.lasso_codes.specs.declared.error.RunError.{RunError}
use Rattle.lasso_codes.specs.declared.error.RunError.TheVariants.{Line, TooManyLines, ReadFailed, WriteFailed, ReaderGone, Column}
use Rattle.lasso_codes.specs.declared.reading.Header.{Header}
use Rattle.lasso_codes.proofs.Cuts.{ColumnRead, Refuses, entries_cut, head_local, short_after, short_as, texts_local}
use Rattle.lasso_codes.proofs.Items.{before_error, column_read, column_unread, entries_all, entries_fail, entries_first, entries_push, entry_error, texts_read}
use Rattle.lasso_codes.proofs.Failing.{by_read_error, by_write_end, by_write_error}

-- ---- the bytes of lines

pub fed_both : (xs ys : List Text) → fed_lines (xs ++ ys) ≡ fed_lines xs ++ fed_lines ys
fed_both xs ys = flat_map-append with_feed xs ys

pub fed_push : (lines : List Text) (line : Text) → fed_lines (lines ++ line ∷ []) ≡ fed_lines lines ++ with_feed line
fed_push lines line = fed_both lines (line ∷ []) ∙ ap (λ bs. fed_lines lines ++ bs) (append-nil (with_feed line))

fed_begins : (xs ys : List Text) → Begins (fed_lines xs) (fed_lines (xs ++ ys))
fed_begins xs ys = (fed_lines ys, fed_both xs ys)

begins_self : (part whole : List ℕ) → part ≡ whole → Begins part whole
begins_self part whole same = ([], sym same ∙ sym (append-nil part))

-- a beginning of what follows the part
begun_more : (part more line whole : List ℕ) → Begins (part ++ line) whole → Begins more line → Begins (part ++ more) whole
begun_more part more line whole front b =
    (b.0 ++ front.0, front.1 ∙ ap (λ bs. (part ++ bs) ++ front.0) b.1 ∙ ap (λ bs. bs ++ front.0) (sym (append_assoc part more b.0)) ∙ append_assoc (part ++ more) b.0 front.0)

-- a beginning of lines after other lines
begins_after : (part more : List ℕ) (xs ys : List Text) → part ≡ fed_lines xs → Begins more (fed_lines ys) → Begins (part ++ more) (fed_lines (xs ++ ys))
begins_after part more xs ys is b =
    (b.0, fed_both xs ys ∙ ap (λ bs. bs ++ fed_lines ys) (sym is) ∙ ap (λ bs. part ++ bs) b.1 ∙ sym (append_assoc part more b.0))

-- ---- the lines of a column on their way

-- a read failed, or there was no memory
lines_some : (read : ReadItems Text) (column m : ℕ) (part : List ℕ) (error : RunError) → part ≡ fed_lines (take m read.0) → IsReadError 0 error → DecodingError read column part error
lines_some read column m part error first is = by_read_error (DecodingError read column part) 0 error is (refl, (m, first)) (m, first)

-- a part of a line was written
lines_begun : (read : ReadItems Text) (column : ℕ) (line : Text) (part more : List ℕ) (error : RunError) → Begins (part ++ with_feed line) (fed_lines read.0) → WritesAll (with_feed line) (Err error) more → DecodingError read column (part ++ more) error
lines_begun read column line part more error front written =
    let begun = begun_more part more (with_feed line) (fed_lines read.0) front written.1 in by_write_error (DecodingError read column (part ++ more)) error written.0 begun begun

module _ (make : Makes Text) (header : Header) (bytes rest : List ℕ) (count : ℕ) (part : List ℕ) (so_far : LinesAhead make header.binary bytes rest count part) where
  abbrev lines_read : ReadItems Text
  lines_read = entry_items make header bytes

  -- one line more
  pub lines_push : (entry : Entry) (left more : List ℕ) (line : Text) → cut_entry header.binary rest ≡ (entry, left) → make entry (count + 1) ≡ Ok line → more ≡ with_feed line → LinesAhead make header.binary bytes left (count + 1) (part ++ more)
  lines_push entry left more line cut is written = record {
    done = so_far.done ++ line ∷ [];
    read = entries_push make header.binary bytes rest count so_far.done so_far.read entry left line cut is;
    part_is = ap (λ bs. bs ++ more) so_far.part_is ∙ ap (λ bs. fed_lines so_far.done ++ bs) written ∙ sym (fed_push so_far.done line);
  }

  -- a line is not written as a whole
  pub lines_write_fails : (entry : Entry) (left more : List ℕ) (line : Text) (column : ℕ) (error : RunError) → count < header.lines → cut_entry header.binary rest ≡ (entry, left) → make entry (count + 1) ≡ Ok line → WritesAll (with_feed line) (Err error) more → DecodingError lines_read column (part ++ more) error
  lines_write_fails entry left more line column error small cut is written =
      let now = entries_push make header.binary bytes rest count so_far.done so_far.read entry left line cut is in
      let all = entries_first make header.binary bytes left (count + 1) (so_far.done ++ line ∷ []) now header.lines (omega (arith, small)) in
      let front : part ++ with_feed line ≡ fed_lines (so_far.done ++ line ∷ []) = ap (λ bs. bs ++ with_feed line) so_far.part_is ∙ sym (fed_push so_far.done line) in
      let whole : fed_lines lines_read.0 ≡ (part ++ with_feed line) ++ fed_lines all.0.0 =
      ap (λ (r : ReadItems Text). fed_lines r.0) all.1 ∙ fed_both (so_far.done ++ line ∷ []) all.0.0 ∙ ap (λ bs. bs ++ fed_lines all.0.0) (sym front) in
      lines_begun lines_read column line part more error (fed_lines all.0.0, whole) written

  -- a read failed
  pub lines_read_fails : (column : ℕ) (error : RunError) → count ≤ header.lines → IsReadError 0 error → DecodingError lines_read column part error
  lines_read_fails column error few is =
      let all = entries_first make header.binary bytes rest count so_far.done so_far.read header.lines few in
      let first : take (length so_far.done) lines_read.0 ≡ so_far.done = ap (λ (r : ReadItems Text). take (length so_far.done) r.0) all.1 ∙ take-append_seam so_far.done all.0.0 in
      lines_some lines_read column (length so_far.done) part error (so_far.part_is ∙ ap fed_lines (sym first)) is

  -- and the lines before the entry that is missing were written
  pub lines_cut : (after : Option (List ℕ)) → Refuses make → count < header.lines → StopsShort rest after (λ seen. cut_entry header.binary seen ≡ (Missing, [])) → StopsShort bytes after (LacksEntry (entry_items make header) (λ lines. part ≡ fed_lines lines))
  lines_cut after refuses small short =
      short_as bytes after (λ seen. items_from make header.lines header.binary 1 seen ≡ (so_far.done, Err (NoEntry (count + 1)))) (LacksEntry (entry_items make header) (λ lines. part ≡ fed_lines lines))
      (entries_cut make header.binary count header.lines bytes rest so_far.done after refuses so_far.read small short)
      (λ seen is. (count + 1, ap (λ (r : ReadItems Text). r.1) is, so_far.part_is ∙ ap (λ (r : ReadItems Text). fed_lines r.0) (sym is)))

  -- an entry is bad
  pub lines_entry_fails : (entry : Entry) (left : List ℕ) (column : ℕ) (error : ColumnError) → count < header.lines → cut_entry header.binary rest ≡ (entry, left) → make entry (count + 1) ≡ Err error → IsEntryError error → DecodingError lines_read column part (Column column error)
  lines_entry_fails entry left column error small cut is bad =
      let ended = entries_fail make header.binary bytes rest count so_far.done so_far.read header.lines small entry left cut error is in
      (refl, bad, ap (λ (r : ReadItems Text). r.1) ended, so_far.part_is ∙ ap (λ (r : ReadItems Text). fed_lines r.0) (sym ended))

  -- no entry is left
  pub lines_end : (column : ℕ) (after : Option (List ℕ)) → after ≡ Some rest → count ≡ header.lines → WritesLines (entry_items make header) bytes column after part (Ok tt)
  lines_end column after left all =
      let ended = entries_all make header.binary bytes rest count so_far.done so_far.read header.lines all in
      (rest, left, ap (λ (r : ReadItems Text). r.1) ended, so_far.part_is ∙ ap (λ (r : ReadItems Text). fed_lines r.0) (sym ended))

-- the error of a line's entry
same_error : (error other : ColumnError) → IsEntryError error → ◌≡◌ {A = Result Text ColumnError} (Err error) (Err other) → IsEntryError other
same_error error other is e = let same : error ≡ other = cc in subst IsEntryError same is

past_error : (o : Option Text) (number : ℕ) (error : ColumnError) → text_or_past o number ≡ Err error → IsEntryError error
past_error None number error e = same_error (PastTexts number) error tt e
past_error (Some text) number error e = absurd (cc)

null_error : (null : Option Text) (number : ℕ) (error : ColumnError) → null_line null number ≡ Err error → IsEntryError error
null_error None number error e = same_error (IsNull number) error tt e
null_error (Some word) number error e = absurd (cc)

pub line_error : (null : Option Text) (list : List Text) (entry : Entry) (number : ℕ) (error : ColumnError) → line_at null list entry number ≡ Err error → IsEntryError error
line_error null list Missing number error e = same_error (NoEntry number) error tt e
line_error null list Bad number error e = same_error (NotEntry number) error tt e
line_error null list Null number error e = null_error null number error e
line_error null list (Code code) number error e = past_error (slice_get list code) number error e

-- no line is that of a missing entry
pub line_refuses : (null : Option Text) (list : List Text) → Refuses (line_at null list)
line_refuses null list number = refl

-- the entry at a position; its line is written, or its entry is bad
module _ (null : Option Text) (list : List Text) (header : Header) (bytes rest left : List ℕ) (count : ℕ) (entry : Entry) (part : List ℕ) (small : count < header.lines) (cut : cut_entry header.binary rest ≡ (entry, left)) (so_far : LinesAhead (line_at null list) header.binary bytes rest count part) where
  pub entry_done : (made : Result Text ColumnError) (column : ℕ) (more : List ℕ) → line_at null list entry (count + 1) ≡ made → WritesEntry made column (Ok tt) more → LinesAhead (line_at null list) header.binary bytes left (count + 1) (part ++ more)
  entry_done (Ok line) column more is written = lines_push (line_at null list) header bytes rest count part so_far entry left more line cut is written
  entry_done (Err error) column more is written = absurd (cc)

  pub entry_fails : (made : Result Text ColumnError) (column : ℕ) (more : List ℕ) (error : RunError) → line_at null list entry (count + 1) ≡ made → WritesEntry made column (Err error) more → DecodingError (entry_items (line_at null list) header bytes) column (part ++ more) error
  entry_fails (Ok line) column more error is written = lines_write_fails (line_at null list) header bytes rest count part so_far entry left more line column error small cut is written
  entry_fails (Err reason) column more error is written =
      let told : error ≡ Column column reason = cc in
      let none : part ++ more ≡ part = ap (λ bs. part ++ bs) written.1 ∙ append-nil part in
      rw (told, none) (lines_entry_fails (line_at null list) header bytes rest count part so_far entry left column reason small cut is (line_error null list entry (count + 1) reason is))

-- ---- columns on their way

-- the lines of the columns before this one were written, their dictionaries were within the limit, and the rest
-- is left. Whatever follows these columns, they are read so
pub record ColumnsAhead (only : Bool) (input : List ℕ) (limit : ℕ) (null : Option Text) (rest : List ℕ) (column : ℕ) (part : List ℕ) : Type 0 where
  pub count : ℕ
  pub lines : List Text
  pub front : List ℕ
  pub split : input ≡ front ++ rest
  pub any : (more : List ℕ) → Reads only null count (front ++ more) lines more × AdmitsEach only limit null count (front ++ more)
  pub counted : count + 1 ≡ column
  pub part_is : part ≡ fed_lines lines

-- no column was read
pub columns_begin : (only : Bool) (input : List ℕ) (limit : ℕ) (null : Option Text) → ColumnsAhead only input limit null input 1 []
columns_begin only input limit null = record {
  count = 0;
  lines = [];
  front = [];
  split = refl;
  any = λ more. ((refl, refl), tt);
  counted = refl;
  part_is = refl;
}

module _ (only : Bool) (input : List ℕ) (limit : ℕ) (null : Option Text) (rest : List ℕ) (column : ℕ) (part : List ℕ) (way : ColumnsAhead only input limit null rest column part) where
  way_reads : Reads only null way.count input way.lines rest
  way_reads = subst (λ bs. Reads only null way.count bs way.lines rest) (sym way.split) (way.any rest).0

  way_admits : AdmitsEach only limit null way.count input
  way_admits = subst (λ bs. AdmitsEach only limit null way.count bs) (sym way.split) (way.any rest).1

  -- one column more
  pub columns_push : (left more : List ℕ) (items list : List Text) → ColumnRead only (line_at null) rest left items list → Admits limit (line_texts list) → more ≡ fed_lines items → ColumnsAhead only input limit null left (column + 1) (part ++ more)
  columns_push left more items list col texts written = record {
    count = suc way.count;
    lines = way.lines ++ items;
    front = way.front ++ col.front;
    split = way.split ∙ ap (λ bs. way.front ++ bs) col.split ∙ sym (append_assoc way.front col.front left);
    any = λ later.
        let whole = sym (append_assoc way.front col.front later) in
        let before = way.any (col.front ++ later) in
        let reads = subst (λ bs. Reads only null way.count bs way.lines (col.front ++ later)) whole before.0 in
        let admits = subst (λ bs. AdmitsEach only limit null way.count bs) whole before.1 in (
          (
            way.lines,
            col.front ++ later,
            reads,
            ap (λ (r : ReadItems Text). r.1) (col.same later),
            ap (λ (r : ReadItems Text). way.lines ++ r.0) (sym (col.same later)),
          ),
          (admits, (way.lines, col.front ++ later, reads, subst (λ (ts : List Text). Admits limit (line_texts ts)) (sym (col.texts later)) texts)),
        );
    counted = let before : way.count + 1 ≡ column = way.counted in omega (arith, before);
    part_is = ap (λ bs. bs ++ more) way.part_is ∙ ap (λ bs. fed_lines way.lines ++ bs) written ∙ sym (fed_both way.lines items);
  }

  -- the input has ended
  pub columns_end : (after : Option (List ℕ)) → rest ≡ [] → DecodeEnd input only limit null after part (Ok tt)
  columns_end after none = (way.count, way.lines, subst (λ bs. Reads only null way.count input way.lines bs) none way_reads, way_admits, way.part_is)

  whole_so_far : IsWhole input only limit null part
  whole_so_far = (way.count, way.lines, rest, way_reads, way_admits, (0, λ some. absurd (omega (arith, some)), way.part_is ∙ ap fed_lines (sym (append-nil way.lines))))

  -- there are more columns than `usize` can number
  pub columns_many : (after : Option (List ℕ)) → 2 ^ 64 - 1 ≤ column → DecodeEnd input only limit null after part (Err TooManyLines)
  columns_many after many = let counted = way.counted in (way.count, way.lines, rest, way_reads, way_admits, omega (arith, counted, many), way.part_is)

  -- the bytes of the next column end early
  columns_cut : (after : Option (List ℕ)) (more : List ℕ) → StopsShort rest after (DecodesPart only limit null way.lines (part ++ more)) → StopsShort input after (DecodesShort only limit null (part ++ more))
  columns_cut after more short =
      short_after way.front input rest after (DecodesPart only limit null way.lines (part ++ more)) (DecodesShort only limit null (part ++ more)) way.split short (λ seen ends.
      (way.count, way.lines, seen, (way.any seen).0, (way.any seen).1, ends))

  -- a read failed, or there was no memory
  pub columns_read_fails : (after : Option (List ℕ)) (error : RunError) → IsReadError 0 error → StopsShort rest after (DecodesPart only limit null way.lines (part ++ [])) → DecodeEnd input only limit null after part (Err error)
  columns_read_fails after error is short =
      by_read_error (λ e. DecodeEnd input only limit null after part (Err e)) 0 error is (refl, whole_so_far)
      (whole_so_far, subst (λ bs. StopsShort input after (DecodesShort only limit null bs)) (append-nil part) (columns_cut after [] short))

  pub columns_unmade : (after : Option (List ℕ)) (error : RunError) → error ≡ Line (Refused 0 FailedAllocation) → DecodeEnd input only limit null after part (Err error)
  columns_unmade after error is = subst (λ f. DecodeEnd input only limit null after part (Err f)) (sym is) (refl, whole_so_far)

  -- the header or the dictionary of a column is bad
  no_lines : (bytes : List ℕ) (error : ColumnError) → lines_before only null bytes error ≡ [] → part ≡ fed_lines (way.lines ++ lines_before only null bytes error)
  no_lines bytes error none = way.part_is ∙ ap fed_lines (sym (append-nil way.lines)) ∙ ap (λ (ls : List Text). fed_lines (way.lines ++ ls)) (sym none)

  -- the bytes are none, or a header line that does not end
  header_cut : (seen : List ℕ) → cut_line seen ≡ None → DecodesPart only limit null way.lines (part ++ []) seen
  header_cut [] none = inl (refl, append-nil part ∙ way.part_is)
  header_cut (b ∷ seen) none =
      let head : head_of (b ∷ seen) ≡ None = ap on_header_line none in
      let before : lines_before only null (b ∷ seen) NoHeader ≡ [] = ap (λ (h : Option (Header × List ℕ)). (on_head only (line_at null) h).0) head in
      inr (NoHeader, none, (omega arith, head), append-nil part ∙ no_lines (b ∷ seen) NoHeader before)

  pub columns_header_fails : (after : Option (List ℕ)) (error : RunError) → (IsReadError 0 error × StopsShort rest after (λ seen. cut_line seen ≡ None)) ⊎ ((error ≡ Column column NoHeader) × HasNoHeader rest) → DecodeEnd input only limit null after part (Err error)
  columns_header_fails after error (inl is) =
      columns_read_fails after error is.0 (short_as rest after (λ seen. cut_line seen ≡ None) (DecodesPart only limit null way.lines (part ++ [])) is.1 header_cut)
  columns_header_fails after error (inr is) =
      subst (λ f. DecodeEnd input only limit null after part (Err f)) (sym is.0)
      (way.count, way.lines, rest, way_reads, way_admits, sym way.counted, is.1, no_lines rest NoHeader (ap (λ (h : Option (Header × List ℕ)). (on_head only (line_at null) h).0) is.1.1))

  -- a text of the dictionary is bad or missing
  text_fails : (bytes left : List ℕ) (header : Header) → head_of bytes ≡ Some (header, left) → (reason : ColumnError) → IsTextError only limit header.distinct left reason → IsColumnError only (line_at null) limit bytes reason × (lines_before only null bytes reason ≡ [])
  text_fails bytes left header head NoHeader is = absurd is
  text_fails bytes left header head (NotMerged error) is = absurd is
  text_fails bytes left header head HasEntries is = absurd is
  text_fails bytes left header head (Absent number) is = absurd is
  text_fails bytes left header head (TextRefused number error) is = (((header, left), head, is), refl)
  text_fails bytes left header head (NoEntry number) is = absurd is
  text_fails bytes left header head (NotEntry number) is = absurd is
  text_fails bytes left header head (PastTexts number) is = absurd is
  text_fails bytes left header head (IsNull number) is = absurd is
  text_fails bytes left header head reason is =
      let read : decoded only null bytes ≡ ([], Err reason) = column_unread only (line_at null) bytes left header head reason is.0 in
      let admitted = subst (λ (ts : List Text). Admits limit (line_texts ts)) (sym (before_error only bytes left header head reason)) is.1 in
      ((ap (λ (r : ReadItems Text). r.1) read, admitted), ap (λ (r : ReadItems Text). r.0) read)

  module _ (header : Header) (left : List ℕ) (head : head_of rest ≡ Some (header, left)) where
    texts_cut : (seen : List ℕ) → LacksText only limit header.distinct seen → DecodesPart only limit null way.lines (part ++ []) ((head_local rest header left head).front ++ seen)
    texts_cut seen lacks =
        let first = head_local rest header left head in
        let told = text_fails (first.front ++ seen) seen header (first.same seen) (NoText lacks.0) lacks.1 in
        inr (NoText lacks.0, tt, told.0, append-nil part ∙ no_lines (first.front ++ seen) (NoText lacks.0) told.1)

    pub columns_texts_fail : (after : Option (List ℕ)) (error : RunError) → TextsError only limit header.distinct column left after error → DecodeEnd input only limit null after part (Err error)
    columns_texts_fail after error (inl is) =
        let first = head_local rest header left head in
        columns_read_fails after error is.0 (short_after first.front rest left after (LacksText only limit header.distinct) (DecodesPart only limit null way.lines (part ++ [])) first.split is.1 texts_cut)
    columns_texts_fail after error (inr is) =
        let told = text_fails rest left header head is.0 is.2 in
        subst (λ f. DecodeEnd input only limit null after part (Err f)) (sym is.1) (way.count, way.lines, rest, way_reads, way_admits, sym way.counted, told.0, no_lines rest is.0 told.1)

  -- not all lines of the column are written
  some_lines : (read : ReadItems Text) (more : List ℕ) (m : ℕ) → Admits limit (line_texts (texts_at only rest)) → decoded only null rest ≡ read → more ≡ fed_lines (take m read.0) → IsWhole input only limit null (part ++ more)
  some_lines read more m texts is written = (
    way.count,
    way.lines,
    rest,
    way_reads,
    way_admits,
    (
      m,
      λ some. texts,
      ap (λ bs. bs ++ more) way.part_is ∙ ap (λ bs. fed_lines way.lines ++ bs) (written ∙ ap (λ (r : ReadItems Text). fed_lines (take m r.0)) (sym is))
          ∙ sym (fed_both way.lines (take m (decoded only null rest).0)),
    ),
  )

  line_begins : (read : ReadItems Text) (more : List ℕ) → decoded only null rest ≡ read → Begins more (fed_lines read.0) → IsBegun input only null (part ++ more)
  line_begins read more is b =
      let begun : Begins more (fed_lines (decoded only null rest).0) = subst (λ (r : ReadItems Text). Begins more (fed_lines r.0)) (sym is) b in
      (way.count, way.lines, rest, way_reads, begins_after part more way.lines (decoded only null rest).0 way.part_is begun)

  entry_lines : (bytes : List ℕ) (error : ColumnError) → IsEntryError error → lines_before only null bytes error ≡ (decoded only null bytes).0
  entry_lines bytes (TextRefused number error) is = absurd is
  entry_lines bytes error is = refl

  -- the lines before an entry were written
  before_entry : (bytes more : List ℕ) (read : ReadItems Text) (error : ColumnError) → IsEntryError error → decoded only null bytes ≡ read → more ≡ fed_lines read.0 → part ++ more ≡ fed_lines (way.lines ++ lines_before only null bytes error)
  before_entry bytes more read error bad is written =
      ap (λ bs. bs ++ more) way.part_is ∙ ap (λ bs. fed_lines way.lines ++ bs) (written ∙ ap (λ (r : ReadItems Text). fed_lines r.0) (sym is))
      ∙ sym (fed_both way.lines (decoded only null bytes).0) ∙ ap (λ (ls : List Text). fed_lines (way.lines ++ ls)) (sym (entry_lines bytes error bad))

  module _ (header : Header) (left mid : List ℕ) (list : List Text) (head : head_of rest ≡ Some (header, left)) (texts : texts_from only header.distinct [] left ≡ Ok (list, mid)) (admitted : Admits limit (line_texts list)) where
    abbrev all_read : ReadItems Text
    all_read = entry_items (line_at null list) header mid

    is_read : decoded only null rest ≡ all_read
    is_read = column_read only (line_at null) rest left header head list mid texts

    taken_all : Admits limit (line_texts (texts_at only rest))
    taken_all = subst (λ (ts : List Text). Admits limit (line_texts ts)) (sym (texts_read only rest left header head list mid texts)) admitted

    -- an entry is missing in what was read
    entries_short : (more seen : List ℕ) → LacksEntry (entry_items (line_at null list) header) (λ lines. more ≡ fed_lines lines) seen → DecodesPart only limit null way.lines (part ++ more) ((head_local rest header left head).front ++ ((texts_local only header.distinct [] list left mid texts).front ++ seen))
    entries_short more seen lacks =
        let h = head_local rest header left head in
        let t = texts_local only header.distinct [] list left mid texts in
        let bytes = h.front ++ (t.front ++ seen) in
        let reads = column_read only (line_at null) bytes (t.front ++ seen) header (h.same (t.front ++ seen)) list seen (t.same seen) in
        let taken = subst (λ (ts : List Text). Admits limit (line_texts ts)) (sym (texts_read only bytes (t.front ++ seen) header (h.same (t.front ++ seen)) list seen (t.same seen))) admitted in
        inr (
          NoEntry lacks.0,
          tt,
          entry_error only (line_at null) limit bytes (NoEntry lacks.0) tt taken (ap (λ (r : ReadItems Text). r.1) reads ∙ lacks.1),
          before_entry bytes more (entry_items (line_at null list) header seen) (NoEntry lacks.0) tt reads lacks.2,
        )

    lines_short : (after : Option (List ℕ)) (more : List ℕ) → StopsShort mid after (LacksEntry (entry_items (line_at null list) header) (λ lines. more ≡ fed_lines lines)) → StopsShort rest after (DecodesPart only limit null way.lines (part ++ more))
    lines_short after more short =
        let h = head_local rest header left head in
        let t = texts_local only header.distinct [] list left mid texts in
        let ends = DecodesPart only limit null way.lines (part ++ more) in
        short_after h.front rest left after (λ bs. ends (h.front ++ bs)) ends h.split
        (short_after t.front left mid after (LacksEntry (entry_items (line_at null list) header) (λ lines. more ≡ fed_lines lines)) (λ bs. ends (h.front ++ bs)) t.split short (entries_short more)) (λ seen end. end)

    pub columns_lines_fail : (after : Option (List ℕ)) (more : List ℕ) (error : RunError) → DecodingError all_read column more error → (error ≡ ReadFailed → StopsShort mid after (LacksEntry (entry_items (line_at null list) header) (λ lines. more ≡ fed_lines lines))) → DecodeEnd input only limit null after (part ++ more) (Err error)
    columns_lines_fail after more (Line error) told short = (told.0, some_lines all_read more told.1.0 taken_all is_read told.1.1)
    columns_lines_fail after more TooManyLines told short = absurd told
    columns_lines_fail after more ReadFailed told short = (some_lines all_read more told.0 taken_all is_read told.1, columns_cut after more (lines_short after more (short refl)))
    columns_lines_fail after more WriteFailed told short = line_begins all_read more is_read told
    columns_lines_fail after more ReaderGone told short = line_begins all_read more is_read told
    columns_lines_fail after more (Column number error) told short = (
      way.count,
      way.lines,
      rest,
      way_reads,
      way_admits,
      told.0 ∙ sym way.counted,
      entry_error only (line_at null) limit rest error told.1 taken_all (ap (λ (r : ReadItems Text). r.1) is_read ∙ told.2),
      before_entry rest more all_read error told.1 is_read told.3,
    )

-- ---- the end

before_begins : (only : Bool) (null : Option Text) (rest : List ℕ) (lines : List Text) (error : ColumnError) → Begins (fed_lines (lines ++ lines_before only null rest error)) (fed_lines (lines ++ (decoded only null rest).0))
before_begins only null rest lines (TextRefused number error) =
    subst (λ (ls : List Text). Begins (fed_lines ls) (fed_lines (lines ++ (decoded only null rest).0))) (sym (append-nil lines)) (fed_begins lines (decoded only null rest).0)
before_begins only null rest lines error = begins_self _ (fed_lines (lines ++ (decoded only null rest).0)) refl

some_begin : (lines all : List Text) (m : ℕ) → Begins (fed_lines (lines ++ take m all)) (fed_lines (lines ++ all))
some_begin lines all m =
    subst (λ (ls : List Text). Begins (fed_lines (lines ++ take m all)) (fed_lines ls)) (append_assoc lines (take m all) (drop m all) ∙ ap (λ (ls : List Text). lines ++ ls) (take-append-drop m all))
    (fed_begins (lines ++ take m all) (drop m all))

whole_begun : (only : Bool) (input : List ℕ) (limit : ℕ) (null : Option Text) (part : List ℕ) → IsWhole input only limit null part → IsBegun input only null part
whole_begun only input limit null part w =
    let all = (decoded only null w.2).0 in
    (w.0, w.1, w.2, w.3, subst (λ bs. Begins bs (fed_lines (w.1 ++ all))) (sym w.5.2) (some_begin w.1 all w.5.0))

end_begun : (only : Bool) (input : List ℕ) (limit : ℕ) (null : Option Text) (after : Option (List ℕ)) (part : List ℕ) (result : Result (Unit {0}) RunError) → DecodeEnd input only limit null after part result → IsBegun input only null part
end_begun only input limit null after part (Ok x) end = (end.0, end.1, [], end.2, begins_self part (fed_lines (end.1 ++ [])) (end.4 ∙ ap fed_lines (sym (append-nil end.1))))
end_begun only input limit null after part (Err (Line error)) end = whole_begun only input limit null part end.1
end_begun only input limit null after part (Err TooManyLines) end = whole_begun only input limit null part (end.0, end.1, end.2, end.3, end.4, (0, λ some. absurd (omega (arith, some)), end.6 ∙ ap fed_lines (sym (append-nil end.1))))
end_begun only input limit null after part (Err ReadFailed) end = whole_begun only input limit null part end.0
end_begun only input limit null after part (Err WriteFailed) end = end
end_begun only input limit null after part (Err ReaderGone) end = end
end_begun only input limit null after part (Err (Column column error)) end =
    (end.0, end.1, end.2, end.3, subst (λ bs. Begins bs (fed_lines (end.1 ++ (decoded only null end.2).0))) (sym end.7) (before_begins only null end.2 end.1 error))

-- the run ends as it did before the flush, or with the error of the flush
pub end_then : (only : Bool) (input : List ℕ) (limit : ℕ) (null : Option Text) (after : Option (List ℕ)) (part : List ℕ) (given result : Result (Unit {0}) RunError) → DecodeEnd input only limit null after part given → (result ≡ given) ⊎ IsWriteEnd result → DecodeEnd input only limit null after part result
end_then only input limit null after part given result end (inl same) = subst (DecodeEnd input only limit null after part) (sym same) end
end_then only input limit null after part given result end (inr is) =
    let begun = end_begun only input limit null after part given end in by_write_end (DecodeEnd input only limit null after part) result is begun begun
