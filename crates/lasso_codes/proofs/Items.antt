-- Entries that are read one after another, and the items that they stand for.
--
-- The items of all entries are those of the first entries, and then those of the others. With one entry more, its item is
-- the last of the first ones. At a bad entry, the items so far are all, and its error is the error of all.
use Rattle.std.proofs.Common.{ℕ, suc, ◌≡◌, zero, ◌+◌, ◌-◌, ◌<◌, ◌≤◌, Bool, false, ◌⊎◌, List, [], ◌∷◌, ◌++◌, Option, Some, None, Result, Ok, Err, refl, sym, ap, subst, ◌∙◌, append_assoc, arith, inl, inr}
use Rattle.std.proofs.lemmas.List.{append-nil}
use Rattle.lasso_parts.specs.Texts.{Text}
use Rattle.lasso_single.specs.Filling.{extend}
use Rattle.lasso_single.specs.Interner.{InternerView, made_with}
use Rattle.lasso_single.specs.Coding.{spur_at}
use Rattle.lasso_codes.specs.Reading.{Makes, ReadItems, ReadTexts, TakesEntry, TakesHeader, HeaderError, HasNoHeader, cut_entry, on_entry_line, on_item, items_from, texts_from, read_list, first_texts, texts_before, head_of, head_list, head_before, texts_at, on_texts, on_head, read_column, IsEntryError, IsColumnError}
use Rattle.lasso_codes.specs.Streams.{CutsLine, StopsShort, cut_line}
use Rattle.lasso_codes.specs.declared.entries.Entry.{Entry}
use Rattle.lasso_codes.specs.declared.entries.Entry.TheVariants.{Missing}
use Rattle.lasso_codes.specs.declared.input.Cut.{Cut}
use Rattle.lasso_codes.specs.declared.input.Cut.TheVariants.{Part, End}
use Rattle.lasso_codes.specs.declared.error.ColumnError.{ColumnError}
use Rattle.lasso_codes.specs.declared.error.ColumnError.TheVariants.{NoHeader, NoText, NotUtf8, Doubled, TextRefused}
use Rattle.lasso_codes.specs.declared.error.RunError.{RunError}
use Rattle.lasso_codes.specs.declared.error.RunError.TheVariants.{Column}
use Rattle.lasso_codes.specs.Errors.{IsReadError}
use Rattle.lasso_codes.specs.Limits.{line_texts, Admits}
use Rattle.lasso_codes.specs.declared.reading.Header.{Header}
use Rattle.lasso_codes.proofs.Feeds.{no_cut}

item_next : {X : Type 0} (make : Makes X) (n : ℕ) (binary : Bool) (number : ℕ) (bytes rest : List ℕ) (entry : Entry) → cut_entry binary bytes ≡ (entry, rest) → items_from make (suc n) binary number bytes ≡ on_item (make entry number) (items_from make n binary (number + 1) rest)
item_next make n binary number bytes rest entry cut = ap (λ (c : Entry × List ℕ). on_item (make c.0 number) (items_from make n binary (number + 1) c.1)) cut

-- the items of the first entries, and then those of the others
both_items : {X : Type 0} (made : Result X ColumnError) (first whole others : ReadItems X) (done : List X) (rest : List ℕ) → on_item made first ≡ (done, Ok rest) → ((items : List X) → first ≡ (items, Ok rest) → whole ≡ (items ++ others.0, others.1)) → on_item made whole ≡ (done ++ others.0, others.1)
both_items {X} (Err error) first whole others done rest e then =
    let no : ◌≡◌ {A = Result (List ℕ) ColumnError} (Err error) (Ok rest) = ap (λ (r : ReadItems X). r.1) e in absurd (cc)
both_items {X} (Ok item) first whole others done rest e then =
    let ended : first.1 ≡ Ok rest = ap (λ (r : ReadItems X). r.1) e in
    let more = then first.0 (ap (λ (o : Result (List ℕ) ColumnError). (first.0, o)) ended) in
    ap (λ (r : ReadItems X). on_item (Ok item) r) more ∙ ap (λ (r : ReadItems X). (r.0 ++ others.0, others.1)) e

items_split : {X : Type 0} (make : Makes X) (n m : ℕ) (binary : Bool) (number : ℕ) (bytes rest : List ℕ) (done : List X) → items_from make n binary number bytes ≡ (done, Ok rest) → items_from make (n + m) binary number bytes ≡ (done ++ (items_from make m binary (number + n) rest).0, (items_from make m binary (number + n) rest).1)
items_split {X} make zero m binary number bytes rest done e =
    let left : ◌≡◌ {A = Result (List ℕ) ColumnError} (Ok bytes) (Ok rest) = ap (λ (r : ReadItems X). r.1) e in
    let same : bytes ≡ rest = cc in
    let none : [] ≡ done = ap (λ (r : ReadItems X). r.0) e in
    let count : zero + m ≡ m = omega arith in
    let next : number ≡ number + zero = omega arith in
    ap (λ k. items_from make k binary number bytes) count ∙ ap (λ bs. items_from make m binary number bs) same ∙ ap (λ k. items_from make m binary k rest) next
    ∙ ap (λ (xs : List X). (xs ++ (items_from make m binary (number + zero) rest).0, (items_from make m binary (number + zero) rest).1)) none
items_split {X} make (suc n) m binary number bytes rest done e =
    let cut = cut_entry binary bytes in
    let count : suc n + m ≡ suc (n + m) = omega arith in
    let next : number + 1 + n ≡ number + suc n = omega arith in
    ap (λ k. items_from make k binary number bytes) count
    ∙ both_items (make cut.0 number) (items_from make n binary (number + 1) cut.1) (items_from make (n + m) binary (number + 1) cut.1) (items_from make m binary (number + suc n) rest) done rest e (λ items is.
    items_split make n m binary (number + 1) cut.1 rest items is ∙ ap (λ k. (items ++ (items_from make m binary k rest).0, (items_from make m binary k rest).1)) next)

-- the first `count` entries were read, and the rest is left
module _ {X : Type 0} (make : Makes X) (binary : Bool) (bytes rest : List ℕ) (count : ℕ) (done : List X) (read : items_from make count binary 1 bytes ≡ (done, Ok rest)) where
  numbered : (entry : Entry) → make entry (1 + count) ≡ make entry (count + 1)
  numbered entry = let same : 1 + count ≡ count + 1 = omega arith in ap (make entry) same

  -- one entry more
  pub entries_push : (entry : Entry) (left : List ℕ) (item : X) → cut_entry binary rest ≡ (entry, left) → make entry (count + 1) ≡ Ok item → items_from make (count + 1) binary 1 bytes ≡ (done ++ item ∷ [], Ok left)
  entries_push entry left item cut is =
      let none : ReadItems X = ([], Ok left) in
      items_split make count 1 binary 1 bytes rest done read
      ∙ ap (λ (r : ReadItems X). (done ++ r.0, r.1)) (item_next make 0 binary (1 + count) rest left entry cut ∙ ap (λ m. on_item m none) (numbered entry ∙ is))

  -- the entry is bad
  pub entries_fail : (lines : ℕ) → count < lines → (entry : Entry) (left : List ℕ) → cut_entry binary rest ≡ (entry, left) → (error : ColumnError) → make entry (count + 1) ≡ Err error → items_from make lines binary 1 bytes ≡ (done, Err error)
  entries_fail lines small entry left cut error is =
      let n = lines - (count + 1) in
      let all : lines ≡ count + suc n = omega (arith, small) in
      let others = items_from make n binary (1 + count + 1) left in
      ap (λ k. items_from make k binary 1 bytes) all ∙ items_split make count (suc n) binary 1 bytes rest done read
      ∙ ap (λ (r : ReadItems X). (done ++ r.0, r.1)) (item_next make n binary (1 + count) rest left entry cut ∙ ap (λ m. on_item m others) (numbered entry ∙ is))
      ∙ ap (λ (xs : List X). (xs, Err error)) (append-nil done)

  -- no entry is left
  pub entries_all : (lines : ℕ) → count ≡ lines → items_from make lines binary 1 bytes ≡ (done, Ok rest)
  entries_all lines all = subst (λ n. items_from make n binary 1 bytes ≡ (done, Ok rest)) all read

  -- the items so far are the first ones, and the others follow
  pub entries_first : (lines : ℕ) → count ≤ lines → (others : ReadItems X) × (items_from make lines binary 1 bytes ≡ (done ++ others.0, others.1))
  entries_first lines few =
      let m = lines - count in
      let all : lines ≡ count + m = omega (arith, few) in
      (items_from make m binary (1 + count) rest, ap (λ k. items_from make k binary 1 bytes) all ∙ items_split make count m binary 1 bytes rest done read)

-- the entry is missing
pub entry_missing : (before after : Option (List ℕ)) (cut : Cut) (line : List ℕ) (binary : Bool) → CutsLine before after cut line → (cut ≡ Part) ⊎ (cut ≡ End) → binary ≡ false → TakesEntry binary before after Missing
entry_missing before after cut line binary cuts which lines = λ bytes e.
    let none = no_cut before after cut line cuts which bytes e in ([], none.0, ap (λ b. cut_entry b bytes) lines ∙ ap on_entry_line none.1)

-- a header was read
pub header_taken : (before after : Option (List ℕ)) (told : Option Header) (header : Header) → TakesHeader before after told → told ≡ Some header → TakesHeader before after (Some header)
header_taken before after told header taken is = subst (λ (o : Option Header). TakesHeader before after o) is taken

-- there was no header
pub header_none : (before after : Option (List ℕ)) (told : Option Header) → TakesHeader before after told → told ≡ None → (bytes : List ℕ) → before ≡ Some bytes → bytes ≡ []
header_none before after told taken is = subst (λ (o : Option Header). TakesHeader before after o) is taken

-- the header was not read
pub header_unread : (before after : Option (List ℕ)) (column : ℕ) (error : RunError) (bytes : List ℕ) → HeaderError before after column error → before ≡ Some bytes → (IsReadError 0 error × StopsShort bytes after (λ seen. cut_line seen ≡ None)) ⊎ ((error ≡ Column column NoHeader) × HasNoHeader bytes)
header_unread before after column error bytes (inl is) e = inl (is.0, is.1 bytes e)
header_unread before after column error bytes (inr is) e = inr (is.0, is.1 bytes e)

-- the texts of these lines were taken by a new interner with the limit
pub admitted_list : (limit : ℕ) (made now : InternerView) (list : List Text) → now.texts ≡ line_texts list → made ≡ made_with 4096 limit → extend spur_at made now.texts (Ok tt) now → Admits limit (line_texts list)
admitted_list limit made now list texts_are new interned = subst (λ (ts : List Text). Admits limit ts) texts_are (now, subst (λ (i : InternerView). extend spur_at i now.texts (Ok tt) now) new interned)

-- ---- columns

module _ (only : Bool) (bytes left : List ℕ) (header : Header) (head : head_of bytes ≡ Some (header, left)) where
  pub texts_read : (list : List Text) (rest : List ℕ) → texts_from only header.distinct [] left ≡ Ok (list, rest) → texts_at only bytes ≡ list
  texts_read list rest is = ap (head_list only) head ∙ ap read_list is

  -- the texts before the error
  pub before_error : (error : ColumnError) → head_before only (head_of bytes) error ≡ texts_before only header.distinct left error
  before_error error = ap (λ (h : Option (Header × List ℕ)). head_before only h error) head

module _ {X : Type 0} (only : Bool) (make : List Text → Makes X) (bytes left : List ℕ) (header : Header) (head : head_of bytes ≡ Some (header, left)) where
  on_it : (read : ReadTexts) → texts_from only header.distinct [] left ≡ read → read_column only make bytes ≡ on_texts make header read
  on_it read is = ap (on_head only make) head ∙ ap (on_texts make header) is

  -- the dictionary was read
  pub column_read : (list : List Text) (rest : List ℕ) → texts_from only header.distinct [] left ≡ Ok (list, rest) → read_column only make bytes ≡ items_from (make list) header.lines header.binary 1 rest
  column_read list rest is = on_it (Ok (list, rest)) is

  -- the dictionary was not read
  pub column_unread : (error : ColumnError) → texts_from only header.distinct [] left ≡ Err error → read_column only make bytes ≡ ([], Err error)
  column_unread error is = on_it (Err error) is

-- all texts come before an entry
entry_before : (only : Bool) (distinct : ℕ) (bytes : List ℕ) (error : ColumnError) → IsEntryError error → texts_before only distinct bytes error ≡ first_texts only distinct bytes
entry_before only distinct bytes NoHeader is = absurd is
entry_before only distinct bytes (NoText number) is = absurd is
entry_before only distinct bytes (NotUtf8 number) is = absurd is
entry_before only distinct bytes (Doubled number) is = absurd is
entry_before only distinct bytes error is = refl

head_entry : (only : Bool) (head : Option (Header × List ℕ)) (error : ColumnError) → IsEntryError error → head_before only head error ≡ head_list only head
head_entry only None error is = refl
head_entry only (Some head) error is = entry_before only head.0.distinct head.1 error is

-- the error of an entry is that of the column
pub entry_error : {X : Type 0} (only : Bool) (make : List Text → Makes X) (limit : ℕ) (bytes : List ℕ) (error : ColumnError) → IsEntryError error → Admits limit (line_texts (texts_at only bytes)) → (read_column only make bytes).1 ≡ Err error → IsColumnError only make limit bytes error
entry_error only make limit bytes NoHeader is texts e = absurd is
entry_error only make limit bytes (TextRefused number error) is texts e = absurd is
entry_error only make limit bytes error is texts e = (e, subst (λ (ts : List Text). Admits limit (line_texts ts)) (sym (head_entry only (head_of bytes) error is)) texts)
