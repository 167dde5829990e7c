-- What `encode` wrote is recoded by a list, merged and joined.
--
-- A column that was written is read back as its texts and entries, as in `ReadBack`. An entry's code is that of its line's
-- text, so the list's code of that text is the entry of the line by the list. Columns one after another have the entries
-- of all their lines. Their texts without repetition are those of all lines: a text that is passed over in a part is
-- passed over in the whole too.
use Rattle.std.proofs.Common.{ℕ, zero, suc, ◌≡◌, ◌+◌, ◌^◌, ◌<◌, Bool, true, false, cond, not, List, [], ◌∷◌, ◌++◌, length, map, filter, is_some, Option, Some, None, Result, Ok, refl, sym, ap, subst, ◌∙◌, arith, append_assoc}
use Rattle.std.specs.Prelude.{All, flat_map, slice_get}
use Rattle.std.specs.Str.{bytes_eq}
use Rattle.std.proofs.lemmas.List.{length-map, map-append}
use Rattle.std.proofs.lemmas.List.Elements.{All-weaker, filter-append}
use Rattle.std.proofs.lemmas.Option.{slice_get_within}
use Rattle.lasso_parts.specs.Texts.{Text, position_of}
use Rattle.lasso_parts.proofs.TextLemmas.{position_here, position_last}
use Rattle.lasso_single.proofs.Coded.{position_stays}
use Rattle.lasso_input.specs.Lines.{lines_of}
use Rattle.lasso_input.specs.Texts.{is_let_in}
use Rattle.lasso_columns.specs.Parts.{new_texts}
use Rattle.lasso_columns.specs.Rows.{is_null, texts_of}
use Rattle.lasso_columns.proofs.Counted.{position_absent, same_text}
use Rattle.lasso_codes.specs.Columns.{column_bytes, column_of, dictionary_of, entry_bytes, entry_of, header}
use Rattle.lasso_codes.specs.Distinct.{with_feed}
use Rattle.lasso_codes.specs.Limits.{IsLetIn}
use Rattle.lasso_codes.specs.Merge.{code_or_past, distinct_of, entries_of, recoded, Merges}
use Rattle.lasso_codes.specs.Reading.{Makes, ReadItems, head_list, items_from, on_head, on_item, on_texts, read_column, read_list, texts_at}
use Rattle.lasso_codes.specs.Recode.{coded, coded_entries, lines_before, texts_or, DictionariesMergeInSteps, EncodesParts, EncodesTo, JoiningGivesOneColumn, MergingGivesOneDictionary, RecodingKeepsLines, Recodes}
use Rattle.lasso_codes.specs.declared.error.ColumnError.{ColumnError}
use Rattle.lasso_codes.specs.declared.reading.Header.{Header}
use Rattle.lasso_codes.proofs.MergedLines.{new_both}
use Rattle.lasso_codes.proofs.ReadBack.{all_stand, entry_back, entry_for, found_new, fresh_new, head_back, let_in_too, lines_free, plain_lines, plain_texts, texts_back, AllStand, AreFresh, HasCode, StandsAs}
use Rattle.lasso_codes.proofs.ReadTexts.{ArePlain}

-- ---- a column is read back

-- these items are made of the entries
abbrev AreMadeAs : Makes (Option ℕ) → List (Option ℕ) → List (Option ℕ) → Type 0
AreMadeAs make [] [] = Unit {0}
AreMadeAs make [] (i ∷ items) = ⊥
AreMadeAs make (e ∷ es) [] = ⊥
AreMadeAs make (e ∷ es) (i ∷ items) = HasCode e × ((number : ℕ) → make (entry_for e) number ≡ Ok i) × AreMadeAs make es items

items_back : (binary : Bool) (make : Makes (Option ℕ)) (entries items : List (Option ℕ)) (number : ℕ) (rest : List ℕ) → AreMadeAs make entries items → items_from make (length entries) binary number (flat_map (entry_bytes binary) entries ++ rest) ≡ (items, Ok rest)
items_back binary make [] [] number rest are = refl
items_back binary make [] (i ∷ items) number rest are = absurd are
items_back binary make (e ∷ es) [] number rest are = absurd are
items_back binary make (e ∷ es) (i ∷ items) number rest are =
    let others = flat_map (entry_bytes binary) es ++ rest in
    let split : flat_map (entry_bytes binary) (e ∷ es) ++ rest ≡ entry_bytes binary e ++ others = append_assoc (entry_bytes binary e) (flat_map (entry_bytes binary) es) rest in
    ap (items_from make (suc (length es)) binary number) split
    ∙ ap (λ cut. on_item (make cut.0 number) (items_from make (length es) binary (number + 1) cut.1)) (entry_back binary e others are.0)
    ∙ ap (λ item. on_item item (items_from make (length es) binary (number + 1) others)) (are.1 number)
    ∙ ap (λ read. (i ∷ read.0, read.1)) (items_back binary make es items (number + 1) rest are.2)

module _ (only binary : Bool) (own : List Text) (entries : List (Option ℕ)) (rest : List ℕ) (fresh : AreFresh only [] own) (few : length own < 2 ^ 64) (few' : length entries < 2 ^ 64) where
  abbrev back : List ℕ
  back = flat_map (entry_bytes binary) entries ++ rest

  abbrev body : List ℕ
  body = flat_map with_feed own ++ back

  abbrev its_header : Header
  its_header = record { binary = binary; distinct = length own; lines = length entries }

  body_back : column_of binary own entries ++ rest ≡ header binary (length own) (length entries) ++ body
  body_back = simp append_assoc

  column_back : (make : List Text → Makes (Option ℕ)) (items : List (Option ℕ)) → AreMadeAs (make own) entries items → read_column only make (column_of binary own entries ++ rest) ≡ (items, Ok rest)
  column_back make items are =
      ap (read_column only make) body_back ∙ ap (on_head only make) (head_back binary (length own) (length entries) body few few') ∙ ap (on_texts make its_header) (texts_back only [] own back fresh)
      ∙ items_back binary (make own) entries items 1 rest are

  own_back : texts_at only (column_of binary own entries ++ rest) ≡ own
  own_back = ap (texts_at only) body_back ∙ ap (head_list only) (head_back binary (length own) (length entries) body few few') ∙ ap read_list (texts_back only [] own back fresh)

-- ---- the entries of lines

-- what an entry is made into by a list, if these are the texts of its column
abbrev RecodesBy : List Text → List Text → Makes (Option ℕ) → Type 0
RecodesBy list own make = ((number : ℕ) → make (entry_for None) number ≡ Ok None) × ((n number : ℕ) (l : Text) → slice_get own n ≡ Some l → make (entry_for (Some n)) number ≡ Ok (position_of list l))

entry_made : (null : Option Text) (list own : List Text) (make : Makes (Option ℕ)) (l : Text) (b : Bool) → RecodesBy list own make → length own < 2 ^ 32 → StandsAs b own l → HasCode (cond b None (position_of own l)) × ((number : ℕ) → make (entry_for (cond b None (position_of own l))) number ≡ Ok (cond b None (position_of list l)))
entry_made null list own make l true by few stands = (tt, by.0)
entry_made null list own make l false by few stands =
    let here : slice_get own stands.0 ≡ Some l = position_here own l stands.0 stands.1 in
    let inside : stands.0 < length own = slice_get_within own stands.0 l here in (
      subst HasCode (sym stands.1) (omega (arith, inside, few)),
      λ number. ap (λ o. make (entry_for o) number) stands.1 ∙ by.1 stands.0 number l here,
    )

entries_made : (null : Option Text) (list own : List Text) (make : Makes (Option ℕ)) (lines : List Text) → RecodesBy list own make → length own < 2 ^ 32 → AllStand null own lines → AreMadeAs make (map (entry_of null own) lines) (map (entry_of null list) lines)
entries_made null list own make [] by few stand = tt
entries_made null list own make (l ∷ ls) by few stand =
    let one = entry_made null list own make l (is_null null l) by few stand.0 in
    (one.0, one.1, entries_made null list own make ls by few stand.1)

recoded_by : (list own : List Text) → RecodesBy list own (recoded list own)
recoded_by list own = (λ number. refl, λ n number l here. ap (λ o. code_or_past list o number) here)

-- a list with texts is that of its column
text_or : (list own : List Text) (n : ℕ) (l : Text) → slice_get own n ≡ Some l → slice_get (texts_or list own) n ≡ Some l
text_or list [] n l here = absurd (cc)
text_or list (t ∷ ts) n l here = here

coded_by : (list own : List Text) → RecodesBy list own (coded list own)
coded_by list own = (λ number. refl, λ n number l here. ap (λ o. code_or_past list o number) (text_or list own n l here))

-- ---- what `encode` wrote

-- the texts, and the entries by any list
module _ (strict only : Bool) (null : Option Text) (input part rest : List ℕ) (weaker : strict ≡ true → only ≡ true) (encoded : EncodesTo only null input part) where
  abbrev lines : List Text
  lines = lines_of input

  abbrev own : List Text
  own = dictionary_of null lines

  lets : All (λ l. is_let_in strict l ≡ true) lines
  lets = let end = encoded.3 in All-weaker (IsLetIn only) (λ l. is_let_in strict l ≡ true) (λ l let_in. let_in_too strict only l weaker let_in.1) lines end.0

  fresh : AreFresh strict [] own
  fresh = let plain : ArePlain strict lines = plain_lines strict lines (lines_free input) lets in fresh_new strict [] (texts_of null lines) (plain_texts strict null lines plain)

  bytes_are : part ++ rest ≡ column_of encoded.1 own (map (entry_of null own) lines) ++ rest
  bytes_are = let end = encoded.3 in ap (λ bs. bs ++ rest) end.1

  own_few : length own < 2 ^ 32
  own_few = let end = encoded.3 in end.2.0

  lines_few : length (map (entry_of null own) lines) < 2 ^ 64
  lines_few = let end = encoded.3 in let many : length lines < 2 ^ 64 = end.2.1 in omega (arith, many, length-map lines (entry_of null own))

  own_small : length own < 2 ^ 64
  own_small = omega (arith, own_few)

  made_back : (make : List Text → Makes (Option ℕ)) (list : List Text) → RecodesBy list own (make own) → read_column strict make (part ++ rest) ≡ (map (entry_of null list) lines, Ok rest)
  made_back make list by =
      let stand : AllStand null own lines = all_stand null own lines (found_new [] (texts_of null lines)) in
      ap (read_column strict make) bytes_are
      ∙ column_back strict encoded.1 own (map (entry_of null own) lines) rest fresh own_small lines_few make (map (entry_of null list) lines) (entries_made null list own (make own) lines by own_few stand)

  part_own : texts_at strict (part ++ rest) ≡ own
  part_own = ap (texts_at strict) bytes_are ∙ own_back strict encoded.1 own (map (entry_of null own) lines) rest fresh own_small lines_few

-- what `encode` wrote is recoded as its lines
pub recoding_keeps_lines_lem : RecodingKeepsLines
recoding_keeps_lines_lem input only strict null part rest list weaker encoded =
    made_back strict only null input part rest weaker encoded (coded list) list (coded_by list (dictionary_of null (lines_of input)))

-- ---- the parts of an input

same_left : (left rest : List ℕ) (read : ReadItems (Option ℕ)) (items : List (Option ℕ)) → read.1 ≡ Ok left → read ≡ (items, Ok rest) → left ≡ rest
same_left left rest read items ended is =
    let both : ◌≡◌ {A = Result (List ℕ) ColumnError} (Ok left) (Ok rest) = sym ended ∙ ap (λ (r : ReadItems (Option ℕ)). r.1) is in
    cc

-- the entries of the parts are those of all lines
parts_codes : (only strict : Bool) (limit : ℕ) (null : Option Text) (inputs : ℕ → List ℕ) (n : ℕ) (bytes rest left : List ℕ) (list : List Text) (entries : List (Option ℕ)) → (strict ≡ true → only ≡ true) → EncodesParts only null inputs n bytes rest → Recodes strict limit list n bytes entries left → (entries ≡ map (entry_of null list) (lines_before inputs n)) × (left ≡ rest)
parts_codes only strict limit null inputs zero bytes rest left list entries weaker parts done = (done.0, done.1 ∙ sym parts)
parts_codes only strict limit null inputs (suc n) bytes rest left list entries weaker parts done =
    let first = done.0 in
    let mid = done.1 in
    let last = lines_of (inputs n) in
    let before = parts_codes only strict limit null inputs n bytes (parts.0 ++ rest) mid list first weaker parts.1 done.2 in
    let read : coded_entries strict list mid ≡ (map (entry_of null list) last, Ok rest) = ap (coded_entries strict list) before.1 ∙ recoding_keeps_lines_lem (inputs n) only strict null parts.0 rest list weaker parts.2 in
    let items : (coded_entries strict list mid).0 ≡ map (entry_of null list) last = ap (λ (r : ReadItems (Option ℕ)). r.0) read in (
      done.6 ∙ ap (λ (es : List (Option ℕ)). es ++ (coded_entries strict list mid).0) before.0 ∙ ap (λ (es : List (Option ℕ)). map (entry_of null list) (lines_before inputs n) ++ es) items
          ∙ sym (map-append (entry_of null list) (lines_before inputs n) last),
      same_left left rest (coded_entries strict list mid) (map (entry_of null list) last) done.5 read,
    )

-- the parts of an input are joined to the column of all
pub joining_gives_one_column_lem : JoiningGivesOneColumn
joining_gives_one_column_lem only strict binary limit null inputs n bytes rest left list entries weaker parts list_is recodes =
    let lines = lines_before inputs n in
    let entries_are = (parts_codes only strict limit null inputs n bytes rest left list entries weaker parts recodes).0 in
    ap (column_of binary list) entries_are ∙ ap (λ (ts : List Text). column_of binary ts (map (entry_of null ts) lines)) list_is

-- ---- the distinct texts of the parts

-- each text of the first list is in the second
abbrev Within : List Text → List Text → Type 0
Within some list = (t : Text) (n : ℕ) → position_of some t ≡ Some n → (m : ℕ) × (position_of list t ≡ Some m)

pushed : (some list : List Text) (x t : Text) (n : ℕ) (o : Option ℕ) (same : Bool) → position_of some t ≡ o → bytes_eq x t ≡ same → Within some list → ((m : ℕ) × (position_of list x ≡ Some m)) → position_of (some ++ x ∷ []) t ≡ Some n → (m : ℕ) × (position_of list t ≡ Some m)
pushed some list x t n (Some k) same e e' within there at = within t k e
pushed some list x t n None true e e' within there at = subst (λ (s : Text). (m : ℕ) × (position_of list s ≡ Some m)) (same_text x t e') there
pushed some list x t n None false e e' within there at = let none : position_of (some ++ x ∷ []) t ≡ None = position_absent some x t e e' in absurd (cc)

within_push : (some list : List Text) (x : Text) → Within some list → ((m : ℕ) × (position_of list x ≡ Some m)) → Within (some ++ x ∷ []) list
within_push some list x within there t n at = pushed some list x t n (position_of some t) (bytes_eq x t) refl refl within there at

within_both : (some list : List Text) (x : Text) → Within some list → position_of list x ≡ None → Within (some ++ x ∷ []) (list ++ x ∷ [])
within_both some list x within none =
    within_push some (list ++ x ∷ []) x (λ t n at. let found = within t n at in (found.0, position_stays list x t found.0 found.1)) (length list, position_last list x none)

passed_one : (some list : List Text) (x : Text) (xs : List Text) (o o' : Option ℕ) → position_of some x ≡ o → position_of list x ≡ o' → Within some list
    → new_texts list (new_texts some xs) ≡ new_texts list xs
    → (Within (some ++ x ∷ []) list → new_texts list (new_texts (some ++ x ∷ []) xs) ≡ new_texts list xs)
    → (Within (some ++ x ∷ []) (list ++ x ∷ []) → new_texts (list ++ x ∷ []) (new_texts (some ++ x ∷ []) xs) ≡ new_texts (list ++ x ∷ []) xs)
    → new_texts list (cond (is_some o) (new_texts some xs) (x ∷ new_texts (some ++ x ∷ []) xs)) ≡ cond (is_some o') (new_texts list xs) (x ∷ new_texts (list ++ x ∷ []) xs)
passed_one some list x xs (Some n) (Some m) e e' within same skip both = same
passed_one some list x xs (Some n) None e e' within same skip both = let found = within x n e in let there : position_of list x ≡ Some found.0 = found.1 in absurd (cc)
passed_one some list x xs None (Some m) e e' within same skip both =
    let new = new_texts (some ++ x ∷ []) xs in
    ap (λ o. cond (is_some o) (new_texts list new) (x ∷ new_texts (list ++ x ∷ []) new)) e' ∙ skip (within_push some list x within (m, e'))
passed_one some list x xs None None e e' within same skip both =
    let new = new_texts (some ++ x ∷ []) xs in
    ap (λ o. cond (is_some o) (new_texts list new) (x ∷ new_texts (list ++ x ∷ []) new)) e' ∙ ap (λ (ts : List Text). x ∷ ts) (both (within_both some list x within e'))

-- what is passed over by a list's part is passed over by the list
passed_over : (some list texts : List Text) → Within some list → new_texts list (new_texts some texts) ≡ new_texts list texts
passed_over some list [] within = refl
passed_over some list (x ∷ xs) within =
    passed_one some list x xs (position_of some x) (position_of list x) refl refl within (passed_over some list xs within) (passed_over (some ++ x ∷ []) list xs) (passed_over (some ++ x ∷ []) (list ++ x ∷ []) xs)

none_within : (list : List Text) → Within [] list
none_within list t n at = let none : position_of [] t ≡ None = refl in absurd (cc)

distinct_once : (before texts : List Text) → distinct_of (before ++ distinct_of texts) ≡ distinct_of (before ++ texts)
distinct_once before texts =
    new_both [] before (distinct_of texts) ∙ ap (λ (ts : List Text). distinct_of before ++ ts) (passed_over [] (distinct_of before) texts (none_within (distinct_of before))) ∙ sym (new_both [] before texts)

-- dictionaries are merged in steps
pub dictionaries_merge_in_steps_lem : DictionariesMergeInSteps
dictionaries_merge_in_steps_lem before texts after =
    ap distinct_of (sym (append_assoc before (distinct_of texts) after)) ∙ new_both [] (before ++ distinct_of texts) after ∙ ap (λ (ts : List Text). ts ++ new_texts ts after) (distinct_once before texts)
    ∙ sym (new_both [] (before ++ texts) after) ∙ ap distinct_of (append_assoc before texts after)

-- the distinct texts of the parts are those of all lines
parts_texts : (only strict : Bool) (null : Option Text) (inputs : ℕ → List ℕ) (n : ℕ) (bytes rest left : List ℕ) (texts : List Text) (entries : List (Option ℕ)) → (strict ≡ true → only ≡ true) → EncodesParts only null inputs n bytes rest → Merges strict n bytes texts entries left → (distinct_of texts ≡ dictionary_of null (lines_before inputs n)) × (left ≡ rest)
parts_texts only strict null inputs zero bytes rest left texts entries weaker parts merged = (ap distinct_of merged.0, merged.2 ∙ sym parts)
parts_texts only strict null inputs (suc n) bytes rest left texts entries weaker parts merged =
    let before = merged.0 in
    let mid = merged.2 in
    let last = lines_of (inputs n) in
    let old = texts_of null (lines_before inputs n) in
    let new = texts_of null last in
    let so_far = parts_texts only strict null inputs n bytes (parts.0 ++ rest) mid before merged.1 weaker parts.1 merged.3 in
    let texts_are : texts_at strict mid ≡ distinct_of new = ap (texts_at strict) so_far.1 ∙ part_own strict only null (inputs n) parts.0 rest weaker parts.2 in
    let list = distinct_of texts in
    let read : entries_of strict list mid ≡ (map (entry_of null list) last, Ok rest) =
    ap (entries_of strict list) so_far.1 ∙ made_back strict only null (inputs n) parts.0 rest weaker parts.2 (recoded list) list (recoded_by list (dictionary_of null last)) in (
      ap distinct_of merged.4 ∙ ap (λ (ts : List Text). distinct_of (before ++ ts)) texts_are ∙ distinct_once before new ∙ new_both [] before new ∙ ap (λ (ts : List Text). ts ++ new_texts ts new) so_far.0
          ∙ sym (new_both [] old new) ∙ ap distinct_of (sym (filter-append (λ line. not (is_null null line)) (lines_before inputs n) last)),
      same_left left rest (entries_of strict list mid) (map (entry_of null list) last) merged.5 read,
    )

pub merging_gives_one_dictionary_lem : MergingGivesOneDictionary
merging_gives_one_dictionary_lem only strict null inputs n bytes rest left texts entries weaker parts merged = (parts_texts only strict null inputs n bytes rest left texts entries weaker parts merged).0
