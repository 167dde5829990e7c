-- The merged column decodes to the lines of each of the columns.
--
-- An entry of a column and its entry in the merged column stand for the same line: both are a null, or their
-- codes have the same text. That still holds after the list has grown. So the merged entries stand for the
-- lines of all columns, in order.
use Rattle.std.proofs.Common.{ℕ, zero, suc, ◌≡◌, ◌+◌, ◌^◌, ◌<◌, Bool, true, false, cond, List, [], ◌∷◌, ◌++◌, length, is_some, Option, Some, None, Result, Ok, Err, refl, sym, ap, subst, ◌∙◌, arith, append_assoc}
use Rattle.std.specs.Prelude.{slice_get}
use Rattle.std.proofs.lemmas.List.{append-nil, length-append}
use Rattle.std.proofs.lemmas.Option.{slice_get_within}
use Rattle.lasso_parts.proofs.IndexLaws.{slice_get-append_left}
use Rattle.lasso_parts.proofs.TextLemmas.{position_here}
use Rattle.lasso_parts.specs.Texts.{Text, position_of}
use Rattle.lasso_single.proofs.Distinct.{distinct_none}
use Rattle.lasso_columns.specs.Parts.{new_texts}
use Rattle.lasso_columns.proofs.Counted.{distinct_new}
use Rattle.lasso_codes.specs.Decode.{text_or_past, null_line, line_at, decoded, Reads}
use Rattle.lasso_codes.specs.Merge.{code_or_past, recoded, entries_of, distinct_of, Merges, MergingKeepsLines, MergedColumnsDecode, DictionariesAreDistinct}
use Rattle.lasso_codes.specs.Reading.{ReadItems, ReadTexts, cut_entry, on_item, items_from, head_of, on_texts, on_head, texts_from, read_list, head_list, texts_at}
use Rattle.lasso_codes.specs.declared.entries.Entry.{Entry}
use Rattle.lasso_codes.specs.declared.entries.Entry.TheVariants.{Missing, Bad, Null, Code}
use Rattle.lasso_codes.specs.declared.error.ColumnError.{ColumnError}
use Rattle.lasso_codes.specs.declared.reading.Header.{Header}
use Rattle.lasso_codes.proofs.ReadBack.{HasCode, entry_for, AreLinesOf, column_back, fresh_new, AllFound, found_new}
use Rattle.lasso_codes.proofs.ReadTexts.{ArePlain, plain_both, texts_plain}

-- ---- the new texts of texts after others

new_one : (list : List Text) (x : Text) (xs ys : List Text) (there : Bool) → new_texts list (xs ++ ys) ≡ new_texts list xs ++ new_texts (list ++ new_texts list xs) ys → new_texts (list ++ x ∷ []) (xs ++ ys) ≡ new_texts (list ++ x ∷ []) xs ++ new_texts (list ++ x ∷ [] ++ new_texts (list ++ x ∷ []) xs) ys → cond there (new_texts list (xs ++ ys)) (x ∷ new_texts (list ++ x ∷ []) (xs ++ ys)) ≡ cond there (new_texts list xs) (x ∷ new_texts (list ++ x ∷ []) xs) ++ new_texts (list ++ cond there (new_texts list xs) (x ∷ new_texts (list ++ x ∷ []) xs)) ys
new_one list x xs ys true same more = same
new_one list x xs ys false same more =
    let new = new_texts (list ++ x ∷ []) xs in
    ap (λ (ts : List Text). x ∷ ts) more ∙ ap (λ (ts : List Text). x ∷ (new ++ new_texts ts ys)) (append_assoc list (x ∷ []) new)

pub new_both : (list xs ys : List Text) → new_texts list (xs ++ ys) ≡ new_texts list xs ++ new_texts (list ++ new_texts list xs) ys
new_both list [] ys = ap (λ (ts : List Text). new_texts ts ys) (sym (append-nil list))
new_both list (x ∷ xs) ys = new_one list x xs ys (is_some (position_of list x)) (new_both list xs ys) (new_both (list ++ x ∷ []) xs ys)

-- ---- an entry and its line

-- the entry is read as the line
abbrev IsLineOf : Option Text → List Text → Option ℕ → Text → Type 0
IsLineOf null list entry line = HasCode entry × ((number : ℕ) → line_at null list (entry_for entry) number ≡ Ok line)

text_stays : (list more : List Text) (code : ℕ) (o : Option Text) (line : Text) (number : ℕ) → slice_get list code ≡ o → text_or_past o number ≡ Ok line → text_or_past (slice_get (list ++ more) code) number ≡ Ok line
text_stays list more code None line number at e = absurd (cc)
text_stays list more code (Some text) line number at e =
    ap (λ o. text_or_past o number) (slice_get-append_left list more code (slice_get_within list code text at) ∙ at) ∙ e

line_stays : (null : Option Text) (list more : List Text) (entry : Option ℕ) (line : Text) → IsLineOf null list entry line → IsLineOf null (list ++ more) entry line
line_stays null list more None line is = is
line_stays null list more (Some code) line is = (is.0, λ number. text_stays list more code (slice_get list code) line number refl (is.1 number))

lines_stay : (null : Option Text) (list more : List Text) (entries : List (Option ℕ)) (lines : List Text) → AreLinesOf null list entries lines → AreLinesOf null (list ++ more) entries lines
lines_stay null list more [] [] are = are
lines_stay null list more [] (l ∷ ls) are = are
lines_stay null list more (e ∷ es) [] are = are
lines_stay null list more (e ∷ es) (l ∷ ls) are =
    let one = line_stays null list more e l (are.0, are.1) in
    (one.0, one.1, lines_stay null list more es ls are.2)

lines_both : (null : Option Text) (list : List Text) (es es' : List (Option ℕ)) (ls ls' : List Text) → AreLinesOf null list es ls → AreLinesOf null list es' ls' → AreLinesOf null list (es ++ es') (ls ++ ls')
lines_both null list [] es' [] ls' are others = others
lines_both null list [] es' (l ∷ ls) ls' are others = absurd are
lines_both null list (e ∷ es) es' [] ls' are others = absurd are
lines_both null list (e ∷ es) es' (l ∷ ls) ls' are others = (are.0, are.1, lines_both null list es es' ls ls' are.2 others)

-- ---- one column

found_at : (list texts : List Text) (code : ℕ) (text : Text) → AllFound list texts → slice_get texts code ≡ Some text → (n : ℕ) × (position_of list text ≡ Some n)
found_at list [] code text found at = absurd (cc)
found_at list (t ∷ ts) zero text found at = let same : t ≡ text = cc in subst (λ (s : Text). (n : ℕ) × (position_of list s ≡ Some n)) same found.0
found_at list (t ∷ ts) (suc code) text found at = found_at list ts code text found.1 at

null_word : (null : Option Text) (number : ℕ) (line : Text) → null_line null number ≡ Ok line → (other : ℕ) → null_line null other ≡ Ok line
null_word None number line e other = absurd (cc)
null_word (Some word) number line e other = e

code_line : (null : Option Text) (list texts : List Text) (code number : ℕ) (o : Option Text) (entry : Option ℕ) (line : Text) → length list < 2 ^ 32 → AllFound list texts → slice_get texts code ≡ o → code_or_past list o number ≡ Ok entry → text_or_past o number ≡ Ok line → IsLineOf null list entry line
code_line null list texts code number None entry line few found at e e' = absurd (cc)
code_line null list texts code number (Some text) entry line few found at e e' =
    let place = found_at list texts code text found at in
    let here : slice_get list place.0 ≡ Some text = position_here list text place.0 place.1 in
    let inside : place.0 < length list = slice_get_within list place.0 text here in
    let stands : IsLineOf null list (Some place.0) text = (omega (arith, inside, few), λ k. ap (λ o. text_or_past o k) here) in
    let entry_is : entry ≡ Some place.0 = let found_entry : position_of list text ≡ entry = cc in sym found_entry ∙ place.1 in
    let line_is : text ≡ line = cc in
    subst (λ (e : Option ℕ). IsLineOf null list e line) (sym entry_is) (subst (λ (l : Text). IsLineOf null list (Some place.0) l) line_is stands)

one_line : (null : Option Text) (list texts : List Text) (entry : Entry) (number : ℕ) (item : Option ℕ) (line : Text) → length list < 2 ^ 32 → AllFound list texts → recoded list texts entry number ≡ Ok item → line_at null texts entry number ≡ Ok line → IsLineOf null list item line
one_line null list texts Missing number item line few found e e' = absurd (cc)
one_line null list texts Bad number item line few found e e' = absurd (cc)
one_line null list texts Null number item line few found e e' =
    let none : None ≡ item = cc in
    subst (λ (i : Option ℕ). IsLineOf null list i line) none (tt, null_word null number line e')
one_line null list texts (Code code) number item line few found e e' = code_line null list texts code number (slice_get texts code) item line few found refl e e'

-- the entries and the lines of the same bytes, and what is left after them
abbrev Fit : Option Text → List Text → ReadItems (Option ℕ) → ReadItems Text → List ℕ → List ℕ → Type 0
Fit null list entries lines rest rest' = AreLinesOf null list entries.0 lines.0 × (rest ≡ rest')

both_items : (null : Option Text) (list : List Text) (r : Result (Option ℕ) ColumnError) (l : Result Text ColumnError) (entries : ReadItems (Option ℕ)) (lines : ReadItems Text) (rest rest' : List ℕ) → (on_item r entries).1 ≡ Ok rest → (on_item l lines).1 ≡ Ok rest' → ((entry : Option ℕ) (line : Text) → r ≡ Ok entry → l ≡ Ok line → IsLineOf null list entry line) → (entries.1 ≡ Ok rest → lines.1 ≡ Ok rest' → Fit null list entries lines rest rest') → Fit null list (on_item r entries) (on_item l lines) rest rest'
both_items null list (Err error) l entries lines rest rest' e e' one others = absurd (cc)
both_items null list (Ok entry) (Err error) entries lines rest rest' e e' one others = absurd (cc)
both_items null list (Ok entry) (Ok line) entries lines rest rest' e e' one others =
    let first = one entry line refl refl in
    let then = others e e' in
    ((first.0, first.1, then.0), then.1)

items_fit : (null : Option Text) (list texts : List Text) (n : ℕ) (binary : Bool) (number : ℕ) (bytes rest rest' : List ℕ) → length list < 2 ^ 32 → AllFound list texts → (items_from (recoded list texts) n binary number bytes).1 ≡ Ok rest → (items_from (line_at null texts) n binary number bytes).1 ≡ Ok rest' → Fit null list (items_from (recoded list texts) n binary number bytes) (items_from (line_at null texts) n binary number bytes) rest rest'
items_fit null list texts zero binary number bytes rest rest' few found e e' = (tt, let one : bytes ≡ rest = cc in let other : bytes ≡ rest' = cc in sym one ∙ other)
items_fit null list texts (suc n) binary number bytes rest rest' few found e e' =
    let cut = cut_entry binary bytes in
    both_items null list (recoded list texts cut.0 number) (line_at null texts cut.0 number) (items_from (recoded list texts) n binary (number + 1) cut.1) (items_from (line_at null texts) n binary (number + 1) cut.1) rest rest' e e'
    (λ entry line is is'. one_line null list texts cut.0 number entry line few found is is') (λ is is'. items_fit null list texts n binary (number + 1) cut.1 rest rest' few found is is')

texts_fit : (null : Option Text) (list : List Text) (header : Header) (read : ReadTexts) (rest rest' : List ℕ) → length list < 2 ^ 32 → AllFound list (read_list read) → (on_texts (recoded list) header read).1 ≡ Ok rest → (on_texts (line_at null) header read).1 ≡ Ok rest' → Fit null list (on_texts (recoded list) header read) (on_texts (line_at null) header read) rest rest'
texts_fit null list header (Err error) rest rest' few found e e' = absurd (cc)
texts_fit null list header (Ok texts) rest rest' few found e e' = items_fit null list texts.0 header.lines header.binary 1 texts.1 rest rest' few found e e'

head_fit : (only : Bool) (null : Option Text) (list : List Text) (head : Option (Header × List ℕ)) (rest rest' : List ℕ) → length list < 2 ^ 32 → AllFound list (head_list only head) → (on_head only (recoded list) head).1 ≡ Ok rest → (on_head only (line_at null) head).1 ≡ Ok rest' → Fit null list (on_head only (recoded list) head) (on_head only (line_at null) head) rest rest'
head_fit only null list None rest rest' few found e e' = absurd (cc)
head_fit only null list (Some head) rest rest' few found e e' = texts_fit null list head.0 (texts_from only head.0.distinct [] head.1) rest rest' few found e e'

-- the texts of a dictionary have no line feed
read_plain : (only : Bool) (n : ℕ) (bytes : List ℕ) (read : ReadTexts) → texts_from only n [] bytes ≡ read → ArePlain only (read_list read)
read_plain only n bytes (Err error) e = tt
read_plain only n bytes (Ok texts) e = texts_plain only n [] bytes texts e tt

head_plain : (only : Bool) (head : Option (Header × List ℕ)) → ArePlain only (head_list only head)
head_plain only None = tt
head_plain only (Some head) = read_plain only head.0.distinct head.1 (texts_from only head.0.distinct [] head.1) refl

-- ---- all columns

module _ (null : Option Text) (before dictionary : List Text) where
  -- the list of the columns before is a beginning of the list of all
  grown : distinct_of (before ++ dictionary) ≡ distinct_of before ++ new_texts (distinct_of before) dictionary
  grown = new_both [] before dictionary

  fewer : length (distinct_of (before ++ dictionary)) < 2 ^ 32 → length (distinct_of before) < 2 ^ 32
  fewer few =
      let count : length (distinct_of (before ++ dictionary)) ≡ length (distinct_of before) + length (new_texts (distinct_of before) dictionary) =
      ap length grown ∙ length-append (distinct_of before) (new_texts (distinct_of before) dictionary) in
      omega (arith, few, count)

  all_found : AllFound (distinct_of (before ++ dictionary)) dictionary
  all_found = subst (λ (ts : List Text). AllFound ts dictionary) (sym grown) (found_new (distinct_of before) dictionary)

  old_lines : (entries : List (Option ℕ)) (lines : List Text) → AreLinesOf null (distinct_of before) entries lines → AreLinesOf null (distinct_of (before ++ dictionary)) entries lines
  old_lines entries lines are =
      subst (λ (ts : List Text). AreLinesOf null ts entries lines) (sym grown) (lines_stay null (distinct_of before) (new_texts (distinct_of before) dictionary) entries lines are)

-- the entries stand for the lines, the texts have no line feed, and the same bytes are left
abbrev AllFit : Bool → Option Text → List Text → List (Option ℕ) → List Text → List ℕ → List ℕ → Type 0
AllFit only null texts entries lines rest rest' = AreLinesOf null (distinct_of texts) entries lines × ArePlain only texts × (rest ≡ rest')

none_fit : (only : Bool) (null : Option Text) (texts : List Text) (entries : List (Option ℕ)) (lines : List Text) (input rest rest' : List ℕ) → texts ≡ [] → entries ≡ [] → lines ≡ [] → rest ≡ input → rest' ≡ input → AllFit only null texts entries lines rest rest'
none_fit only null texts entries lines input rest rest' none none' none'' e e' = rw (none, none', none'') (tt, tt, e ∙ sym e')

one_fits : (only : Bool) (null : Option Text) (before : List Text) (first : List (Option ℕ)) (mid : List ℕ) (lines : List Text) (mid' rest rest' : List ℕ) → AllFit only null before first lines mid mid' → length (distinct_of (before ++ texts_at only mid)) < 2 ^ 32 → (entries_of only (distinct_of (before ++ texts_at only mid)) mid).1 ≡ Ok rest → (decoded only null mid').1 ≡ Ok rest' → AllFit only null (before ++ texts_at only mid) (first ++ (entries_of only (distinct_of (before ++ texts_at only mid)) mid).0) (lines ++ (decoded only null mid').0) rest rest'
one_fits only null before first mid lines mid' rest rest' so_far few e e' =
    let list = distinct_of (before ++ texts_at only mid) in
    let here : (decoded only null mid).1 ≡ Ok rest' = subst (λ bs. (decoded only null bs).1 ≡ Ok rest') (sym so_far.2) e' in
    let fit : Fit null list (entries_of only list mid) (decoded only null mid) rest rest' = head_fit only null list (head_of mid) rest rest' few (all_found null before (texts_at only mid)) e here in
    let last : AreLinesOf null list (entries_of only list mid).0 (decoded only null mid').0 = subst (λ bs. AreLinesOf null list (entries_of only list mid).0 (decoded only null bs).0) so_far.2 fit.0 in (
      lines_both null list first (entries_of only list mid).0 lines (decoded only null mid').0 (old_lines null before (texts_at only mid) first lines so_far.0) last,
      plain_both only before (texts_at only mid) so_far.1 (head_plain only (head_of mid)),
      fit.1,
    )

all_fit : (only : Bool) (null : Option Text) (n : ℕ) (input : List ℕ) (texts : List Text) (entries : List (Option ℕ)) (lines : List Text) (rest rest' : List ℕ) → Merges only n input texts entries rest → Reads only null n input lines rest' → length (distinct_of texts) < 2 ^ 32 → AllFit only null texts entries lines rest rest'
all_fit only null zero input texts entries lines rest rest' m r few = none_fit only null texts entries lines input rest rest' m.0 m.1 r.0 m.2 r.1
all_fit only null (suc n) input texts entries lines rest rest' m r few =
    let before = m.0 in
    let first = m.1 in
    let mid = m.2 in
    let few' : length (distinct_of (before ++ texts_at only mid)) < 2 ^ 32 = subst (λ (ts : List Text). length (distinct_of ts) < 2 ^ 32) m.4 few in
    let so_far : AllFit only null before first r.0 mid r.1 = all_fit only null n input before first r.0 mid r.1 m.3 r.2 (fewer null before (texts_at only mid) few') in
    let ended : (entries_of only (distinct_of (before ++ texts_at only mid)) mid).1 ≡ Ok rest = subst (λ (ts : List Text). (entries_of only (distinct_of ts) mid).1 ≡ Ok rest) m.4 m.5 in
    let entries_are : entries ≡ first ++ (entries_of only (distinct_of (before ++ texts_at only mid)) mid).0 = m.6 ∙ ap (λ (ts : List Text). first ++ (entries_of only (distinct_of ts) mid).0) m.4 in
    let fit = one_fits only null before first mid r.0 r.1 rest rest' so_far few' ended r.3 in
    rw (m.4, entries_are, r.4) fit

pub merging_keeps_lines_lem : MergingKeepsLines
merging_keeps_lines_lem only binary null n input rest more texts entries lines merges few reads =
    let fit = all_fit only null n input texts entries lines rest rest merges reads few.0 in
    column_back only binary null (distinct_of texts) entries lines more (fresh_new only [] texts fit.1) fit.0 (let small = few.0 in omega (arith, small)) few.1

-- ---- columns that were merged can be decoded

item_too : (r : Result (Option ℕ) ColumnError) (l : Result Text ColumnError) (entries : ReadItems (Option ℕ)) (lines : ReadItems Text) (rest : List ℕ) → (on_item r entries).1 ≡ Ok rest → ((entry : Option ℕ) → r ≡ Ok entry → (line : Text) × (l ≡ Ok line)) → (entries.1 ≡ Ok rest → lines.1 ≡ Ok rest) → (on_item l lines).1 ≡ Ok rest
item_too (Err error) l entries lines rest e one others = absurd (cc)
item_too (Ok entry) l entries lines rest e one others =
    let told = one entry refl in subst (λ (m : Result Text ColumnError). (on_item m lines).1 ≡ Ok rest) (sym told.1) (others e)

code_too : (list : List Text) (o : Option Text) (number : ℕ) (item : Option ℕ) → code_or_past list o number ≡ Ok item → (line : Text) × (text_or_past o number ≡ Ok line)
code_too list None number item e = absurd (cc)
code_too list (Some text) number item e = (text, refl)

line_too : (word : Text) (list texts : List Text) (entry : Entry) (number : ℕ) (item : Option ℕ) → recoded list texts entry number ≡ Ok item → (line : Text) × (line_at (Some word) texts entry number ≡ Ok line)
line_too word list texts Missing number item e = absurd (cc)
line_too word list texts Bad number item e = absurd (cc)
line_too word list texts Null number item e = (word, refl)
line_too word list texts (Code code) number item e = code_too list (slice_get texts code) number item e

items_too : (word : Text) (list texts : List Text) (n : ℕ) (binary : Bool) (number : ℕ) (bytes rest : List ℕ) → (items_from (recoded list texts) n binary number bytes).1 ≡ Ok rest → (items_from (line_at (Some word) texts) n binary number bytes).1 ≡ Ok rest
items_too word list texts zero binary number bytes rest e = let same : bytes ≡ rest = cc in ap (λ bs. Ok bs) same
items_too word list texts (suc n) binary number bytes rest e =
    let cut = cut_entry binary bytes in
    item_too (recoded list texts cut.0 number) (line_at (Some word) texts cut.0 number) (items_from (recoded list texts) n binary (number + 1) cut.1) (items_from (line_at (Some word) texts) n binary (number + 1) cut.1) rest e
    (λ entry is. line_too word list texts cut.0 number entry is) (λ is. items_too word list texts n binary (number + 1) cut.1 rest is)

texts_too : (word : Text) (list : List Text) (header : Header) (read : ReadTexts) (rest : List ℕ) → (on_texts (recoded list) header read).1 ≡ Ok rest → (on_texts (line_at (Some word)) header read).1 ≡ Ok rest
texts_too word list header (Err error) rest e = absurd (cc)
texts_too word list header (Ok texts) rest e = items_too word list texts.0 header.lines header.binary 1 texts.1 rest e

head_too : (only : Bool) (word : Text) (list : List Text) (head : Option (Header × List ℕ)) (rest : List ℕ) → (on_head only (recoded list) head).1 ≡ Ok rest → (on_head only (line_at (Some word)) head).1 ≡ Ok rest
head_too only word list None rest e = absurd (cc)
head_too only word list (Some head) rest e = texts_too word list head.0 (texts_from only head.0.distinct [] head.1) rest e

pub merged_columns_decode_lem : MergedColumnsDecode
merged_columns_decode_lem only word zero input rest texts entries m = ([], (refl, m.2))
merged_columns_decode_lem only word (suc n) input rest texts entries m =
    let before = merged_columns_decode_lem only word n input m.2 m.0 m.1 m.3 in
    (before.0 ++ (decoded only (Some word) m.2).0, (before.0, m.2, before.1, head_too only word (distinct_of texts) (head_of m.2) rest m.5, refl))

-- ---- no text twice

pub dictionaries_are_distinct_lem : DictionariesAreDistinct
dictionaries_are_distinct_lem texts = distinct_new [] texts distinct_none
