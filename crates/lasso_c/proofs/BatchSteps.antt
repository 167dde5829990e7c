-- Interning the texts of a layout into a dictionary that has some already, and the texts of a dictionary from a code on.
--
-- A text that was interned keeps its position whatever comes later (`position_stays`). So the codes of the texts so far are the same
-- in the dictionary as it is and in each later one, and the next text adds its code at the end.
use Rattle.std.proofs.Common.{append-nil, Bool, true, false, ℕ, ◌≡◌, ◌+◌, ◌-◌, ◌<◌, ◌≤◌, List, [], ◌∷◌, ◌++◌, length, get_or, take, drop, set, slice_get, Option, Some, None, refl, ap, sym, subst, ◌∙◌, arith, zero, suc, add-one, length-append, length-drop}
use Rattle.std.specs.List.{slice_range, concat}
use Rattle.std.specs.Option.{unwrap_or}
use Rattle.std.proofs.lemmas.Option.{slice_get_within, slice_get-get_or, get_or_from_slice_get}
use Rattle.std.proofs.lemmas.List.{get_or-drop, drop_more, map-append, length-take-le, length-set}
use Rattle.lasso_parts.specs.Texts.{Text, position_of}
use Rattle.lasso_parts.proofs.TextLemmas.{take_more_at}
use Rattle.lasso_c.specs.Bitmap.{present_at}
use Rattle.lasso_parts.specs.Layout.{texts_from, layout_texts}
use Rattle.lasso_c.specs.Layout.{column_rows, present_texts, over}
use Rattle.lasso_c.specs.Encoding.{with_new, with_all_new, codes_or, row_code, row_codes}
use Rattle.lasso_c.proofs.Layouts.{length-layout_texts}
use Rattle.lasso_c.proofs.Interning.{position_stays}
use Rattle.lasso_c.proofs.Rows.{length-rows, present_push, row_at, row_of, take_row}
use Rattle.lasso_c.proofs.Writing.{over_push}

-- a text lies between its two offsets
text_from : (bytes : List ℕ) (from : ℕ) (offsets : List ℕ) (at : ℕ) → at < length offsets → slice_get (texts_from bytes from offsets) at ≡ Some (slice_range bytes (get_or (from ∷ offsets) at 0) (get_or offsets at 0))
text_from bytes from [] at small = absurd (omega arith)
text_from bytes from (to ∷ offsets) zero small = refl
text_from bytes from (to ∷ offsets) (suc at) small = text_from bytes to offsets at (omega arith)

pub text_is : (bytes offsets : List ℕ) (at : ℕ) → at + 1 < length offsets → slice_get (layout_texts bytes offsets) at ≡ Some (slice_range bytes (get_or offsets at 0) (get_or offsets (at + 1) 0))
text_is bytes [] at small = absurd (omega arith)
text_is bytes (from ∷ offsets) at small = rw add-one (text_from bytes from offsets at (omega arith))

pub layout_count : (bytes offsets : List ℕ) → length (layout_texts bytes offsets) ≡ length offsets - 1
layout_count bytes offsets = length-layout_texts bytes offsets

all_push : (texts more : List Text) (text : Text) → with_all_new texts (more ++ text ∷ []) ≡ with_new (with_all_new texts more) text
all_push texts [] text = refl
all_push texts (other ∷ more) text = all_push (with_new texts other) more text

codes_push : (absent : ℕ) (dictionary texts : List Text) (text : Text) → codes_or absent dictionary (texts ++ text ∷ []) ≡ codes_or absent dictionary texts ++ unwrap_or (position_of dictionary text) absent ∷ []
codes_push absent dictionary texts text = map-append (λ t. unwrap_or (position_of dictionary t) absent) texts (text ∷ [])

length-codes : (absent : ℕ) (dictionary texts : List Text) → length (codes_or absent dictionary texts) ≡ length texts
length-codes absent dictionary [] = refl
length-codes absent dictionary (text ∷ texts) = ap suc (length-codes absent dictionary texts)

row_codes_push : (null : ℕ) (dictionary : List Text) (rows : List (Option Text)) (row : Option Text) → row_codes null dictionary (rows ++ row ∷ []) ≡ row_codes null dictionary rows ++ row_code null dictionary row ∷ []
row_codes_push null dictionary rows row = map-append (λ r. row_code null dictionary r) rows (row ∷ [])

pub length-row_codes : (null : ℕ) (dictionary : List Text) (rows : List (Option Text)) → length (row_codes null dictionary rows) ≡ length rows
length-row_codes null dictionary [] = refl
length-row_codes null dictionary (row ∷ rows) = ap suc (length-row_codes null dictionary rows)

-- rows were interned into a dictionary of `old`, which is now `texts`, and their codes are written over the front of a buffer
pub record Batch (null : ℕ) (old : List Text) (done : List (Option Text)) (first : List ℕ) (texts : List Text) (codes : List ℕ) : Type 0 where
  pub dictionary : texts ≡ with_all_new old (present_texts done)
  pub written : codes ≡ over (row_codes null texts done) first
  pub stays : (more : List Text) → row_codes null (with_all_new texts more) done ≡ row_codes null texts done
  pub room : length codes ≡ length first

pub none_done : (null : ℕ) (old : List Text) (first : List ℕ) → Batch null old [] first old first
none_done null old first = record { dictionary = refl; written = refl; stays = λ more. refl; room = refl }

-- one row more, whose code stays the same whatever is interned
row_done : (null : ℕ) (old : List Text) (done : List (Option Text)) (row : Option Text) (first : List ℕ) (texts new : List Text) (codes : List ℕ) (code : ℕ) → Batch null old done first texts codes → length done < length first
    → new ≡ with_all_new old (present_texts (done ++ row ∷ [])) → ((more : List Text) → row_codes null (with_all_new new more) done ≡ row_codes null texts done) → ((more : List Text) → row_code null (with_all_new new more) row ≡ code)
    → Batch null old (done ++ row ∷ []) first new (set codes (length done) code)
row_done null old done row first texts new codes code b small grown kept found =
    let at_end : (more : List Text) → row_codes null (with_all_new new more) (done ++ row ∷ []) ≡ row_codes null texts done ++ code ∷ [] = λ more.
    row_codes_push null (with_all_new new more) done row
    ∙ ap (λ (cs : List ℕ). cs ++ row_code null (with_all_new new more) row ∷ []) (kept more)
    ∙ ap (λ n. row_codes null texts done ++ n ∷ []) (found more) in
    let many : length done ≡ length (row_codes null texts done) = sym (length-row_codes null texts done) in
    record {
      dictionary = grown;
      written = ap (λ (cs : List ℕ). set cs (length done) code) b.written ∙ over_push (row_codes null texts done) first (length done) code many small (subst (λ (cs : List ℕ). length done < length cs) b.written (omega (arith, b.room))) ∙ ap (λ (cs : List ℕ). over cs first) (sym (at_end []));
      stays = λ more. at_end more ∙ sym (at_end []);
      room = length-set codes (length done) code ∙ b.room;
    }

text_done : (null : ℕ) (old : List Text) (done : List (Option Text)) (first : List ℕ) (texts : List Text) (codes : List ℕ) (text : Text) (code : ℕ) → Batch null old done first texts codes → length done < length first → position_of (with_new texts text) text ≡ Some code → Batch null old (done ++ Some text ∷ []) first (with_new texts text) (set codes (length done) code)
text_done null old done first texts codes text code b small found =
    row_done null old done (Some text) first texts (with_new texts text) codes code b small
    (ap (λ (d : List Text). with_new d text) b.dictionary ∙ sym (all_push old (present_texts done) text) ∙ ap (λ (ts : List Text). with_all_new old ts) (sym (present_push done (Some text))))
    (λ more. b.stays (text ∷ more))
    (λ more. ap (λ o. unwrap_or o 0) (position_stays (with_new texts text) more text code found))

null_done : (null : ℕ) (old : List Text) (done : List (Option Text)) (first : List ℕ) (texts : List Text) (codes : List ℕ) → Batch null old done first texts codes → length done < length first → Batch null old (done ++ None ∷ []) first texts (set codes (length done) null)
null_done null old done first texts codes b small =
    row_done null old done None first texts texts codes null b small
    (b.dictionary ∙ ap (λ (ts : List Text). with_all_new old ts) (sym (present_push done None ∙ append-nil (present_texts done))))
    b.stays
    (λ more. refl)

-- what the next row of the column does to a dictionary, and its code
abbrev pub RowDone : Bool → ℕ → List Text → Text → ℕ → List Text → Type 0
RowDone true null texts text code new = (new ≡ with_new texts text) × (position_of (with_new texts text) text ≡ Some code)
RowDone false null texts text code new = (new ≡ texts) × (code ≡ null)

either_done : (there : Bool) (null : ℕ) (old : List Text) (done : List (Option Text)) (first : List ℕ) (texts : List Text) (codes : List ℕ) (text : Text) (code : ℕ) (new : List Text) → Batch null old done first texts codes → length done < length first → RowDone there null texts text code new → Batch null old (done ++ row_of there text ∷ []) first new (set codes (length done) code)
either_done true null old done first texts codes text code new b small d =
    subst (λ (ts : List Text). Batch null old (done ++ Some text ∷ []) first ts (set codes (length done) code)) (sym d.0) (text_done null old done first texts codes text code b small d.1)
either_done false null old done first texts codes text code new b small d =
    subst (λ (ts : List Text). Batch null old (done ++ None ∷ []) first ts (set codes (length done) code)) (sym d.0)
    (subst (λ n. Batch null old (done ++ None ∷ []) first texts (set codes (length done) n)) (sym d.1) (null_done null old done first texts codes b small))

-- the next row of the column is done
pub next_done : (null : ℕ) (bits bytes offsets : List ℕ) (old : List Text) (at : ℕ) (first : List ℕ) (texts : List Text) (codes : List ℕ) (code : ℕ) (new : List Text)
    → Batch null old (take at (column_rows bits bytes offsets)) first texts codes → at + 1 < length offsets → at < length first
    → RowDone (present_at bits at) null texts (slice_range bytes (get_or offsets at 0) (get_or offsets (at + 1) 0)) code new
    → Batch null old (take (at + 1) (column_rows bits bytes offsets)) first new (set codes at code)
next_done null bits bytes offsets old at first texts codes code new b small room d =
    let all = column_rows bits bytes offsets in
    let text : Text = slice_range bytes (get_or offsets at 0) (get_or offsets (at + 1) 0) in
    let row = row_of (present_at bits at) text in
    let here : slice_get all at ≡ Some row = row_at bits bytes offsets at text (text_is bytes offsets at small) in
    let n : length (take at all) ≡ at = length-take-le at all (omega (arith, length-rows bits bytes offsets, length-layout_texts bytes offsets)) in
    subst (λ (done : List (Option Text)). Batch null old done first new (set codes at code)) (sym (take_row all at row here))
    (subst (λ (k : ℕ). Batch null old (take at all ++ row ∷ []) first new (set codes k code)) n (either_done (present_at bits at) null old (take at all) first texts codes text code new b (omega (arith, n)) d))

-- the next text of the layout is looked up
pub found_next : (bytes offsets : List ℕ) (dictionary : List Text) (absent at : ℕ) (first codes : List ℕ) (text : Text) (code : ℕ)
    → codes ≡ over (codes_or absent dictionary (take at (layout_texts bytes offsets))) first → at + 1 < length offsets → at < length first → length codes ≡ length first → at ≤ length (layout_texts bytes offsets)
    → text ≡ slice_range bytes (get_or offsets at 0) (get_or offsets (at + 1) 0) → code ≡ unwrap_or (position_of dictionary text) absent
    → set codes at code ≡ over (codes_or absent dictionary (take (at + 1) (layout_texts bytes offsets))) first
found_next bytes offsets dictionary absent at first codes text code written small room same within is found =
    let all = layout_texts bytes offsets in
    let here : slice_get all at ≡ Some text = text_is bytes offsets at small ∙ ap (λ (t : Text). Some t) (sym is) in
    let part = codes_or absent dictionary (take at all) in
    let many : at ≡ length part = sym (length-take-le at all within) ∙ sym (length-codes absent dictionary (take at all)) in
    let more : codes_or absent dictionary (take (at + 1) all) ≡ part ++ code ∷ [] =
    ap (λ (ts : List Text). codes_or absent dictionary ts) (take_more_at all at text here) ∙ codes_push absent dictionary (take at all) text ∙ ap (λ n. part ++ n ∷ []) (sym found) in
    ap (λ (cs : List ℕ). set cs at code) written
    ∙ over_push part first at code many room (subst (λ (cs : List ℕ). at < length cs) written (omega (arith, same)))
    ∙ ap (λ (cs : List ℕ). over cs first) (sym more)

-- a text of a dictionary from a code on
pub get_from : (texts : List Text) (from at : ℕ) (text : Text) → slice_get texts (from + at) ≡ Some text → slice_get (drop from texts) at ≡ Some text
get_from texts from at text is =
    let within = slice_get_within texts (from + at) text is in
    slice_get-get_or (drop from texts) at [] (omega (arith, length-drop from texts)) ∙ ap (λ (t : Text). Some t) (get_or-drop from texts at [] ∙ get_or_from_slice_get texts (from + at) text [] is)

-- the bytes of the texts from one on are its own and those after it
pub bytes_left : (texts : List Text) (at : ℕ) (text : Text) → slice_get texts at ≡ Some text → length (concat (drop at texts)) ≡ length text + length (concat (drop (at + 1) texts))
bytes_left texts at text is =
    ap (λ (ts : List Text). length (concat ts)) (drop_more texts at [] (slice_get_within texts at text is) ∙ ap (λ (t : Text). t ∷ drop (at + 1) texts) (get_or_from_slice_get texts at text [] is))
    ∙ length-append text (concat (drop (at + 1) texts))
