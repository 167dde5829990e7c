-- Decoding undoes encoding.
--
-- Texts that lie one after another in a buffer are cut out of it again at their offsets, whatever lies before
-- the first: so a text is moved from the back to the front, one after another. Each text of a layout is in
-- its dictionary, at the position that its code gives, and the dictionary has no more bytes than the layout.
use Rattle.std.proofs.Common.{ℕ, ◌≡◌, ◌+◌, ◌-◌, ◌<◌, ◌≤◌, Bool, true, false, List, [], ◌∷◌, ◌++◌, length, take, drop, slice_get, is_some, if◌then◌else◌, Option, Some, None, Ok, refl, ap, sym, subst, ◌∙◌, lit≤, zero-add, arith, length-append, append_assoc}
use Rattle.std.specs.List.{slice_range, concat}
use Rattle.std.specs.Option.{option_or, unwrap_or}
use Rattle.std.specs.Str.{IsUtf8, bytes_eq}
use Rattle.std.proofs.lemmas.Bool.Decides.{nat_tests}
use Rattle.std.proofs.lemmas.List.Edits.{length-between}
use Rattle.std.proofs.lemmas.Map.Keys.{IsDistinct-from_apart}
use Rattle.std.proofs.lemmas.Str.{is_utf8-from_IsUtf8}
use Rattle.lasso_parts.specs.Texts.{Text, position_of, IsDistinct}
use Rattle.lasso_parts.proofs.TextLemmas.{distinct_push, position_here, position_last}
use Rattle.lasso_parts.proofs.LayoutTexts.{slice_here, behind, texts_back}
use Rattle.lasso_parts.specs.Layout.{greatest_offset, reach, texts_from, layout_texts, offsets_from}
use Rattle.lasso_c.specs.Layout.{start_fault, text_fault, texts_fault, layout_fault}
use Rattle.lasso_c.specs.Encoding.{with_new, with_all_new, dictionary_of, codes_of, sizes_of}
use Rattle.lasso_c.specs.Decoding.{texts_named, with_next, unless_refused, measured, fitting, unless_faulty, nothing}
use Rattle.lasso_c.specs.Laws.{DecodesBack, DecodingUndoesEncoding}
use Rattle.lasso_c.specs.declared.error.Sizes.{Sizes}
use Rattle.lasso_c.specs.declared.error.CallError.{CallError}
use Rattle.lasso_c.proofs.Layouts.{good_text, text_known, or_none}
use Rattle.lasso_c.proofs.Interning.{position_stays, new_bytes}

-- something holds of each text
abbrev pub Each : (Text → Type 0) → List Text → Type 0
Each P [] = Unit {0}
Each P (text ∷ texts) = P text × Each P texts

-- the faults from the first of some offsets on
faults_at : List ℕ → ℕ → List ℕ → Option CallError
faults_at bytes k [] = None
faults_at bytes k (from ∷ offsets) = texts_fault greatest_offset bytes k from offsets

fault_first : (bytes : List ℕ) (k from end : ℕ) (texts : List Text) → texts_fault greatest_offset bytes k from (offsets_from end texts) ≡ option_or (text_fault greatest_offset bytes k from end) (faults_at bytes (k + 1) (offsets_from end texts))
unfolding faults_at
fault_first bytes k from end [] = refl
fault_first bytes k from end (text ∷ texts) = refl

start_then : (bytes : List ℕ) (at : ℕ) (texts : List Text) → start_fault greatest_offset bytes at ≡ None → layout_fault greatest_offset bytes (offsets_from at texts) ≡ faults_at bytes 0 (offsets_from at texts)
unfolding faults_at
start_then bytes at [] good = ap (λ o. option_or o None) good
start_then bytes at (text ∷ texts) good = ap (λ o. option_or o (texts_fault greatest_offset bytes 0 at (offsets_from (at + length text) texts))) good

-- nothing is wrong with texts where they lie
no_faults : (front : List ℕ) (texts : List Text) (at k : ℕ) → at ≡ length front → Each IsUtf8 texts → length (front ++ concat texts) ≤ greatest_offset → faults_at (front ++ concat texts) k (offsets_from at texts) ≡ None
unfolding faults_at
no_faults front [] at k e utf8 small = refl
no_faults front (text ∷ texts) at k e utf8 small =
    let end = at + length text in
    let bytes = front ++ (text ++ concat texts) in
    let here = slice_here front text (concat texts) at e in
    let whole = length-append front (text ++ concat texts) in
    let two = length-append text (concat texts) in
    let good : text_fault greatest_offset bytes k at end ≡ None = good_text greatest_offset bytes k at end (omega arith) (omega arith) (is_utf8-from_IsUtf8 _ (subst IsUtf8 (sym here) utf8.0)) in
    let same = append_assoc front text (concat texts) in
    let others : faults_at bytes (k + 1) (offsets_from end texts) ≡ None = ap (λ b. faults_at b (k + 1) (offsets_from end texts)) (sym same) ∙ no_faults (front ++ text) texts end (k + 1) (behind front text at e) utf8.1 (omega (arith, ap length same)) in
    fault_first bytes k at end texts ∙ ap (λ o. option_or o (faults_at bytes (k + 1) (offsets_from end texts))) good ∙ others

-- the texts of a layout with which nothing is wrong are UTF-8
utf8_from : (bytes : List ℕ) (k from : ℕ) (offsets : List ℕ) → texts_fault greatest_offset bytes k from offsets ≡ None → Each IsUtf8 (texts_from bytes from offsets)
utf8_from bytes k from [] good = tt
utf8_from bytes k from (to ∷ offsets) good =
    let both = or_none (text_fault greatest_offset bytes k from to) (texts_fault greatest_offset bytes (k + 1) to offsets) good in
    ((text_known greatest_offset bytes k from to both.0).2, utf8_from bytes (k + 1) to offsets both.1)

-- they have no more bytes than lie after their first offset
bytes_from : (bytes : List ℕ) (k from : ℕ) (offsets : List ℕ) → from ≤ reach greatest_offset bytes → texts_fault greatest_offset bytes k from offsets ≡ None → from + length (concat (texts_from bytes from offsets)) ≤ reach greatest_offset bytes
bytes_from bytes k from [] within good = omega arith
bytes_from bytes k from (to ∷ offsets) within good =
    let both = or_none (text_fault greatest_offset bytes k from to) (texts_fault greatest_offset bytes (k + 1) to offsets) good in
    let known = text_known greatest_offset bytes k from to both.0 in
    let rest = bytes_from bytes (k + 1) to offsets known.1 both.1 in
    let long = length-between bytes from to (omega (arith, known.1)) in
    omega (arith, known.0, rest, long, length-append (slice_range bytes from to) (concat (texts_from bytes to offsets)))

start_known : (bytes : List ℕ) (from : ℕ) → start_fault greatest_offset bytes from ≡ None → from ≤ reach greatest_offset bytes
start_known bytes from good = grind (arith, nat_tests)

-- both, of a whole layout
pub record GoodTexts (texts : List Text) : Type 0 where
  pub utf8 : Each IsUtf8 texts
  pub small : length (concat texts) ≤ greatest_offset

good_texts : (bytes offsets : List ℕ) → layout_fault greatest_offset bytes offsets ≡ None → GoodTexts (layout_texts bytes offsets)
good_texts bytes [] good = record { utf8 = tt; small = lit≤ tt }
good_texts bytes (from ∷ offsets) good =
    let both = or_none (start_fault greatest_offset bytes from) (texts_fault greatest_offset bytes 0 from offsets) good in
    record { utf8 = utf8_from bytes 0 from offsets both.1; small = let all = bytes_from bytes 0 from offsets (start_known bytes from both.0) both.1 in omega arith }

-- a text has a code in a dictionary
abbrev pub HasCode : List Text → Text → Type 0
HasCode dictionary text = (n : ℕ) × (position_of dictionary text ≡ Some n)

new_stands : (found : Option ℕ) (texts : List Text) (text : Text) → position_of texts text ≡ found → HasCode (if is_some found then texts else texts ++ text ∷ []) text
new_stands None texts text none = (length texts, position_last texts text none)
new_stands (Some n) texts text at = (n, at)

-- each text that is interned is in the dictionary
pub all_stand : (texts more : List Text) → Each (HasCode (with_all_new texts more)) more
all_stand texts [] = tt
all_stand texts (text ∷ more) =
    let here = new_stands (position_of texts text) texts text refl in
    ((here.0, position_stays (with_new texts text) more text here.0 here.1), all_stand (with_new texts text) more)

all_push : (P : Text → Type 0) (texts : List Text) (text : Text) → Each P texts → P text → Each P (texts ++ text ∷ [])
all_push P [] text all p = (p, tt)
all_push P (t ∷ texts) text all p = (all.0, all_push P texts text all.1 p)

all_new_by : (P : Text → Type 0) (there : Bool) (texts : List Text) (text : Text) → Each P texts → P text → Each P (if there then texts else texts ++ text ∷ [])
all_new_by P true texts text all p = all
all_new_by P false texts text all p = all_push P texts text all p

-- what holds of all texts holds of those of their dictionary
all_new : (P : Text → Type 0) (texts more : List Text) → Each P texts → Each P more → Each P (with_all_new texts more)
all_new P texts [] all others = all
all_new P texts (text ∷ more) all others = all_new P (with_new texts text) more (all_new_by P (is_some (position_of texts text)) texts text all others.0) others.1

-- the dictionary has no more bytes than the texts
pub all_bytes : (texts more : List Text) → length (concat (with_all_new texts more)) ≤ length (concat texts) + length (concat more)
all_bytes texts [] = omega arith
all_bytes texts (text ∷ more) = omega (arith, all_bytes (with_new texts text) more, new_bytes (is_some (position_of texts text)) texts text, length-append text (concat more))

distinct_by : (found : Option ℕ) (texts : List Text) (text : Text) → position_of texts text ≡ found → IsDistinct texts → IsDistinct (if is_some found then texts else texts ++ text ∷ [])
distinct_by None texts text none distinct = distinct_push texts text distinct none
distinct_by (Some n) texts text at distinct = distinct

none_distinct : IsDistinct []
none_distinct = IsDistinct-from_apart bytes_eq [] (λ i j d below inside. absurd (omega arith))

-- no text stands twice in the dictionary
all_distinct : (texts more : List Text) → IsDistinct texts → IsDistinct (with_all_new texts more)
all_distinct texts [] distinct = distinct
all_distinct texts (text ∷ more) distinct = all_distinct (with_new texts text) more (distinct_by (position_of texts text) texts text refl distinct)

-- the text at the position of a code
pub at_code : (dictionary : List Text) (text : Text) → HasCode dictionary text → slice_get dictionary (unwrap_or (position_of dictionary text) 0) ≡ Some text
at_code dictionary text stands = ap (λ o. slice_get dictionary (unwrap_or o 0)) stands.1 ∙ position_here dictionary text stands.0 stands.1

named_back : (dictionary texts : List Text) → Each (HasCode dictionary) texts → texts_named dictionary (codes_of dictionary texts) ≡ texts
named_back dictionary [] all = refl
named_back dictionary (text ∷ texts) all =
    let here = ap (λ o. unwrap_or o []) (at_code dictionary text all.0) in
    ap (λ (t : Text). t ∷ texts_named dictionary (codes_of dictionary texts)) here ∙ ap (λ ts. text ∷ ts) (named_back dictionary texts all.1)

abbrev sized : ℕ → ℕ → Sizes
sized texts bytes = record { texts = texts; bytes = bytes }

next_fits : (n b : ℕ) (text : Text) → b + length text ≤ greatest_offset → with_next (sized n b) (Some text) ≡ Ok (sized (n + 1) (b + length text))
next_fits n b text small = grind (arith, nat_tests)

measured_back : (dictionary texts : List Text) (n b : ℕ) → Each (HasCode dictionary) texts → b + length (concat texts) ≤ greatest_offset → measured None dictionary (sized n b) (codes_of dictionary texts) ≡ Ok (sized (n + length texts) (b + length (concat texts)))
measured_back dictionary [] n b all small =
    let n' : n ≡ n + 0 = omega arith in
    let b' : b ≡ b + 0 = omega arith in
    ap (λ k. Ok (sized k b)) n' ∙ ap (λ k. Ok (sized (n + 0) k)) b'
measured_back dictionary (text ∷ texts) n b all small =
    let two = length-append text (concat texts) in
    let next = ap (λ o. with_next (sized n b) o) (at_code dictionary text all.0) ∙ next_fits n b text (omega arith) in
    let rest = measured_back dictionary texts (n + 1) (b + length text) all.1 (omega arith) in
    let n' : (n + 1) + length texts ≡ n + length (text ∷ texts) = omega arith in
    let b' : (b + length text) + length (concat texts) ≡ b + length (text ++ concat texts) = omega arith in
    ap (λ r. unless_refused r (λ more. measured None dictionary more (codes_of dictionary texts))) next ∙ rest
    ∙ ap (λ k. Ok (sized k ((b + length text) + length (concat texts)))) n' ∙ ap (λ k. Ok (sized (n + length (text ∷ texts)) k)) b'

fits : (sizes : Sizes) (offsets bytes : ℕ) → sizes.texts < offsets → sizes.bytes ≤ bytes → fitting sizes offsets bytes ≡ Ok sizes
fits sizes offsets bytes below within = grind (arith, nat_tests)

module _ (texts : List Text) (good : GoodTexts texts) where
  dictionary : List Text
  dictionary = dictionary_of texts

  written_good : layout_fault greatest_offset (concat dictionary) (offsets_from 0 dictionary) ≡ None
  unfolding dictionary
  written_good =
      let small : length (concat dictionary) ≤ greatest_offset = omega (arith, all_bytes [] texts, good.small) in
      start_then (concat dictionary) 0 dictionary (grind (arith, nat_tests)) ∙ no_faults [] dictionary 0 0 refl (all_new IsUtf8 [] texts tt good.utf8) small

  stands_again : layout_texts (concat dictionary) (offsets_from 0 dictionary) ≡ dictionary
  stands_again = texts_back [] dictionary 0 refl

  measured_whole : measured None dictionary nothing (codes_of dictionary texts) ≡ Ok (sizes_of texts)
  unfolding dictionary
  measured_whole =
      measured_back dictionary texts 0 0 (all_stand [] texts) (omega (arith, good.small)) ∙ ap (λ k. Ok (sized k (0 + length (concat texts)))) (zero-add (length texts)) ∙ ap (λ k. Ok (sized (length texts) k)) (zero-add (length (concat texts)))

  decodes_back : DecodesBack dictionary texts (codes_of dictionary texts)
  unfolding dictionary
  decodes_back = record {
    distinct = all_distinct [] texts none_distinct;
    stands = stands_again;
    named = named_back dictionary texts (all_stand [] texts);
    done = λ offsets bytes below within.
        ap (λ fault. unless_faulty fault (unless_refused (measured None (layout_texts (concat dictionary) (offsets_from 0 dictionary)) nothing (codes_of dictionary texts)) (λ sizes. fitting sizes offsets bytes))) written_good
        ∙ ap (λ ts. unless_refused (measured None ts nothing (codes_of dictionary texts)) (λ sizes. fitting sizes offsets bytes)) stands_again
        ∙ ap (λ r. unless_refused r (λ sizes. fitting sizes offsets bytes)) measured_whole
        ∙ fits (sizes_of texts) offsets bytes below within;
  }

pub undoes : DecodingUndoesEncoding
unfolding dictionary
undoes bytes offsets good = decodes_back (layout_texts bytes offsets) (good_texts bytes offsets good)
