-- Writing a list's texts from a position on, one after another.
--
-- After the first texts, the bytes are theirs, and the offsets are where each of them begins and where the
-- last one ends. One more text appends its bytes, and appends its end to the offsets.
use Rattle.std.proofs.Common.{ℕ, ◌≡◌, ◌+◌, ◌-◌, ◌<◌, ◌≤◌, List, [], ◌∷◌, ◌++◌, length, take, drop, slice_get, Some, ap, sym, subst, ◌∙◌, arith, length-append, append-nil, length-drop}
use Rattle.std.specs.Prelude.{All}
use Rattle.std.specs.List.{concat, slice_range}
use Rattle.std.specs.Str.{IsUtf8}
use Rattle.std.proofs.lemmas.List.{take_all, take-append-drop, get_or-drop}
use Rattle.std.proofs.lemmas.List.Elements.{All-push}
use Rattle.std.proofs.lemmas.List.Folds.{concat-append}
use Rattle.std.proofs.lemmas.Option.{slice_get_within, slice_get-get_or, get_or_from_slice_get}
use Rattle.lasso_parts.specs.Texts.{Text}
use Rattle.lasso_parts.proofs.TextLemmas.{take_more_at}
use Rattle.lasso_columns.specs.Dictionaries.{IsWriteFault}
use Rattle.lasso_parts.specs.Layout.{offsets_from}
use Rattle.lasso_columns.specs.declared.faults.WriteError.TheVariants.{TooManyBytes}

-- text `from + at` of the list is text `at` of those from `from` on
pub text_from : (list : List Text) (from at : ℕ) (text : Text) → slice_get list (from + at) ≡ Some text → slice_get (drop from list) at ≡ Some text
text_from list from at text is =
    let inside : at < length (drop from list) = omega (arith, slice_get_within list (from + at) text is, length-drop from list) in
    slice_get-get_or (drop from list) at [] inside ∙ ap (λ (t : Text). Some t) (get_or-drop from list at [] ∙ get_or_from_slice_get list (from + at) text [] is)

-- the bytes of the first texts and one more
pub bytes_more : (rest : List Text) (at : ℕ) (text : Text) → slice_get rest at ≡ Some text → concat (take (at + 1) rest) ≡ concat (take at rest) ++ text
bytes_more rest at text is =
    ap concat (take_more_at rest at text is) ∙ concat-append (take at rest) (text ∷ []) ∙ ap (λ (t : Text). concat (take at rest) ++ t) (append-nil text)

pub count_more : (rest : List Text) (at : ℕ) (text : Text) → slice_get rest at ≡ Some text → length (concat (take (at + 1) rest)) ≡ length (concat (take at rest)) + length text
count_more rest at text is = ap length (bytes_more rest at text is) ∙ length-append (concat (take at rest)) text

-- the first texts have no more bytes than all of them
pub bytes_within : (rest : List Text) (n : ℕ) → length (concat (take n rest)) ≤ length (concat rest)
bytes_within rest n =
    let whole : length (concat rest) ≡ length (concat (take n rest)) + length (concat (drop n rest)) =
    ap (λ (ts : List Text). length (concat ts)) (sym (take-append-drop n rest)) ∙ ap length (concat-append (take n rest) (drop n rest)) ∙ length-append (concat (take n rest)) (concat (drop n rest)) in
    omega (arith, whole)

-- the texts between two positions are the first of those from the first position on
pub range_from : (list : List Text) (from at : ℕ) → slice_range list from (from + at) ≡ take at (drop from list)
range_from list from at = let n : (from + at) - from ≡ at = omega arith in ap (λ k. take k (drop from list)) n

-- the text of this number is the first that ends past the greatest offset
pub ends_past : (most : ℕ) (list : List Text) (from at : ℕ) (text : Text) → slice_get list (from + at) ≡ Some text → length (concat (take at (drop from list))) ≤ most → most < length (concat (take at (drop from list))) + length text → IsWriteFault most list from (TooManyBytes (from + at))
ends_past most list from at text is small large =
    let one : (from + at) + 1 ≡ from + (at + 1) = omega arith in
    let before : slice_range list from (from + at) ≡ take at (drop from list) = range_from list from at in
    let after : slice_range list from ((from + at) + 1) ≡ take (at + 1) (drop from list) = ap (λ n. slice_range list from n) one ∙ range_from list from (at + 1) in (
      omega arith,
      slice_get_within list (from + at) text is,
      subst (λ (ts : List Text). length (concat ts) ≤ most) (sym before) small,
      subst (λ (ts : List Text). most < length (concat ts)) (sym after) (omega (arith, count_more (drop from list) at text (text_from list from at text is), large)),
    )

-- one more offset, where the appended text ends
offsets_push : (at : ℕ) (texts : List Text) (text : Text) → offsets_from at (texts ++ text ∷ []) ≡ offsets_from at texts ++ (at + length (concat (texts ++ text ∷ []))) ∷ []
offsets_push at [] text = ap (λ (t : Text). at ∷ (at + length t) ∷ []) (sym (append-nil text))
offsets_push at (t ∷ texts) text =
    let end : (at + length t) + length (concat (texts ++ text ∷ [])) ≡ at + length (t ++ concat (texts ++ text ∷ [])) = omega (arith, length-append t (concat (texts ++ text ∷ []))) in
    ap (λ os. at ∷ os) (offsets_push (at + length t) texts text ∙ ap (λ n. offsets_from (at + length t) texts ++ n ∷ []) end)

-- the first `at` texts are written
pub record Written (rest : List Text) (at : ℕ) (bytes offsets : List ℕ) : Type 0 where
  pub bytes_are : bytes ≡ concat (take at rest)
  pub offsets_are : offsets ≡ offsets_from 0 (take at rest)
  pub are_utf8 : All IsUtf8 (take at rest)

pub one_written : (rest : List Text) (at : ℕ) (text : Text) (bytes offsets bytes' offsets' : List ℕ) (end : ℕ) → slice_get rest at ≡ Some text → IsUtf8 text → Written rest at bytes offsets → bytes' ≡ bytes ++ text → end ≡ length bytes' → offsets' ≡ offsets ++ end ∷ [] → Written rest (at + 1) bytes' offsets'
one_written rest at text bytes offsets bytes' offsets' end is utf8 w puts ends put =
    let more : take (at + 1) rest ≡ take at rest ++ text ∷ [] = take_more_at rest at text is in
    let whole : bytes' ≡ concat (take (at + 1) rest) = puts ∙ ap (λ bs. bs ++ text) w.bytes_are ∙ sym (bytes_more rest at text is) in
    let last : end ≡ 0 + length (concat (take at rest ++ text ∷ [])) = omega (arith, ends, ap length whole, ap (λ (ts : List Text). length (concat ts)) more) in
    record {
      bytes_are = whole;
      offsets_are =
          put ∙ ap (λ os. os ++ end ∷ []) w.offsets_are ∙ ap (λ n. offsets_from 0 (take at rest) ++ n ∷ []) last ∙ sym (offsets_push 0 (take at rest) text)
          ∙ ap (λ (ts : List Text). offsets_from 0 ts) (sym more);
      are_utf8 = subst (λ (ts : List Text). All IsUtf8 ts) (sym more) (All-push IsUtf8 (take at rest) text w.are_utf8 utf8);
    }

module _ (rest : List Text) (at : ℕ) (bytes offsets : List ℕ) (past : length rest ≤ at) (w : Written rest at bytes offsets) where
  all_taken : take at rest ≡ rest
  all_taken = take_all at rest past

  pub all_utf8 : All IsUtf8 rest
  all_utf8 = subst (λ (ts : List Text). All IsUtf8 ts) all_taken w.are_utf8
