-- Texts that were encoded, one after another.
--
-- A text that was interned has its key's position in the list that is left. The texts from before keep
-- theirs, so their codes stay, and one more code goes after them. As many codes were added as texts were
-- encoded: so their number says which these are.
use denote.Ref.{Bor}
use Rattle.std.proofs.Common.{ℕ, suc, map, drop, get_or, ◌≡◌, ◌+◌, ◌-◌, ◌<◌, List, [], ◌∷◌, ◌++◌, length, take, Option, None, Some, Ok, IsSomeAnd, is_some, refl, sym, ap, subst, ◌∙◌, arith, lit≤}
use Rattle.std.specs.Prelude.{Contains, option_and_then, slice_get}
use Rattle.std.proofs.lemmas.Option.{cond_some}
use Rattle.std.proofs.Math.Seq.{drop-cons, take-append_seam}
use Rattle.std.proofs.lemmas.List.{take_more, take-append-drop, get_or-map, length-map}
use Rattle.std.proofs.lemmas.List.Elements.{Contains-get_or}
use Rattle.lasso_parts.specs.Kept.{IsKeptNumber, kept_made}
use Rattle.lasso_parts.specs.Texts.{Text, position_of}
use Rattle.lasso_single.specs.Filling.{extend}
use Rattle.lasso_single.specs.Intern.{InternsIn}
use Rattle.lasso_single.specs.Interner.{InternerView}
use Rattle.lasso_single.proofs.Filled.{accepted, extend_push}
use Rattle.lasso_single.proofs.KeyLists.{list_left, key_left}
use Rattle.lasso_single.proofs.Coded.{codes_stay, adds_push, adds_length}
use Rattle.lasso_single.specs.Codes.{AddsCodes}
use Rattle.lasso_single.specs.Coding.{spur_at, encoded_texts}

-- the position of a key
pub position_of_key : (position k : ℕ) → spur_at position ≡ Some k → position ≡ k - 1
position_of_key position k e = let sum = (cond_some _ _ _ e).1 in omega arith

-- a key is from 1 to the greatest number of 32 bits
pub key_kept : (position k : ℕ) → spur_at position ≡ Some k → IsKeptNumber 4294967295 k
key_kept position k e = (kept_made 4294967295 (lit≤ tt) position k e).1

-- where the text of a key is found
pub found_at : (o : Option ℕ) (key : ℕ) → option_and_then spur_at o ≡ Some key → o ≡ Some (key - 1)
found_at None key has = cc
found_at (Some n) key has = ap Some (position_of_key n key has)

-- where an interned text is found
pub interned_at : (old new : InternerView) (text : Text) (key : ℕ) → InternsIn spur_at old text (Ok key) new → position_of new.texts text ≡ Some (key - 1)
interned_at old new text key h = found_at (position_of new.texts text) key (key_left spur_at old new text key h)

-- these texts were interned in order, and their codes were appended to those from before
pub record Encoded (old : InternerView) (texts : List Text) (before : List ℕ) (new : InternerView) (after : List ℕ) : Type 0 where
  pub list : extend spur_at old texts accepted new
  pub codes : AddsCodes new.texts texts before after

-- one text more
pub encoded_push : (old mid new : InternerView) (texts : List Text) (text : Text) (key code : ℕ) (before codes after : List ℕ) → Encoded old texts before mid codes → InternsIn spur_at mid text (Ok key) new → position_of new.texts text ≡ Some code → after ≡ codes ++ code ∷ [] → Encoded old (texts ++ text ∷ []) before new after
encoded_push old mid new texts text key code before codes after so_far interns here is = record {
  list = extend_push spur_at old mid new texts text (Ok key) accepted so_far.list interns refl;
  codes =
      let kept : AddsCodes new.texts texts before codes = (so_far.codes.0, so_far.codes.1, rw (list_left spur_at mid new text key interns) (codes_stay mid.texts text (is_some (position_of mid.texts text)) texts so_far.codes.0 so_far.codes.2)) in
      adds_push new.texts texts text code before codes after kept here is;
}

-- the codes say how many texts were encoded
pub encoded_length : (old new : InternerView) (texts : List Text) (before after : List ℕ) → Encoded old texts before new after → length after ≡ length before + length texts
encoded_length old new texts before after so_far = adds_length new.texts texts before after so_far.codes

-- ---- what the codes say of a list of texts, some of which were encoded

module _ (all done rest : List Text) (split : all ≡ done ++ rest) (old new : InternerView) (before after : List ℕ) (so_far : Encoded old done before new after) where
  pub encoded_are : encoded_texts before after all ≡ done
  encoded_are =
      let long : length after - length before ≡ length done = omega (arith, encoded_length old new done before after so_far) in
      ap (λ n. take n all) long ∙ ap (take (length done)) split ∙ take-append_seam done rest

  pub told_list : extend spur_at old (encoded_texts before after all) accepted new
  told_list = subst (λ (ts : List Text). extend spur_at old ts accepted new) (sym encoded_are) so_far.list

  pub told_codes : AddsCodes new.texts (encoded_texts before after all) before after
  told_codes = subst (λ (ts : List Text). AddsCodes new.texts ts before after) (sym encoded_are) so_far.codes

at_seam : (done : List Text) (text : Text) (rest : List Text) → slice_get (done ++ text ∷ rest) (length done) ≡ Some text
at_seam [] text rest = refl
at_seam (t ∷ done) text rest = at_seam done text rest

-- the text after those that were encoded
pub next_at : (all done : List Text) (text : Text) (rest : List Text) → all ≡ done ++ text ∷ rest → (old new : InternerView) (before after : List ℕ) → Encoded old done before new after → (P : Text → Type 0) → P text → IsSomeAnd (slice_get all (length after - length before)) P
next_at all done text rest split old new before after so_far P holds =
    let long : length after - length before ≡ length done = omega (arith, encoded_length old new done before after so_far) in
    let here : slice_get all (length after - length before) ≡ Some text = ap (λ n. slice_get all n) long ∙ ap (λ (ts : List Text). slice_get ts (length done)) split ∙ at_seam done text rest in
    subst (λ o. IsSomeAnd o P) (sym here) holds

-- nothing was changed since
pub encoded_still : (old mid new : InternerView) (texts : List Text) (before codes after : List ℕ) → Encoded old texts before mid codes → new ≡ mid → after ≡ codes → Encoded old texts before new after
encoded_still old mid new texts before codes after so_far same kept =
    subst (λ cs. Encoded old texts before new cs) (sym kept) (subst (λ (i : InternerView). Encoded old texts before i codes) (sym same) so_far)

-- ---- a slice of texts

-- the texts up to an index and the one there
pub texts_more : (texts : List (Bor Text)) (i : ℕ) (d : Bor Text) → i < length texts → take (i + 1) (map (λ t. t.now) texts) ≡ take i (map (λ t. t.now) texts) ++ (get_or texts i d).now ∷ []
texts_more texts i d small =
    let all = map (λ (t : Bor Text). t.now) texts in
    let inside : i < length all = omega (arith, length-map texts (λ t. t.now)) in
    take_more all i [] inside ∙ ap (λ (t : Text). take i all ++ t ∷ []) (get_or-map (λ t. t.now) texts i d [] small)

pub texts_split : (texts : List (Bor Text)) (i : ℕ) (d : Bor Text) → i < length texts → map (λ t. t.now) texts ≡ take i (map (λ t. t.now) texts) ++ (get_or texts i d).now ∷ drop (suc i) (map (λ t. t.now) texts)
texts_split texts i d small =
    let all = map (λ (t : Bor Text). t.now) texts in
    let inside : i < length all = omega (arith, length-map texts (λ t. t.now)) in
    sym (take-append-drop i all) ∙ ap (λ (ts : List Text). take i all ++ ts) (drop-cons all i [] inside) ∙ ap (λ (t : Text). take i all ++ t ∷ drop (suc i) all) (get_or-map (λ t. t.now) texts i d [] small)

-- the text at an index is one of them
pub texts_contain : (texts : List (Bor Text)) (i : ℕ) (d : Bor Text) → i < length texts → Contains (map (λ t. t.now) texts) (get_or texts i d).now
texts_contain texts i d small =
    let all = map (λ (t : Bor Text). t.now) texts in
    let inside : i < length all = omega (arith, length-map texts (λ t. t.now)) in
    subst (Contains all) (get_or-map (λ t. t.now) texts i d [] small) (Contains-get_or all i [] inside)
