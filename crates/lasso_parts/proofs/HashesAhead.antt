-- The texts of slots that are side by side are found one after another, and then they are hashed one after another.
use Rattle.std.proofs.Common.{◌≡◌, ℕ, ◌+◌, ◌-◌, ◌<◌, ◌≤◌, List, [], Option, Some, length, map, slice_get, get_or, set, sym, ap, ◌∙◌, subst, inl, inr, arith}
use Rattle.std.proofs.lemmas.Bool.{cases_lt}
use Rattle.std.proofs.lemmas.List.{get_or-set_same, get_or-set_other, map-set, length-map, get_or-map}
use Rattle.std.proofs.lemmas.Option.{same_Some}
use Rattle.lasso_parts.specs.Texts.{Text}
use Rattle.lasso_parts.specs.Index.{slot}
use Rattle.lasso_parts.specs.IndexTable.{AreTextsFrom, AreHashesFrom}

module _ (texts : List Text) (xs : List (Option ℕ)) (first place : ℕ) where
  -- the text of the next slot was found, if that is not empty
  found_next : (found : List Text) (there : Text) → place < length found → ((n : ℕ) → slot xs (first + place) ≡ Some n → slice_get texts n ≡ Some there) →
      AreTextsFrom texts xs first place found → AreTextsFrom texts xs first (place + 1) (set found place there)
  found_next found there inside here before i n l at = elim (cases_lt i place) [
    | inl b ↦ before i n b at ∙ ap Some (sym (get_or-set_other found place i there [] (λ e. absurd (omega (arith, e, b)))))
    | inr a ↦
        let e : i ≡ place = omega (arith, l, a) in
        here n (ap (λ k. slot xs (first + k)) (sym e) ∙ at) ∙ ap Some (sym (get_or-set_same found place there [] inside) ∙ ap (λ k. get_or (set found place there) k []) (sym e))
  ]

  -- the same, where it is stored as what shows it
  pub found_more : {X : Type 0} (f : X → Text) (found : List X) (x : X) → place < length found → ((n : ℕ) → slot xs (first + place) ≡ Some n → slice_get texts n ≡ Some (f x)) →
      AreTextsFrom texts xs first place (map f found) → AreTextsFrom texts xs first (place + 1) (map f (set found place x))
  found_more f found x inside here before =
      subst (λ (fs : List Text). AreTextsFrom texts xs first (place + 1) fs) (sym (map-set f found place x))
      (found_next (map f found) (f x) (subst (λ k. place < k) (sym (length-map found f)) inside) here before)

  -- the text at the next place was hashed
  hashed_next : (hash_of : Text → ℕ) (hashes : List ℕ) (there : Text) (hash : ℕ) → place < length hashes → hash ≡ hash_of there →
      ((n : ℕ) → slot xs (first + place) ≡ Some n → slice_get texts n ≡ Some there) →
      AreHashesFrom hash_of texts xs first place hashes → AreHashesFrom hash_of texts xs first (place + 1) (set hashes place hash)
  hashed_next hash_of hashes there hash inside own here before i n text l at is = elim (cases_lt i place) [
    | inl b ↦ get_or-set_other hashes place i hash 0 (λ e. absurd (omega (arith, e, b))) ∙ before i n text b at is
    | inr a ↦
        let e : i ≡ place = omega (arith, l, a) in
        let same : there ≡ text = same_Some there text (sym (here n (ap (λ k. slot xs (first + k)) (sym e) ∙ at)) ∙ is) in
        ap (λ k. get_or (set hashes place hash) k 0) e ∙ get_or-set_same hashes place hash 0 inside ∙ own ∙ ap hash_of same
  ]

  -- the same, where the texts were found before, as what shows them
  pub hashed_more : {X : Type 0} (f : X → Text) (hash_of : Text → ℕ) (found : List X) (d : X) (size : ℕ) (hashes : List ℕ) (hash : ℕ) → place < length found → place < length hashes → place < size → hash ≡ hash_of (f (get_or found place d)) →
      AreTextsFrom texts xs first size (map f found) → AreHashesFrom hash_of texts xs first place hashes → AreHashesFrom hash_of texts xs first (place + 1) (set hashes place hash)
  hashed_more f hash_of found d size hashes hash inside within l own here before =
      hashed_next hash_of hashes (f (get_or found place d)) hash within own (λ n at. here place n l at ∙ ap Some (get_or-map f found place d [] inside)) before

-- the hash of the text of a slot that was looked at
pub hash_known : (hash_of : Text → ℕ) (texts : List Text) (xs : List (Option ℕ)) (first size j : ℕ) (hashes : List ℕ) → AreHashesFrom hash_of texts xs first size hashes → first ≤ j → j < first + size →
    (n : ℕ) (text : Text) → slot xs j ≡ Some n → slice_get texts n ≡ Some text → get_or hashes (j - first) 0 ≡ hash_of text
hash_known hash_of texts xs first size j hashes known after before n text at is =
    let e : first + (j - first) ≡ j = omega (arith, after) in
    known (j - first) n text (omega (arith, after, before)) (ap (slot xs) e ∙ at) is
