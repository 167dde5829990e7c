-- What keys with fingerprints show as slots.
--
-- A slot is empty where its fingerprint is 0. A key that is put with another fingerprint fills its own slot, and leaves each
-- other one. Where each fingerprint is 0 all slots are empty, whatever the keys are; so a fingerprint that is not 0 tells that
-- the keys were made, and that there is memory for them.
use Rattle.std.proofs.Common.{◌≡◌, ◌≢◌, ℕ, zero, suc, ◌<◌, ◌⊎◌, List, [], ◌∷◌, Bool, true, false, cond, nat_eq, Option, Some, None, length, slice_get, get_or, set, replicate, refl, sym, ap, ◌∙◌, subst, inl, inr, arith}
use Rattle.std.specs.Option.{option_map}
use Rattle.std.proofs.lemmas.Bool.{cases_eq, cases_lt}
use Rattle.std.proofs.lemmas.Bool.Decides.{nat_tests}
use Rattle.std.proofs.lemmas.List.{ext_get_or, get_or-replicate, length-replicate, length-set, get_or-set_same, get_or-set_other, get_or_past}
use Rattle.std.proofs.lemmas.List.FromFn.{length-map-range_with_len, get_or-map-range_with_len}
use Rattle.std.proofs.lemmas.Option.{slice_get_read, none-some}
use Rattle.std.specs.declared.vec.Vec.{Vec}
use Rattle.lasso_parts.specs.Index.{Table, slot, SetsFingerprint}
use Rattle.lasso_parts.specs.KeySlots.{keys_of, slot_of, slots_of, table_of, IsLaidOut}

not_zero : (n : ℕ) → n ≢ zero → nat_eq n 0 ≡ false
not_zero n ne = grind (arith, nat_tests)

-- ---- fingerprints and keys

zero_fingerprint : (n i : ℕ) → get_or (replicate n zero) i zero ≡ zero
zero_fingerprint zero i = refl
zero_fingerprint (suc n) zero = refl
zero_fingerprint (suc n) (suc i) = zero_fingerprint n i

pub zero_at : (fingerprints : List ℕ) (j : ℕ) → fingerprints ≡ replicate (length fingerprints) 0 → get_or fingerprints j 0 ≡ 0
zero_at fingerprints j z = ap (λ ts. get_or ts j 0) z ∙ zero_fingerprint (length fingerprints) j

slice_get-set_other : {K : Type 0} (keys : List K) (j i : ℕ) (key : K) → i ≢ j → slice_get (set keys j key) i ≡ slice_get keys i
slice_get-set_other [] j i key ne = refl
slice_get-set_other (k ∷ keys) zero zero key ne = absurd (ne refl)
slice_get-set_other (k ∷ keys) zero (suc i) key ne = refl
slice_get-set_other (k ∷ keys) (suc j) zero key ne = refl
slice_get-set_other (k ∷ keys) (suc j) (suc i) key ne = slice_get-set_other keys j i key (λ e. ne (ap suc e))

slice_get-set_same : {K : Type 0} (keys : List K) (j : ℕ) (key : K) → j < length keys → slice_get (set keys j key) j ≡ Some key
slice_get-set_same [] j key l = absurd (omega arith)
slice_get-set_same (k ∷ keys) zero key l = refl
slice_get-set_same (k ∷ keys) (suc j) key l = slice_get-set_same keys j key (omega arith)

module _ {K : Type 0} (number : K → ℕ) where
  -- ---- the slots of keys and fingerprints

  pub length-slots_of : (fingerprints : List ℕ) (keys : List K) → length (slots_of number fingerprints keys) ≡ length fingerprints
  length-slots_of fingerprints keys = length-map-range_with_len (slot_of number fingerprints keys) 0 (length fingerprints)

  slot-slots_of : (fingerprints : List ℕ) (keys : List K) (j : ℕ) → j < length fingerprints → slot (slots_of number fingerprints keys) j ≡ slot_of number fingerprints keys j
  slot-slots_of fingerprints keys j l = get_or-map-range_with_len (slot_of number fingerprints keys) 0 (length fingerprints) j j None l (omega arith)

  fingerprint_tells : (fingerprints : List ℕ) (keys : List K) (j : ℕ) (empty : Bool) → nat_eq (get_or fingerprints j 0) 0 ≡ empty → slot_of number fingerprints keys j ≡ cond empty None (option_map number (slice_get keys j))
  fingerprint_tells fingerprints keys j empty e = ap (λ b. cond b None (option_map number (slice_get keys j))) e

  -- each fingerprint is 0
  all_empty : (fingerprints : List ℕ) (keys : List K) → fingerprints ≡ replicate (length fingerprints) 0 → slots_of number fingerprints keys ≡ replicate (length fingerprints) None
  all_empty fingerprints keys z = ext_get_or None (slots_of number fingerprints keys) (replicate (length fingerprints) None) (length-slots_of fingerprints keys ∙ sym (length-replicate (length fingerprints) None))
      (λ j h. let l : j < length fingerprints = subst (λ n. j < n) (length-slots_of fingerprints keys) h in slot-slots_of fingerprints keys j l ∙ fingerprint_tells fingerprints keys j true (ap (λ b. nat_eq b 0) (zero_at fingerprints j z)) ∙ sym (get_or-replicate (length fingerprints) j None None l))

  -- slots with n fingerprints of 0 are n empty ones
  pub slots_of-zeros : (fingerprints : List ℕ) (keys : List K) (n : ℕ) → fingerprints ≡ replicate n 0 → slots_of number fingerprints keys ≡ replicate n None
  slots_of-zeros fingerprints keys n z =
      let l : length fingerprints ≡ n = ap length z ∙ length-replicate n zero in
      all_empty fingerprints keys (z ∙ ap (λ k. replicate k zero) (sym l)) ∙ ap (λ k. replicate k None) l

  -- slots with the same fingerprint and the same key are alike
  same_slot : (fingerprints ts : List ℕ) (keys ks : List K) (i : ℕ) → get_or ts i 0 ≡ get_or fingerprints i 0 → slice_get ks i ≡ slice_get keys i → slot_of number ts ks i ≡ slot_of number fingerprints keys i
  same_slot fingerprints ts keys ks i b e = ap (λ t. cond (nat_eq t 0) None (option_map number (slice_get ks i))) b ∙ ap (λ o. cond (nat_eq (get_or fingerprints i 0) 0) None (option_map number o)) e

  -- ---- a key is put in slot j with a fingerprint

  slots_of-put : (fingerprints : List ℕ) (keys : List K) (j fingerprint : ℕ) (key : K) → j < length fingerprints → length keys ≡ length fingerprints → fingerprint ≢ 0 → slots_of number (set fingerprints j fingerprint) (set keys j key) ≡ set (slots_of number fingerprints keys) j (Some (number key))
  slots_of-put fingerprints keys j fingerprint key inside long filled =
      let ts = set fingerprints j fingerprint in
      let ks = set keys j key in
      let old = slots_of number fingerprints keys in
      let n : length old ≡ length fingerprints = length-slots_of fingerprints keys in
      let m : length (slots_of number ts ks) ≡ length fingerprints = length-slots_of ts ks ∙ length-set fingerprints j fingerprint in
      ext_get_or None (slots_of number ts ks) (set old j (Some (number key))) (m ∙ sym (length-set old j (Some (number key)) ∙ n))
      (λ i h.
      let l : i < length fingerprints = subst (λ n. i < n) m h in
      slot-slots_of ts ks i (subst (λ n. i < n) (sym (length-set fingerprints j fingerprint)) l) ∙ elim (cases_eq i j) [
        | inl e ↦
            let put : slot_of number ts ks j ≡ Some (number key) = fingerprint_tells ts ks j false (ap (λ b. nat_eq b 0) (get_or-set_same fingerprints j fingerprint 0 inside) ∙ not_zero fingerprint filled) ∙ ap (option_map number) (slice_get-set_same keys j key (omega arith)) in
            let at : get_or (set old j (Some (number key))) j None ≡ Some (number key) = get_or-set_same old j (Some (number key)) None (omega arith) in
            ap (slot_of number ts ks) e ∙ put ∙ sym (ap (λ k. get_or (set old j (Some (number key))) k None) e ∙ at)
        | inr ne ↦
            same_slot fingerprints ts keys ks i (get_or-set_other fingerprints j i fingerprint 0 ne) (slice_get-set_other keys j i key ne) ∙ sym (get_or-set_other old j i (Some (number key)) None ne ∙ slot-slots_of fingerprints keys i l)
      ])

  some_key : (keys : List K) (j : ℕ) → j < length keys → (n : ℕ) × (option_map number (slice_get keys j) ≡ Some n)
  some_key [] j l = absurd (omega arith)
  some_key (k ∷ keys) zero l = (number k, refl)
  some_key (k ∷ keys) (suc j) l = some_key keys j (omega arith)

-- ---- keys for which there is memory

pub keys_len : {K A : Type 0} (held : Option (Vec K A)) (keys : Vec K A) → held ≡ Some keys → length (keys_of held) ≡ length keys.items
keys_len held keys is = ap (λ (h : Option (Vec _ _)). length (keys_of h)) is

pub keys_read : {K A : Type 0} (held : Option (Vec K A)) (keys : Vec K A) (j : ℕ) (key : K) → held ≡ Some keys → key ≡ get_or keys.items j key → key ≡ get_or (keys_of held) j key
keys_read held keys j key is read = read ∙ ap (λ (h : Option (Vec _ _)). get_or (keys_of h) j key) (sym is)

pub keys_same : {K A : Type 0} (held : Option (Vec K A)) (keys : Vec K A) (ks : List K) → held ≡ Some keys → (keys.items ≡ []) ⊎ (ks ≡ keys.items) → (keys_of held ≡ []) ⊎ (ks ≡ keys_of held)
keys_same held keys ks is same = subst (λ (h : Option (Vec _ _)). (keys_of h ≡ []) ⊎ (ks ≡ keys_of h)) (sym is) same

-- ---- what the code reads and writes at slot j of the table v

module _ {K : Type 0} (number : K → ℕ) (fingerprints : List ℕ) (keys : List K) (room : ℕ) (laid : IsLaidOut fingerprints keys room) (v : Table) (view : table_of number fingerprints keys ≡ v) where
  slots_view : slots_of number fingerprints keys ≡ v.slots
  slots_view = ap (λ (t : Table). t.slots) view

  fingerprint_view : (j : ℕ) → get_or fingerprints j 0 ≡ get_or v.fingerprints j 0
  fingerprint_view j = ap (λ (t : Table). get_or t.fingerprints j 0) view

  pub count_is : length fingerprints ≡ length v.slots
  count_is = sym (length-slots_of number fingerprints keys) ∙ ap length slots_view

  in_fingerprints : (j : ℕ) → j < length v.slots → j < length fingerprints
  in_fingerprints j inside = subst (λ n. j < n) (sym count_is) inside

  slot_read : (j : ℕ) → j < length v.slots → (empty : Bool) → nat_eq (get_or fingerprints j 0) 0 ≡ empty → slot v.slots j ≡ cond empty None (option_map number (slice_get keys j))
  slot_read j inside empty e = ap (λ xs. slot xs j) (sym slots_view) ∙ slot-slots_of number fingerprints keys j (in_fingerprints j inside) ∙ fingerprint_tells number fingerprints keys j empty e

  pub tells_empty : (j : ℕ) → j < length v.slots → get_or v.fingerprints j 0 ≡ 0 → slot v.slots j ≡ None
  tells_empty j inside z = slot_read j inside true (ap (λ b. nat_eq b 0) (fingerprint_view j ∙ z))

  key_made : (j : ℕ) → j < length v.slots → get_or fingerprints j 0 ≢ 0 → j < length keys
  key_made j inside ne = elim laid.made [
    | inl none ↦ absurd (ne (zero_at fingerprints j none.1))
    | inr long ↦ let l = in_fingerprints j inside in omega arith
  ]

  pub tells_filled : (j : ℕ) → j < length v.slots → get_or v.fingerprints j 0 ≢ 0 → slot v.slots j ≢ None
  tells_filled j inside ne e =
      let filled : get_or fingerprints j 0 ≢ 0 = λ z. ne (sym (fingerprint_view j) ∙ z) in
      let w = some_key number keys j (key_made j inside filled) in
      none-some w.0 (sym e ∙ slot_read j inside false (not_zero _ filled) ∙ w.1)

  -- a slot that is not empty lies among them, and has a fingerprint that is not 0
  filled_inside : (j : ℕ) → slot v.slots j ≢ None → j < length v.slots
  filled_inside j ne = elim (cases_lt j (length v.slots)) [ inl l ↦ l | inr l ↦ absurd (ne (get_or_past v.slots j None l)) ]

  filled_fingerprint : (j : ℕ) → slot v.slots j ≢ None → get_or fingerprints j 0 ≢ 0
  filled_fingerprint j ne z = ne (slot_read j (filled_inside j ne) true (ap (λ b. nat_eq b 0) z))

  pub has_key : (j : ℕ) → slot v.slots j ≢ None → j < length keys
  has_key j ne = key_made j (filled_inside j ne) (filled_fingerprint j ne)

  pub tells_key : (j : ℕ) → slot v.slots j ≢ None → (key : K) → key ≡ get_or keys j key → slot v.slots j ≡ Some (number key)
  tells_key j ne key k = slot_read j (filled_inside j ne) false (not_zero _ (filled_fingerprint j ne)) ∙ ap (option_map number) (slice_get_read keys (length keys) j key refl (has_key j ne) k)

  -- there is a key in ks for each slot, and they are the earlier keys, if there were any
  pub put_slots : (ks : List K) → length ks ≡ length fingerprints → (keys ≡ []) ⊎ (ks ≡ keys) → (j fingerprint : ℕ) (key : K) → j < length v.slots → 0 < fingerprint → slots_of number (set fingerprints j fingerprint) (set ks j key) ≡ set v.slots j (Some (number key))
  put_slots ks long same j fingerprint key inside filled =
      slots_of-put number fingerprints ks j fingerprint key (in_fingerprints j inside) long (λ z. absurd (omega arith)) ∙ ap (λ xs. set xs j (Some (number key))) made where
        made : slots_of number fingerprints ks ≡ v.slots
        made = elim same [
          | inl none ↦ elim laid.made [
            | inl blank ↦ all_empty number fingerprints ks blank.1 ∙ sym (all_empty number fingerprints keys blank.1) ∙ slots_view
            | inr all ↦ let l = in_fingerprints j inside in let z = ap length none in absurd (omega arith)
          ]
          | inr e ↦ ap (λ k. slots_of number fingerprints k) e ∙ slots_view
        ]

  pub put_fingerprints : (xs : List (Option ℕ)) (j fingerprint : ℕ) → j < length v.slots → SetsFingerprint v (record { slots = xs; fingerprints = set fingerprints j fingerprint }) j fingerprint
  put_fingerprints xs j fingerprint inside = (get_or-set_same fingerprints j fingerprint 0 (in_fingerprints j inside), λ i ne. get_or-set_other fingerprints j i fingerprint 0 ne ∙ fingerprint_view i)
