-- Tables of empty slots, and tables that are filled anew.
--
-- Keys are entered one after another, each in the slot where the search for its hash ends. They are those of
-- the old slots, from the first to the last, or those of the list's positions, from the first to the last. As
-- far as these were gone through, the new table holds them, has that number of slots in use, and is filed;
-- there is always an empty slot, since it has more slots than keys. A count of slots is 0 or a power of two
-- from 8 on, so doubling it makes room.
use Rattle.std.proofs.Common.{◌≡◌, ℕ, zero, suc, ◌+◌, ◌*◌, ◌^◌, ◌<◌, ◌≤◌, ◌⊎◌, ◌↔◌, List, [], ◌∷◌, ◌++◌, Option, Some, None, length, take, replicate, refl, sym, ap, ◌∙◌, subst, inl, inr, arith, zero-add, add-zero}
use Rattle.std.proofs.lemmas.Bool.{cases_lt}
use Rattle.std.proofs.lemmas.List.{get_or_past, get_or-replicate, length-replicate, get_or_append_left, get_or_push, length_push, take_more}
use Rattle.std.proofs.lemmas.Option.{same_Some, none-some}
use Rattle.lasso_parts.specs.Texts.{Text}
use Rattle.lasso_parts.specs.Index.{Table, slot, used, Holds, IsFiled, IsIndexOf, load_limit, room, grown_count}
use Rattle.lasso_parts.specs.IndexTable.{IsEntered, IsRefilled, IsSlotCount, IsTable}
use Rattle.std.proofs.lemmas.Grind.{common_steps}
use Rattle.std.proofs.lemmas.Bool.Decides.{nat_tests}
use lib.Pow.{pow_mono}
use Rattle.lasso_parts.proofs.IndexSlots.{slot_within, used-replicate}
use Rattle.lasso_parts.proofs.IndexLaws.{IsFiled-from_none}

-- ---- empty slots, and one slot more

pub Holds-replicate : (n k : ℕ) → Holds (replicate n None) k → ⊥
Holds-replicate n k h = elim (cases_lt h.0 n) [
  | inl l ↦ none-some k (sym (get_or-replicate n h.0 None None l) ∙ h.1)
  | inr l ↦ none-some k (sym (get_or_past (replicate n None) h.0 None (subst (λ m. m ≤ h.0) (sym (length-replicate n None)) l)) ∙ h.1)
]

pub used-push : (xs : List (Option ℕ)) (o : Option ℕ) → used (xs ++ o ∷ []) ≡ used xs + used (o ∷ [])
used-push [] o = sym (zero-add _)
used-push (None ∷ xs) o = used-push xs o
used-push (Some n ∷ xs) o = let e = used-push xs o in omega (arith, e)

pub Holds-push : (xs : List (Option ℕ)) (o : Option ℕ) (n : ℕ) → Holds (xs ++ o ∷ []) n ↔ (Holds xs n ⊎ (o ≡ Some n))
Holds-push xs o n = (to, from) where
  to : Holds (xs ++ o ∷ []) n → Holds xs n ⊎ (o ≡ Some n)
  to h = elim (cases_lt h.0 (length xs)) [
    | inl l ↦ inl (h.0, sym (get_or_append_left xs (o ∷ []) None h.0 l) ∙ h.1)
    | inr l ↦
        let w = slot_within (xs ++ o ∷ []) h.0 n h.1 in
        let e : length xs ≡ h.0 = omega (arith, length_push xs o) in
        inr (sym (get_or_push xs o None h.0 e) ∙ h.1)
  ]

  from : (Holds xs n ⊎ (o ≡ Some n)) → Holds (xs ++ o ∷ []) n
  from u = elim u [
    | inl h ↦ (h.0, get_or_append_left xs (o ∷ []) None h.0 (slot_within xs h.0 n h.1) ∙ h.1)
    | inr e ↦ (length xs, get_or_push xs o None (length xs) refl ∙ e)
  ]

-- ---- the old slots are read one after another

module _ (old : List (Option ℕ)) (i : ℕ) (inside : i < length old) where
  seen : (o : Option ℕ) → slot old i ≡ o → take (i + 1) old ≡ take i old ++ o ∷ []
  seen o e = take_more old i None inside ∙ ap (λ w. take i old ++ w ∷ []) e

  -- the next slot is empty
  pub holds_skip : slot old i ≡ None → (n : ℕ) → Holds (take (i + 1) old) n ↔ Holds (take i old) n
  holds_skip e n = (
    λ h. elim ((Holds-push (take i old) None n).0 (subst (λ xs. Holds xs n) (seen None e) h)) [ inl w ↦ w | inr w ↦ absurd (none-some n w) ],
    λ h. subst (λ xs. Holds xs n) (sym (seen None e)) ((Holds-push (take i old) None n).1 (inl h)),
  )

  pub used_skip : slot old i ≡ None → used (take (i + 1) old) ≡ used (take i old)
  used_skip e = ap used (seen None e) ∙ used-push (take i old) None ∙ add-zero _

  -- the next slot has a position
  pub holds_more : (m : ℕ) → slot old i ≡ Some m → (n : ℕ) → Holds (take (i + 1) old) n ↔ (Holds (take i old) n ⊎ (n ≡ m))
  holds_more m e n = (
    λ h. elim ((Holds-push (take i old) (Some m) n).0 (subst (λ xs. Holds xs n) (seen (Some m) e) h)) [ inl w ↦ inl w | inr w ↦ inr (sym (same_Some _ _ w)) ],
    λ h. subst (λ xs. Holds xs n) (sym (seen (Some m) e)) ((Holds-push (take i old) (Some m) n).1 (elim h [ inl w ↦ inl w | inr w ↦ inr (ap Some (sym w)) ])),
  )

  pub used_more : (m : ℕ) → slot old i ≡ Some m → used (take (i + 1) old) ≡ used (take i old) + 1
  used_more m e = ap used (seen (Some m) e) ∙ used-push (take i old) (Some m)

-- fewer keys were seen than there are slots
pub used-take-le : (i : ℕ) (xs : List (Option ℕ)) → used (take i xs) ≤ used xs
used-take-le zero xs = omega arith
used-take-le (suc i) [] = omega arith
used-take-le (suc i) (None ∷ xs) = used-take-le i xs
used-take-le (suc i) (Some n ∷ xs) = let h = used-take-le i xs in omega arith

-- ---- a table is refilled

pub IsRefilled-start : (hash_of : Text → ℕ) (texts : List Text) (table : Table) (n : ℕ) (IsHeld : ℕ → Type 0) → table.slots ≡ replicate n None → ((k : ℕ) → IsHeld k → ⊥) → IsRefilled hash_of texts table IsHeld 0
IsRefilled-start hash_of texts table n IsHeld e nothing =
    let none : (k : ℕ) → Holds table.slots k → ⊥ = λ k h. Holds-replicate n k (subst (λ ys. Holds ys k) e h) in
    record {
      filed = IsFiled-from_none table none hash_of texts;
      holds = λ k. (λ h. absurd (none k h), λ h. absurd (nothing k h));
      counted = ap used e ∙ used-replicate n;
    }

-- one position more was entered
pub IsRefilled-more : (hash_of : Text → ℕ) (texts : List Text) (table new : Table) (IsHeld IsNext : ℕ → Type 0) (count next m : ℕ) → IsRefilled hash_of texts table IsHeld count → IsEntered m table new → (IsFiled hash_of texts table → IsFiled hash_of texts new) → ((n : ℕ) → IsNext n ↔ (IsHeld n ⊎ (n ≡ m))) → next ≡ count + 1 → IsRefilled hash_of texts new IsNext next
IsRefilled-more hash_of texts table new IsHeld IsNext count next m r e filed held c = record {
  filed = filed r.filed;
  holds = λ n. (
    λ h. (held n).1 (elim ((e.holds n).0 h) [ inl w ↦ inl ((r.holds n).0 w) | inr w ↦ inr w ]),
    λ h. (e.holds n).1 (elim ((held n).0 h) [ inl w ↦ inl ((r.holds n).1 w) | inr w ↦ inr w ]),
  );
  counted = e.more ∙ ap (λ k. k + 1) r.counted ∙ sym c;
}

-- no position was entered
pub IsRefilled-same : (hash_of : Text → ℕ) (texts : List Text) (table new : Table) (IsHeld IsNext : ℕ → Type 0) (count next : ℕ) → IsRefilled hash_of texts table IsHeld count → new ≡ table → ((n : ℕ) → IsNext n ↔ IsHeld n) → next ≡ count → IsRefilled hash_of texts new IsNext next
IsRefilled-same hash_of texts table new IsHeld IsNext count next r same held c = subst (λ (t : Table). IsRefilled hash_of texts t IsNext next) (sym same) (record {
  filed = r.filed;
  holds = λ n. (λ h. (held n).1 ((r.holds n).0 h), λ h. (r.holds n).1 ((held n).0 h));
  counted = r.counted ∙ sym c;
})

-- the next position of the list
pub below_more : (i m n : ℕ) → m ≡ i → (n < i + 1) ↔ ((n < i) ⊎ (n ≡ m))
below_more i m n e = (λ l. elim (cases_lt n i) [ inl b ↦ inl b | inr b ↦ inr (omega (arith, e)) ], λ h. elim h [ inl b ↦ omega arith | inr w ↦ omega (arith, e, w) ])

-- ---- counts of slots

pub IsSlotCount-cases : (n : ℕ) → IsSlotCount n → (n ≡ 0) ⊎ (8 ≤ n)
IsSlotCount-cases n s = elim s [ inl z ↦ inl z | inr w ↦ let m : 2 ^ 3 ≤ 2 ^ w.0 = pow_mono {i = 3} {j = w.0} w.1 in inr (omega (arith, w.2)) ]

pub IsSlotCount-eight : IsSlotCount 8
IsSlotCount-eight = inr (3, omega arith, refl)

double_pow : (n k : ℕ) → n ≡ 2 ^ k → 2 * n ≡ 2 ^ suc k
double_pow n k e = grind (arith, common_steps)

pub IsSlotCount-double : (n : ℕ) → IsSlotCount n → 0 < n → IsSlotCount (2 * n)
IsSlotCount-double n s p = elim s [ inl z ↦ absurd (omega arith) | inr w ↦ inr (suc w.0, omega (arith, w.1), double_pow n w.0 w.2) ]

-- a table of empty slots
pub IsTable-replicate : (xs : List (Option ℕ)) (n : ℕ) → IsSlotCount n → xs ≡ replicate n None → IsTable xs 0
IsTable-replicate xs n s e = record {
  slots = subst IsSlotCount (sym (length-replicate n None) ∙ ap length (sym e)) s;
  counted = sym (used-replicate n) ∙ ap used (sym e);
  load = let z : used xs ≡ 0 = ap used e ∙ used-replicate n in omega (arith, z);
}

-- in empty slots there is room for the number of positions that may be filled
pub room-replicate : (xs : List (Option ℕ)) (n : ℕ) → xs ≡ replicate n None → room xs ≡ load_limit n
room-replicate xs n e =
    let z : used xs ≡ 0 = ap used e ∙ used-replicate n in
    let k : load_limit (length xs) ≡ load_limit n = ap load_limit (ap length e ∙ length-replicate n None) in
    omega arith

-- the count of slots after a growth
grown_from_none : (count keys : ℕ) → keys ≤ load_limit 0 → count ≡ grown_count 0 → IsSlotCount count × (keys < load_limit count)
grown_from_none count keys high e = (subst IsSlotCount (sym e) IsSlotCount-eight, omega (arith, e))

doubled : (len : ℕ) → 8 ≤ len → grown_count len ≡ 2 * len
doubled len many = grind (arith, nat_tests)

pub grown : (len count keys : ℕ) → IsSlotCount len → keys ≤ load_limit len → count ≡ grown_count len → IsSlotCount count × (keys < load_limit count)
grown len count keys s high e = elim (IsSlotCount-cases len s) [
  | inl z ↦ grown_from_none count keys (subst (λ n. keys ≤ load_limit n) z high) (e ∙ ap grown_count z)
  | inr b ↦ let d : count ≡ 2 * len = e ∙ doubled len b in (subst IsSlotCount (sym d) (IsSlotCount-double len s (omega arith)), omega (arith, d))
]

-- all slots were emptied
pub cleared : (table v : Table) (new : List (Option ℕ)) (count : ℕ) → table ≡ v → new ≡ replicate (length table.slots) None → IsTable table.slots count → IsTable new 0 × (room v.slots ≤ room new)
cleared table v new count view e t =
    let l : length table.slots ≡ length v.slots = ap (λ (w : Table). length w.slots) view in
    let f : load_limit (length table.slots) ≡ load_limit (length v.slots) = ap load_limit l in
    let r : room new ≡ load_limit (length table.slots) = room-replicate new (length table.slots) e in
    (IsTable-replicate new (length table.slots) t.slots e, omega arith)

-- the new table, with the same number of used slots, in the place of a full one
module _ (table new v : Table) (keys count : ℕ) (full : IsTable table.slots keys) (view : table ≡ v) (size : count ≡ grown_count (length table.slots)) (long : length new.slots ≡ count) (counted : used new.slots ≡ keys) where
  sized : count ≡ grown_count (length v.slots)
  sized = size ∙ ap (λ (w : Table). grown_count (length w.slots)) view

  grown_here : IsSlotCount count × (keys < load_limit count)
  grown_here = grown (length table.slots) count keys full.slots (omega (arith, full.load, full.counted)) size

  pub next_table : IsTable new.slots keys
  next_table = record {
    slots = subst IsSlotCount (sym long) grown_here.0;
    counted = sym counted;
    load = let g = grown_here.1 in subst (λ k. used new.slots ≤ load_limit k) (sym long) (omega (arith, counted));
  }

  pub next_room : 0 < room new.slots
  next_room = let g = grown_here.1 in let l : load_limit (length new.slots) ≡ load_limit count = ap load_limit long in omega (arith, counted)

  pub next_count : length new.slots ≡ grown_count (length v.slots)
  next_count = long ∙ sized

-- what was entered from the old slots is what they hold
pub next_holds : (hash_of : Text → ℕ) (texts : List Text) (table new v : Table) → table ≡ v → IsRefilled hash_of texts new (Holds table.slots) (used table.slots) → (n : ℕ) → Holds new.slots n ↔ Holds v.slots n
next_holds hash_of texts table new v view r n = subst (λ (w : Table). Holds new.slots n ↔ Holds w.slots n) view (r.holds n)

-- the first positions, up to the number that the index held, are all of a list that it is the index of
pub next_index : (hash_of : Text → ℕ) (texts : List Text) (table new v : Table) (keys : ℕ) → table ≡ v → IsTable table.slots keys → IsIndexOf hash_of texts v → IsRefilled hash_of texts new (λ n. n < keys) keys → IsIndexOf hash_of texts new
next_index hash_of texts table new v keys view full whole r =
    let all : keys ≡ length texts = full.counted ∙ ap (λ (w : Table). used w.slots) view ∙ whole.once in
    record {
      filed = r.filed;
      holds = λ n. subst (λ k. Holds new.slots n ↔ (n < k)) all (r.holds n);
      once = r.counted ∙ all;
      distinct = whole.distinct;
    }
