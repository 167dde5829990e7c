-- What the slots of a table hold, before and after a key goes into an empty one.
--
-- A key that goes into an empty slot changes that slot and its fingerprint alone: a range that was full stays full, so
-- each search that got to a slot still gets there, and the new key is got to where the search for its hash ended.
-- So the table holds one position more, has one slot more in use, and stays filed.
use Rattle.std.proofs.Common.{◌≡◌, ◌≢◌, ℕ, zero, suc, ◌+◌, ◌^◌, ◌<◌, ◌≤◌, ◌⊎◌, ◌↔◌, List, [], ◌∷◌, Option, Some, None, length, slice_get, set, replicate, refl, sym, ap, ◌∙◌, subst, inl, inr, arith}
use Rattle.std.specs.Option.{option_map}
use Rattle.std.proofs.lemmas.Bool.{cases_lt, cases_eq}
use Rattle.std.proofs.lemmas.List.{length-set, get_or-set_same, get_or-set_other, get_or_past}
use Rattle.std.proofs.lemmas.Option.{slice_get_within, same_Some, none-some}
use Rattle.lasso_parts.specs.Texts.{Text}
use Rattle.lasso_parts.specs.Index.{Table, slot, used, home, fingerprint_at, fingerprint_of, Holds, IsFull, Reaches, SetsFingerprint, IsFiled, StaysFiled, load_limit, room}
use Rattle.lasso_parts.specs.IndexTable.{IsEntered, IsSlotCount, IsTable}

-- ---- slots

-- what a read of a slot tells that found a key, whose position was asked for
pub slot_has : {K : Type 0} (number : K → ℕ) (read : Option K) (shown : Option ℕ) (key : K) (p : ℕ) → option_map number read ≡ shown → read ≡ Some key → p ≡ number key → shown ≡ Some p
slot_has number read shown key p tells e asked = sym tells ∙ ap (option_map number) e ∙ ap Some (sym asked)

pub slot_within : (xs : List (Option ℕ)) (j n : ℕ) → slot xs j ≡ Some n → j < length xs
slot_within xs j n e = elim (cases_lt j (length xs)) [
  | inl l ↦ l
  | inr l ↦ absurd (none-some n (sym (get_or_past xs j None l) ∙ e))
]

pub slot-nil : (j n : ℕ) → slot [] j ≡ Some n → ⊥
slot-nil j n e = none-some n e

pub used_all : (xs : List (Option ℕ)) → IsFull xs 0 (length xs) → used xs ≡ length xs
used_all [] h = refl
used_all (None ∷ xs) h = absurd (h 0 (omega arith) (omega arith) refl)
used_all (Some n ∷ xs) h = let e : used xs ≡ length xs = used_all xs (λ j a b. h (suc j) (omega arith) (omega arith)) in omega arith

pub used-set : (xs : List (Option ℕ)) (j n : ℕ) → j < length xs → slot xs j ≡ None → used (set xs j (Some n)) ≡ used xs + 1
used-set [] j n l e = absurd (omega arith)
used-set (None ∷ xs) zero n l e = refl
used-set (Some m ∷ xs) zero n l e = absurd (none-some m (sym e))
used-set (None ∷ xs) (suc j) n l e = used-set xs j n (omega arith) e
used-set (Some m ∷ xs) (suc j) n l e = ap (λ k. k + 1) (used-set xs j n (omega arith) e)

pub used-replicate : (n : ℕ) → used (replicate n None) ≡ 0
used-replicate zero = refl
used-replicate (suc n) = used-replicate n

pub used_le : (xs : List (Option ℕ)) → used xs ≤ length xs
used_le [] = omega arith
used_le (None ∷ xs) = let h = used_le xs in omega arith
used_le (Some n ∷ xs) = let h = used_le xs in omega arith

-- one more slot is not empty
pub IsFull-more : (xs : List (Option ℕ)) (a b : ℕ) → IsFull xs a b → slot xs b ≢ None → IsFull xs a (b + 1)
IsFull-more xs a b full here j l h = elim (cases_lt j b) [
  | inl before ↦ full j l before
  | inr after ↦ let e : j ≡ b = omega arith in λ n. here (ap (slot xs) (sym e) ∙ n)
]

-- some slot is empty, so not both ranges are full
pub not_all_full : (xs : List (Option ℕ)) (a : ℕ) → used xs < length xs → IsFull xs a (length xs) → IsFull xs 0 a → ⊥
not_all_full xs a few above below =
    let e = used_all xs (λ j z l. elim (cases_lt j a) [ inl b ↦ below j z b | inr b ↦ above j b l ]) in
    omega arith

-- the lower range ends a search that found the upper one full
pub reach_below : (xs : List (Option ℕ)) (a b j : ℕ) → a ≡ b → j < a → IsFull xs a (length xs) → IsFull xs 0 j → Reaches xs b j
reach_below xs a b j e l above below = subst (λ k. Reaches xs k j) e (inr (l, above, below))

-- ---- a key is put in an empty slot

module _ (xs : List (Option ℕ)) (at m : ℕ) (inside : at < length xs) (free : slot xs at ≡ None) where
  -- a slot afterwards
  pub slot_cases : (j : ℕ) → ((j ≡ at) × (slot (set xs at (Some m)) j ≡ Some m)) ⊎ ((j ≢ at) × (slot (set xs at (Some m)) j ≡ slot xs j))
  slot_cases j = elim (cases_eq j at) [
    | inl e ↦ inl (e, ap (slot (set xs at (Some m))) e ∙ get_or-set_same xs at (Some m) None inside)
    | inr ne ↦ inr (ne, get_or-set_other xs at j (Some m) None ne)
  ]

  pub IsFull-set : (a b : ℕ) → IsFull xs a b → IsFull (set xs at (Some m)) a b
  IsFull-set a b full j l h e = elim (slot_cases j) [
    | inl w ↦ none-some m (sym e ∙ w.1)
    | inr w ↦ full j l h (sym w.1 ∙ e)
  ]

  pub Reaches-set : (a j : ℕ) → Reaches xs a j → Reaches (set xs at (Some m)) a j
  Reaches-set a j r = elim r [
    | inl w ↦ inl (w.0, IsFull-set a j w.1)
    | inr w ↦ inr (w.0, subst (λ n. IsFull (set xs at (Some m)) a n) (sym (length-set xs at (Some m))) (IsFull-set a (length xs) w.1), IsFull-set 0 j w.2)
  ]

  pub Holds-set : (n : ℕ) → Holds (set xs at (Some m)) n ↔ (Holds xs n ⊎ (n ≡ m))
  Holds-set n = (to, from) where
    to : Holds (set xs at (Some m)) n → Holds xs n ⊎ (n ≡ m)
    to h = elim (slot_cases h.0) [
      | inl w ↦ inr (same_Some n m (sym h.1 ∙ w.1))
      | inr w ↦ inl (h.0, sym w.1 ∙ h.1)
    ]

    from : (Holds xs n ⊎ (n ≡ m)) → Holds (set xs at (Some m)) n
    from u = elim u [
      | inl h ↦ elim (slot_cases h.0) [
        | inl w ↦ absurd (none-some n (sym free ∙ ap (slot xs) (sym w.0) ∙ h.1))
        | inr w ↦ (h.0, w.1 ∙ h.1)
      ]
      | inr e ↦ (at, get_or-set_same xs at (Some m) None inside ∙ ap Some (sym e))
    ]

-- ---- the same beside the fingerprints: position m goes into the empty slot `at`, which gets a fingerprint

module _ (old new : Table) (at m fingerprint : ℕ) (inside : at < length old.slots) (free : slot old.slots at ≡ None) (put : new.slots ≡ set old.slots at (Some m)) (fingerprint_set : SetsFingerprint old new at fingerprint) where
  new_cases : (j : ℕ) → ((j ≡ at) × (slot new.slots j ≡ Some m)) ⊎ ((j ≢ at) × (slot new.slots j ≡ slot old.slots j))
  new_cases j = subst (λ xs. ((j ≡ at) × (slot xs j ≡ Some m)) ⊎ ((j ≢ at) × (slot xs j ≡ slot old.slots j))) (sym put) (slot_cases old.slots at m inside free j)

  new_reached : (a j : ℕ) → Reaches old.slots (home (length old.slots) a) j → Reaches new.slots (home (length new.slots) a) j
  new_reached a j r =
      subst (λ xs. Reaches xs (home (length xs) a) j) (sym put) (subst (λ k. Reaches (set old.slots at (Some m)) (home k a) j) (sym (length-set old.slots at (Some m))) (Reaches-set old.slots at m inside free _ j r))

  IsFiled-set : (hash_of : Text → ℕ) (texts : List Text) (text : Text) → IsFiled hash_of texts old → slice_get texts m ≡ Some text → Reaches old.slots (home (length old.slots) (hash_of text)) at → fingerprint ≡ fingerprint_of (hash_of text) → IsFiled hash_of texts new
  IsFiled-set hash_of texts text f here r fitting = record {
    in_list = λ j n e. elim (new_cases j) [
      | inl w ↦ subst (λ k. k < length texts) (same_Some m n (sym w.1 ∙ e)) (slice_get_within texts m text here)
      | inr w ↦ f.in_list j n (sym w.1 ∙ e)
    ];
    reached = λ j n t e g. new_reached (hash_of t) j (elim (new_cases j) [
      | inl w ↦
          let same : text ≡ t = same_Some text t (sym here ∙ ap (slice_get texts) (same_Some m n (sym w.1 ∙ e)) ∙ g) in
          subst (λ i. Reaches old.slots (home (length old.slots) (hash_of t)) i) (sym w.0) (subst (λ s. Reaches old.slots (home (length old.slots) (hash_of s)) at) same r)
      | inr w ↦ f.reached j n t (sym w.1 ∙ e) g
    ]);
    fitting = λ j n t e g. elim (new_cases j) [
      | inl w ↦
          let same : text ≡ t = same_Some text t (sym here ∙ ap (slice_get texts) (same_Some m n (sym w.1 ∙ e)) ∙ g) in
          ap (fingerprint_at new) w.0 ∙ fingerprint_set.0 ∙ fitting ∙ ap (λ s. fingerprint_of (hash_of s)) same
      | inr w ↦ fingerprint_set.1 j w.0 ∙ f.fitting j n t (sym w.1 ∙ e) g
    ];
  }

  pub entered : IsEntered m old new
  entered = record {
    holds = λ n. subst (λ xs. Holds xs n ↔ (Holds old.slots n ⊎ (n ≡ m))) (sym put) (Holds-set old.slots at m inside free n);
    more = ap used put ∙ used-set old.slots at m inside free;
    len = ap length put ∙ length-set old.slots at (Some m);
  }

  pub StaysFiled-entered : (hash : ℕ) → fingerprint ≡ fingerprint_of hash → Reaches old.slots (home (length old.slots) hash) at → StaysFiled hash m old new
  StaysFiled-entered hash fitting r hash_of texts text filed here hashed =
      IsFiled-set hash_of texts text filed here (subst (λ h. Reaches old.slots (home (length old.slots) h) at) hashed r) (fitting ∙ ap fingerprint_of hashed)

-- ---- a position goes into a table that has room, which is the value v

module _ (table new v : Table) (view : table ≡ v) (m : ℕ) (more : IsEntered m table new) where
  pub entered_in : IsEntered m v new
  entered_in = subst (λ (t : Table). IsEntered m t new) view more

  pub IsTable-entered : (count : ℕ) → IsTable table.slots count → 0 < room v.slots → IsTable new.slots (count + 1)
  IsTable-entered count t r =
      let some : 0 < room table.slots = subst (λ (w : Table). 0 < room w.slots) (sym view) r in
      let limit : load_limit (length new.slots) ≡ load_limit (length table.slots) = ap load_limit more.len in
      record {
        slots = subst IsSlotCount (sym more.len) t.slots;
        counted = ap (λ k. k + 1) t.counted ∙ sym more.more;
        load = omega (arith, more.more);
      }

  pub room-entered : 0 < room v.slots → room new.slots + 1 ≡ room v.slots
  room-entered r = let e = entered_in in let limit : load_limit (length new.slots) ≡ load_limit (length v.slots) = ap load_limit e.len in omega (arith, e.more)

  -- the count of keys fits where that of slots does
  pub used_fits : (count : ℕ) → IsTable table.slots count → length table.slots < 2 ^ 64 → count + 1 < 2 ^ 64
  used_fits count t small = let l = used_le new.slots in omega (arith, t.counted, more.more, more.len)
