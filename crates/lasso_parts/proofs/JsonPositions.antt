-- Members are read exactly where each has a free position: one below the number of members, with a key, that
-- no earlier member has.
--
-- What the definition takes for a member's position is free, and the member is the number after it. A free position is
-- taken for a member that is the number after it. So the members before a faulty one are those of free positions, and
-- the texts of members that are all read are set at their positions, one after another.
use Rattle.std.proofs.Common.{◌≡◌, inl, inr, ℕ, zero, suc, ◌+◌, ◌<◌, ◌==◌, List, [], ◌∷◌, ◌++◌, length, map, set, Bool, true, false, Option, Some, None, IsSome, Result, Ok, Err, refl, sym, ap, subst, ◌∙◌, append_assoc, append-nil, arith}
use Rattle.std.specs.List.{All, IsDistinct}
use Rattle.std.proofs.lemmas.Bool.{lt-ltb}
use Rattle.std.proofs.lemmas.Bool.Decides.{nat_tests}
use Rattle.std.proofs.lemmas.Cmp.{nat_eq_equiv}
use Rattle.std.proofs.lemmas.Grind.{common_steps}
use Rattle.std.proofs.lemmas.List.{length-append}
use Rattle.std.proofs.lemmas.List.Elements.{All-push, All-nil}
use Rattle.std.proofs.lemmas.List.Folds.{list_any_none}
use Rattle.std.proofs.lemmas.Map.Keys.{IsDistinct-push, IsDistinct-from_apart, apart_from_distinct}
use Rattle.serde_json.specs.Data.{unsigned, negative, float, Data, null, boolean, number, string, array, object, Members, no_members, member}
use Rattle.lasso_parts.specs.Texts.{Text}
use Rattle.lasso_parts.specs.Json.{whole_number, and_then, key_or_too_many}
use Rattle.lasso_parts.specs.JsonObjects.{is_taken, keyed_position, member_position, position_among, position_number, new_position, next_position, read_members}
use Rattle.lasso_parts.specs.JsonObjectLaws.{members_after, AreFree}
use Rattle.lasso_parts.proofs.JsonLaws.{and_then_ok, and_then_err}
use Rattle.lasso_parts.specs.declared.json.error.JsonError.{JsonError}

-- ---- what was taken for a position

whole_is : (d : Data) (k : ℕ) → whole_number d ≡ Some k → d ≡ number (unsigned k)
whole_is null k h = cc
whole_is (boolean b) k h = cc
whole_is (number (unsigned n)) k h = let same : n ≡ k = cc in ap (λ (m : ℕ). number (unsigned m)) same
whole_is (number (negative z)) k h = cc
whole_is (number (float x)) k h = cc
whole_is (string s) k h = cc
whole_is (array ds) k h = cc
whole_is (object ms) k h = cc

among_is : (n at : ℕ) (o : Option ℕ) (p : ℕ) → position_among n at o ≡ Ok p → (o ≡ Some (p + 1)) × (p < n)
among_is n at None p h = cc
among_is n at (Some zero) p h = cc
among_is n at (Some (suc q)) p h =
    let both : (q ≡ p) × (q < n) = grind (arith, nat_tests) in
    (ap (λ (k : ℕ). Some k) (omega (arith, both.0)), omega (arith, both.0, both.1))

keyed_is : {K : Type 0} (at q p : ℕ) (o : Option K) → and_then (key_or_too_many at o) (λ _. Ok q) ≡ Ok p → (q ≡ p) × IsSome o
keyed_is at q p None h = cc
keyed_is at q p (Some key) h = let same : q ≡ p = cc in (same, refl)

new_is : (at q p : ℕ) (b : Bool) → new_position at q b ≡ Ok p → (q ≡ p) × (b ≡ false)
new_is at q p true h = cc
new_is at q p false h = let same : q ≡ p = cc in (same, refl)

-- the position that was taken for a member's is free
pub position_is : {K : Type 0} (key_at : ℕ → Option K) (n : ℕ) (seen : List ℕ) (d : Data) (p : ℕ) → next_position key_at n seen d ≡ Ok p → (d ≡ position_number p) × (p < n) × IsSome (key_at p) × (is_taken seen p ≡ false)
position_is key_at n seen d p h =
    let at = length seen in
    let new = and_then_ok (member_position key_at n at (whole_number d)) (λ q. new_position at q (is_taken seen q)) p h in
    let here = and_then_ok (position_among n at (whole_number d)) (keyed_position key_at at) new.0 new.1 in
    let among = among_is n at (whole_number d) here.0 here.1 in
    let keyed = keyed_is at here.0 new.0 (key_at here.0) here.2 in
    let free = new_is at new.0 p (is_taken seen new.0) new.2 in
    let same : here.0 ≡ p = keyed.0 ∙ free.0 in (
      whole_is d (here.0 + 1) among.0 ∙ ap position_number same,
      subst (λ (q : ℕ). q < n) same among.1,
      subst (λ (q : ℕ). IsSome (key_at q)) same keyed.1,
      subst (λ (q : ℕ). is_taken seen q ≡ false) free.0 free.1,
    )

pub free_push : {K : Type 0} (key_at : ℕ → Option K) (n : ℕ) (seen : List ℕ) (p : ℕ) → AreFree key_at n seen → p < n → IsSome (key_at p) → is_taken seen p ≡ false → AreFree key_at n (seen ++ p ∷ [])
free_push key_at n seen p free below keyed new = record {
  below = All-push (λ q. q < n) seen p free.below below;
  keyed = All-push (λ q. IsSome (key_at q)) seen p free.keyed keyed;
  apart = IsDistinct-push nat_eq_equiv seen p free.apart new;
}

pub free_nil : {K : Type 0} (key_at : ℕ → Option K) (n : ℕ) → AreFree key_at n []
free_nil key_at n = record { below = All-nil (λ q. q < n); keyed = All-nil (λ q. IsSome (key_at q)); apart = IsDistinct-from_apart (λ p q. p == q) [] (λ i j d below inside. absurd (omega arith)) }

-- ---- what will be taken for a position

among_number : (n at p : ℕ) → p < n → position_among n at (Some (p + 1)) ≡ Ok p
among_number n at p below =
    let next : p + 1 ≡ suc p = omega arith in
    ap (λ (k : ℕ). position_among n at (Some k)) next ∙ rw (lt-ltb p n below) refl

keyed_there : {K : Type 0} (at p : ℕ) (o : Option K) → IsSome o → and_then (key_or_too_many at o) (λ _. Ok p) ≡ Ok p
keyed_there at p None some = cc
keyed_there at p (Some key) some = refl

pub position_taken : {K : Type 0} (key_at : ℕ → Option K) (n : ℕ) (seen : List ℕ) (p : ℕ) → p < n → IsSome (key_at p) → is_taken seen p ≡ false → next_position key_at n seen (position_number p) ≡ Ok p
position_taken key_at n seen p below keyed new =
    let at = length seen in
    let found : member_position key_at n at (Some (p + 1)) ≡ Ok p = ap (λ (r : Result ℕ JsonError). and_then r (keyed_position key_at at)) (among_number n at p below) ∙ keyed_there at p (key_at p) keyed in
    ap (λ (r : Result ℕ JsonError). and_then r (λ q. new_position at q (is_taken seen q))) found ∙ ap (new_position at p) new

not_before : (seen rest : List ℕ) (p : ℕ) → IsDistinct (λ p q. p == q) (seen ++ p ∷ rest) → is_taken seen p ≡ false
not_before seen rest p apart =
    list_any_none (λ q. p == q) seen (λ k d inside. grind (arith, common_steps, nat_tests, apart_from_distinct (λ p q. p == q) (seen ++ p ∷ rest) k (length seen) d apart, length-append seen (p ∷ rest)))

in_middle : {X : Type 0} (P : X → Type 0) (xs ys : List X) (x : X) → All P (xs ++ x ∷ ys) → P x
in_middle P xs ys x all = grind (arith, common_steps, all (length xs) x, length-append xs (x ∷ ys))

-- ---- members one after another

-- the texts, with the text of each pair set at its position, one after another
abbrev pub texts_set : List Text → List (Text × ℕ) → List Text
texts_set texts [] = texts
texts_set texts (m ∷ more) = texts_set (set texts m.1 m.0) more

abbrev pub positions : List (Text × ℕ) → List ℕ
positions more = map (λ m. m.1) more

-- members of free positions are read, and those after them are left
pub read_on : {K : Type 0} (key_at : ℕ → Option K) (n : ℕ) (seen : List ℕ) (texts : List Text) (more : List (Text × ℕ)) (ms : Members) → AreFree key_at n (seen ++ positions more) → read_members key_at n seen texts (members_after more ms) ≡ read_members key_at n (seen ++ positions more) (texts_set texts more) ms
read_on key_at n seen texts [] ms free = ap (λ (ps : List ℕ). read_members key_at n ps texts ms) (sym (append-nil seen))
read_on key_at n seen texts (m ∷ more) ms free =
    let p = m.1 in
    let same : seen ++ p ∷ positions more ≡ (seen ++ p ∷ []) ++ positions more = sym (append_assoc seen (p ∷ []) (positions more)) in
    let here = position_taken key_at n seen p (in_middle (λ q. q < n) seen (positions more) p free.below) (in_middle (λ q. IsSome (key_at q)) seen (positions more) p free.keyed) (not_before seen (positions more) p free.apart) in
    ap (λ (r : Result ℕ JsonError). and_then r (λ q. read_members key_at n (seen ++ q ∷ []) (set texts q m.0) (members_after more ms))) here
    ∙ read_on key_at n (seen ++ p ∷ []) (set texts p m.0) more ms (subst (λ (ps : List ℕ). AreFree key_at n ps) same free)
    ∙ ap (λ (ps : List ℕ). read_members key_at n ps (texts_set (set texts p m.0) more) ms) (sym same)

-- members that are all read have free positions, and their texts are set there
pub read_as : {K : Type 0} (key_at : ℕ → Option K) (n : ℕ) (seen : List ℕ) (texts : List Text) (ms : Members) (all : List Text) → AreFree key_at n seen → read_members key_at n seen texts ms ≡ Ok all → (more : List (Text × ℕ)) × (ms ≡ members_after more no_members) × (all ≡ texts_set texts more) × AreFree key_at n (seen ++ positions more)
read_as key_at n seen texts no_members all free h =
    let same : texts ≡ all = cc in ([], refl, sym same, subst (λ (ps : List ℕ). AreFree key_at n ps) (sym (append-nil seen)) free)
read_as key_at n seen texts (member t d ms) all free h =
    let e = and_then_ok (next_position key_at n seen d) (λ p. read_members key_at n (seen ++ p ∷ []) (set texts p t) ms) all h in
    let p = e.0 in
    let is = position_is key_at n seen d p e.1 in
    let r = read_as key_at n (seen ++ p ∷ []) (set texts p t) ms all (free_push key_at n seen p free is.1 is.2 is.3) e.2 in (
      (t, p) ∷ r.0,
      ap (λ (x : Data). member t x ms) is.0 ∙ ap (member t (position_number p)) r.1,
      r.2,
      subst (λ (ps : List ℕ). AreFree key_at n ps) (append_assoc seen (p ∷ []) (positions r.0)) r.3,
    )

-- a fault is that of a member after members of free positions
pub fault_after : {K : Type 0} (key_at : ℕ → Option K) (n : ℕ) (seen : List ℕ) (texts : List Text) (ms : Members) (fault : JsonError) → AreFree key_at n seen → read_members key_at n seen texts ms ≡ Err fault
    → (before : List (Text × ℕ)) × (t : Text) × (d : Data) × (rest : Members) × (ms ≡ members_after before (member t d rest)) × AreFree key_at n (seen ++ positions before) × (next_position key_at n (seen ++ positions before) d ≡ Err fault)
fault_after key_at n seen texts no_members fault free h = cc
fault_after key_at n seen texts (member t d ms) fault free h = elim (and_then_err (next_position key_at n seen d) (λ p. read_members key_at n (seen ++ p ∷ []) (set texts p t) ms) fault h) [
  | inl here ↦
      let same = sym (append-nil seen) in (
        [],
        t,
        d,
        ms,
        refl,
        subst (λ (ps : List ℕ). AreFree key_at n ps) same free,
        ap (λ (ps : List ℕ). next_position key_at n ps d) (sym same) ∙ here,
      )
  | inr later ↦
      let p = later.0 in
      let is = position_is key_at n seen d p later.1 in
      let r = fault_after key_at n (seen ++ p ∷ []) (set texts p t) ms fault (free_push key_at n seen p free is.1 is.2 is.3) later.2 in
      let same = append_assoc seen (p ∷ []) (positions r.0) in (
        (t, p) ∷ r.0,
        r.1,
        r.2,
        r.3,
        ap (λ (x : Data). member t x ms) is.0 ∙ ap (member t (position_number p)) r.4,
        subst (λ (ps : List ℕ). AreFree key_at n ps) same r.5,
        ap (λ (ps : List ℕ). next_position key_at n ps r.2) (sym same) ∙ r.6,
      )
]
