-- Texts that are set at positions, one for each member, and the members that they come from.
--
-- n positions, each below n and none twice, are all of them: one more would be one too many. So each position
-- has a member, and a list in which each member's text is at its position is the list of the texts that were
-- set.
use Rattle.std.proofs.Common.{◌≡◌, ◌≢◌, ◌⊎◌, inl, inr, ℕ, suc, ◌+◌, ◌<◌, ◌==◌, ◌||◌, List, [], ◌∷◌, length, set, get_or, slice_get, Bool, true, false, Some, None, true≢false, refl, sym, ap, subst, ◌∙◌, arith}
use Rattle.std.specs.List as lists
use Rattle.std.specs.List.{AllByRecursion, list_any}
use Rattle.std.proofs.lemmas.Bool.{cases_Bool}
use Rattle.std.proofs.lemmas.Bool.Decides.{Decides-eqb}
use Rattle.std.proofs.lemmas.Grind.{get_or-set_at}
use Rattle.std.proofs.lemmas.List.{ext_get_or, get_or-set_other, length-set}
use Rattle.std.proofs.lemmas.Map.Keys.{IsDistinct-cons, IsDistinct-head, IsDistinct-tail}
use Rattle.std.proofs.lemmas.Map.Steps.{length-le_from_distinct_below}
use Rattle.std.proofs.lemmas.Option.{slice_get_within, get_or_from_slice_get, slice_get-get_or}
use Rattle.serde_json.specs.Data.{Data, Members, no_members, member}
use Rattle.serde_json.specs.Events.{members_len}
use Rattle.serde_json.specs.Find.{get_member}
use Rattle.lasso_parts.specs.Texts.{Text}
use Rattle.lasso_parts.specs.JsonObjects.{AreInOrder, position_number}
use Rattle.lasso_parts.specs.JsonObjectLaws.{members_after}
use Rattle.lasso_parts.proofs.JsonOrder.{text_order, IsBelow, itself, order_head, order_tail, get_here, get_below, get_cases}
use Rattle.lasso_parts.proofs.JsonPositions.{texts_set, positions}

-- whether the position is one of them
abbrev pub is_one : ℕ → List ℕ → Bool
is_one p ps = list_any (λ q. p == q) ps

-- each member's text is at its position
abbrev pub AreAt : List Text → List (Text × ℕ) → Type 0
AreAt texts more = AllByRecursion (λ m. slice_get texts m.1 ≡ Some m.0) more

or_true : (a b : Bool) → b ≡ true → (a || b) ≡ true
or_true true b h = refl
or_true false b h = h

or_false : (a b : Bool) → (a || b) ≡ false → (a ≡ false) × (b ≡ false)
or_false true b h = cc
or_false false b h = (refl, h)

or_rest : (a b : Bool) → a ≡ false → (a || b) ≡ true → b ≡ true
or_rest true b other h = cc
or_rest false b other h = h

apart_from : (p q : ℕ) → (p == q) ≡ false → p ≢ q
apart_from p q other = λ same. true≢false (sym ((Decides-eqb p q).1 same) ∙ other)

-- ---- all positions

pub one_has : (P : ℕ → Type 0) (ps : List ℕ) (p : ℕ) → AllByRecursion P ps → is_one p ps ≡ true → P p
one_has P [] p all one = cc
one_has P (q ∷ ps) p all one = elim (cases_Bool (p == q)) [
  | inl alike ↦ subst P (sym ((Decides-eqb p q).0 alike)) all.0
  | inr other ↦ one_has P ps p all.1 (or_rest (p == q) (is_one p ps) other one)
]

none_of : (p : ℕ) (ps : List ℕ) → is_one p ps ≡ false → AllByRecursion (λ q. (p == q) ≡ false) ps
none_of p [] h = tt
none_of p (q ∷ ps) h =
    let both = or_false (p == q) (is_one p ps) h in (both.0, none_of p ps both.1)

one_of_none : (p : ℕ) (ps : List ℕ) → AllByRecursion (λ q. (p == q) ≡ false) ps → is_one p ps ≡ false
one_of_none p [] h = refl
one_of_none p (q ∷ ps) h = rw (h.0) (one_of_none p ps h.1)

-- n positions below n, none twice, are all
pub covered : (n : ℕ) (ps : List ℕ) → AllByRecursion (λ q. q < n) ps → lists.IsDistinct (λ p q. p == q) ps → length ps ≡ n → (p : ℕ) → p < n → is_one p ps ≡ true
covered n ps below apart long p inside = elim (cases_Bool (is_one p ps)) [
  | inl one ↦ one
  | inr none ↦
      let all = length-le_from_distinct_below (p ∷ ps) n (IsDistinct-cons (λ p q. p == q) p ps (none_of p ps none) apart) (λ q one. one_has (λ r. r < n) (p ∷ ps) q (inside, below) one) in
      absurd (omega (arith, all, long))
]

-- ---- members and their positions

pub long_after : (more : List (Text × ℕ)) → members_len (members_after more no_members) ≡ length (positions more)
long_after [] = refl
long_after (m ∷ more) = ap suc (long_after more)

-- a text that is found among the others is found
get_later : (l : Text) (e : Data) (ms : Members) (q : Text) (d : Data) → AreInOrder (member l e ms) → get_member q ms ≡ Some d → get_member q (member l e ms) ≡ Some d
get_later l e ms q d ordered at = elim (get_cases (text_order q l) q l e ms refl) [
  | inl here ↦
      let gone : Some d ≡ None = sym at ∙ ap (λ (t : Text). get_member t ms) here.0 ∙ get_below l ms (order_head l e ms ordered) in
      cc
  | inr left ↦ left ∙ at
]

-- members in order, each found with the number after a text's position, are those of texts at positions
pub pairs_of : (texts : List Text) (ms : Members) → AreInOrder ms → ((q : Text) (d : Data) → get_member q ms ≡ Some d → (i : ℕ) × (slice_get texts i ≡ Some q) × (d ≡ position_number i)) → (more : List (Text × ℕ)) × (ms ≡ members_after more no_members) × AreAt texts more
pairs_of texts no_members ordered found = ([], refl, tt)
pairs_of texts (member l e ms) ordered found =
    let here = found l e (get_here l e ms) in
    let rest = pairs_of texts ms (order_tail l e ms ordered) (λ q d at. found q d (get_later l e ms q d ordered at)) in (
      (l, here.0) ∷ rest.0,
      ap (λ (x : Data). member l x ms) here.2 ∙ ap (member l (position_number here.0)) rest.1,
      (here.1, rest.2),
    )

-- what is found among them is the number after the text's position
pub found_pair : (texts : List Text) (more : List (Text × ℕ)) (q : Text) (d : Data) → AreAt texts more → get_member q (members_after more no_members) ≡ Some d → (i : ℕ) × (slice_get texts i ≡ Some q) × (d ≡ position_number i)
found_pair texts [] q d at h = cc
found_pair texts (m ∷ more) q d at h = elim (get_cases (text_order q m.0) q m.0 (position_number m.1) (members_after more no_members) refl) [
  | inl here ↦
      let both : Some (position_number m.1) ≡ Some d = sym here.1 ∙ h in
      let is : position_number m.1 ≡ d = cc in
      (m.1, at.0 ∙ ap (λ (t : Text). Some t) (sym here.0), sym is)
  | inr left ↦ found_pair texts more q d at.1 (sym left ∙ h)
]

-- a position that a text is found with is one of theirs
pub listed : (more : List (Text × ℕ)) (q : Text) (p : ℕ) → get_member q (members_after more no_members) ≡ Some (position_number p) → is_one p (positions more) ≡ true
listed [] q p h = cc
listed (m ∷ more) q p h = elim (get_cases (text_order q m.0) q m.0 (position_number m.1) (members_after more no_members) refl) [
  | inl here ↦
      let both : Some (position_number m.1) ≡ Some (position_number p) = sym here.1 ∙ h in
      let next : m.1 + 1 ≡ p + 1 = cc in
      let same : p ≡ m.1 = omega (arith, next) in
      rw ((Decides-eqb p m.1).1 same) refl
  | inr left ↦ or_true (p == m.1) (is_one p (positions more)) (listed more q p (sym left ∙ h))
]

-- the text at one of their positions is found with it
pub found_one : (texts : List Text) (more : List (Text × ℕ)) (p : ℕ) → AreInOrder (members_after more no_members) → AreAt texts more → is_one p (positions more) ≡ true → (t : Text) × (slice_get texts p ≡ Some t) × (get_member t (members_after more no_members) ≡ Some (position_number p))
found_one texts [] p ordered at one = cc
found_one texts (m ∷ more) p ordered at one = elim (cases_Bool (p == m.1)) [
  | inl alike ↦
      let same : p ≡ m.1 = (Decides-eqb p m.1).0 alike in (
        m.0,
        ap (slice_get texts) same ∙ at.0,
        get_here m.0 (position_number m.1) (members_after more no_members) ∙ ap (λ (k : ℕ). Some (position_number k)) (sym same),
      )
  | inr other ↦
      let rest = found_one texts more p (order_tail m.0 (position_number m.1) (members_after more no_members) ordered) at.1 (or_rest (p == m.1) (is_one p (positions more)) other one) in
      (rest.0, rest.1, get_later m.0 (position_number m.1) (members_after more no_members) rest.0 (position_number p) ordered rest.2)
]

-- texts that differ are at positions that differ
apart_first : (texts : List Text) (m : Text × ℕ) (more : List (Text × ℕ)) → IsBelow m.0 (members_after more no_members) → slice_get texts m.1 ≡ Some m.0 → AreAt texts more → AllByRecursion (λ q. (m.1 == q) ≡ false) (positions more)
apart_first texts m [] below at ats = tt
apart_first texts m (u ∷ more) below at ats = (
  elim (cases_Bool (m.1 == u.1)) [
    | inl alike ↦
        let both : Some m.0 ≡ Some u.0 = sym at ∙ ap (slice_get texts) ((Decides-eqb m.1 u.1).0 alike) ∙ ats.0 in
        let same : m.0 ≡ u.0 = cc in
        let tied = ap (text_order m.0) same ∙ below.0 in
        let gone = sym (itself m.0) ∙ tied in
        cc
    | inr other ↦ other
  ],
  apart_first texts m more below.1 at ats.1,
)

distinct_none : lists.IsDistinct (λ (p q : ℕ). p == q) []
unfolding lists.IsDistinct
distinct_none = tt

pub apart_positions : (texts : List Text) (more : List (Text × ℕ)) → AreInOrder (members_after more no_members) → AreAt texts more → lists.IsDistinct (λ p q. p == q) (positions more)
apart_positions texts [] ordered at = distinct_none
apart_positions texts (m ∷ more) ordered at =
    IsDistinct-cons (λ p q. p == q) m.1 (positions more) (apart_first texts m more (order_head m.0 (position_number m.1) (members_after more no_members) ordered) at.0 at.1)
    (apart_positions texts more (order_tail m.0 (position_number m.1) (members_after more no_members) ordered) at.1)

pub at_below : (texts : List Text) (more : List (Text × ℕ)) → AreAt texts more → AllByRecursion (λ p. p < length texts) (positions more)
at_below texts [] at = tt
at_below texts (m ∷ more) at = (slice_get_within texts m.1 m.0 at.0, at_below texts more at.1)

-- ---- texts that are set

pub long_texts_set : (start : List Text) (more : List (Text × ℕ)) → length (texts_set start more) ≡ length start
long_texts_set start [] = refl
long_texts_set start (m ∷ more) = long_texts_set (set start m.1 m.0) more ∙ length-set start m.1 m.0

-- where no text is set, the old one stays
unset_stays : (start : List Text) (more : List (Text × ℕ)) (p : ℕ) → is_one p (positions more) ≡ false → get_or (texts_set start more) p [] ≡ get_or start p []
unset_stays start [] p none = refl
unset_stays start (m ∷ more) p none =
    let both = or_false (p == m.1) (is_one p (positions more)) none in
    unset_stays (set start m.1 m.0) more p both.1 ∙ get_or-set_other start m.1 p m.0 [] (apart_from p m.1 both.0)

-- texts that were set at positions that differ are there
pub texts_set_at : (start : List Text) (more : List (Text × ℕ)) → lists.IsDistinct (λ p q. p == q) (positions more) → AllByRecursion (λ p. p < length start) (positions more) → AreAt (texts_set start more) more
texts_set_at start [] apart below = tt
texts_set_at start (m ∷ more) apart below =
    let p = m.1 in
    let none = one_of_none p (positions more) (IsDistinct-head (λ p q. p == q) p (positions more) apart) in
    let here : get_or (texts_set (set start p m.0) more) p [] ≡ m.0 = unset_stays (set start p m.0) more p none ∙ get_or-set_at start p p m.0 [] refl below.0 in
    let inside : p < length (texts_set (set start p m.0) more) = omega (arith, below.0, long_texts_set (set start p m.0) more, length-set start p m.0) in (
      slice_get-get_or (texts_set (set start p m.0) more) p [] inside ∙ ap (λ (t : Text). Some t) here,
      texts_set_at (set start p m.0) more (IsDistinct-tail (λ p q. p == q) p (positions more) apart) (subst (λ (n : ℕ). AllByRecursion (λ q. q < n) (positions more)) (sym (length-set start p m.0)) below.1),
    )

-- setting the texts of all positions gives the list
pub settled : (texts start : List Text) (more : List (Text × ℕ)) → length start ≡ length texts → AreAt texts more → ((p : ℕ) → p < length texts → (get_or start p [] ≡ get_or texts p []) ⊎ (is_one p (positions more) ≡ true)) → texts_set start more ≡ texts
settled texts start [] long at each =
    ext_get_or [] start texts long (λ i inside. elim (each i (omega (arith, inside, long))) [ inl same ↦ same | inr one ↦ absurd (true≢false (sym one)) ])
settled texts start (m ∷ more) long at each =
    settled texts (set start m.1 m.0) more (length-set start m.1 m.0 ∙ long) at.1 (λ p inside. elim (cases_Bool (p == m.1)) [
      | inl alike ↦
          let same : p ≡ m.1 = (Decides-eqb p m.1).0 alike in
          inl (get_or-set_at start m.1 p m.0 [] same (omega (arith, same, inside, long)) ∙ sym (get_or_from_slice_get texts p m.0 [] (ap (slice_get texts) same ∙ at.0)))
      | inr other ↦ elim (each p inside) [
        | inl same ↦ inl (get_or-set_other start m.1 p m.0 [] (apart_from p m.1 other) ∙ same)
        | inr one ↦ inr (or_rest (p == m.1) (is_one p (positions more)) other one)
      ]
    ])
