-- Members read one after another, each text set at its position.
--
-- The definition goes through the members from the first, with the positions of those before it. A loop that has
-- read some members holds the texts that were set, and for each position a mark whether it is taken; what is left to
-- read is what the definition gives for these texts and positions and the members left. So the fault of the next
-- member is the fault of the whole.
use Rattle.std.proofs.Common.{◌≡◌, ℕ, zero, suc, ◌+◌, ◌-◌, ◌<◌, ◌==◌, List, [], ◌∷◌, ◌++◌, length, get_or, set, replicate, map, take, slice_get, Less, string_bytes, string_cmp, nat_cmp, Bool, true, false, Option, Some, None, Result, Ok, Err, refl, sym, ap, subst, ◌∙◌, arith}
use Rattle.std.specs.List.{AllByRecursion}
use Rattle.std.specs.List.Sorted.{IsStrictlySortedBy}
use Rattle.std.specs.Map.{keys_of}
use Rattle.std.specs.Cmp.Lexicographic.{slice_cmp}
use Rattle.std.proofs.Math.Seq.{take-nil}
use Rattle.std.proofs.lemmas.Grind.{common_steps}
use Rattle.std.proofs.lemmas.Bool.Decides.{nat_tests}
use Rattle.std.proofs.lemmas.List.Folds.{list_any-append}
use Rattle.serde_json.specs.Data.{Data, Members, member}
use Rattle.serde_json.specs.Find.{as_object}
use Rattle.serde_json.specs.Events.{members_len}
use Rattle.serde_json.specs.View.{view, members_view}
use Rattle.serde_json.proofs.Views.{Entry, members_len-members_view}
use Rattle.lasso_parts.specs.Texts.{Text}
use Rattle.lasso_parts.specs.Json.{whole_number, and_then, key_or_too_many}
use Rattle.lasso_parts.specs.JsonObjects.{AreInOrder, IsInOrder, is_taken, keyed_position, member_texts, member_position, position_among, new_position, next_position, read_if_object, read_members, read_object, TakesPosition}
use Rattle.lasso_parts.proofs.JsonLaws.{and_then_ok}
use Rattle.lasso_parts.specs.declared.json.error.JsonError.{JsonError}

-- what is left to read of `all` are the members, with marks at the positions of those before
pub record IsReading {K : Type 0} (key_at : ℕ → Option K) (n : ℕ) (all : Result (List Text) JsonError) (taken : List Bool) (texts : List Text) (at : ℕ) (ms : Members) : Type 0 where
  pub seen : List ℕ
  pub counted : at ≡ length seen
  pub marks : (p : ℕ) (d : Bool) → p < n → get_or taken p d ≡ is_taken seen p
  pub left : all ≡ read_members key_at n seen texts ms

marked_nowhere : (n p : ℕ) (d : Bool) → p < n → get_or (replicate n false) p d ≡ false
marked_nowhere n p d inside = grind (arith, common_steps)

-- before the first member
pub reading_begins : {K : Type 0} (key_at : ℕ → Option K) (n : ℕ) (taken : List Bool) (texts : List Text) (ms : Members) → taken ≡ replicate n false → texts ≡ replicate n [] → IsReading key_at n (read_members key_at n [] (replicate n []) ms) taken texts 0 ms
reading_begins key_at n taken texts ms unmarked empty = record {
  seen = [];
  counted = refl;
  marks = λ p d inside. ap (λ (bs : List Bool). get_or bs p d) unmarked ∙ marked_nowhere n p d inside;
  left = ap (λ (ts : List Text). read_members key_at n [] ts ms) (sym empty);
}

position_inside : (n at : ℕ) (o : Option ℕ) (p : ℕ) → position_among n at o ≡ Ok p → p < n
position_inside n at None p h = cc
position_inside n at (Some zero) p h = cc
position_inside n at (Some (suc q)) p h = grind (arith, nat_tests)

keyed_same : {K : Type 0} (at q p : ℕ) (o : Option K) → and_then (key_or_too_many at o) (λ _. Ok q) ≡ Ok p → q ≡ p
keyed_same at q p None h = cc
keyed_same at q p (Some key) h = cc

-- a position that a member stands for is one of the object's
pub position_below : {K : Type 0} (key_at : ℕ → Option K) (n at : ℕ) (o : Option ℕ) (p : ℕ) → member_position key_at n at o ≡ Ok p → p < n
position_below key_at n at o p h =
    let e = and_then_ok (position_among n at o) (keyed_position key_at at) p h in
    subst (λ (q : ℕ). q < n) (keyed_same at e.0 p (key_at e.0) e.2) (position_inside n at o e.0 e.1)

next_from : {K : Type 0} (key_at : ℕ → Option K) (n at : ℕ) (seen : List ℕ) (d : Data) (r : Result ℕ JsonError) → at ≡ length seen → member_position key_at n at (whole_number d) ≡ r → next_position key_at n seen d ≡ and_then r (λ p. new_position (length seen) p (is_taken seen p))
next_from key_at n at seen d r counted h =
    ap (λ (s : Result ℕ JsonError). and_then s (λ p. new_position (length seen) p (is_taken seen p))) (ap (λ (m : ℕ). member_position key_at n m (whole_number d)) (sym counted) ∙ h)

whole_from : {K : Type 0} (key_at : ℕ → Option K) (n : ℕ) (all : Result (List Text) JsonError) (seen : List ℕ) (texts : List Text) (t : Text) (d : Data) (ms : Members) (r : Result ℕ JsonError) → all ≡ read_members key_at n seen texts (member t d ms) → next_position key_at n seen d ≡ r → all ≡ and_then r (λ p. read_members key_at n (seen ++ p ∷ []) (set texts p t) ms)
whole_from key_at n all seen texts t d ms r left h =
    left ∙ ap (λ (s : Result ℕ JsonError). and_then s (λ p. read_members key_at n (seen ++ p ∷ []) (set texts p t) ms)) h

-- the next member has no position
pub no_position : {K : Type 0} (key_at : ℕ → Option K) (n : ℕ) (all : Result (List Text) JsonError) (taken : List Bool) (texts : List Text) (at : ℕ) (t : Text) (d : Data) (ms : Members) (fault : JsonError) → IsReading key_at n all taken texts at (member t d ms) → Err fault ≡ member_position key_at n at (whole_number d) → Err fault ≡ all
no_position key_at n all taken texts at t d ms fault reading h =
    sym (whole_from key_at n all reading.seen texts t d ms (Err fault) reading.left (next_from key_at n at reading.seen d (Err fault) reading.counted (sym h)))

next_new : {K : Type 0} (key_at : ℕ → Option K) (n : ℕ) (all : Result (List Text) JsonError) (taken : List Bool) (texts : List Text) (at : ℕ) (t : Text) (d : Data) (ms : Members) (p : ℕ) (mark : Bool) → (reading : IsReading key_at n all taken texts at (member t d ms)) → Ok p ≡ member_position key_at n at (whole_number d) → get_or taken p mark ≡ mark → next_position key_at n reading.seen d ≡ new_position (length reading.seen) p mark
next_new key_at n all taken texts at t d ms p mark reading h marked =
    next_from key_at n at reading.seen d (Ok p) reading.counted (sym h)
    ∙ ap (new_position (length reading.seen) p) (sym (reading.marks p mark (position_below key_at n at (whole_number d) p (sym h))) ∙ marked)

marked_more : (n : ℕ) (taken : List Bool) (seen : List ℕ) (p q : ℕ) (d : Bool) → length taken ≡ n → p < n → q < n → get_or taken q d ≡ is_taken seen q → get_or (set taken p true) q d ≡ is_taken (seen ++ p ∷ []) q
marked_more n taken seen p q d long inside inside' before =
    grind (arith, common_steps, nat_tests, list_any-append (λ r. q == r) seen (p ∷ []))

-- the next member's text is set at its position
pub reading_goes_on : {K : Type 0} (key_at : ℕ → Option K) (n : ℕ) (all : Result (List Text) JsonError) (taken : List Bool) (texts : List Text) (at : ℕ) (t : Text) (d : Data) (ms : Members) (p : ℕ) → length taken ≡ n → IsReading key_at n all taken texts at (member t d ms) → Ok p ≡ member_position key_at n at (whole_number d) → get_or taken p false ≡ false → IsReading key_at n all (set taken p true) (set texts p t) (at + 1) ms
reading_goes_on key_at n all taken texts at t d ms p long reading h free =
    let here = next_new key_at n all taken texts at t d ms p false reading h free in
    let inside = position_below key_at n at (whole_number d) p (sym h) in record {
      seen = reading.seen ++ p ∷ [];
      counted = grind (arith, common_steps, reading.counted);
      marks = λ q d' inside'. marked_more n taken reading.seen p q d' long inside inside' (reading.marks q d' inside');
      left = whole_from key_at n all reading.seen texts t d ms _ reading.left here;
    }

-- ---- the members of a map

-- a list that had nothing and was made n long
pub made_long : {X : Type 0} (n len : ℕ) (old new : List X) (x : X) → old ≡ [] → len ≡ length old → new ≡ take n old ++ replicate (n - len) x → new ≡ replicate n x
made_long {X = X} n len old new x empty is made =
    let none : len ≡ 0 = is ∙ ap length empty in
    let all : n - len ≡ n = omega (arith, none) in
    made ∙ ap (λ (xs : List X). take n xs ++ replicate (n - len) x) empty
    ∙ ap (λ (xs : List X). xs ++ replicate (n - len) x) (take-nil n) ∙ ap (λ (m : ℕ). replicate m x) all

pub map_alike : {X Y : Type 0} (f : X → Y) (n : ℕ) (x : X) → map f (replicate n x) ≡ replicate n (f x)
map_alike f zero x = refl
map_alike f (suc n) x = ap (λ ys. f x ∷ ys) (map_alike f n x)

below_all : (t : Text) (es : List Entry) → AllByRecursion (λ y. slice_cmp nat_cmp t (string_bytes y) ≡ Less) (keys_of es) → AllByRecursion (λ y. slice_cmp nat_cmp t y ≡ Less) (member_texts (members_view es))
below_all t [] h = tt
below_all t (e ∷ es) h = (h.0, below_all t es h.1)

-- keys in order are texts in order
ordered_view : (es : List Entry) → IsStrictlySortedBy string_cmp (keys_of es) → AreInOrder (members_view es)
unfolding IsStrictlySortedBy
ordered_view [] h = tt
ordered_view (e ∷ es) h = (below_all (string_bytes e.0) es h.0, ordered_view es h.1)

pub object_in_order : (d : Data) (es : List Entry) → Some (members_view es) ≡ as_object d → IsStrictlySortedBy string_cmp (keys_of es) → IsInOrder d
object_in_order d es is ordered = λ ms here.
    let same : members_view es ≡ ms = let both = is ∙ here in cc in
    subst (λ (ns : Members). AreInOrder ns) same (ordered_view es ordered)

-- an object is read by its members
pub whole_object : {K : Type 0} (key_at : ℕ → Option K) (d : Data) (es : List Entry) → Some (members_view es) ≡ as_object d → read_object key_at d ≡ read_members key_at (length es) [] (replicate (length es) []) (members_view es)
whole_object key_at d es is =
    ap (read_if_object key_at) (sym is) ∙ ap (λ (n : ℕ). read_members key_at n [] (replicate n []) (members_view es)) (members_len-members_view es)

-- the fault of the first member is that of the object
pub first_fault : {K : Type 0} (key_at : ℕ → Option K) (d : Data) (es : List Entry) (e : Entry) (n : ℕ) (fault : JsonError) → Some (members_view es) ≡ as_object d → slice_get es 0 ≡ Some e → n ≡ length es → Err fault ≡ member_position key_at n 0 (whole_number (view e.1)) → Err fault ≡ read_object key_at d
first_fault key_at d [] e n fault is first counted h = cc
first_fault key_at d (e' ∷ es) e n fault is first counted h =
    let same : e' ≡ e = cc in
    let m = length (e' ∷ es) in
    let here : Err fault ≡ member_position key_at m 0 (whole_number (view e'.1)) = rw (same, sym counted) h in
    no_position key_at m (read_members key_at m [] (replicate m []) (members_view (e' ∷ es))) (replicate m false) (replicate m []) 0 (string_bytes e'.0) (view e'.1) (members_view es) fault
    (reading_begins key_at m (replicate m false) (replicate m []) (members_view (e' ∷ es)) refl refl) here
    ∙ sym (whole_object key_at d (e' ∷ es) is)

-- where the first member has a position, reading takes memory
pub first_position : {K : Type 0} (key_at : ℕ → Option K) (d : Data) (es : List Entry) (e : Entry) (n p : ℕ) → Some (members_view es) ≡ as_object d → slice_get es 0 ≡ Some e → n ≡ length es → Ok p ≡ member_position key_at n 0 (whole_number (view e.1)) → TakesPosition key_at d
first_position key_at d [] e n p is first counted h = cc
first_position key_at d (e' ∷ es) e n p is first counted h =
    let same : e' ≡ e = cc in
    let m = members_len (members_view es) + 1 in
    let long : m ≡ n = omega (arith, counted, members_len-members_view es) in
    let here : Ok p ≡ member_position key_at m 0 (whole_number (view e'.1)) = rw (same, long) h in
    (string_bytes e'.0, view e'.1, members_view es, p, sym is, next_from key_at m 0 [] (view e'.1) (Ok p) refl (sym here))
