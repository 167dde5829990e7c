-- A value whose members are in order is read as a list exactly where it is the object from the list's texts to their
-- positions plus one, and the list is distinct and fits the keys.
--
-- Members that are all read have free positions, one for each member, so each position has a member, whose
-- text is there. Two positions with one text would have one member. The object of the list has the same
-- members, since both are in order and each text is found in both with the same number. In the object of a
-- distinct list that fits the keys each member has a free position, and setting the texts there gives the
-- list.
use Rattle.std.proofs.Common.{◌≡◌, inl, inr, ℕ, ◌+◌, ◌<◌, List, [], ◌∷◌, ◌++◌, length, set, get_or, slice_get, replicate, true, Option, Some, None, IsSome, Result, Ok, refl, sym, ap, subst, ◌∙◌, arith}
use Rattle.std.specs.List.{AllByRecursion}
use Rattle.std.specs.Str.{bytes_eq}
use Rattle.std.proofs.lemmas.Bool.{cases_Bool}
use Rattle.std.proofs.lemmas.List.{length-replicate}
use Rattle.std.proofs.lemmas.List.Elements.{All-from_recursion, recursion_from_All}
use Rattle.std.proofs.lemmas.Map.Keys.{IsDistinct-from_apart}
use Rattle.std.proofs.lemmas.Option.{get_or_from_slice_get, slice_get-get_or, slice_get_within}
use Rattle.std.proofs.lemmas.Slice.Eq.{bytes_eq-Decides}
use Rattle.serde_json.specs.Data.{Data, null, boolean, number, string, array, object, Members, no_members, member}
use Rattle.serde_json.specs.Events.{members_len}
use Rattle.serde_json.specs.Find.{as_object, get_member}
use Rattle.lasso_parts.specs.Texts.{Text, IsDistinct, Fits}
use Rattle.lasso_parts.specs.Json.{and_then}
use Rattle.lasso_parts.specs.JsonLaws.{IsReadable}
use Rattle.lasso_parts.specs.JsonObjects.{AreInOrder, json_object, position_number, put_texts, read_members, read_object}
use Rattle.lasso_parts.specs.JsonObjectLaws.{AreFree, FaultsObjectExactly, ReadsObjectBack, ReadsObjectExactly}
use Rattle.lasso_parts.proofs.JsonOrder.{order_none, order_texts, same_members}
use Rattle.lasso_parts.proofs.JsonWritten.{found_at, found_is, long_object}
use Rattle.lasso_parts.proofs.JsonPositions.{fault_after, free_nil, texts_set, positions, read_as, read_on}
use Rattle.lasso_parts.proofs.JsonTextsSet.{AreAt, one_has, covered, long_after, pairs_of, found_pair, listed, found_one, apart_positions, at_below, long_texts_set, texts_set_at, settled}
use Rattle.lasso_parts.specs.declared.json.error.JsonError.{JsonError}

-- the members that a list is written as
abbrev written : List Text → Members
written texts = put_texts 0 texts no_members

written_order : (texts : List Text) → AreInOrder (written texts)
written_order texts = order_texts 0 texts no_members order_none

written_at : (texts : List Text) (p : ℕ) (t : Text) → IsDistinct texts → slice_get texts p ≡ Some t → get_member t (written texts) ≡ Some (position_number p)
written_at texts p t apart at =
    let same : 0 + p ≡ p = omega arith in
    found_at 0 texts no_members p t apart at ∙ ap (λ (k : ℕ). Some (position_number k)) same

none_is_none : (d : Data) → None ≡ Some d → ⊥
none_is_none d h = cc

written_is : (texts : List Text) (q : Text) (d : Data) → get_member q (written texts) ≡ Some d → (i : ℕ) × (slice_get texts i ≡ Some q) × (d ≡ position_number i)
written_is texts q d h = elim (found_is 0 texts no_members q d h) [
  | inl before ↦ absurd (none_is_none d before)
  | inr there ↦
      let same : 0 + there.0 ≡ there.0 = omega arith in
      (there.0, there.1, there.2 ∙ ap position_number same)
]

-- ---- what is written is read

keyed_below : {K : Type 0} (key_at : ℕ → Option K) (n : ℕ) (ps : List ℕ) → Fits key_at n → AllByRecursion (λ p. p < n) ps → AllByRecursion (λ p. IsSome (key_at p)) ps
keyed_below key_at n [] fits below = tt
keyed_below key_at n (p ∷ ps) fits below = (fits p below.0, keyed_below key_at n ps fits below.1)

written_is_read : {K : Type 0} (key_at : ℕ → Option K) (texts : List Text) → IsDistinct texts → Fits key_at (length texts) → read_object key_at (json_object texts) ≡ Ok texts
written_is_read key_at texts apart fits =
    let ms = written texts in
    let n = members_len ms in
    let long : n ≡ length texts = long_object texts apart in
    let ordered = written_order texts in
    let r = pairs_of texts ms ordered (written_is texts) in
    let more = r.0 in
    let ordered' = subst (λ (ns : Members). AreInOrder ns) r.1 ordered in
    let below = subst (λ (m : ℕ). AllByRecursion (λ p. p < m) (positions more)) (sym long) (at_below texts more r.2) in
    let free : AreFree key_at n (positions more) = record {
      below = All-from_recursion (λ p. p < n) (positions more) below;
      keyed = All-from_recursion (λ p. IsSome (key_at p)) (positions more) (keyed_below key_at n (positions more) (subst (λ (m : ℕ). Fits key_at m) (sym long) fits) below);
      apart = apart_positions texts more ordered' r.2;
    } in
    let set_all = settled texts (replicate n []) more (length-replicate n [] ∙ long) r.2 (λ p inside.
    let t = get_or texts p [] in
    let found = written_at texts p t apart (slice_get-get_or texts p [] inside) in
    inr (listed more t p (ap (get_member t) (sym r.1) ∙ found))) in
    ap (read_members key_at n [] (replicate n [])) r.1
    ∙ read_on key_at n [] (replicate n []) more no_members free
    ∙ ap (λ (ts : List Text). Ok ts) set_all

-- ---- what was read

found_alike : (a b : Option Data) → ((d : Data) → a ≡ Some d → b ≡ Some d) → ((d : Data) → b ≡ Some d → a ≡ Some d) → a ≡ b
found_alike None None there back = refl
found_alike None (Some d) there back = back d refl
found_alike (Some d) b there back = sym (there d refl)

one_position : (i j : ℕ) (d e : Data) → d ≡ position_number i → e ≡ position_number j → d ≡ e → i ≡ j
one_position i j d e is is' same =
    let both : position_number i ≡ position_number j = sym is ∙ same ∙ is' in
    let next : i + 1 ≡ j + 1 = cc in
    omega (arith, next)

-- what was read of members in order
record WasRead {K : Type 0} (key_at : ℕ → Option K) (ms : Members) (texts : List Text) : Type 0 where
  fits : Fits key_at (length texts)
  each : (p : ℕ) → p < length texts → (t : Text) × (slice_get texts p ≡ Some t) × (get_member t ms ≡ Some (position_number p))
  found : (q : Text) (d : Data) → get_member q ms ≡ Some d → (i : ℕ) × (slice_get texts i ≡ Some q) × (d ≡ position_number i)

was_read : {K : Type 0} (key_at : ℕ → Option K) (ms : Members) (texts : List Text) → AreInOrder ms → read_object key_at (object ms) ≡ Ok texts → WasRead key_at ms texts
was_read key_at ms texts ordered h =
    let n = members_len ms in
    let start = replicate n [] in
    let r = read_as key_at n [] start ms texts (free_nil key_at n) h in
    let more = r.0 in
    let long : length texts ≡ n = ap length r.2 ∙ long_texts_set start more ∙ length-replicate n [] in
    let many : length (positions more) ≡ n = sym (ap members_len r.1 ∙ long_after more) in
    let below = recursion_from_All (λ p. p < n) (positions more) r.3.below in
    let keyed = recursion_from_All (λ p. IsSome (key_at p)) (positions more) r.3.keyed in
    let set_at = texts_set_at start more r.3.apart (subst (λ (m : ℕ). AllByRecursion (λ p. p < m) (positions more)) (sym (length-replicate n [])) below) in
    let at = subst (λ (ts : List Text). AreAt ts more) (sym r.2) set_at in
    let ordered' = subst (λ (ns : Members). AreInOrder ns) r.1 ordered in
    let one = λ (p : ℕ) (inside : p < length texts). covered n (positions more) below r.3.apart many p (subst (λ (m : ℕ). p < m) long inside) in record {
      fits = λ p inside. one_has (λ q. IsSome (key_at q)) (positions more) p keyed (one p inside);
      each = λ p inside.
          let f = found_one texts more p ordered' at (one p inside) in (f.0, f.1, ap (get_member f.0) r.1 ∙ f.2);
      found = λ q d here. found_pair texts more q d at (ap (get_member q) (sym r.1) ∙ here);
    }

read_is_distinct : {K : Type 0} (key_at : ℕ → Option K) (ms : Members) (texts : List Text) → WasRead key_at ms texts → IsDistinct texts
read_is_distinct key_at ms texts read = IsDistinct-from_apart bytes_eq texts (λ i j d below inside. elim (cases_Bool (bytes_eq (get_or texts i d) (get_or texts j d))) [
  | inl alike ↦
      let here = read.each i (omega (arith, below, inside)) in
      let there = read.each j inside in
      let same : here.0 ≡ there.0 = sym (get_or_from_slice_get texts i here.0 d here.1) ∙ (bytes_eq-Decides (get_or texts i d) (get_or texts j d)).0 alike ∙ get_or_from_slice_get texts j there.0 d there.1 in
      let both : Some (position_number i) ≡ Some (position_number j) = sym here.2 ∙ ap (λ (t : Text). get_member t ms) same ∙ there.2 in
      let value : position_number i ≡ position_number j = cc in
      absurd (omega (arith, below, one_position i j (position_number i) (position_number j) refl refl value))
  | inr other ↦ other
])

read_is_written : {K : Type 0} (key_at : ℕ → Option K) (ms : Members) (texts : List Text) → AreInOrder ms → WasRead key_at ms texts → ms ≡ written texts
read_is_written key_at ms texts ordered read =
    let apart = read_is_distinct key_at ms texts read in
    same_members ms (written texts) ordered (written_order texts) (λ q. found_alike (get_member q ms) (get_member q (written texts))
    (λ d here.
    let f = read.found q d here in
    written_at texts f.0 q apart f.1 ∙ ap (λ (x : Data). Some x) (sym f.2))
    (λ d there.
    let f = written_is texts q d there in
    let e = read.each f.0 (slice_get_within texts f.0 q f.1) in
    let both : Some e.0 ≡ Some q = sym e.1 ∙ f.1 in
    let same : e.0 ≡ q = cc in
    ap (λ (t : Text). get_member t ms) (sym same) ∙ e.2 ∙ ap (λ (x : Data). Some x) (sym f.2)))

read_exactly : {K : Type 0} (key_at : ℕ → Option K) (d : Data) (texts : List Text) → ((ms : Members) → as_object d ≡ Some ms → AreInOrder ms) → read_object key_at d ≡ Ok texts → (d ≡ json_object texts) × IsReadable key_at true texts
read_exactly key_at null texts ordered h = cc
read_exactly key_at (boolean b) texts ordered h = cc
read_exactly key_at (number x) texts ordered h = cc
read_exactly key_at (string s) texts ordered h = cc
read_exactly key_at (array ds) texts ordered h = cc
read_exactly key_at (object ms) texts ordered h =
    let read = was_read key_at ms texts (ordered ms refl) h in (
      ap object (read_is_written key_at ms texts (ordered ms refl) read),
      record { fits = read.fits; apart = λ is. read_is_distinct key_at ms texts read },
    )

-- ---- the laws

pub reads_exactly : {K : Type 0} (key_at : ℕ → Option K) → ReadsObjectExactly key_at
reads_exactly key_at d texts ordered = (
  read_exactly key_at d texts ordered,
  λ h. ap (read_object key_at) h.0 ∙ written_is_read key_at texts (h.1.apart refl) h.1.fits,
)

pub reads_back : {K : Type 0} (key_at : ℕ → Option K) → ReadsObjectBack key_at
reads_back key_at texts apart fits = written_is_read key_at texts apart fits

pub faults_exactly : {K : Type 0} (key_at : ℕ → Option K) → FaultsObjectExactly key_at
faults_exactly key_at ms fault =
    let n = members_len ms in
    let empty = replicate n [] in (
      fault_after key_at n [] empty ms fault (free_nil key_at n),
      λ h. ap (read_members key_at n [] empty) h.4 ∙ read_on key_at n [] empty h.0 (member h.1 h.2 h.3) h.5
          ∙ ap (λ (r : Result ℕ JsonError). and_then r (λ p. read_members key_at n (positions h.0 ++ p ∷ []) (set (texts_set empty h.0) p h.1) h.3)) h.6,
    )
