-- A value is read as a list exactly where it is the array of the list's texts.
--
-- Both directions go through the items from the first, with the texts seen so far before them. A text that the
-- definition takes was no earlier one, so the list stays distinct with it, and its position has a key. In a
-- distinct list that fits the keys, each text is none of those before it and its position has a key, so the
-- definition takes it.
use Rattle.std.proofs.Common.{◌≡◌, ◌⊎◌, inl, inr, ℕ, List, [], ◌∷◌, ◌++◌, length, map, slice_get, Bool, true, false, Option, Some, None, IsSome, Result, Ok, Err, refl, sym, ap, subst, ◌∙◌, append_assoc, append-nil, arith}
use Rattle.std.proofs.lemmas.List.{length-append}
use Rattle.std.proofs.lemmas.Map.Keys.{IsDistinct-from_apart}
use Rattle.std.proofs.Math.Seq.{take-append_seam}
use Rattle.std.specs.Str.{bytes_eq}
use Rattle.serde_json.specs.Data.{Data, null, boolean, number, string, array, object, Items, no_items, item}
use Rattle.serde_json.specs.Find.{as_str}
use Rattle.serde_json.specs.View.{items_of}
use Rattle.lasso_parts.specs.Texts.{Text, position_of, IsDistinct, Fits}
use Rattle.lasso_parts.proofs.IndexLaws.{absent_before}
use Rattle.lasso_parts.proofs.TextLemmas.{distinct_push, fits_push}
use Rattle.lasso_parts.specs.Json.{json_array, read_array, read_items, next_text, new_text, earlier, item_text, key_or_too_many, and_then}
use Rattle.lasso_parts.specs.JsonLaws.{items_after, IsReadable, ReadsExactly, ReadsBack, FaultsExactly}
use Rattle.lasso_parts.specs.declared.json.error.JsonError.{JsonError}

-- ---- what was read

pub and_then_ok : {A B : Type 0} (r : Result A JsonError) (rest : A → Result B JsonError) (b : B) → and_then r rest ≡ Ok b → (a : A) × (r ≡ Ok a) × (rest a ≡ Ok b)
and_then_ok (Err fault) rest b h = cc
and_then_ok (Ok a) rest b h = (a, refl, h)

text_item : (at : ℕ) (d : Data) (text : Text) → item_text at (as_str d) ≡ Ok text → d ≡ string text
text_item at null text h = cc
text_item at (boolean b) text h = cc
text_item at (number n) text h = cc
text_item at (string s) text h = let same : s ≡ text = cc in ap string same
text_item at (array ds) text h = cc
text_item at (object ms) text h = cc

key_there : {K : Type 0} (at : ℕ) (o : Option K) (key : K) → key_or_too_many at o ≡ Ok key → IsSome o
key_there at None key h = cc
key_there at (Some k) key h = refl

new_there : {K : Type 0} (key_at : ℕ → Option K) (at : ℕ) (text : Text) (o : Option ℕ) (t : Text) → new_text key_at at text o ≡ Ok t → (o ≡ None) × (t ≡ text) × IsSome (key_at at)
new_there key_at at text None t h =
    let e = and_then_ok (key_or_too_many at (key_at at)) (λ _. Ok text) t h in
    (refl, (let k = e.2 in cc), key_there at (key_at at) e.0 e.1)
new_there key_at at text (Some n) t h = cc

-- the list goes on with a text that was taken
readable_push : {K : Type 0} (key_at : ℕ → Option K) (distinct : Bool) (seen : List Text) (d : Data) (text : Text) → IsReadable key_at distinct seen → next_text key_at distinct seen d ≡ Ok text → (d ≡ string text) × IsReadable key_at distinct (seen ++ text ∷ [])
readable_push key_at distinct seen d text readable h =
    let e = and_then_ok (item_text (length seen) (as_str d)) (λ t. new_text key_at (length seen) t (earlier distinct seen t)) text h in
    let n = new_there key_at (length seen) e.0 (earlier distinct seen e.0) text e.2 in
    let same : e.0 ≡ text = sym n.1 in
    let absent : earlier distinct seen text ≡ None = ap (earlier distinct seen) (sym same) ∙ n.0 in (
      text_item (length seen) d text (e.1 ∙ ap (λ (t : Text). Ok t) same),
      record {
        fits = let f = fits_push key_at (length seen) readable.fits n.2 in subst (λ (m : ℕ). Fits key_at m) (sym (length-append seen (text ∷ []))) f;
        apart = λ is. distinct_push seen text (readable.apart is) (sym (ap (λ (b : Bool). earlier b seen text) is) ∙ absent);
      },
    )

read_as : {K : Type 0} (key_at : ℕ → Option K) (distinct : Bool) (seen : List Text) (ds : Items) (texts : List Text) → IsReadable key_at distinct seen → read_items key_at distinct seen ds ≡ Ok texts → (more : List Text) × (texts ≡ seen ++ more) × (ds ≡ items_of (map string more)) × IsReadable key_at distinct texts
read_as key_at distinct seen no_items texts readable h =
    let same : seen ≡ texts = cc in ([], sym same ∙ sym (append-nil seen), refl, subst (λ (ts : List Text). IsReadable key_at distinct ts) same readable)
read_as key_at distinct seen (item d ds) texts readable h =
    let e = and_then_ok (next_text key_at distinct seen d) (λ t. read_items key_at distinct (seen ++ t ∷ []) ds) texts h in
    let p = readable_push key_at distinct seen d e.0 readable e.1 in
    let r = read_as key_at distinct (seen ++ e.0 ∷ []) ds texts p.1 e.2 in
    (e.0 ∷ r.0, r.1 ∙ append_assoc seen (e.0 ∷ []) r.0, ap (λ (x : Data). item x ds) p.0 ∙ ap (item (string e.0)) r.2, r.3)

readable_nil : {K : Type 0} (key_at : ℕ → Option K) (distinct : Bool) → IsReadable key_at distinct []
readable_nil key_at distinct = record { fits = λ i inside. absurd (omega arith); apart = λ is. IsDistinct-from_apart bytes_eq [] (λ i j d below inside. absurd (omega arith)) }

read_exactly : {K : Type 0} (key_at : ℕ → Option K) (distinct : Bool) (d : Data) (texts : List Text) → read_array key_at distinct d ≡ Ok texts → (d ≡ json_array texts) × IsReadable key_at distinct texts
read_exactly key_at distinct null texts h = cc
read_exactly key_at distinct (boolean b) texts h = cc
read_exactly key_at distinct (number n) texts h = cc
read_exactly key_at distinct (string s) texts h = cc
read_exactly key_at distinct (object ms) texts h = cc
read_exactly key_at distinct (array ds) texts h =
    let r = read_as key_at distinct [] ds texts (readable_nil key_at distinct) h in
    (ap array (r.2 ∙ ap (λ (ts : List Text). items_of (map string ts)) (sym r.1)), r.3)

-- ---- what will be read

at_seam : (seen rest : List Text) (text : Text) → slice_get (seen ++ text ∷ rest) (length seen) ≡ Some text
at_seam [] rest text = refl
at_seam (t ∷ seen) rest text = at_seam seen rest text

-- a text of a distinct list is none of those before it
absent_from : (seen rest : List Text) (text : Text) → IsDistinct (seen ++ text ∷ rest) → position_of seen text ≡ None
absent_from seen rest text distinct =
    subst (λ (ts : List Text). position_of ts text ≡ None) (take-append_seam seen (text ∷ rest)) (absent_before (seen ++ text ∷ rest) (length seen) text distinct (at_seam seen rest text))

none_earlier : {K : Type 0} (key_at : ℕ → Option K) (distinct : Bool) (seen rest : List Text) (text : Text) → IsReadable key_at distinct (seen ++ text ∷ rest) → earlier distinct seen text ≡ None
none_earlier key_at true seen rest text readable = absent_from seen rest text (readable.apart refl)
none_earlier key_at false seen rest text readable = refl

keyed : {K : Type 0} (at : ℕ) (text : Text) (o : Option K) → IsSome o → and_then (key_or_too_many at o) (λ _. Ok text) ≡ Ok text
keyed at text None some = cc
keyed at text (Some key) some = refl

taken : {K : Type 0} (key_at : ℕ → Option K) (distinct : Bool) (seen rest : List Text) (text : Text) → IsReadable key_at distinct (seen ++ text ∷ rest) → next_text key_at distinct seen (string text) ≡ Ok text
taken key_at distinct seen rest text readable =
    ap (new_text key_at (length seen) text) (none_earlier key_at distinct seen rest text readable)
    ∙ keyed (length seen) text (key_at (length seen)) (readable.fits (length seen) (omega (arith, length-append seen (text ∷ rest))))

-- texts that can be read are read, and the items after them are left
read_on : {K : Type 0} (key_at : ℕ → Option K) (distinct : Bool) (seen more : List Text) (ds : Items) → IsReadable key_at distinct (seen ++ more) → read_items key_at distinct seen (items_after more ds) ≡ read_items key_at distinct (seen ++ more) ds
read_on key_at distinct seen [] ds readable = ap (λ (ts : List Text). read_items key_at distinct ts ds) (sym (append-nil seen))
read_on key_at distinct seen (t ∷ more) ds readable =
    let same : seen ++ t ∷ more ≡ (seen ++ t ∷ []) ++ more = sym (append_assoc seen (t ∷ []) more) in
    ap (λ (r : Result Text JsonError). and_then r (λ u. read_items key_at distinct (seen ++ u ∷ []) (items_after more ds))) (taken key_at distinct seen more t readable)
    ∙ read_on key_at distinct (seen ++ t ∷ []) more ds (subst (λ (ts : List Text). IsReadable key_at distinct ts) same readable)
    ∙ ap (λ (ts : List Text). read_items key_at distinct ts ds) (sym same)

written_items : (texts : List Text) → items_of (map string texts) ≡ items_after texts no_items
written_items [] = refl
written_items (t ∷ texts) = ap (item (string t)) (written_items texts)

written_is_read : {K : Type 0} (key_at : ℕ → Option K) (distinct : Bool) (texts : List Text) → IsReadable key_at distinct texts → read_array key_at distinct (json_array texts) ≡ Ok texts
written_is_read key_at distinct texts readable =
    ap (read_items key_at distinct []) (written_items texts) ∙ read_on key_at distinct [] texts no_items readable

-- ---- faults

pub and_then_err : {A B : Type 0} (r : Result A JsonError) (rest : A → Result B JsonError) (fault : JsonError) → and_then r rest ≡ Err fault → (r ≡ Err fault) ⊎ ((a : A) × (r ≡ Ok a) × (rest a ≡ Err fault))
and_then_err (Err e) rest fault h = inl (let same : e ≡ fault = cc in ap (λ (x : JsonError). Err x) same)
and_then_err (Ok a) rest fault h = inr (a, refl, h)

fault_after : {K : Type 0} (key_at : ℕ → Option K) (distinct : Bool) (seen : List Text) (ds : Items) (fault : JsonError) → IsReadable key_at distinct seen → read_items key_at distinct seen ds ≡ Err fault
    → (more : List Text) × (d : Data) × (rest : Items) × (ds ≡ items_after more (item d rest)) × IsReadable key_at distinct (seen ++ more) × (next_text key_at distinct (seen ++ more) d ≡ Err fault)
fault_after key_at distinct seen no_items fault readable h = cc
fault_after key_at distinct seen (item d ds) fault readable h = elim (and_then_err (next_text key_at distinct seen d) (λ t. read_items key_at distinct (seen ++ t ∷ []) ds) fault h) [
  | inl here ↦
      let same = sym (append-nil seen) in (
        [],
        d,
        ds,
        refl,
        subst (λ (ts : List Text). IsReadable key_at distinct ts) same readable,
        ap (λ (ts : List Text). next_text key_at distinct ts d) (sym same) ∙ here,
      )
  | inr later ↦
      let p = readable_push key_at distinct seen d later.0 readable later.1 in
      let r = fault_after key_at distinct (seen ++ later.0 ∷ []) ds fault p.1 later.2 in
      let same = append_assoc seen (later.0 ∷ []) r.0 in (
        later.0 ∷ r.0,
        r.1,
        r.2,
        ap (λ (x : Data). item x ds) p.0 ∙ ap (item (string later.0)) r.3,
        subst (λ (ts : List Text). IsReadable key_at distinct ts) same r.4,
        ap (λ (ts : List Text). next_text key_at distinct ts r.1) (sym same) ∙ r.5,
      )
]

-- ---- the laws

pub reads_exactly : {K : Type 0} (key_at : ℕ → Option K) → ReadsExactly key_at
reads_exactly key_at distinct d texts = (
  read_exactly key_at distinct d texts,
  λ h. ap (read_array key_at distinct) h.0 ∙ written_is_read key_at distinct texts h.1,
)

pub reads_back : {K : Type 0} (key_at : ℕ → Option K) → ReadsBack key_at
reads_back key_at texts distinct fits = written_is_read key_at true texts (record { fits = fits; apart = λ is. distinct })

pub faults_exactly : {K : Type 0} (key_at : ℕ → Option K) → FaultsExactly key_at
faults_exactly key_at distinct ds fault = (
  fault_after key_at distinct [] ds fault (readable_nil key_at distinct),
  λ h. ap (read_items key_at distinct []) h.3 ∙ read_on key_at distinct [] h.0 (item h.1 h.2) h.4
      ∙ ap (λ (r : Result Text JsonError). and_then r (λ t. read_items key_at distinct (h.0 ++ t ∷ []) h.2)) h.5,
)
