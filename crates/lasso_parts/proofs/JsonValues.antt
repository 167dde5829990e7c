-- The values that stand for texts, one after another, in arrays and in objects.
use Rattle.std.proofs.Common.{◌≡◌, ◌≤◌, ℕ, ◌+◌, suc, List, [], ◌∷◌, ◌++◌, length, map, take, slice_get, Some, String, Vec, BTreeMap, Global, string_bytes, string_cmp, sym, ap, ◌∙◌, arith, rules}
use Rattle.std.specs.BTreeMap.{insert_entry}
use Rattle.std.proofs.lemmas.List.{map_push, take_all, length-take-le}
use Rattle.std.proofs.lemmas.Option.{slice_get_within}
use Rattle.serde_json.specs.Data.{Data, number, unsigned, string, array, object, Members, no_members, put}
use Rattle.serde_json.specs.View.{view, number_view, items_of, members_view}
use Rattle.serde_json.specs.declared.number.Number.{Number}
use Rattle.serde_json.specs.declared.value.Value.{Value, the_lemmas}
use Rattle.serde_json.specs.declared.value.Value as V
use Rattle.serde_json.proofs.Views.{Entry, view-Array, view-Object, members_view-insert_entry}
use Rattle.lasso_parts.specs.Texts.{Text}
use Rattle.lasso_parts.proofs.TextLemmas.{take_more_at}
use Rattle.lasso_parts.specs.Json.{json_array}
use Rattle.lasso_parts.specs.JsonObjects.{json_object, position_number, put_texts}

view-String : (s : String Global) → view (V.String s) ≡ string (string_bytes s)
view-String s = search (rules, the_lemmas)

-- one text more is written
pub written_more : (texts : List Text) (i : ℕ) (text : Text) (vs ws : List Value) (s : String Global) → map view vs ≡ map string (take i texts) → slice_get texts i ≡ Some text → string_bytes s ≡ text → ws ≡ vs ++ V.String s ∷ [] → map view ws ≡ map string (take (i + 1) texts)
written_more texts i text vs ws s before at copied pushed =
    let more : take (i + 1) texts ≡ take i texts ++ text ∷ [] = take_more_at texts i text at in
    let last : view (V.String s) ≡ string text = view-String s ∙ ap string copied in
    ap (map view) pushed ∙ map_push view vs (V.String s)
    ∙ ap (λ (ds : List Data). ds ++ view (V.String s) ∷ []) before
    ∙ ap (λ (d : Data). map string (take i texts) ++ d ∷ []) last
    ∙ sym (map_push string (take i texts) text) ∙ ap (map string) (sym more)

-- all of them are
pub written_all : (texts : List Text) (i : ℕ) (v : Vec Value Global) → map view v.items ≡ map string (take i texts) → length texts ≤ i → view (V.Array v) ≡ json_array texts
written_all texts i v written past =
    view-Array v ∙ ap (λ (ds : List Data). array (items_of ds)) (written ∙ ap (map string) (take_all i texts past))

-- ---- objects

view-Number : (n : Number) → view (V.Number n) ≡ number (number_view n)
view-Number n = search (rules, the_lemmas)

pub put_texts-push : (n : ℕ) (ts : List Text) (t : Text) (ms : Members) → put_texts n (ts ++ t ∷ []) ms ≡ put t (position_number (n + length ts)) (put_texts n ts ms)
put_texts-push n [] t ms =
    let same : n ≡ n + 0 = omega arith in ap (λ (k : ℕ). put t (position_number k) ms) same
put_texts-push n (u ∷ ts) t ms =
    let same : n + 1 + length ts ≡ n + suc (length ts) = omega arith in
    put_texts-push (n + 1) ts t (put u (position_number n) ms)
    ∙ ap (λ (k : ℕ). put t (position_number k) (put_texts (n + 1) ts (put u (position_number n) ms))) same

-- one member more is written
pub member_more : (texts : List Text) (i : ℕ) (text : Text) (es new : List Entry) (k : String Global) (r : Number) → members_view es ≡ put_texts 0 (take i texts) no_members → slice_get texts i ≡ Some text → string_bytes k ≡ text → number_view r ≡ unsigned (i + 1) → new ≡ insert_entry string_cmp es k (V.Number r) → members_view new ≡ put_texts 0 (take (i + 1) texts) no_members
member_more texts i text es new k r before at copied counted inserted =
    let more : take (i + 1) texts ≡ take i texts ++ text ∷ [] = take_more_at texts i text at in
    let value : view (V.Number r) ≡ position_number i = view-Number r ∙ ap number counted in
    let long : i ≡ 0 + length (take i texts) = omega (arith, length-take-le i texts (omega (arith, slice_get_within texts i text at))) in
    ap members_view inserted ∙ members_view-insert_entry es k (V.Number r)
    ∙ ap (λ (t : Text). put t (view (V.Number r)) (members_view es)) copied
    ∙ ap (λ (d : Data). put text d (members_view es)) value
    ∙ ap (put text (position_number i)) before
    ∙ ap (λ (n : ℕ). put text (position_number n) (put_texts 0 (take i texts) no_members)) long
    ∙ sym (put_texts-push 0 (take i texts) text no_members)
    ∙ ap (λ (ts : List Text). put_texts 0 ts no_members) (sym more)

-- all of them are
pub members_all : (texts : List Text) (i : ℕ) (m : BTreeMap (String Global) Value) → members_view m.entries ≡ put_texts 0 (take i texts) no_members → length texts ≤ i → view (V.Object m) ≡ json_object texts
members_all texts i m written past =
    view-Object m ∙ ap object (written ∙ ap (λ (ts : List Text). put_texts 0 ts no_members) (take_all i texts past))
