-- Texts read from items, one after another.
--
-- The definition goes through the items from the first. A loop that has read some items holds their texts, and
-- what is left to read is what the definition gives for the texts seen and the items left. So the fault of the
-- next item is the fault of the whole.
use Rattle.std.proofs.Common.{◌≡◌, ℕ, suc, ◌<◌, List, [], ◌∷◌, ◌++◌, length, drop, get_or, Bool, false, Option, Some, None, Result, Ok, Err, is_some, refl, sym, ap, subst, ◌∙◌, drop-cons}
use Rattle.serde_json.specs.Data.{Data}
use Rattle.serde_json.specs.Find.{as_str}
use Rattle.serde_json.specs.View.{view, items_view}
use Rattle.serde_json.specs.declared.value.Value.{Value}
use Rattle.lasso_parts.specs.Texts.{Text}
use Rattle.lasso_parts.specs.Index.{Table, HoldsNone, IsIndexOf}
use Rattle.lasso_parts.proofs.IndexLaws.{IsIndexOf-nil}
use Rattle.lasso_parts.specs.Json.{key_or_too_many, and_then, item_text, new_text, earlier, next_text, read_items}
use Rattle.lasso_parts.specs.declared.json.error.JsonError.{JsonError}

-- a key that was found is that of the position
pub key_had : {K : Type 0} (at : ℕ) (o : Option K) (key : K) → Ok key ≡ key_or_too_many at o → o ≡ Some key
key_had at None key h = cc
key_had at (Some k) key h = cc

-- what is not there
pub none_there : {A : Type 0} (o : Option A) → is_some o ≡ false → o ≡ None
none_there None h = refl
none_there (Some a) h = cc

-- the next item is no text
pub no_text : {K : Type 0} (key_at : ℕ → Option K) (distinct : Bool) (seen : List Text) (at : ℕ) (d : Data) (fault : JsonError) → at ≡ length seen → Err fault ≡ item_text at (as_str d) → next_text key_at distinct seen d ≡ Err fault
no_text key_at distinct seen at d fault last h =
    let here : item_text (length seen) (as_str d) ≡ Err fault = ap (λ (n : ℕ). item_text n (as_str d)) (sym last) ∙ sym h in
    ap (λ (r : Result Text JsonError). and_then r (λ text. new_text key_at (length seen) text (earlier distinct seen text))) here

-- the next item is a text, which has a position or none
pub new_item_text : {K : Type 0} (key_at : ℕ → Option K) (distinct : Bool) (seen : List Text) (at position : ℕ) (d : Data) (text : Text) (r : Result Text JsonError) → at ≡ length seen → position ≡ length seen → Ok text ≡ item_text at (as_str d) → new_text key_at position text (earlier distinct seen text) ≡ r → next_text key_at distinct seen d ≡ r
new_item_text key_at distinct seen at position d text r last last' h new =
    let here : item_text (length seen) (as_str d) ≡ Ok text = ap (λ (n : ℕ). item_text n (as_str d)) (sym last) ∙ sym h in
    ap (λ (r : Result Text JsonError). and_then r (λ text. new_text key_at (length seen) text (earlier distinct seen text))) here
    ∙ ap (λ (n : ℕ). new_text key_at n text (earlier distinct seen text)) (sym last') ∙ new

-- the fault of the next item is that of the whole
pub faulty_item : {K : Type 0} (key_at : ℕ → Option K) (distinct : Bool) (all : Result (List Text) JsonError) (seen : List Text) (items : List Value) (i : ℕ) (v : Value) (fault : JsonError) → all ≡ read_items key_at distinct seen (items_view (drop i items)) → i < length items → v ≡ get_or items i v → next_text key_at distinct seen (view v) ≡ Err fault → Err fault ≡ all
faulty_item key_at distinct all seen items i v fault left inside at h =
    let next : drop i items ≡ v ∷ drop (suc i) items = drop-cons items i v inside ∙ ap (λ (w : Value). w ∷ drop (suc i) items) (sym at) in
    sym (left ∙ ap (λ (vs : List Value). read_items key_at distinct seen (items_view vs)) next
    ∙ ap (λ (r : Result Text JsonError). and_then r (λ text. read_items key_at distinct (seen ++ text ∷ []) (items_view (drop (suc i) items)))) h)

-- an empty index is that of the empty list
pub whole_nil : (hash_of : Text → ℕ) (texts : List Text) (table : Table) → texts ≡ [] → HoldsNone table.slots → IsIndexOf hash_of texts table
whole_nil hash_of texts table empty none = subst (λ (ts : List Text). IsIndexOf hash_of ts table) (sym empty) (IsIndexOf-nil hash_of table none)
