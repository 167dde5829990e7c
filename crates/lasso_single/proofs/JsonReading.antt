-- What the result of reading an array says of the list.
--
-- A list that was returned is what the value is read as, since out of memory returns no list. So the value is
-- the array of its texts, each position has a key, and the list is distinct where that was asked for.
use Rattle.std.proofs.Common.{◌≡◌, ◌∙◌, inl, inr, ℕ, List, [], ◌∷◌, Bool, true, false, Option, Some, None, IsSome, IsOk, Result, Ok, Err, refl, sym, ap, subst}
use Rattle.serde_json.specs.Data.{Data, Items, item}
use Rattle.serde_json.specs.Find.{as_array, as_str}
use Rattle.lasso_parts.specs.Json.{and_then, earlier, item_text, key_or_too_many, new_text, next_text, read_array, read_if_array, read_items, shown, ReadsOr, TakesText}
use Rattle.lasso_parts.specs.JsonLaws.{IsReadable}
use Rattle.lasso_parts.specs.Texts.{Text}
use Rattle.lasso_parts.specs.declared.json.error.JsonError.{JsonError}
use Rattle.lasso_parts.specs.declared.json.error.JsonError.TheVariants.{NotAnArray}
use Rattle.lasso_parts.proofs.JsonLaws.{reads_exactly}
use Rattle.lasso_single.specs.Json.{ReadsInto, RefusesFirstItem, RefusesNoArray}

-- ---- faults before which memory can't run out

not_found : {X : Type 0} (o : Option X) (x : X) → o ≡ None → o ≡ Some x → ⊥
not_found o x none some = cc

no_list : (read : Result (List Text) JsonError) (fault : JsonError) → read ≡ Err fault → IsOk read → ⊥
no_list (Ok texts) fault is ok = cc
no_list (Err error) fault is ok = cc

-- the error is shown as it is
pub shown_error : {A : Type 0} (see : A → List Text) (answer : Result A JsonError) (fault : JsonError) → shown see answer ≡ Err fault → answer ≡ Err fault
shown_error see (Ok value) fault is = cc
shown_error see (Err error) fault is = cc

none_earlier : (distinct : Bool) (text : Text) → earlier distinct [] text ≡ None
none_earlier true text = refl
none_earlier false text = refl

keyed_text : {K : Type 0} (key_at : ℕ → Option K) (o : Option K) (text : Text) (fault : JsonError) → IsSome o → and_then (key_or_too_many 0 o) (λ _. Ok text) ≡ Err fault → ⊥
keyed_text key_at None text fault some is = cc
keyed_text key_at (Some k) text fault some is = cc

module _ {K : Type 0} (key_at : ℕ → Option K) (distinct : Bool) (d : Data) where
  -- a list that was returned is what the value is read as
  pub was_read : (takes : Type 0) (texts : List Text) → ReadsOr takes (read_array key_at distinct d) (Ok texts) → read_array key_at distinct d ≡ Ok texts
  was_read takes texts h = elim h [ inl read ↦ sym read | inr memory ↦ (let e = memory.0 in cc) ]

  -- it can be read
  pub was_readable : (texts : List Text) → read_array key_at distinct d ≡ Ok texts → IsReadable key_at distinct texts
  was_readable texts read = ((reads_exactly key_at distinct d texts).0 read).1

  -- ---- faults before which memory can't run out

  -- a fault is the answer unless reading takes memory
  told : (answer : Result (List Text) JsonError) (fault : JsonError) → ReadsInto key_at distinct d answer → read_array key_at distinct d ≡ Err fault → (TakesText key_at d → ⊥) → answer ≡ Err fault
  told answer fault h is none = elim h [
    | inl read ↦ read ∙ is
    | inr memory ↦ absurd (elim memory.1 [ inl takes ↦ none takes | inr ok ↦ no_list (read_array key_at distinct d) fault is ok ])
  ]

  pub refuses_no_array : (answer : Result (List Text) JsonError) → ReadsInto key_at distinct d answer → RefusesNoArray d answer
  refuses_no_array answer h none =
      told answer NotAnArray h (ap (read_if_array key_at distinct) none) (λ takes. not_found (as_array d) (item takes.0 takes.1) none takes.3)

  -- the first item is no text that has a key
  faulty : (first : Data) (fault : JsonError) → next_text key_at distinct [] first ≡ Err fault → (text : Text) → as_str first ≡ Some text → IsSome (key_at 0) → ⊥
  faulty first fault is text at some =
      let here : and_then (item_text 0 (as_str first)) (λ t. new_text key_at 0 t (earlier distinct [] t)) ≡ Err fault = is in
      let found : new_text key_at 0 text (earlier distinct [] text) ≡ Err fault = subst (λ (o : Option Text). and_then (item_text 0 o) (λ t. new_text key_at 0 t (earlier distinct [] t)) ≡ Err fault) at here in
      keyed_text key_at (key_at 0) text fault some (subst (λ (o : Option ℕ). new_text key_at 0 text o ≡ Err fault) (none_earlier distinct text) found)

  same_item : (first other : Data) (ds more : Items) → as_array d ≡ Some (item first ds) → as_array d ≡ Some (item other more) → other ≡ first
  same_item first other ds more at is = cc

  pub refuses_first_item : (answer : Result (List Text) JsonError) → ReadsInto key_at distinct d answer → RefusesFirstItem key_at distinct d answer
  refuses_first_item answer h first others fault at is =
      let read : read_array key_at distinct d ≡ Err fault = ap (read_if_array key_at distinct) at ∙ ap (λ (r : Result Text JsonError). and_then r (λ text. read_items key_at distinct (text ∷ []) others)) is in
      told answer fault h read (λ takes. faulty first fault is takes.2 (subst (λ (x : Data). as_str x ≡ Some takes.2) (same_item first takes.0 others takes.1 at takes.3) takes.4) takes.5)
