-- How a shared interner reads a value: an array by its items, any other value as an object.
--
-- Where the value is an array, its reading is that of an array, else that of an object; a list that was had
-- so is distinct and fits the keys, by the laws of both. The value that is written for such a list, in either
-- form, is read as that list. A reply that is not the list is then `FailedAllocation`, since the reading is
-- no fault.
use Rattle.std.proofs.Common.{◌≡◌, ◌⊎◌, inl, inr, ℕ, List, length, true, false, Option, Some, None, Result, Ok, Err, IfOk, is_some, refl, sym, ap, ◌∙◌}
use Rattle.serde_json.specs.Data.{Data, Items}
use Rattle.serde_json.specs.Find.{as_array}
use Rattle.lasso_parts.specs.Texts.{Text, IsDistinct, Fits}
use Rattle.lasso_parts.specs.Json.{json_array, read_array, shown, TakesText, ReadsOr}
use Rattle.lasso_parts.specs.JsonLaws.{IsReadable}
use Rattle.lasso_parts.specs.JsonObjects.{json_object, read_object, TakesPosition, IsInOrder}
use Rattle.lasso_parts.specs.declared.json.error.JsonError.{JsonError}
use Rattle.lasso_parts.specs.declared.json.error.JsonError.TheVariants.{Lasso}
use Rattle.lasso_parts.specs.declared.util.LassoErrorKind.TheVariants.{FailedAllocation}
use Rattle.lasso_parts.proofs.JsonLaws as arrays
use Rattle.lasso_parts.proofs.JsonObjectLaws as objects
use Rattle.lasso_shared.specs.Json.{read_by_form, read_list}

-- the same reply, of an equal reading, where memory runs out for one more reason
widened : (P Q : Type 0) (read longer answer : Result (List Text) JsonError) → longer ≡ read → (P → Q) → ReadsOr P read answer → ReadsOr Q longer answer
widened P Q read longer answer same more h = elim h [ inl is ↦ inl (is ∙ sym same) | inr none ↦ inr (none.0, more none.1) ]

-- a list that was had is the reading
was_read : (P : Type 0) (read : Result (List Text) JsonError) (texts : List Text) → ReadsOr P read (Ok texts) → read ≡ Ok texts
was_read P read texts h = elim h [ inl is ↦ sym is | inr none ↦ (let e = none.0 in cc) ]

-- what holds of each list that was had
told : {A : Type 0} (see : A → List Text) (P : List Text → Type 0) (r : Result A JsonError) → ((texts : List Text) → shown see r ≡ Ok texts → P texts) → IfOk r (λ a. P (see a))
told see P (Ok a) each = each (see a) refl
told see P (Err error) each = tt

module _ {K : Type 0} (key_at : ℕ → Option K) where
  form_array : (d : Data) (o : Option Items) → is_some o ≡ true → read_by_form key_at d o ≡ read_array key_at true d
  form_array d None e = cc
  form_array d (Some ds) e = refl

  form_object : (d : Data) (o : Option Items) → is_some o ≡ false → read_by_form key_at d o ≡ read_object key_at d
  form_object d None e = refl
  form_object d (Some ds) e = cc

  -- an array is read as one
  pub by_items : (d : Data) (answer : Result (List Text) JsonError) → is_some (as_array d) ≡ true → ReadsOr (TakesText key_at d) (read_array key_at true d) answer → ReadsOr (TakesText key_at d ⊎ TakesPosition key_at d) (read_list key_at d) answer
  by_items d answer is h = widened (TakesText key_at d) (TakesText key_at d ⊎ TakesPosition key_at d) (read_array key_at true d) (read_list key_at d) answer (form_array d (as_array d) is) (λ t. inl t) h

  -- any other value as an object
  pub by_members : (d : Data) (answer : Result (List Text) JsonError) → is_some (as_array d) ≡ false → ReadsOr (TakesPosition key_at d) (read_object key_at d) answer → ReadsOr (TakesText key_at d ⊎ TakesPosition key_at d) (read_list key_at d) answer
  by_members d answer is h = widened (TakesPosition key_at d) (TakesText key_at d ⊎ TakesPosition key_at d) (read_object key_at d) (read_list key_at d) answer (form_object d (as_array d) is) (λ t. inr t) h

  readable_items : (d : Data) (texts : List Text) → ReadsOr (TakesText key_at d) (read_array key_at true d) (Ok texts) → IsReadable key_at true texts
  readable_items d texts h = ((arrays.reads_exactly key_at true d texts).0 (was_read (TakesText key_at d) (read_array key_at true d) texts h)).1

  readable_members : (d : Data) (texts : List Text) → IsInOrder d → ReadsOr (TakesPosition key_at d) (read_object key_at d) (Ok texts) → IsReadable key_at true texts
  readable_members d texts order h = ((objects.reads_exactly key_at d texts order).0 (was_read (TakesPosition key_at d) (read_object key_at d) texts h)).1

  module _ {A : Type 0} (see : A → List Text) (d : Data) (r : Result A JsonError) where
    -- a list of items is distinct and fits the keys
    pub items_distinct : ReadsOr (TakesText key_at d) (read_array key_at true d) (shown see r) → IfOk r (λ a. IsDistinct (see a))
    items_distinct h = told see IsDistinct r (λ texts is. (readable_items d texts (rw is at h)).apart refl)

    pub items_fit : ReadsOr (TakesText key_at d) (read_array key_at true d) (shown see r) → IfOk r (λ a. Fits key_at (length (see a)))
    items_fit h = told see (λ (ts : List Text). Fits key_at (length ts)) r (λ texts is. (readable_items d texts (rw is at h)).fits)

    -- so is one of members in order
    pub members_distinct : IsInOrder d → ReadsOr (TakesPosition key_at d) (read_object key_at d) (shown see r) → IfOk r (λ a. IsDistinct (see a))
    members_distinct order h = told see IsDistinct r (λ texts is. (readable_members d texts order (rw is at h)).apart refl)

    pub members_fit : IsInOrder d → ReadsOr (TakesPosition key_at d) (read_object key_at d) (shown see r) → IfOk r (λ a. Fits key_at (length (see a)))
    members_fit order h = told see (λ (ts : List Text). Fits key_at (length ts)) r (λ texts is. (readable_members d texts order (rw is at h)).fits)

  -- what is written for a distinct list that fits the keys is read as that list
  pub read_back : (d : Data) (texts : List Text) → IsDistinct texts → Fits key_at (length texts) → (d ≡ json_object texts) ⊎ (d ≡ json_array texts) → read_list key_at d ≡ Ok texts
  read_back d texts distinct fits written = elim written [
    | inl object ↦ ap (read_list key_at) object ∙ objects.reads_back key_at texts distinct fits
    | inr items ↦ ap (read_list key_at) items ∙ arrays.reads_back key_at texts distinct fits
  ]

  -- ---- a value that is read as a list

  -- a list that was had is the only one that the value is read as
  pub one_reading : (P : Type 0) (d : Data) (texts list : List Text) → ReadsOr P (read_list key_at d) (Ok texts) → read_list key_at d ≡ Ok list → texts ≡ list
  one_reading P d texts list h read =
      let had = was_read P (read_list key_at d) texts h in
      let both : Ok texts ≡ Ok list = sym had ∙ read in cc

  -- a fault of a value that is read as a list is out of memory
  pub only_memory : (P : Type 0) (d : Data) (error : JsonError) (list : List Text) → ReadsOr P (read_list key_at d) (Err error) → read_list key_at d ≡ Ok list → error ≡ Lasso FailedAllocation
  only_memory P d error list h read = elim h [
    | inl is ↦ (let e = is ∙ read in absurd (cc))
    | inr none ↦ (let e = none.0 in cc)
  ]
