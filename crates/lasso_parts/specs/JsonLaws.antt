-- What reading and writing lists of texts as JSON have to do with one another.
use Rattle.std.specs.Prelude.{◌≡◌, ◌↔◌, ℕ, List, [], ◌∷◌, length, Bool, true, Option, Ok, Err}
use Rattle.serde_json.specs.Data.{Data, string, array, Items, item}
use Rattle.lasso_parts.specs.Texts.{Text, IsDistinct, Fits}
use Rattle.lasso_parts.specs.Json.{json_array, next_text, read_array}
use Rattle.lasso_parts.specs.declared.json.error.JsonError.{JsonError}

-- a list whose positions have keys, and whose texts are distinct if that is asked for
pub record IsReadable {K : Type 0} (key_at : ℕ → Option K) (distinct : Bool) (texts : List Text) : Type 0 where
  pub fits : Fits key_at (length texts)
  pub apart : distinct ≡ true → IsDistinct texts

-- a value is read as a list exactly if it is the array of its texts and the list can be read: the contract of
-- `json_reads_exactly`
abbrev pub ReadsExactly : {K : Type 0} → (ℕ → Option K) → Type 0
ReadsExactly key_at =
    (distinct : Bool) (d : Data) (texts : List Text) → (read_array key_at distinct d ≡ Ok texts) ↔ ((d ≡ json_array texts) × IsReadable key_at distinct texts)

-- a distinct list that fits the keys is read back from what it was written as: the contract of
-- `json_reads_back`
abbrev pub ReadsBack : {K : Type 0} → (ℕ → Option K) → Type 0
ReadsBack key_at =
    (texts : List Text) → IsDistinct texts → Fits key_at (length texts) → read_array key_at true (json_array texts) ≡ Ok texts

-- the texts, and the items after them
abbrev pub items_after : List Text → Items → Items
items_after [] ds = ds
items_after (t ∷ ts) ds = item (string t) (items_after ts ds)

-- an array is faulty exactly if an item is after texts that can be read, and with that item's fault: the
-- contract of `json_faults_exactly`
abbrev pub FaultsExactly : {K : Type 0} → (ℕ → Option K) → Type 0
FaultsExactly key_at =
    (distinct : Bool) (ds : Items) (fault : JsonError) → (read_array key_at distinct (array ds) ≡ Err fault)
    ↔ ((texts : List Text) × (d : Data) × (rest : Items) × (ds ≡ items_after texts (item d rest)) × IsReadable key_at distinct texts × (next_text key_at distinct texts d ≡ Err fault))
