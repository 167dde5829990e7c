-- What reading and writing lists of texts as JSON objects have to do with one another.
use Rattle.std.specs.Prelude.{◌≡◌, ◌↔◌, ◌==◌, ℕ, ◌<◌, List, [], ◌∷◌, length, map, true, Option, IsSome, Ok, Err}
use Rattle.std.specs.List as lists
use Rattle.std.specs.List.{All}
use Rattle.serde_json.specs.Data.{Data, object, Members, member}
use Rattle.serde_json.specs.Events.{members_len}
use Rattle.lasso_parts.specs.Texts.{Text, IsDistinct, Fits}
use Rattle.lasso_parts.specs.JsonLaws.{IsReadable}
use Rattle.lasso_parts.specs.JsonObjects.{json_object, position_number, next_position, read_object, IsInOrder}
use Rattle.lasso_parts.specs.declared.json.error.JsonError.{JsonError}

-- a value, whose members are in byte order, is read as a list exactly if it is the object of its texts and
-- the list is distinct and fits the keys, so no position is left without a text: the contract of
-- `json_object_reads_exactly`
abbrev pub ReadsObjectExactly : {K : Type 0} → (ℕ → Option K) → Type 0
ReadsObjectExactly key_at =
    (d : Data) (texts : List Text) → IsInOrder d → (read_object key_at d ≡ Ok texts) ↔ ((d ≡ json_object texts) × IsReadable key_at true texts)

-- a distinct list that fits the keys is read back from the object that it was written as: the contract of
-- `json_object_reads_back`
abbrev pub ReadsObjectBack : {K : Type 0} → (ℕ → Option K) → Type 0
ReadsObjectBack key_at =
    (texts : List Text) → IsDistinct texts → Fits key_at (length texts) → read_object key_at (json_object texts) ≡ Ok texts

-- the members of texts at positions, and the members after them
abbrev pub members_after : List (Text × ℕ) → Members → Members
members_after [] ms = ms
members_after (m ∷ more) ms = member m.0 (position_number m.1) (members_after more ms)

-- positions below n, each with a key, none twice
pub record AreFree {K : Type 0} (key_at : ℕ → Option K) (n : ℕ) (positions : List ℕ) : Type 0 where
  pub below : All (λ p. p < n) positions
  pub keyed : All (λ p. IsSome (key_at p)) positions
  pub apart : lists.IsDistinct (λ p q. p == q) positions

-- an object is faulty exactly if a member is after members whose positions are free, and with that member's
-- fault: the contract of `json_object_faults_exactly`
abbrev pub FaultsObjectExactly : {K : Type 0} → (ℕ → Option K) → Type 0
FaultsObjectExactly key_at =
    (ms : Members) (fault : JsonError) → (read_object key_at (object ms) ≡ Err fault)
    ↔ ((before : List (Text × ℕ)) × (t : Text) × (d : Data) × (rest : Members) × (ms ≡ members_after before (member t d rest)) × AreFree key_at (members_len ms) (map (λ m. m.1) before) × (next_position key_at (members_len ms) (map (λ m. m.1) before) d ≡ Err fault))
