-- An interner's index is that of its list, and the list fits the keys.
--
-- Both hold of the empty list. A table that made room holds the same positions, and a refused push leaves the
-- texts, so both stay. A text that was not found goes last: its position is the list's length, which has a key.
use Rattle.std.proofs.Common.{◌≡◌, ℕ, ◌+◌, List, [], ◌∷◌, ◌++◌, length, Option, None, IsSome, sym, subst, arith}
use Rattle.std.specs.Prelude.{◌⊎◌, ◌↔◌}
use Rattle.std.proofs.lemmas.List.{length_push}
use Rattle.lasso_parts.specs.Texts.{Text, position_of, Fits}
use Rattle.lasso_parts.specs.Index.{Table, used, Holds, HoldsNone, IsIndexOf, StaysFiled}
use Rattle.lasso_parts.proofs.IndexLaws.{IsIndexOf-nil, IsIndexOf-push}
use Rattle.lasso_parts.proofs.TextLemmas.{fits_push}

module _ {K : Type 0} (hash_of : Text → ℕ) (key_at : ℕ → Option K) where
  -- the index is that of the list, which fits the keys
  abbrev pub IsWhole : List Text → Table → Type 0
  IsWhole texts index = IsIndexOf hash_of texts index × Fits key_at (length texts)

  pub whole_empty : (texts : List Text) (index : Table) → texts ≡ [] → HoldsNone index.slots → IsWhole texts index
  whole_empty texts index empty none = subst (λ (ts : List Text). IsWhole ts index) (sym empty) (IsIndexOf-nil hash_of index none, λ i inside. absurd (omega arith))

  -- the index made room, and the texts are the same
  pub whole_reserved : (texts same : List Text) (old new : Table) → IsWhole texts old → same ≡ texts → IsIndexOf hash_of texts new → IsWhole same new
  whole_reserved texts same old new whole e index = subst (λ (ts : List Text). IsWhole ts new) (sym e) (index, whole.1)

  -- the index made room and got the position of a text that went last
  pub whole_pushed : (texts more : List Text) (text : Text) (hash n : ℕ) (old mid new : Table) → IsWhole texts old → IsIndexOf hash_of texts mid → position_of texts text ≡ None → more ≡ texts ++ text ∷ [] → n ≡ length texts → IsSome (key_at (length texts)) → hash ≡ hash_of text → ((m : ℕ) → Holds new.slots m ↔ (Holds mid.slots m ⊎ (m ≡ n))) → used new.slots ≡ used mid.slots + 1 → StaysFiled hash n mid new → IsWhole more new
  whole_pushed texts more text hash n old mid new whole index absent e last more_keys hashed entered one stays =
      subst (λ (ts : List Text). IsWhole ts new) (sym e) (IsIndexOf-push hash_of texts text hash n mid new index absent last hashed entered one stays, rw (length_push texts text) (fits_push key_at (length texts) whole.1 more_keys))
