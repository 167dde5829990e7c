-- Shards: which texts of a list are a shard's, what its index and its number say of a history that was seen,
-- and how a new text of it goes last in the list. A shard is the texts whose hashes have one number in their
-- four highest bits. Under its lock are an index of those texts and how many they are. A tally is the spine,
-- and how many texts each shard has in the history that the spine has seen.
use Rattle.std.specs.Prelude.{◌≡◌, ℕ, suc, ◌/◌, ◌^◌, ◌<◌, ◌↔◌, Bool, true, nat_eq, List, [], ◌∷◌, Option, Some, None, Result, Ok, Err, slice_get, slice_index_or, length, if◌then◌else◌}
use mathlib.Core.List.{IsPrefix}
use Rattle.lasso_parts.specs.Texts.{Text, IsDistinct, key_of}
use Rattle.lasso_parts.specs.Index.{Table, Holds, IsFiled}
use Rattle.lasso_parts.specs.declared.util.LassoErrorKind.{LassoErrorKind}
use Rattle.lasso_parts.specs.declared.util.LassoErrorKind.TheVariants.{KeySpaceExhaustion}
use Rattle.lasso_log.specs.History.{Append, Lacks}
use Rattle.lasso_log.specs.Notes.{NoteView, Since}
use Rattle.lasso_log.specs.Views.{InternerId, SnapshotView, SpineView, list_of}

-- the shard of a hash of 64 bits: the number in its four highest bits, so there are 16 shards
abbrev pub shard_of : ℕ → ℕ
shard_of hash = hash / 2 ^ 60

-- whether a text is of the shard of this number
abbrev pub is_in : (Text → ℕ) → ℕ → Text → Bool
is_in hash_of number text = nat_eq (shard_of (hash_of text)) number

-- how many texts of the list are so
abbrev pub count_where : (Text → Bool) → List Text → ℕ
count_where p [] = 0
count_where p (t ∷ ts) = if p t then suc (count_where p ts) else count_where p ts

-- how many texts of the list are of the shard
abbrev pub count_in : (Text → ℕ) → ℕ → List Text → ℕ
count_in hash_of number texts = count_where (is_in hash_of number) texts

-- a text of the shard is at this position
abbrev pub IsOfShard : (Text → ℕ) → ℕ → List Text → ℕ → Type 0
IsOfShard hash_of number texts m = (t : Text) × (slice_get texts m ≡ Some t) × (is_in hash_of number t ≡ true)

-- the index of a shard of a list: it is filed under the list, and exactly the positions of the shard's texts
-- are held. The list is distinct
pub record IsShardOf (hash_of : Text → ℕ) (number : ℕ) (texts : List Text) (table : Table) : Type 0 where
  pub filed : IsFiled hash_of texts table
  pub holds : (m : ℕ) → Holds table.slots m ↔ IsOfShard hash_of number texts m
  pub distinct : IsDistinct texts

-- What a shard's lock keeps: its index maps exactly the shard's texts of a history that it has seen to their positions,
-- and its number counts them.
pub record IsShard (hash_of : Text → ℕ) (number : ℕ) (of : InternerId) (known : SnapshotView) (index : Table) (count : ℕ) : Type 0 where
  pub mine : known.of ≡ of
  pub exact : IsShardOf hash_of number (list_of of known.notes) index
  pub counts : count ≡ count_in hash_of number (list_of of known.notes)

-- these are the numbers of the list's texts in each shard
abbrev pub Counts : (Text → ℕ) → List Text → List ℕ → Type 0
Counts hash_of texts counts = (i : ℕ) → i < 16 → slice_index_or counts i 0 ≡ count_in hash_of i texts

-- they are, and there are 16 of them
abbrev pub CountsAll : (Text → ℕ) → List Text → List ℕ → Type 0
CountsAll hash_of texts counts = (length counts ≡ 16) × Counts hash_of texts counts

-- what the spine's lock keeps: the shards' numbers are those of the list that the spine has seen
pub record IsTally (hash_of : Text → ℕ) (of : InternerId) (spine : SpineView) (counts : List ℕ) : Type 0 where
  pub mine : spine.of ≡ of
  pub all : length counts ≡ 16
  pub counts_each : Counts hash_of (list_of of spine.notes) counts

-- the notes begin with what the shard has seen, and have no more texts of the shard. So the shard's index is
-- that of their list too, and a text of the shard that the index lacks is not in it
pub record IsWholeShard (hash_of : Text → ℕ) (number : ℕ) (of : InternerId) (known notes : List NoteView) : Type 0 where
  pub begins : IsPrefix known notes
  pub counts : count_in hash_of number (list_of of known) ≡ count_in hash_of number (list_of of notes)

-- Between these notes the pass put the text last, once, and this is its key; or no key is left for the text, which the list lacks, and
-- the pass made no event.
abbrev pub PutsLast : {K : Type 0} → (ℕ → Option K) → InternerId → (pass : ℕ) → (before after : List NoteView) → Text → Result K LassoErrorKind → Type 0
PutsLast key_at of pass before after text (Ok k) = Since pass before after (Append text ∷ []) × (key_of key_at (list_of of after) text ≡ Some k)
PutsLast key_at of pass before after text (Err error) =
    (error ≡ KeySpaceExhaustion) × Since pass before after [] × Lacks (list_of of after) text × (key_at (length (list_of of after)) ≡ None)
