-- What a look-up in a shard finds.
use Rattle.std.specs.Prelude.{◌≡◌, ◌<◌, ℕ, List, length, Option, Some}
use Rattle.lasso_parts.specs.Texts.{Text, position_of, key_of}
use Rattle.lasso_log.specs.History.{IsLegal}
use Rattle.lasso_log.specs.Notes.{NoteView, history}
use Rattle.lasso_log.specs.Views.{InternerId, list_of}

-- the text is in the list, at this position
abbrev pub IsFoundAt : List Text → Text → ℕ → Type 0
IsFoundAt texts text n = (position_of texts text ≡ Some n) × (n < length texts)

-- the notes are of a legal history, and this is the text's key in the list at its end
abbrev pub IsKeyAfter : {K : Type 0} → (ℕ → Option K) → InternerId → List NoteView → Text → K → Type 0
IsKeyAfter key_at of notes text k = IsLegal key_at of.opening (history notes) × (key_of key_at (list_of of notes) text ≡ Some k)

-- so it is after some legal history of the interner
abbrev pub IsKeyOnce : {K : Type 0} → (ℕ → Option K) → InternerId → Text → K → Type 0
IsKeyOnce key_at of text k = (notes : List NoteView) × IsLegal key_at of.opening (history notes) × (key_of key_at (list_of of notes) text ≡ Some k)
