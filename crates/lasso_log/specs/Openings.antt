-- What an interner opens with.
use Rattle.std.specs.Prelude.{ℕ, List, [], ◌∷◌, true, Option}
use base.Stored.{Coded, coded×, coded_ℕ, coded_list, coded_via}
use Rattle.lasso_parts.specs.Texts.{Text}
use Rattle.lasso_log.specs.Book.{KeepsRule}
use Rattle.lasso_log.specs.Events.{bucket_at}
use Rattle.lasso_log.specs.History.{Totals, opened}
use Rattle.lasso_log.specs.LentBuckets.{LentBucket}
use Rattle.lasso_log.specs.Notes.{NoteView, opening_note, lent_coded}
use Rattle.lasso_log.specs.declared.log.opening.new_book.First.{First}

-- texts, and the bucket of those of them that were copied
pub record OpeningView : Type 0 where
  pub texts : List Text
  pub bucket : LentBucket

abbrev pub opening_view_coded : Coded OpeningView
opening_view_coded = coded_via (coded× (coded_list (coded_list coded_ℕ)) lent_coded) (λ (o : OpeningView). (o.texts, o.bucket)) (λ x y e i. record { texts = (e i).0; bucket = (e i).1 })

-- the opening with these texts and this bucket, and with a limit
abbrev pub opening_with : OpeningView → ℕ → Totals
opening_with o limit = opened o.texts o.bucket.size o.bucket.used limit

-- the first note of its log
abbrev pub note_of_opening : List Text → LentBucket → ℕ → NoteView
note_of_opening texts b limit = record (opening_note (opened texts b.size b.used limit)) { lent = b ∷ [] }

-- the bucket that the first note of a log records
abbrev pub first_bucket : First → LentBucket
first_bucket f = bucket_at f.site.now.numbers f.size f.used

-- the opening that it records
abbrev pub first_opening : First → Totals
first_opening f = opened f.known.now.texts f.size f.used f.limit

-- the note itself
abbrev pub first_note_of : First → NoteView
first_note_of f = note_of_opening f.known.now.texts (first_bucket f) f.limit

-- a new book with this opening holds its rule: its three words have the value 0, and no note is past the first
abbrev pub OpensBook : {Key : Type 0} → (ℕ → Option Key) → Totals → Type 0
OpensBook keys opening = KeepsRule keys ((0, true) ∷ (0, true) ∷ (0, true) ∷ []) opening []
