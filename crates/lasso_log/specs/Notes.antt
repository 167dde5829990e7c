-- The notes of the shared log, a list that only grows: the first has the opening, and each further one is an
-- event with the pass that made it. They exist in proofs alone. What the notes add up to: the history, the
-- list, and the words.
use Rattle.std.specs.Prelude.{◌≡◌, ℕ, suc, ◌+◌, ◌==◌, List, [], ◌∷◌, ◌++◌, map, slice_get, Some, refl, ◌⊎◌, if◌then◌else◌}
use mathlib.Core.Logic.{inl, inr}
use Rattle.std.specs.Coded.{Coded, code_by, coded×, coded⊎, coded_ℕ, coded_list}
use base.Stored.{coded_via}
use Rattle.lasso_parts.specs.Texts.{Text}
use Rattle.lasso_log.specs.History.{Event, Reserve, Charge, Append, Limit, History, Totals, totals}
use Rattle.lasso_log.specs.Buckets.{CountedBucket, changed_at}
use Rattle.lasso_log.specs.Calls.{events_of}
use Rattle.lasso_log.specs.LentBuckets.{Site, LentBucket, more_taken}

-- a note
pub record NoteView : Type 0 where
  -- the number of the pass whose event it is
  pub by : ℕ
  pub event : Event
  -- the position of an appended text in the list
  pub position : ℕ
  -- the ticket that the event used up: the key of a word of the book
  pub ticket : ℕ
  -- the ticket that its pass has after it
  pub next : ℕ
  -- in the first note, the opening
  pub opening : Totals
  -- where bytes are: in the first note the opening's bucket, in a charge the new one, in a reservation its
  -- bucket as it was found
  pub lent : List LentBucket

abbrev pub no_totals : Totals
no_totals = record { texts = []; buckets = []; doubling = 0; usage = 0; limit = 0 }

-- a note that stands for an opening
abbrev pub opening_note : Totals → NoteView
opening_note o = record { by = 0; event = Limit 0; position = 0; ticket = 0; next = 0; opening = o; lent = [] }

abbrev pub no_note : NoteView
no_note = opening_note no_totals

-- how a note is kept as data
abbrev Parts : Type 0
Parts = (ℕ × ℕ) ⊎ ((ℕ × ℕ) ⊎ (List ℕ ⊎ ℕ))

abbrev parts_of : Event → Parts
parts_of (Reserve bucket bytes) = inl (bucket, bytes)
parts_of (Charge size bytes) = inr (inl (size, bytes))
parts_of (Append text) = inr (inr (inl text))
parts_of (Limit limit) = inr (inr (inr limit))

abbrev event_from : Parts → Event
event_from (inl p) = Reserve p.0 p.1
event_from (inr (inl p)) = Charge p.0 p.1
event_from (inr (inr (inl text))) = Append text
event_from (inr (inr (inr limit))) = Limit limit

pub from-parts : (e : Event) → event_from (parts_of e) ≡ e
from-parts (Reserve bucket bytes) = refl
from-parts (Charge size bytes) = refl
from-parts (Append text) = refl
from-parts (Limit limit) = refl

abbrev pub event_coded : Coded Event
event_coded = code_by Parts (coded⊎ (coded× coded_ℕ coded_ℕ) (coded⊎ (coded× coded_ℕ coded_ℕ) (coded⊎ (coded_list coded_ℕ) coded_ℕ))) parts_of event_from from-parts

abbrev pub bucket_coded : Coded CountedBucket
bucket_coded = coded_via (coded× coded_ℕ coded_ℕ) (λ (b : CountedBucket). (b.size, b.used)) (λ x y e i. record { size = (e i).0; used = (e i).1 })

abbrev pub totals_coded : Coded Totals
totals_coded =
    coded_via (coded× (coded_list (coded_list coded_ℕ)) (coded× (coded_list bucket_coded) (coded× coded_ℕ (coded× coded_ℕ coded_ℕ))))
    (λ (s : Totals). (s.texts, (s.buckets, (s.doubling, (s.usage, s.limit)))))
    (λ x y e i. record { texts = (e i).0; buckets = (e i).1.0; doubling = (e i).1.1.0; usage = (e i).1.1.1.0; limit = (e i).1.1.1.1 })

abbrev pub site_coded : Coded Site
site_coded = coded_via (coded× coded_ℕ (coded× coded_ℕ coded_ℕ)) (λ (s : Site). (s.era, (s.block, s.start))) (λ x y e i. record { era = (e i).0; block = (e i).1.0; start = (e i).1.1 })

abbrev pub lent_coded : Coded LentBucket
lent_coded = coded_via (coded× site_coded (coded× coded_ℕ coded_ℕ)) (λ (b : LentBucket). (b.site, (b.size, b.used))) (λ x y e i. record { site = (e i).0; size = (e i).1.0; used = (e i).1.1 })

abbrev pub note_coded : Coded NoteView
note_coded =
    coded_via (coded× coded_ℕ (coded× event_coded (coded× coded_ℕ (coded× coded_ℕ (coded× coded_ℕ (coded× totals_coded (coded_list lent_coded)))))))
    (λ (e : NoteView). (e.by, (e.event, (e.position, (e.ticket, (e.next, (e.opening, e.lent)))))))
    (λ x y e i. record { by = (e i).0; event = (e i).1.0; position = (e i).1.1.0; ticket = (e i).1.1.1.0; next = (e i).1.1.1.1.0; opening = (e i).1.1.1.1.1.0; lent = (e i).1.1.1.1.1.1 })

-- the history that the notes past the opening are
abbrev pub history : List NoteView → History
history notes = map (λ (e : NoteView). (e.by, e.event)) notes

-- the totals after these notes: what their history adds up to
abbrev pub state : Totals → List NoteView → Totals
state o notes = totals o (history notes)

-- the opening of a log
abbrev pub opening_of : List NoteView → Totals
opening_of [] = no_totals
opening_of (e ∷ es) = e.opening

-- the first note of a log
abbrev pub first_note : List NoteView → NoteView
first_note [] = no_note
first_note (e ∷ es) = e

-- its notes past the first
abbrev pub notes_of : List NoteView → List NoteView
notes_of [] = []
notes_of (e ∷ es) = es

-- the log begins with the note of its opening
abbrev pub IsOpened : List NoteView → Type 0
IsOpened [] = ⊥
IsOpened (e ∷ es) = Unit {0}

-- the list that a log has
abbrev pub texts_in : List NoteView → List Text
texts_in log = (state (opening_of log) (notes_of log)).texts

-- the bucket that a note speaks of
abbrev pub bucket_in : List LentBucket → LentBucket
bucket_in [] = record { site = record { era = 0; block = 0; start = 0 }; size = 0; used = 0 }
bucket_in (b ∷ bs) = b

-- the lent buckets after one more event; `own` are those that its note speaks of
abbrev pub lent_by : List LentBucket → Event → List LentBucket → List LentBucket
lent_by buckets (Reserve bucket n) own = changed_at bucket (more_taken n) buckets
lent_by buckets (Charge size n) own = buckets ++ record (bucket_in own) { size = size; used = n } ∷ []
lent_by buckets (Append t) own = buckets
lent_by buckets (Limit m) own = buckets

-- the lent buckets after these notes
abbrev pub lent_after : List LentBucket → List NoteView → List LentBucket
lent_after buckets [] = buckets
lent_after buckets (e ∷ es) = lent_after (lent_by buckets e.event e.lent) es

-- the lent buckets that a log has
abbrev pub lent_in : List NoteView → List LentBucket
lent_in log = lent_after (first_note log).lent (notes_of log)

-- What the book's keepers see of a log: one note, which has the list and the lent buckets.
abbrev pub shown_note : List Text → List LentBucket → List NoteView
shown_note texts buckets = record (opening_note record no_totals { texts = texts }) { lent = buckets } ∷ []

-- the list that such a note has
abbrev pub texts_shown : List NoteView → List Text
texts_shown log = (opening_of log).texts

-- the lent buckets that it has
abbrev pub lent_shown : List NoteView → List LentBucket
lent_shown log = (first_note log).lent

-- the text of an append
abbrev pub appended_text : Event → Text
appended_text (Append t) = t
appended_text e = []

-- the ticket of the pass p after these notes, if it was d before them
abbrev pub ticket_after : ℕ → ℕ → List NoteView → ℕ
ticket_after p d [] = d
ticket_after p d (e ∷ es) = ticket_after p (if e.by == p then e.next else d) es

-- the number of a pass is its first ticket
abbrev pub ticket_of : ℕ → List NoteView → ℕ
ticket_of p notes = ticket_after p p notes

-- each of the notes uses the ticket that its pass then has, if these come before
abbrev pub Chained : List NoteView → List NoteView → Type 0
Chained before [] = Unit {0}
Chained before (e ∷ es) = (e.ticket ≡ ticket_of e.by before) × Chained (before ++ e ∷ []) es

-- the words, each with its key and its value, with n more at this position
abbrev pub bumped : ℕ → ℕ → List (ℕ × ℕ) → List (ℕ × ℕ)
bumped position n words = changed_at position (λ w. (w.0, w.1 + n)) words

-- the words after one more event. A charge's own ticket is its bucket's word from then on
abbrev pub worded : List (ℕ × ℕ) → ℕ → Event → List (ℕ × ℕ)
worded words ticket (Reserve bucket n) = bumped (suc (suc bucket)) n words
worded words ticket (Charge size n) = bumped 1 1 words ++ (ticket, n) ∷ []
worded words ticket (Append t) = bumped 0 1 words
worded words ticket (Limit m) = bumped 1 1 words

-- the words after these notes
abbrev pub words_after : List (ℕ × ℕ) → List NoteView → List (ℕ × ℕ)
words_after words [] = words
words_after words (e ∷ es) = words_after (worded words e.ticket e.event) es

-- the words of an opening: the length, the turns, the first bucket's
abbrev pub first_words : List (ℕ × ℕ)
first_words = (0, 0) ∷ (1, 0) ∷ (2, 0) ∷ []

-- the words of a log: at position 0 how many texts were appended, at position 1 how many charges and limits
-- came, and then for each bucket how many bytes were taken in it since its word began
abbrev pub words_of : List NoteView → List (ℕ × ℕ)
words_of notes = words_after first_words notes

-- the word at this position has this key and this value
abbrev pub IsWordWith : List NoteView → ℕ → ℕ → ℕ → Type 0
IsWordWith notes position key value = slice_get (words_of notes) position ≡ Some (key, value)

-- the word at this position has this key
abbrev pub IsWord : List NoteView → ℕ → ℕ → Type 0
IsWord notes position key = (n : ℕ) × IsWordWith notes position key n

-- `before` begins `after`, and these are the events of the pass p that `after` has past it
pub record Since (p : ℕ) (before after : List NoteView) (own : List Event) : Type 0 where
  pub rest : List NoteView
  pub begins : before ++ rest ≡ after
  pub events : events_of p (history rest) ≡ own
