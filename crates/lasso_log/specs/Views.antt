-- What contracts see of a pass, of a log and of a spine.
use Rattle.std.specs.Prelude.{◌≡◌, ℕ, ◌+◌, Bool, MatchBool, List, [], ◌∷◌, ◌++◌, length}
use mathlib.Core.List.{IsPrefix}
use base.Stored.{Coded, coded×, coded_ℕ, coded_list, coded_via}
use Rattle.logbook.specs.Pages.{Book, book_coded}
use Rattle.lasso_log.specs.History.{History, Append, Totals}
use Rattle.lasso_parts.specs.Texts.{Text}
use Rattle.lasso_log.specs.Chunks.{IsAhead}
use Rattle.lasso_log.specs.Notes.{NoteView, note_coded, totals_coded, history, notes_of, opening_of, state, Since}

-- which interner a thing is of: the book of its log, its names (of its era and of the chunks that its texts
-- are in), and its opening
pub record InternerId : Type 0 where
  pub book : Book
  pub chunks : List ℕ
  pub opening : Totals

abbrev pub interner_id_coded : Coded InternerId
interner_id_coded = coded_via (coded× book_coded (coded× (coded_list coded_ℕ) totals_coded)) (λ (o : InternerId). (o.book, (o.chunks, o.opening))) (λ x y e i. record { book = (e i).0; chunks = (e i).1.0; opening = (e i).1.1 })

-- the same, of its three parts
abbrev pub interner_id : Book → List ℕ → Totals → InternerId
interner_id book chunks opening = record { book = book; chunks = chunks; opening = opening }

-- the interner of a log that was seen
abbrev pub interner_seen : Book → (names : List ℕ) → (log : List NoteView) → InternerId
interner_seen book names log = interner_id book names (opening_of log)

-- a pass: its number, its interner, and the notes that it has seen past the opening
pub record PassView : Type 0 where
  pub number : ℕ
  pub of : InternerId
  pub notes : List NoteView

abbrev pub pass_view_coded : Coded PassView
pass_view_coded = coded_via (coded× coded_ℕ (coded× interner_id_coded (coded_list note_coded))) (λ (s : PassView). (s.number, (s.of, s.notes))) (λ x y e i. record { number = (e i).0; of = (e i).1.0; notes = (e i).1.1 })

-- a pass of this number that has seen this log
abbrev pub pass_seen : (number : ℕ) → Book → (names : List ℕ) → (log : List NoteView) → PassView
pass_seen number book names log = record { number = number; of = interner_seen book names log; notes = notes_of log }

-- the history that it has seen
abbrev pub seen : PassView → History
seen s = history s.notes

-- the pass is the same one: its number and its interner
abbrev pub IsSamePass : PassView → PassView → Type 0
IsSamePass now before = (now.number ≡ before.number) × (now.of ≡ before.of)

-- the list at the end of these notes of an interner
abbrev pub list_of : InternerId → List NoteView → List Text
list_of of notes = (state of.opening notes).texts

-- the turns, charges and limits, of a history that was seen: their interner, the notes, how many turns came,
-- the doubling size, the usage, the limit, and how many buckets there are
pub record TurnsView : Type 0 where
  pub of : InternerId
  pub notes : List NoteView
  pub turns : ℕ
  pub doubling : ℕ
  pub usage : ℕ
  pub limit : ℕ
  pub count : ℕ

abbrev pub turns_view_coded : Coded TurnsView
turns_view_coded =
    coded_via (coded× interner_id_coded (coded× (coded_list note_coded) (coded× coded_ℕ (coded× coded_ℕ (coded× coded_ℕ (coded× coded_ℕ coded_ℕ))))))
    (λ (t : TurnsView). (t.of, (t.notes, (t.turns, (t.doubling, (t.usage, (t.limit, t.count)))))))
    (λ x y e i. record { of = (e i).0; notes = (e i).1.0; turns = (e i).1.1.0; doubling = (e i).1.1.1.0; usage = (e i).1.1.1.1.0; limit = (e i).1.1.1.1.1.0; count = (e i).1.1.1.1.1.1 })

-- the turns of a log that was seen
abbrev pub turns_seen : Book → (names : List ℕ) → (log : List NoteView) → (turns doubling usage limit count : ℕ) → TurnsView
turns_seen book names log turns doubling usage limit count =
    record {
      of = interner_seen book names log;
      notes = notes_of log;
      turns = turns;
      doubling = doubling;
      usage = usage;
      limit = limit;
      count = count;
    }

-- the turn left the usage, the doubling size and the number of buckets as they were
abbrev pub KeepsUsage : (before after : TurnsView) → Type 0
KeepsUsage before after = (after.count ≡ before.count) × (after.usage ≡ before.usage) × (after.doubling ≡ before.doubling)

-- a history that was seen, kept with what was read off it: its interner, and its notes past the opening
pub record SnapshotView : Type 0 where
  pub of : InternerId
  pub notes : List NoteView

abbrev pub snapshot_view_coded : Coded SnapshotView
snapshot_view_coded = coded_via (coded× interner_id_coded (coded_list note_coded)) (λ (k : SnapshotView). (k.of, k.notes)) (λ x y e i. record { of = (e i).0; notes = (e i).1 })

-- how many texts the list has at its end
abbrev pub length_seen : SnapshotView → ℕ
length_seen known = length (list_of known.of known.notes)

-- the position is one of the sixteen past its list
abbrev pub IsAheadOf : SnapshotView → (position : ℕ) → Type 0
IsAheadOf known position = IsAhead (length_seen known) position

-- a spine: how many cells it keeps for texts to come, its interner, the notes that it has seen of the list, and the turns
pub record SpineView : Type 0 where
  pub kept : ℕ
  pub of : InternerId
  pub notes : List NoteView
  pub turns : TurnsView

abbrev pub spine_view_coded : Coded SpineView
spine_view_coded = coded_via (coded× coded_ℕ (coded× interner_id_coded (coded× (coded_list note_coded) turns_view_coded))) (λ (s : SpineView). (s.kept, (s.of, (s.notes, s.turns)))) (λ x y e i. record { kept = (e i).0; of = (e i).1.0; notes = (e i).1.1.0; turns = (e i).1.1.1 })

-- a spine that has seen this log
abbrev pub spine_seen : (kept : ℕ) → Book → (names : List ℕ) → (log : List NoteView) → TurnsView → SpineView
spine_seen kept book names log turns = record { kept = kept; of = interner_seen book names log; notes = notes_of log; turns = turns }

-- the position of the next cell to keep: after those of the list that the spine has seen and of the cells that it keeps
abbrev pub position_to_keep : InternerId → SpineView → ℕ
position_to_keep of spine = length (list_of of spine.notes) + spine.kept

-- the spine has seen the same, and is of the same interner
abbrev pub IsSameSpine : SpineView → SpineView → Type 0
IsSameSpine now before = (now.of ≡ before.of) × (now.notes ≡ before.notes)

-- what an append leaves: the one event of its pass, the text last in the list that the spine had seen, a
-- spine that has seen what the pass has, and one cell less
pub record IsAppended (of : InternerId) (before after : PassView) (spine_before spine_after : SpineView) (text : Text) : Type 0 where
  pub event : Since before.number before.notes after.notes (Append text ∷ [])
  pub list : list_of of after.notes ≡ list_of of spine_before.notes ++ text ∷ []
  pub spine : spine_after.notes ≡ after.notes
  pub begins : IsPrefix spine_before.notes spine_after.notes
  pub kept : spine_after.kept + 1 ≡ spine_before.kept

-- what a try to append the text leaves: it is appended if the try was done, and otherwise nothing changes
abbrev pub TriesAppend : InternerId → (done : Bool) → (before after : PassView) → (spine_before spine_after : SpineView) → (text : Text) → Type 0
TriesAppend of done before after spine_before spine_after text =
    MatchBool done (IsAppended of before after spine_before spine_after text) ((after ≡ before) × (spine_after ≡ spine_before))
