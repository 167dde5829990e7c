-- What an exchange that adds an event asks, and what it shows.
use Rattle.std.specs.Prelude.{◌≡◌, ℕ, ◌+◌, Bool, MatchBool, List, length, Option}
use base.Fml.{Incl}
use Rattle.boxcar.specs.Slot.{Named}
use Rattle.lasso_log.specs.Book.{IsDone}
use Rattle.lasso_log.specs.Chunks.{IsCellAt, era_named}
use Rattle.lasso_log.specs.Eras.{life}
use Rattle.lasso_log.specs.History.{Event, Append, Totals}
use Rattle.lasso_log.specs.Notes.{NoteView, IsOpened, IsWord, notes_of, opening_of}
use Rattle.lasso_log.specs.Pieces.{PieceView}
use Rattle.lasso_log.specs.Views.{InternerId, PassView}
use Rattle.lasso_log.specs.declared.log.shared_log.Exchange.{Exchange}

-- the log has this opening, and after it the word at this position has this key
abbrev pub IsWordIn : Totals → (log : List NoteView) → (position key : ℕ) → Type 0
IsWordIn opening log position key = IsOpened log × (opening_of log ≡ opening) × IsWord (notes_of log) position key

-- the event appends the text of this piece, which is in the cell of this position, as long as the interner's era
abbrev pub IsInCell : (names : List ℕ) → Event → (position : ℕ) → (chunk : ℕ) → List Named → (cell : ℕ) → PieceView → Type 0
IsInCell names event position chunk cells cell piece =
    IsCellAt names position chunk cells cell × (event ≡ Append piece.text) × Incl (life (era_named names)) piece.until

-- the same of the position that the exchange appends at: that of the list's length, whose word it moves
abbrev pub IsNextInCell : InternerId → Event → Exchange → (key : ℕ) → (chunk : ℕ) → List Named → (cell : ℕ) → PieceView → Type 0
IsNextInCell of event numbers key chunk cells cell piece =
    IsCellAt of.chunks numbers.position chunk cells cell × (event ≡ Append piece.text) × Incl (life (era_named of.chunks)) piece.until
    × (numbers.word_index ≡ 0) × (key ≡ 0) × (numbers.position ≡ length of.opening.texts + numbers.expected)

-- what the exchange leaves: the event is added if it was done, as `IsDone`, and otherwise the pass is as before
abbrev pub TriesEvent : {Key : Type 0} → (ℕ → Option Key) → Totals → (before after : PassView) → (given : List NoteView) → Event → Exchange → (key : ℕ) → (done : Bool) → Type 0
TriesEvent keys o before after given event numbers key done =
    MatchBool done ((ticket : ℕ) × IsDone keys o before.number before.notes given after.notes event numbers.word_index key numbers.expected ticket)
    (after ≡ before)
