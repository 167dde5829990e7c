-- What holds of the parts of a log, a pass, a spine and its turns, of what an interner opens with, and of cells
-- that are made ahead.
use Rattle.std.specs.Prelude.{◌≡◌, ℕ, ◌+◌, ◌^◌, ◌<◌, List, [], length, Option, IfSome}
use Rattle.logbook.specs.Pages.{Book, Named}
use Rattle.logbook.specs.declared.tokens.Pen.{Pen}
use Rattle.lasso_parts.specs.Texts.{Text}
use Rattle.lasso_log.specs.Book.{head_of, turn_of, IsTicket, IsUsedWord, Reads}
use Rattle.lasso_log.specs.Chunks.{chunk_named, era_named, first_number}
use Rattle.lasso_log.specs.History.{IsLegal, IsOpening}
use Rattle.lasso_log.specs.LentBuckets.{LentBucket}
use Rattle.lasso_log.specs.Notes.{NoteView, history, opening_of, first_note, notes_of, ticket_of, IsOpened}
use Rattle.lasso_log.specs.Turns.{IsTurned}
use Rattle.lasso_log.specs.Views.{InternerId, SnapshotView, TurnsView, interner_seen, length_seen}

-- the parts of a log: what was seen when it was opened, its words of the list's length and of the turns, the
-- names of the memory that the texts are in, and how many texts it opened with
abbrev pub IsLog : {Key : Type 0} → (ℕ → Option Key) → Book → (names : List ℕ) → (log : List NoteView) → (head turns : Named) → (memory : List ℕ) → (first : ℕ) → Type 0
IsLog keys book names log head turns memory first =
    (head ≡ head_of book) × (memory ≡ names) × IsOpened log × (notes_of log ≡ []) × (first ≡ length (opening_of log).texts)
    × IsOpening keys (opening_of log) × (turns ≡ turn_of book) × (length (first_note log).lent ≡ 1)

-- the parts of a pass: what it has seen, numbers of which the first is its own, the word and the pen of its ticket, the word of a ticket
-- that it used, if it used one, and the interner of its hints
abbrev pub IsPass : {Key : Type 0} → (ℕ → Option Key) → Book → (names : List ℕ) → (log : List NoteView) → (numbers : List ℕ) → (word : Named) → Pen → (used : Option Named) → (hinted : InternerId) → Type 0
IsPass keys book names log numbers word pen used hinted =
    IsTicket book word pen × IfSome used (IsUsedWord book (notes_of log)) × (pen.nib.key ≡ ticket_of (first_number numbers) (notes_of log)) × IsOpened log
    × IsLegal keys (opening_of log) (history (notes_of log)) × IsOpening keys (opening_of log) × (hinted ≡ interner_seen book names log)

-- the parts of a spine: what it has seen, how many texts the list opened with, how many were appended since,
-- how many cells it keeps, and the turns
abbrev pub IsSpine : {Key : Type 0} → (ℕ → Option Key) → Book → (names : List ℕ) → (log : List NoteView) → (first appended kept : ℕ) → TurnsView → Type 0
IsSpine keys book names log first appended kept turns =
    IsOpened log × (first ≡ length (opening_of log).texts) × Reads keys (opening_of log) (notes_of log) 0 0 appended
    × (first + appended + kept < 2 ^ 64) × (turns.of ≡ interner_seen book names log)

-- the parts of turns: the log that was seen, and its numbers
abbrev pub AreTurns : {Key : Type 0} → (ℕ → Option Key) → (log : List NoteView) → (turns doubling usage limit count : ℕ) → Type 0
AreTurns keys log turns doubling usage limit count =
    IsOpened log × IsTurned keys (opening_of log) (notes_of log) turns doubling usage limit count × (limit < 2 ^ 64)

-- the parts of what an interner opens with: the names of the memory that the texts are in, twice the names and
-- the texts that are shown to be there, how many texts they are, and the bucket of the copied ones
abbrev pub AreOpeningTexts : (memory names : List ℕ) → (texts : List Text) → (known_names : List ℕ) → (known_texts : List Text) → (len : ℕ) → LentBucket → Type 0
AreOpeningTexts memory names texts known_names known_texts len bucket =
    (names ≡ memory) × (known_names ≡ memory) × (known_texts ≡ texts) × (len ≡ length texts) × (length texts < 2 ^ 64)
    × (bucket.site.era ≡ era_named memory)

-- the parts of what shows that cells are made ahead: the history that was seen, the chunks of the first and of
-- the last of the sixteen positions past its list, and the first of these positions
abbrev pub AreCellsAhead : SnapshotView → (first last start : ℕ) → Type 0
AreCellsAhead known first last start =
    (first ≡ chunk_named known.of.chunks (length_seen known)) × (last ≡ chunk_named known.of.chunks (length_seen known + 15))
    × (start ≡ length_seen known)
