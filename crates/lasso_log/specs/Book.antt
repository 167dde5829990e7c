-- The rule of the book, the log rule: what holds between any two steps of any threads, and what each step
-- shows the one who takes it. `cells` are the values of words that the book holds.
--
-- Beside it the rule keeps, for each position below the list's length, that its cell is filled with its text,
-- which is there as long as the era, for good; and for each bucket the one right to its bytes that nobody
-- has taken (`all_untaken`). The book keeps that right, and no thread: the exchange of a reservation takes
-- the next bytes' right out of it (`TakesBytesAt`), and that of a charge puts a new bucket's in
-- (`AddsBucket`).
use Rattle.std.specs.Prelude.{◌≡◌, ◌≢◌, ℕ, ◌⊎◌, true, false, List, [], ◌∷◌, ◌++◌, ◌^◌, ◌<◌, length, Option, Some}
use mathlib.Core.List.{IsPrefix}
use Rattle.logbook.specs.Pages.{Cell, cell, Step, View, Book, Named, may_write, may_make, nib, no_nib, Runs}
use Rattle.logbook.specs.declared.tokens.Pen.{Pen}
use Rattle.lasso_log.specs.History.{Event, Reserve, Charge, Append, Limit, Totals, counted, IsOpening, IsLegal, MayFollow}
use Rattle.lasso_log.specs.Notes.{NoteView, history, state, Chained, words_of, worded, bumped, shown_note, texts_in, lent_in, texts_shown, lent_shown, bucket_in, Since, IsWordWith, IsOpened, opening_of, notes_of, ticket_of}
use Rattle.lasso_log.specs.Chunks.{PutsLastAt}
use Rattle.lasso_log.specs.LentBuckets.{TakesBytesAt, AddsBucket}

-- the word with this key is at home: the book holds its value
abbrev pub IsHome : List Cell → ℕ → Type 0
IsHome cells k = (cell cells k).1 ≡ true

-- each ticket that was used has come home
abbrev pub Used : List Cell → List NoteView → Type 0
Used cells [] = Unit {0}
Used cells (e ∷ es) = IsHome cells e.ticket × Used cells es

-- one of the notes used up this ticket
abbrev pub IsUsed : ℕ → List NoteView → Type 0
IsUsed k [] = ⊥
IsUsed k (e ∷ es) = (e.ticket ≡ k) ⊎ IsUsed k es

-- the word of the book with this key
abbrev pub word_of : Book → ℕ → Named
word_of b k = record { tracked = true; key = k; book = b }

-- the word of a ticket of this book that one of the notes used up
abbrev pub IsUsedWord : Book → List NoteView → Named → Type 0
IsUsedWord b notes word = (word ≡ word_of b word.key) × IsUsed word.key notes

-- these words are at home with their values
abbrev pub Words : List Cell → List (ℕ × ℕ) → Type 0
Words cells [] = Unit {0}
Words cells (w ∷ ws) = (cell cells w.0 ≡ (w.1, true)) × Words cells ws

-- no word has this key
abbrev pub Others : ℕ → List (ℕ × ℕ) → Type 0
Others k [] = Unit {0}
Others k (w ∷ ws) = (w.0 ≢ k) × Others k ws

-- no two words have one key
abbrev pub Apart : List (ℕ × ℕ) → Type 0
Apart [] = Unit {0}
Apart (w ∷ ws) = Others w.0 ws × Apart ws

-- the number of texts is one that a word can have
abbrev pub IsShort : Totals → Type 0
IsShort s = length s.texts < 2 ^ 64

-- the rule: what stood at the opening is an opening; each used ticket is at home, and each note used the
-- ticket that its pass then had; each word is at home with its value, and no two words have one key; the
-- history is legal; and the number of texts is one that a word can have
pub record KeepsRule {Key : Type 0} (keys : ℕ → Option Key) (cells : List Cell) (opening : Totals) (notes : List NoteView) : Type 0 where
  pub opened : IsOpening keys opening
  pub used : Used cells notes
  pub chained : Chained [] notes
  pub words : Words cells (words_of notes)
  pub apart : Apart (words_of notes)
  pub legal : IsLegal keys opening (history notes)
  pub short : IsShort (state opening notes)

-- the same of a whole log, whose first note has the opening
abbrev pub LogKeepsRule : {Key : Type 0} → (ℕ → Option Key) → List Cell → List NoteView → Type 0
LogKeepsRule keys cells [] = ⊥
LogKeepsRule keys cells (first ∷ notes) = KeepsRule keys cells first.opening notes

-- what the book's keepers see of a log
abbrev pub shown_of : List NoteView → List NoteView
shown_of log = shown_note (texts_in log) (lent_in log)

-- the word of the list's length
abbrev pub head_of : Book → Named
head_of b = word_of b 0

-- that of the turns
abbrev pub turn_of : Book → Named
turn_of b = word_of b 1

-- the rule holds of the log and of values of the words, of which the one with this key has this value
abbrev pub HasValue : {Key : Type 0} → (ℕ → Option Key) → (log : List NoteView) → (key value : ℕ) → Type 0
HasValue keys log key value = (cells : List Cell) × LogKeepsRule keys cells log × ((cell cells key).0 ≡ value)

-- a rule holds of the log and of values of the words, of which the one with this key is not at home
abbrev pub IsOutAt : {E : Type 0} → (holds : List Cell → List E → Type 0) → (log : List E) → (key : ℕ) → Type 0
IsOutAt holds log key = (cells : List Cell) × holds cells log × ((cell cells key).1 ≡ false)

-- the three words of a new book: that of the list's length, that of the turns, and that of the first bucket
abbrev pub AreFirstWords : Book → (head turns bucket : Named) → Type 0
AreFirstWords b head turns bucket = (head ≡ head_of b) × (turns ≡ turn_of b) × (bucket ≡ word_of b 2)

-- a step that looks: the word had this value at the end of the log that was then seen
abbrev pub Peeks : {Key : Type 0} → (ℕ → Option Key) → Step NoteView → View NoteView ℕ → ℕ → View NoteView ℕ → Type 0
Peeks keys s v found w = (cells : List Cell) × LogKeepsRule keys cells w.0 × ((cell cells s.key).0 ≡ found)

-- a step that fetches a ticket
abbrev pub Fetches : {Key : Type 0} → (ℕ → Option Key) → Step NoteView → View NoteView ℕ → ℕ → View NoteView ℕ → Type 0
Fetches keys s v found w = (k : ℕ) × (w.1.0 ≡ nib may_make k 0) × ((cells : List Cell) × LogKeepsRule keys cells w.0)

-- A step that adds a note: to a log at which the ticket was out and the word had the value that was found, if
-- that was the old one. Else the log stayed, and so did the pen.
pub record IsAdded {Key : Type 0} (keys : ℕ → Option Key) (s : Step NoteView) (v : View NoteView ℕ) (found : ℕ) (w : View NoteView ℕ) : Type 0 where
  pub log : List NoteView
  pub cells : List Cell
  pub begins : IsPrefix v.0 log
  pub kept : LogKeepsRule keys cells log
  pub out : (cell cells v.1.0.key).1 ≡ false
  pub value : (cell cells s.key).0 ≡ found
  -- if it was the old one, the update has run; else it is as it was
  pub ran : found ≡ s.old → w.1.1 ≡ Some 0
  pub idle : found ≢ s.old → w.1.1 ≡ v.1.1
  pub done :
      ((found ≡ s.old) × (w.0 ≡ log ++ s.ask ∷ []) × (w.1.0 ≡ no_nib) × ((after : List Cell) × LogKeepsRule keys after w.0))
      ⊎ ((found ≢ s.old) × (w.0 ≡ log) × (w.1.0 ≡ v.1.0))

-- the same, as the kind of such a step
abbrev pub Adds : {Key : Type 0} → (ℕ → Option Key) → Step NoteView → View NoteView ℕ → ℕ → View NoteView ℕ → Type 0
Adds keys s v found w = IsAdded keys s v found w

-- the word and its pen are of this book, and the word isn't at home yet and has 0
abbrev pub IsTicket : Book → Named → Pen → Type 0
IsTicket b word pen = (word ≡ word_of b pen.nib.key) × (pen.book ≡ b) × (pen.nib.right ≡ may_write) × (pen.nib.value ≡ 0)

-- two pens are as they were, and are of different words
abbrev pub PensDiffer : (one_before one_after other_before other_after : Pen) → Type 0
PensDiffer one_before one_after other_before other_after =
    (one_after.book ≡ one_before.book) × (one_after.nib ≡ one_before.nib) × (other_after.book ≡ other_before.book) × (other_after.nib ≡ other_before.nib)
    × (one_before.nib.key ≢ other_before.nib.key)

-- the words after an event that moves the one at this position, and maybe makes its ticket one more
abbrev pub Bumps : List (ℕ × ℕ) → List (ℕ × ℕ) → ℕ → ℕ → ℕ → ℕ → Type 0
Bumps words more position n ticket value = (more ≡ bumped position n words) ⊎ (more ≡ bumped position n words ++ (ticket, value) ∷ [])

-- the event moves the word at this position by n
abbrev pub Moving : ℕ → Event → ℕ → ℕ → ℕ → Type 0
Moving ticket e position n value = (words : List (ℕ × ℕ)) → Bumps words (worded words ticket e) position n ticket value

-- the event may follow, and leaves a number of texts that a word can have, wherever the log has come to since
-- these notes were seen while the word still has its old value
abbrev pub May : {Key : Type 0} → (ℕ → Option Key) → Totals → List NoteView → ℕ → ℕ → ℕ → Event → Type 0
May keys o notes position key old e =
    (cells : List Cell) (log : List NoteView) → KeepsRule keys cells o log → IsPrefix notes log → IsWordWith log position key old
    → MayFollow keys (state o log) e × IsShort (counted (state o log) e)

-- the event moves the word at this position by one, and may follow while the word has its old value
abbrev pub MayMove : {Key : Type 0} → (ℕ → Option Key) → Totals → List NoteView → ℕ → ℕ → ℕ → Event → Type 0
MayMove keys o notes position key old e = ((ticket : ℕ) → Moving ticket e position 1 0) × May keys o notes position key old e

-- what the exchange of a word shows that has added an event: what was given begins the log before it, the
-- word had its old value there, and the event is the only one of the pass p past what the pass had seen
pub record IsDone {Key : Type 0} (keys : ℕ → Option Key) (o : Totals) (p : ℕ) (before given after : List NoteView) (event : Event) (position key old used_up : ℕ) : Type 0 where
  pub mid : List NoteView
  pub note : NoteView
  pub own : note.by ≡ p
  pub is : note.event ≡ event
  pub ticket : note.ticket ≡ used_up
  pub last : after ≡ mid ++ note ∷ []
  pub begins : IsPrefix given mid
  pub since : Since p before after (event ∷ [])
  pub value : IsWordWith mid position key old
  pub kept : (cells : List Cell) × KeepsRule keys cells o after

-- the word had this value at the end of a log that the rule held of
abbrev pub Reads : {Key : Type 0} → (ℕ → Option Key) → Totals → List NoteView → ℕ → ℕ → ℕ → Type 0
Reads keys o notes position key n = IsWordWith notes position key n × ((cells : List Cell) × KeepsRule keys cells o notes)

-- how an event moves what the book's keepers see; `e` is its note
abbrev pub MovesBy : Event → NoteView → List NoteView → List NoteView → Type 0
MovesBy (Reserve bucket n) e before after = (texts_shown after ≡ texts_shown before) × TakesBytesAt lent_shown bucket (bucket_in e.lent) n before after
MovesBy (Charge size n) e before after = (texts_shown after ≡ texts_shown before) × AddsBucket lent_shown (bucket_in e.lent) before after
MovesBy (Append text) e before after = PutsLastAt texts_shown e.position text before after × (lent_shown after ≡ lent_shown before)
MovesBy (Limit limit) e before after = (texts_shown after ≡ texts_shown before) × (lent_shown after ≡ lent_shown before)

-- how the update of a note moves it
abbrev pub Moved : NoteView → List NoteView → List NoteView → ℕ → Type 0
Moved e before after answer = MovesBy e.event e before after

-- wherever the note comes while the word has its old value, the update runs or has nothing to do; `first` is the log's first note
abbrev pub Lets : {Key : Type 0} → (ℕ → Option Key) → NoteView → List NoteView → ℕ → ℕ → ℕ → NoteView → Option ℕ → Type 0
Lets keys first notes position key old e s =
    (cells : List Cell) (log : List NoteView) → KeepsRule keys cells first.opening log → IsPrefix notes log → IsWordWith log position key old
    → Runs (Moved e) s (Some 0) (shown_of (first ∷ log)) (shown_of (first ∷ (log ++ e ∷ [])))

-- what is known once a note is in, if a pass had seen `before`, and `given` was seen
pub record IsIn {Key : Type 0} (keys : ℕ → Option Key) (o : Totals) (before given after : List NoteView) (e : NoteView) (position key old : ℕ) : Type 0 where
  pub opened : IsOpened after
  pub opening : opening_of after ≡ o
  pub done : IsDone keys o e.by (notes_of before) (notes_of given) (notes_of after) e.event position key old e.ticket
  pub note : done.note ≡ e
  pub ticket : ticket_of e.by (notes_of after) ≡ e.next
  pub legal : IsLegal keys o (history (notes_of after))
