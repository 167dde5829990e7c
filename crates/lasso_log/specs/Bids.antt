-- What a pass has in hand that offers a note of a turn: the log that it has seen, the offer, and its ticket's pen.
use Rattle.std.specs.Prelude.{◌≡◌, ℕ, Bool, List, Option, MatchBool}
use mathlib.Core.List.{IsPrefix}
use Rattle.logbook.specs.Pages.{Book, Nib, may_write}
use Rattle.lasso_log.specs.Notes.{NoteView, first_note, IsOpened, IsWord, opening_of, notes_of, ticket_of}
use Rattle.lasso_log.specs.Book.{IsIn, Moving, May, Lets}
use Rattle.lasso_log.specs.declared.log.buckets.bid.Bid.{Bid}

-- What a pass has in hand that offers a bucket while the turn word has another value than the one that it
-- waits for: the note may be added while the turn word has its old value. `before` is what the note's pass
-- had seen, and `given` a log in which that is so; what is in hand has seen both, and all of it is of one
-- book.
pub record IsBid {Key : Type 0} (keys : ℕ → Option Key) (before given : List NoteView) (old : ℕ) (seen : List NoteView) (book : Book) (names : List ℕ) (pen : Book) (nib : Nib) (offered : List ℕ) (ask : NoteView) (state : Option ℕ) : Type 0 where
  pub pen_of : pen ≡ book
  pub names_of : offered ≡ names
  pub begun : IsOpened before × IsPrefix before seen
  pub told : IsOpened given × IsPrefix given seen
  pub right : nib.right ≡ may_write
  pub ticket : ask.ticket ≡ nib.key
  pub own : nib.key ≡ ticket_of ask.by (notes_of before)
  pub word : IsWord (notes_of given) 1 1
  pub moving : Moving ask.ticket ask.event 1 1 nib.value
  pub may : May keys (opening_of given) (notes_of given) 1 1 old ask.event
  pub lets : Lets keys (first_note given) (notes_of given) 1 1 old ask state

-- the same, of the parts of what is in hand
abbrev pub Serves : {A Key : Type 0} → (ℕ → Option Key) → (before given : List NoteView) → (old : ℕ) → Bid A → Type 0
Serves keys before given old b = IsBid keys before given old b.seen.log b.seen.book b.seen.names b.pen.book b.pen.nib b.offer.names b.offer.ask b.offer.state

-- the bid is the same one, and has seen no less
abbrev pub IsSameBid : {A : Type 0} → (before after : Bid A) → Type 0
IsSameBid before after = (after.seen.book ≡ before.seen.book) × (after.seen.names ≡ before.seen.names) × (after.offer.ask ≡ before.offer.ask) × IsPrefix before.seen.log after.seen.log

-- what a try of the bid leaves: the note is in if the try was done, and otherwise the bid still serves
abbrev pub IsTried : {A Key : Type 0} → (ℕ → Option Key) → (before given : List NoteView) → (old : ℕ) → Bid A → (done : Bool) → (tried : Bid A) → Type 0
IsTried keys before given old bid done tried =
    MatchBool done (IsIn keys (opening_of before) before given tried.seen.log bid.offer.ask 1 1 old) (Serves keys before given old tried)
