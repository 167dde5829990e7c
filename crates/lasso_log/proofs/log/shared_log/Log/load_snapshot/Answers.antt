use Rattle.std.proofs.Common.{sym, ◌∙◌, ap}
use Rattle.lasso_log.specs.Notes.{notes_of, opening_of, IsWord}
use Rattle.lasso_log.specs.Book.{Reads, word_of}
use Rattle.lasso_log.proofs.Logs.{read_value, tails}
use Rattle.lasso_log.proofs.log.shared_log.Log.load_snapshot.Goals as goal

pub load_seen-requires-clause-word : goal.load_seen-requires-clause-word
load_seen-requires-clause-word g c = c.requires.of.1 ∙ ap (λ b. word_of b c.args.word.now.key) (sym (ap (λ s. s.of.book) c.known.view_is ∙ ap (λ o. o.book) c.requires.of.0))

pub load_seen-requires-clause-known : goal.load_seen-requires-clause-known
load_seen-requires-clause-known g c = (c.known.invariant, rw (ap (λ s. s.notes) c.known.view_is) c.requires.known)

-- the notes are those of the log past the first, and the log that was seen begins with the one before
pub returns-clause-begins : goal.returns-clause-begins
returns-clause-begins g c =
    rw (← ap (λ s. s.notes) c.known.view_is) (tails c.known.inside.seen.log c.load_seen.new.seen.log c.known.invariant c.load_seen.ensures.2).2

pub returns-clause-reply : goal.returns-clause-reply
returns-clause-reply g c =
    let e = c.load_seen.ensures in
    let word : IsWord (notes_of c.known.inside.seen.log) c.args.word_index c.args.word.now.key = rw (ap (λ s. s.notes) c.known.view_is) c.requires.known in
    let value : Reads g.K.Key.key_at (opening_of c.known.inside.seen.log) (notes_of c.load_seen.new.seen.log) c.args.word_index c.args.word.now.key c.load_seen.result =
    read_value g.K.Key.key_at c.known.inside.seen.log c.load_seen.new.seen.log c.args.word_index c.args.word.now.key c.load_seen.result c.known.invariant e.2 word e.3 in
    rw (← ap (λ s. s.of.opening) c.known.view_is) value
