use Rattle.std.proofs.Common.{◌≡◌, sym, ◌∙◌, ap, subst, List, [], false}
use mathlib.Core.List.{IsPrefix}
use Rattle.logbook.specs.Pages.{Cell, cell}
use Rattle.lasso_log.specs.Notes.{NoteView, Since, notes_of, ticket_of, opening_of, IsWord}
use Rattle.lasso_log.specs.Book.{LogKeepsRule, Reads, word_of}
use Rattle.lasso_log.specs.Chunks.{first_number}
use Rattle.lasso_log.proofs.Logs.{read_value, still_opened, tails, legal_opened}
use Rattle.lasso_log.proofs.Tickets.{used_word_later}
use Rattle.lasso_log.proofs.log.shared_log.Log.load.Given.{Over}
use Rattle.lasso_log.proofs.log.shared_log.Log.load.Goals as goal

pub load_seen-found-requires-clause-word : goal.load_seen-found-requires-clause-word
load_seen-found-requires-clause-word g c = c.requires.of.1 ∙ ap (λ b. word_of b c.args.word.now.key) (sym (ap (λ s. s.of.book) c.pass.view_is ∙ ap (λ o. o.book) c.requires.of.0))

pub load_seen-found-requires-clause-known : goal.load_seen-found-requires-clause-known
load_seen-found-requires-clause-known g c = (c.pass.invariant.3, rw (ap (λ s. s.notes) c.pass.view_is) c.requires.known)

-- its ticket was still out at a later log, so none of the events past what it had seen is its own
facts : (g : Over) (c : goal.After-drop-later g)
    → Since (first_number c.pass.inside.number.numbers) (notes_of c.pass.inside.seen.log) (notes_of c.load_seen-found.new.seen.log) [] × (ticket_of (first_number c.pass.inside.number.numbers) (notes_of c.load_seen-found.new.seen.log) ≡ ticket_of (first_number c.pass.inside.number.numbers) (notes_of c.pass.inside.seen.log))
facts g c =
    let later = c.look.new.seen.log in
    let more : IsPrefix c.load_seen-found.new.seen.log later = subst (λ (l : List NoteView). IsPrefix l later) (ap (λ s. s.log) c.again-later.ensures) c.look.ensures.4 in
    let out : (cells : List Cell) × LogKeepsRule g.K.Key.key_at cells later × ((cell cells c.pass.inside.ticket.pen.nib.key).1 ≡ false) = c.look.ensures.5 in
    still_opened g.K.Key.key_at c.pass.inside.seen.log c.load_seen-found.new.seen.log later (first_number c.pass.inside.number.numbers) c.pass.inside.ticket.pen.nib.key c.pass.invariant.3 c.load_seen-found.ensures.2 more c.pass.invariant.2 out

pub invariant_of-pass : goal.invariant_of-pass
invariant_of-pass g c =
    let i = c.pass.invariant in
    let e = c.load_seen-found.ensures in
    let t = tails c.pass.inside.seen.log c.load_seen-found.new.seen.log i.3 e.2 in
    let legal = legal_opened g.K.Key.key_at c.pass.inside.seen.log c.load_seen-found.new.seen.log i.3 e.2 (e.3.0, e.3.1) in
    rw (e.0, c.look.ensures.2, c.look.ensures.3) (i.0, used_word_later c.pass.inside.seen.book (notes_of c.pass.inside.seen.log) (notes_of c.load_seen-found.new.seen.log) c.pass.inside.used t.2 i.1, i.2 ∙ sym (facts g c).1, t.0, rw (← t.1) legal, rw (← t.1) i.5, rw (e.1, ← t.1) i.6)

pub returns-clause-since : goal.returns-clause-since
returns-clause-since g c = rw (← c.pass.view_is) (facts g c).0

pub returns-clause-reply : goal.returns-clause-reply
returns-clause-reply g c =
    let word : IsWord (notes_of c.pass.inside.seen.log) c.args.word_index c.args.word.now.key = rw (ap (λ s. s.notes) c.pass.view_is) c.requires.known in
    let value : Reads g.K.Key.key_at (opening_of c.pass.inside.seen.log) (notes_of c.load_seen-found.new.seen.log) c.args.word_index c.args.word.now.key c.load_seen-found.result =
    read_value g.K.Key.key_at c.pass.inside.seen.log c.load_seen-found.new.seen.log c.args.word_index c.args.word.now.key c.load_seen-found.result c.pass.invariant.3 c.load_seen-found.ensures.2 word c.load_seen-found.ensures.3 in
    rw (← ap (λ s. s.of.opening) c.pass.view_is) value
