-- The cell's position is the length of the list that the spine has seen, and past it the cells that it keeps.
use Rattle.std.proofs.Common.{◌≡◌, ◌+◌, ◌≤◌, ◌∙◌, ap, length, arith}
use Rattle.lasso_log.specs.Notes.{notes_of, opening_of}
use Rattle.lasso_log.specs.Views.{InternerId, SpineView, list_of}
use Rattle.lasso_log.proofs.Reading.{length_read}
use Rattle.lasso_log.proofs.log.shared_log.Log.reserve_ahead.Goals as goal

pub returns-then-position-clause-found : goal.returns-then-position-clause-found
returns-then-position-clause-found g c = λ small ahead.
    let i = c.spine.invariant in
    let inside = c.spine.inside in
    let len : inside.first + inside.appended ≡ length (list_of c.args.self.now c.args.spine.now.notes) =
    length_read g.K.Key.key_at (opening_of inside.seen.log) (notes_of inside.seen.log) inside.first inside.appended i.1 i.2
    ∙ ap (λ (s : SpineView). length (list_of s.of s.notes)) c.spine.view_is ∙ ap (λ (o : InternerId). length (list_of o c.args.spine.now.notes)) c.requires.0 in
    let kept : inside.kept ≡ c.args.spine.now.kept = ap (λ (s : SpineView). s.kept) c.spine.view_is in
    absurd (omega (arith, len, kept, small, c.if-position.true))

pub returns-then-not-has_cell-clause-found : goal.returns-then-not-has_cell-clause-found
returns-then-not-has_cell-clause-found g c = λ small ahead.
    let i = c.spine.invariant in
    let inside = c.spine.inside in
    let len : inside.first + inside.appended ≡ length (list_of c.args.self.now c.args.spine.now.notes) =
    length_read g.K.Key.key_at (opening_of inside.seen.log) (notes_of inside.seen.log) inside.first inside.appended i.1 i.2
    ∙ ap (λ (s : SpineView). length (list_of s.of s.notes)) c.spine.view_is ∙ ap (λ (o : InternerId). length (list_of o c.args.spine.now.notes)) c.requires.0 in
    let kept : inside.kept ≡ c.args.spine.now.kept = ap (λ (s : SpineView). s.kept) c.spine.view_is in
    let start = length (list_of c.args.ahead.now.of c.args.ahead.now.notes) in
    let low : start ≤ inside.first + inside.appended + inside.kept = omega (arith, len, kept, ahead.0) in
    let high : inside.first + inside.appended + inside.kept ≤ start + 15 = omega (arith, len, kept, ahead.1) in
    let there = c.has_cell.ensures (low, high) in
    cc
