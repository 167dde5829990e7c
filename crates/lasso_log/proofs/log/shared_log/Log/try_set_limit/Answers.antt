use Rattle.std.proofs.Common.{◌≡◌, ℕ, refl, sym, ap, ◌∙◌, subst}
use Rattle.lasso_log.specs.History.{Limit, Totals}
use Rattle.lasso_log.specs.Notes.{notes_of, opening_of}
use Rattle.lasso_log.specs.Book.{IsDone, word_of}
use Rattle.lasso_log.specs.Turns.{IsTurned}
use Rattle.lasso_log.proofs.Histories.{prefix_self}
use Rattle.lasso_log.proofs.TurnWords.{may_limit, moving_limit, limit_turned}
use Rattle.lasso_log.proofs.log.shared_log.Log.try_set_limit.Goals as goal

pub exchange-requires-clause-of : goal.exchange-requires-clause-of
exchange-requires-clause-of g c =
    let turns = c.self.invariant.6 in
    let book = ap (λ o. o.book) c.self.view_is in
    (c.requires.0, ap (λ t. t.of.book) c.turns.view_is ∙ ap (λ o. o.book) c.requires.1, turns ∙ (ap (λ b. word_of b 1) book ∙ ap (word_of c.args.self.now.book) (sym (ap (λ w. w.key) turns))))

pub exchange-requires-clause-known : goal.exchange-requires-clause-known
exchange-requires-clause-known g c =
    (c.turns.invariant.0, ap (λ t. t.of.opening) c.turns.view_is ∙ ap (λ o. o.opening) c.requires.1, (c.turns.inside.turns, rw (ap (λ w. w.key) c.self.invariant.6) c.turns.invariant.1.word))

pub exchange-requires-clause-may : goal.exchange-requires-clause-may
exchange-requires-clause-may g c =
    (λ ticket. moving_limit ticket c.args.limit 0, rw (ap (λ w. w.key) c.self.invariant.6) (may_limit g.K.Key.key_at c.args.self.now.opening (notes_of c.turns.inside.seen.log) c.args.limit c.turns.inside.turns))

pub invariant_of-turns : goal.invariant_of-turns
invariant_of-turns g c =
    let i = c.turns.inside in let o : Totals = c.args.self.now.opening in let v = notes_of i.seen.log in let after = c.exchange.new.pass.notes in let s = c.copy_seen.ensures in
    let first : opening_of i.seen.log ≡ o = ap (λ t. t.of.opening) c.turns.view_is ∙ ap (λ of. of.opening) c.requires.1 in
    let turned : IsTurned g.K.Key.key_at o v i.turns i.doubling i.usage i.limit i.count = subst (λ (t : Totals). IsTurned g.K.Key.key_at t v i.turns i.doubling i.usage i.limit i.count) first c.turns.invariant.1 in
    let done : IsDone g.K.Key.key_at o c.args.pass.now.number c.args.pass.now.notes v after (Limit c.args.limit) 1 1 i.turns c.if-not-exchange.ensures.done.0 =
    subst (λ (k : ℕ). IsDone g.K.Key.key_at o c.args.pass.now.number c.args.pass.now.notes v after (Limit c.args.limit) 1 k i.turns c.if-not-exchange.ensures.done.0) (ap (λ w. w.key) c.self.invariant.6) c.if-not-exchange.ensures.done.1 in
    let opening : opening_of c.copy_seen.result.log ≡ o = s.of.2 ∙ (ap (λ of. of.opening) c.exchange.ensures.same.1 ∙ ap (λ of. of.opening) c.requires.0) in
    (s.log.0, rw (opening, s.log.1) (limit_turned g.K.Key.key_at o c.args.pass.now.number c.args.pass.now.notes v after v c.args.limit i.turns c.if-not-exchange.ensures.done.0 i.doubling i.usage i.limit i.count done (prefix_self v) turned), c.ranges.limit.fits)

pub returns-clause-done : goal.returns-clause-done
returns-clause-done g c = (c.if-not-exchange.ensures.done.1.since, c.copy_seen.ensures.log.1, refl, ap (λ t. t.count) c.turns.view_is, ap (λ t. t.usage) c.turns.view_is, ap (λ t. t.doubling) c.turns.view_is)
