use Rattle.std.proofs.Common.{◌≡◌, ◌==◌, Bool, true, false, ℕ, [], refl, ap, ◌∙◌, subst, arith}
use Rattle.std.specs.Prelude.{MatchBool}
use Rattle.std.proofs.lemmas.Bool.Decides.{nat_tests}
use mathlib.Core.List.{IsPrefix}
use Rattle.lasso_log.specs.History.{Totals}
use Rattle.lasso_log.specs.Notes.{Since, IsWordWith, notes_of, state}
use Rattle.lasso_log.specs.Turns.{IsTurned, IsSameTurn}
use Rattle.lasso_log.specs.Views.{TurnsView}
use Rattle.lasso_log.proofs.Histories.{prefix_trans}
use Rattle.lasso_log.proofs.Tickets.{since_trans}
use Rattle.lasso_log.proofs.TurnWords.{has_turns, same_turn}
use Rattle.lasso_log.proofs.log.shared_log.Log.is_at.Goals as goal

where_true : {A : Type 0} (b : Bool) → (b ≡ true → A) → MatchBool b A (Unit {0})
where_true true f = f refl
where_true false f = tt

pub load-requires-clause-known : goal.load-requires-clause-known
load-requires-clause-known g c = rw (ap (λ w. w.key) c.self.invariant.6) (has_turns c.learn_seen.new.self.notes)

pub returns-clause-since : goal.returns-clause-since
returns-clause-since g c =
    since_trans c.args.pass.now.number c.args.pass.now.notes c.learn_seen.new.self.notes c.load.new.pass.notes [] c.learn_seen.ensures.since (subst (λ (p : ℕ). Since p c.learn_seen.new.self.notes c.load.new.pass.notes []) c.learn_seen.ensures.same.0 c.load.ensures.since)

pub returns-clause-at : goal.returns-clause-at
returns-clause-at g c =
    let i = c.turns.inside in let v = notes_of i.seen.log in let notes = c.load.new.pass.notes in let o : Totals = c.args.self.now.opening in
    let opening = ap (λ t. t.of.opening) c.turns.view_is ∙ ap (λ of. of.opening) c.requires.1 in
    let turned : IsTurned g.K.Key.key_at o v i.turns i.doubling i.usage i.limit i.count = subst (λ (t : Totals). IsTurned g.K.Key.key_at t v i.turns i.doubling i.usage i.limit i.count) opening c.turns.invariant.1 in
    let begins : IsPrefix v notes = prefix_trans v c.learn_seen.new.self.notes notes (c.learn_seen.ensures.given c.turns.invariant.0) (c.load.ensures.since.rest, c.load.ensures.since.begins) in
    let word : IsWordWith notes 1 1 c.load.result = subst (λ (k : ℕ). IsWordWith notes 1 k c.load.result) (ap (λ w. w.key) c.self.invariant.6) c.load.ensures.reply.0 in
    where_true (c.load.result == i.turns) (λ is.
    let found : c.load.result ≡ i.turns = grind (arith, nat_tests, is) in
    subst (λ (t : TurnsView). IsWordWith notes 1 1 t.turns × IsSameTurn (state o t.notes) (state o notes) × IsTurned g.K.Key.key_at o t.notes t.turns t.doubling t.usage t.limit t.count) c.turns.view_is
    (subst (IsWordWith notes 1 1) found word, same_turn o v notes i.turns begins turned.word (subst (IsWordWith notes 1 1) found word), turned))
