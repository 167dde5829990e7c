use Rattle.std.proofs.Common.{rules, ℕ, ◌≡◌, ◌+◌, ◌-◌, ◌<◌, List, [], ◌∷◌, ◌∙◌, subst, arith}
use Rattle.lasso_log.specs.History.{Reserve}
use Rattle.lasso_log.specs.Notes.{NoteView, Since, state}
use Rattle.lasso_log.specs.SharedBuckets.{SharedView, LacksRoom, IsNoteOf}
use Rattle.lasso_log.specs.Turns.{LackFrom}
use Rattle.lasso_log.proofs.Reserved.{none_longer}
use Rattle.lasso_log.proofs.Tickets.{since_trans}
use Rattle.lasso_log.proofs.TurnWords.{lacks_one_less}
use Rattle.lasso_log.proofs.log.shared_log.Log.reserve_now.Goals as goal

pub returns-in-Some-clause-event : goal.returns-in-Some-clause-event
returns-in-Some-clause-event g c =
    let p = c.args.pass.now.number in let i = c.loop-newer.invariant in let b : SharedView = c.in_ok-bucket.bucket.now in
    let after : List NoteView = c.try_reserve_now.new.pass.notes in let own = Reserve b.position c.args.bytes ∷ [] in let e = c.in_ok-range.ensures in let is = c.in-Some.is in
    let low : b.position < c.args.spine.now.turns.count = omega (arith, c.in_ok-bucket.ensures.1, c.loop-newer-test.true, c.buckets-count.ensures) in (
      b,
      c.in_ok-bucket.ensures.0,
      low,
      record {
        event = since_trans p c.args.pass.now.notes c.loop-newer.pass.notes after own i.1 (subst (λ (q : ℕ). Since q c.loop-newer.pass.notes after own) i.0.0 (rw is at e.event));
        note = subst (λ (q : ℕ). IsNoteOf q after (Reserve b.position c.args.bytes) b.site) i.0.0 (rw is at e.note);
        range = rw is at e.range;
      },
    )

pub loop-newer-preserved : goal.loop-newer-preserved
loop-newer-preserved g c =
    let p = c.args.pass.now.number in let i = c.loop-newer.invariant in let e = c.in_ok-range.ensures in let none : Since c.loop-newer.pass.number c.loop-newer.pass.notes c.try_reserve_now.new.pass.notes [] = rw c.in_default.is at e.none in let o = c.args.self.now.opening in let n : ℕ = c.args.bytes in
    let before : List NoteView = c.loop-newer.pass.notes in let after : List NoteView = c.try_reserve_now.new.pass.notes in let first : ℕ = c.buckets-count.result - 1 - c.loop-newer.newer in
    let here : LacksRoom (state o after) first n = subst (λ (k : ℕ). LacksRoom (state o after) k n) c.in_ok-bucket.ensures.1 (rw c.in_default.is at e.full) in
    let one : c.buckets-count.result - c.loop-newer.newer ≡ first + 1 = omega (arith, c.loop-newer-test.true) in
    let next : first ≡ c.buckets-count.result - (c.loop-newer.newer + 1) = omega (arith, c.loop-newer-test.true) in
    let lack = subst (λ (k : ℕ). LackFrom (state o before) k c.buckets-count.result n) one i.2 in
    let same = c.try_reserve_now.ensures.same in (
      (same.0 ∙ i.0.0, same.1 ∙ i.0.1),
      none_longer p c.loop-newer.pass.number c.args.pass.now.notes before after i.0.0 i.1 none,
      subst (λ (k : ℕ). LackFrom (state o after) k c.buckets-count.result n) next (lacks_one_less o before after first c.buckets-count.result n (none.rest, none.begins) lack here),
    )

pub returns-in_err-range-clause-none : goal.returns-in_err-range-clause-none
returns-in_err-range-clause-none g c =
    let i = c.loop-newer.invariant in
    let none = none_longer c.args.pass.now.number c.loop-newer.pass.number c.args.pass.now.notes c.loop-newer.pass.notes c.try_reserve_now.new.pass.notes i.0.0 i.1 c.in_err-range.ensures.none in
    search (rules, none)
