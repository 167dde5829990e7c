use Rattle.std.proofs.Common.{◌≡◌, ℕ, subst, ap, ◌∙◌}
use Rattle.lasso_shared.specs.Shards.{PutsLast}
use Rattle.lasso_shared.proofs.Stored.{puts_later}
use Rattle.lasso_shared.proofs.Whole.{since_both}
use Rattle.lasso_shared.proofs.shards.Shards.append_current.Goals as goal

pub returns-in-Some-reserve_ahead-clause-put : goal.returns-in-Some-reserve_ahead-clause-put
returns-in-Some-reserve_ahead-clause-put g c =
    let i = c.loop.invariant in
    let p = c.args.pass.now.number in
    let w = c.lock_spine_when_current-guard.ensures in
    let log = c.args.self.now.log in
    let mid = c.lock_spine_when_current-guard.new.pass.notes in
    let after = c.append_whole_now.new.pass.notes in
    let r = c.or_wait-reply.result in
    let tried = rw c.or_wait-reply.ensures at c.append_whole_now.ensures.put in
    let same : c.lock_spine_when_current-guard.new.pass.number ≡ p = w.same.0 ∙ i.2.0 in
    let put : PutsLast g.K.Key.key_at log p mid after c.args.text.text r = subst (λ (n : ℕ). PutsLast g.K.Key.key_at log n mid after c.args.text.text r) same tried in
    puts_later g.K.Key.key_at log p c.args.pass.now.notes mid after c.args.text.text r
    (since_both p c.loop.pass.number c.args.pass.now.notes c.loop.pass.notes mid i.2.0 i.3 w.since) put

pub loop-preserved : goal.loop-preserved
loop-preserved g c =
    let i = c.loop.invariant in
    let p = c.args.pass.now.number in
    let w = c.lock_spine_when_current-guard.ensures in
    (tt, tt, (w.same.0 ∙ i.2.0, w.same.1 ∙ i.2.1), since_both p c.loop.pass.number c.args.pass.now.notes c.loop.pass.notes c.lock_spine_when_current-guard.new.pass.notes i.2.0 i.3 w.since, rw (← ap (λ s. s.known.notes) i.5) w.whole.begins, i.5)
