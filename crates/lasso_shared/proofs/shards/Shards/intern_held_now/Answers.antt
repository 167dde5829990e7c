use Rattle.std.proofs.Common.{◌≡◌, ℕ, List, [], inl, refl, subst, ◌∙◌}
use Rattle.std.specs.Prelude.{◌⊎◌, IfSome}
use Rattle.lasso_log.specs.Calls.{IsCall, Stores}
use Rattle.lasso_log.specs.History.{Event}
use Rattle.lasso_log.specs.Notes.{Since}
use Rattle.lasso_log.specs.Replies.{Copied, Intern, Interned}
use Rattle.lasso_log.specs.Views.{seen}
use Rattle.lasso_shared.proofs.Now.{called_later_if, store_later}
use Rattle.lasso_shared.proofs.Whole.{since_both}
use Rattle.lasso_shared.proofs.shards.Shards.intern_held_now.Goals as goal

pub returns-in_default-lock_spine_when_current_now-clause-busy : goal.returns-in_default-lock_spine_when_current_now-clause-busy
returns-in_default-lock_spine_when_current_now-clause-busy g c =
    λ none. ([], inl refl, since_both c.args.pass.now.number c.key_in_shard.new.pass.number c.args.pass.now.notes c.key_in_shard.new.pass.notes c.lock_spine_when_current_now.new.pass.notes c.key_in_shard.ensures.same.0 c.key_in_shard.ensures.since c.lock_spine_when_current_now.ensures.since)

pub returns-clause-call : goal.returns-clause-call
returns-clause-call g c =
    let p = c.args.pass.now.number in
    let log = c.args.self.now.log in
    let q = Intern Copied c.args.text.now in
    let o = c.intern_absent_now-reply.result in
    let mid = seen c.lock_spine_when_current_now.new.pass in
    let after = seen c.intern_absent_now-reply.new.pass in
    let same : c.lock_spine_when_current_now.new.pass.number ≡ p = c.lock_spine_when_current_now.ensures.same.0 ∙ c.key_in_shard.ensures.same.0 in
    let since = since_both p c.key_in_shard.new.pass.number c.args.pass.now.notes c.key_in_shard.new.pass.notes c.lock_spine_when_current_now.new.pass.notes c.key_in_shard.ensures.same.0 c.key_in_shard.ensures.since c.lock_spine_when_current_now.ensures.since in
    let call = subst (λ (n : ℕ). IfSome o (λ r. IsCall g.K.Key.key_at log.opening mid after n q (Interned r))) same c.intern_absent_now-reply.ensures.call in
    called_later_if g.K.Key.key_at log p c.args.pass.now.notes c.lock_spine_when_current_now.new.pass.notes after q o since call

pub returns-clause-busy : goal.returns-clause-busy
returns-clause-busy g c = λ none.
    let p = c.args.pass.now.number in
    let mid = c.lock_spine_when_current_now.new.pass in
    let after = c.intern_absent_now-reply.new.pass in
    let t = c.args.text.now in
    let same : mid.number ≡ p = c.lock_spine_when_current_now.ensures.same.0 ∙ c.key_in_shard.ensures.same.0 in
    let since = since_both p c.key_in_shard.new.pass.number c.args.pass.now.notes c.key_in_shard.new.pass.notes mid.notes c.key_in_shard.ensures.same.0 c.key_in_shard.ensures.since c.lock_spine_when_current_now.ensures.since in
    let stored = subst (λ (n : ℕ). (own : List Event) × ((own ≡ []) ⊎ Stores Copied t own) × Since n mid.notes after.notes own) same (c.intern_absent_now-reply.ensures.busy none) in
    store_later p c.args.pass.now.notes mid.notes after.notes t since stored
