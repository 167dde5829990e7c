use Rattle.std.proofs.Common.{◌≡◌, ℕ, List, [], inl, refl, subst}
use Rattle.std.specs.Prelude.{◌⊎◌, IfSome}
use Rattle.lasso_log.specs.Calls.{IsCall, Stores}
use Rattle.lasso_log.specs.History.{Event}
use Rattle.lasso_log.specs.Notes.{Since}
use Rattle.lasso_log.specs.Replies.{Copied, Intern, Interned}
use Rattle.lasso_log.specs.Views.{seen}
use Rattle.lasso_shared.proofs.Now.{called_later_if, store_later}
use Rattle.lasso_shared.proofs.shards.Shards.intern_now.Goals as goal

pub returns-in-Some-None-clause-call : goal.returns-in-Some-None-clause-call
returns-in-Some-None-clause-call g c =
    let p = c.args.pass.now.number in
    let log = c.args.self.now.log in
    let q = Intern Copied c.args.text.now in
    let o = c.intern_new_now.result in
    let mid = seen c.key_by_hint_or_read_lock_now.new.pass in
    let after = seen c.intern_new_now.new.pass in
    let call = subst (λ (n : ℕ). IfSome o (λ r. IsCall g.K.Key.key_at log.opening mid after n q (Interned r))) c.key_by_hint_or_read_lock_now.ensures.same.0 c.intern_new_now.ensures.call in
    called_later_if g.K.Key.key_at log p c.args.pass.now.notes c.key_by_hint_or_read_lock_now.new.pass.notes after q o c.key_by_hint_or_read_lock_now.ensures.since call

pub returns-in-Some-None-clause-busy : goal.returns-in-Some-None-clause-busy
returns-in-Some-None-clause-busy g c = λ none.
    let p = c.args.pass.now.number in
    let mid = c.key_by_hint_or_read_lock_now.new.pass in
    let after = c.intern_new_now.new.pass in
    let t = c.args.text.now in
    let stored = subst (λ (n : ℕ). (own : List Event) × ((own ≡ []) ⊎ Stores Copied t own) × Since n mid.notes after.notes own) c.key_by_hint_or_read_lock_now.ensures.same.0 (c.intern_new_now.ensures.busy none) in
    store_later p c.args.pass.now.notes mid.notes after.notes t c.key_by_hint_or_read_lock_now.ensures.since stored

pub returns-in-None-clause-busy : goal.returns-in-None-clause-busy
returns-in-None-clause-busy g c = λ none. ([], inl refl, c.key_by_hint_or_read_lock_now.ensures.since)
