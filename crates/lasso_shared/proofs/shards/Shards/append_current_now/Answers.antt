use Rattle.std.proofs.Common.{ℕ, subst}
use Rattle.std.specs.Prelude.{IfSome}
use Rattle.lasso_shared.specs.Shards.{PutsLast}
use Rattle.lasso_shared.proofs.Now.{puts_later_if}
use Rattle.lasso_shared.proofs.shards.Shards.append_current_now.Goals as goal

pub returns-clause-put : goal.returns-clause-put
returns-clause-put g c =
    let log = c.args.self.now.log in
    let mid = c.is_current.new.pass.notes in
    let after = c.append_whole_now.new.pass.notes in
    let o = c.append_whole_now.result in
    let put = subst (λ (n : ℕ). IfSome o (PutsLast g.K.Key.key_at log n mid after c.args.text.text)) c.is_current.ensures.same.0 c.append_whole_now.ensures.put in
    puts_later_if g.K.Key.key_at log c.args.pass.now.number c.args.pass.now.notes mid after c.args.text.text o c.is_current.ensures.since put

pub returns-clause-busy : goal.returns-clause-busy
returns-clause-busy g c = λ none. rw (c.append_whole_now.ensures.busy none) c.is_current.ensures.since
