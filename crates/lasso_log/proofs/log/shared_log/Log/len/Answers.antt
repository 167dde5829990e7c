use Rattle.std.proofs.Common.{◌≡◌, sym, ◌∙◌, ap, subst, ℕ, length, arith}
use Rattle.lasso_log.specs.Book.{Reads}
use Rattle.lasso_log.proofs.Lengths.{has_head}
use Rattle.lasso_log.proofs.Reading.{length_read, length_short}
use Rattle.lasso_log.proofs.log.shared_log.Log.len.Goals as goal

pub load-appended-requires-clause-known : goal.load-appended-requires-clause-known
load-appended-requires-clause-known g c = rw (ap (λ w. w.key) c.self.invariant.0) (has_head c.args.pass.now.notes)

pub overflow_add-result : goal.overflow_add-result
overflow_add-result g c =
    let o = c.args.pass.now.of.opening in
    let reads : Reads g.K.Key.key_at o c.load-appended.new.pass.notes 0 0 c.load-appended.result = subst (λ (k : ℕ). Reads g.K.Key.key_at o c.load-appended.new.pass.notes 0 k c.load-appended.result) (ap (λ w. w.key) c.self.invariant.0) c.load-appended.ensures.reply in
    let first : c.self.inside.first ≡ length o.texts = c.self.invariant.4 ∙ (ap (λ of. length of.opening.texts) c.self.view_is ∙ sym (ap (λ of. length of.opening.texts) c.requires)) in
    let short = length_short g.K.Key.key_at o c.load-appended.new.pass.notes c.self.inside.first c.load-appended.result first reads in omega (arith, short)

pub returns-clause-reply : goal.returns-clause-reply
returns-clause-reply g c =
    let o = c.args.pass.now.of.opening in
    let reads : Reads g.K.Key.key_at o c.load-appended.new.pass.notes 0 0 c.load-appended.result = subst (λ (k : ℕ). Reads g.K.Key.key_at o c.load-appended.new.pass.notes 0 k c.load-appended.result) (ap (λ w. w.key) c.self.invariant.0) c.load-appended.ensures.reply in
    let first : c.self.inside.first ≡ length o.texts = c.self.invariant.4 ∙ (ap (λ of. length of.opening.texts) c.self.view_is ∙ sym (ap (λ of. length of.opening.texts) c.requires)) in
    rw c.load-appended.ensures.same.1 (length_read g.K.Key.key_at o c.load-appended.new.pass.notes c.self.inside.first c.load-appended.result first reads)
