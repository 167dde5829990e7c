use Rattle.std.proofs.Common.{ℕ, ◌≡◌, None, Some, get_or, inl, refl, subst}
use Rattle.lasso_c.specs.Layout.{text_fault}
use Rattle.lasso_c.proofs.SharedSteps.{with_text}
use Rattle.lasso_c.proofs.shared.batches.code_at.Goals as goal

pub returns-in-Err-clause-reply : goal.returns-in-Err-clause-reply
returns-in-Err-clause-reply g c =
    let offsets = g.O.Offset.numbers c.args.offsets.now in
    let at = c.args.at in
    let refusal = c.in-Err.refusal in
    let found = subst (λ n. text_fault g.O.Offset.GREATEST c.args.bytes.now at (get_or offsets at 0) n ≡ Some refusal) c.number-to.ensures
    (subst (λ n. text_fault g.O.Offset.GREATEST c.args.bytes.now at n c.number-to.result ≡ Some refusal) c.number-from.ensures c.in-Err.ensures) in
    inl (refusal, found, c.status_of.ensures, refl)

pub returns-clause-reply : goal.returns-clause-reply
returns-clause-reply g c =
    with_text g.O.Offset.GREATEST c.args.bytes.now (g.O.Offset.numbers c.args.offsets.now) c.args.at c.number-from.result c.number-to.result c.in-Ok.text.now c.args.member.now.pass c.intern_text.new.member.pass c.intern_text.result
    c.requires.within c.number-from.ensures c.number-to.ensures c.in-Ok.ensures c.intern_text.ensures.reply
