use Rattle.std.proofs.Common.{arith}
use Rattle.lasso_log.specs.Views.{seen}
use Rattle.lasso_shared.proofs.Walked.{told_fit, told_pairs}
use Rattle.lasso_shared.proofs.threaded.ThreadedRodeo.iter_as.Goals as goal

pub invariant_of-result : goal.invariant_of-result
invariant_of-result g c =
    let told = c.strings_as-strings.ensures in
    let fits = told_fit g.K.Key.key_at c.args.self.now.opening (seen c.args.pass.now) (seen c.strings_as-strings.new.pass) c.args.pass.now.number c.strings_as-strings.result told.opening told.legal told.call in
    (omega (arith, c.prove_short.ensures), λ i below. fits i (omega (arith, below)))

pub returns-clause-call : goal.returns-clause-call
returns-clause-call g c =
    let told = c.strings_as-strings.ensures in
    told_pairs g.K.Key.key_at c.args.self.now.opening (seen c.args.pass.now) (seen c.strings_as-strings.new.pass) c.args.pass.now.number c.strings_as-strings.result told.opening told.legal told.call
