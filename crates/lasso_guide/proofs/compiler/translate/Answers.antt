use Rattle.lasso_guide.proofs.Compiled.{closes}
use Rattle.lasso_guide.proofs.compiler.translate.Goals as goal

pub returns-then-close : goal.returns-then-close
returns-then-close g c =
    let done = c.close.ensures.closed c.if-close.true in
    closes _ _ _ _ c.args.code.now.items done.0 _ c.in-Close.is done.1 done.2
