-- What an intern call promises of the name, and of the names from before.
use Rattle.lasso.proofs.CallingSpurs.{spur_answer_resolves, spur_texts_stay}
use Rattle.lasso_guide.proofs.spurs.SpurTable.declare.Goals as goal

pub returns-clause-named : goal.returns-clause-named
returns-clause-named c = spur_answer_resolves _ _ c.args.name.now _ c.try_get_or_intern.ensures.all

pub returns-clause-kept : goal.returns-clause-kept
returns-clause-kept c = spur_texts_stay _ _ c.args.name.now _ c.try_get_or_intern.ensures.all
