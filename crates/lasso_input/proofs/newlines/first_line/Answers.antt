use Rattle.std.proofs.Common.{◌<◌, length, refl, arith}
use Rattle.std.proofs.lemmas.Grind.{common_steps}
use Rattle.lasso_input.proofs.FirstLines.{lines_first, lines_last, first_line_is, last_line_is}
use Rattle.lasso_input.proofs.newlines.first_line.Goals as goal

pub returns-in-Some-clause-lines : goal.returns-in-Some-clause-lines
returns-in-Some-clause-lines c = lines_first c.args.bytes.now _ c.after_newline.result.now c.in-Some.at c.in-Some.ensures refl c.after_newline.ensures.value

pub returns-in-None-clause-lines : goal.returns-in-None-clause-lines
returns-in-None-clause-lines c =
    let some : 0 < length c.args.bytes.now = grind (arith, common_steps) in
    lines_last c.args.bytes.now some c.in-None.ensures

pub returns-in-Some-clause-rest : goal.returns-in-Some-clause-rest
returns-in-Some-clause-rest c = first_line_is c.args.bytes.now _ c.after_newline.result.now c.in-Some.at c.in-Some.ensures refl c.after_newline.ensures.value

pub returns-in-None-clause-rest : goal.returns-in-None-clause-rest
returns-in-None-clause-rest c = last_line_is c.args.bytes.now c.in-None.ensures
