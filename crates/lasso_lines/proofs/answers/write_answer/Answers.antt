use Rattle.std.proofs.Common.{decimal, rules}
use Rattle.std.proofs.lemmas.Fmt.{length-decimal-le}
use Rattle.lasso_lines.proofs.Known.{front_is, answer_parts}
use Rattle.lasso_lines.proofs.answers.write_answer.Goals as goal

pub write_digits-start-requires : goal.write_digits-start-requires
write_digits-start-requires g c = search (rules, length-decimal-le 20)

pub returns-clause-bytes : goal.returns-clause-bytes
returns-clause-bytes g c =
    let digits = decimal c.args.position in
    answer_parts digits _ c.args.line.now (front_is digits _ _ c.write_digits-start.ensures.written c.write_digits-start.ensures.start) _ _ _ c.write_line.ensures.bytes
