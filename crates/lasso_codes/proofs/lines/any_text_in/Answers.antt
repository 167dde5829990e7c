use Rattle.std.proofs.Common.{◌∙◌, sym, subst}
use Rattle.hex.specs.Hex.{IsBytes}
use Rattle.lasso_input.proofs.LineTexts.{own_is_text}
use Rattle.lasso_input.proofs.LettingIn.{own_let_in}
use Rattle.lasso_codes.proofs.lines.any_text_in.Goals as goal

pub returns-in-Some : goal.returns-in-Some
returns-in-Some c =
    let line = c.args.line.now in
    let own = c.in-Some.ensures in
    ((subst IsBytes c.bytes-bytes.ensures c.known_bytes.ensures, own_let_in c.args.rule.only_utf8 line own.1), own.0 ∙ sym (own_is_text line own.1))
