use Rattle.std.proofs.Common.{is_some, sym, ap, ◌∙◌}
use Rattle.lasso_parts.proofs.TextLemmas.{key_of_present}
use Rattle.lasso_single.specs.Coding.{spur_at}
use Rattle.lasso_columns.specs.Blocks.{IsAddedAt, IsCodedBeside}
use Rattle.lasso_columns.proofs.Beside.{found_beside, added_beside, if_some_then}
use Rattle.lasso_columns.proofs.blocks.code_beside.Goals as goal

pub returns-in-Some : goal.returns-in-Some
returns-in-Some g c =
    found_beside c.args.rodeo.now.texts c.args.added.now.texts c.args.text.now c.in-Some.key c.into_position.result (sym c.get_next.ensures ∙ c.in-Some.is) c.into_position.ensures.position

pub returns : goal.returns
returns g c =
    let list = c.args.rodeo.now.texts in
    let old = c.args.added.now.texts in
    let text = c.args.text.now in
    let new = c.added_code.new.added.texts in
    if_some_then (λ code. IsAddedAt c.len.result old text new code) (λ code. IsCodedBeside list old text new code) c.added_code.result c.added_code.ensures
    (λ code is. added_beside list old text new c.len.result code (sym (key_of_present spur_at list text c.len.ensures.fits) ∙ ap is_some (sym c.in_default.ensures)) c.len.ensures.value is)
