use Rattle.std.proofs.Common.{◌≡◌, ◌+◌, List, take, None, Some, refl, sym, subst, ap, arith, ◌∙◌}
use Rattle.std.specs.Prelude.{is_some}
use Rattle.std.proofs.lemmas.List.{take_all}
use Rattle.lasso_parts.proofs.TextLemmas.{take_more_at}
use Rattle.lasso_parts.specs.Texts.{Text, position_of}
use Rattle.lasso_single.specs.Codes.{AreCodes}
use Rattle.lasso_columns.proofs.Found.{absent_at, code_of_key, codes_push}
use Rattle.lasso_columns.proofs.finding.find_codes.Goals as goal

-- the text at the position is absent
pub returns-in_default-clause-error : goal.returns-in_default-clause-error
returns-in_default-clause-error g c =
    let at = c.loop-position in
    (at.position, refl, (at.codes.items, at.invariant), absent_at c.args.list.now.texts c.args.from.now at.position _ c.text_at.ensures (sym c.get.ensures.present ∙ ap is_some c.in_default.is))

pub loop-position-preserved : goal.loop-position-preserved
loop-position-preserved g c =
    let at = c.loop-position in
    let text = c.text_at.result.now in
    let code = code_of_key c.args.list.now.texts text c.in-Some.key c.into_position.result (sym c.get.ensures.value ∙ c.in-Some.is) c.into_position.ensures.position in
    codes_push c.args.list.now.texts c.args.from.now at.position text c.into_position.result at.codes.items c.push.new.self.items at.invariant c.text_at.ensures code c.in-Ok.ensures.items

pub returns-clause-codes : goal.returns-clause-codes
returns-clause-codes g c =
    let at = c.loop-position in
    subst (λ (ts : List Text). AreCodes c.args.list.now.texts ts at.codes.items) (take_all at.position c.args.from.now (omega (arith, c.loop-position-test.false, c.len-position-end.ensures.value))) at.invariant
