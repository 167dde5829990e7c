use Rattle.std.proofs.Common.{◌≡◌, ◌<◌, [], List, get_or, length, take, subst, arith}
use Rattle.std.proofs.lemmas.List.{take_all}
use Rattle.std.proofs.lemmas.Option.{slice_get-get_or}
use Rattle.lasso_parts.specs.Texts.{Text}
use Rattle.lasso_single.specs.Codes.{AreCodes}
use Rattle.lasso_columns.proofs.Found.{own_push}
use Rattle.lasso_columns.proofs.finding.own_codes.Goals as goal

pub loop-position-preserved : goal.loop-position-preserved
loop-position-preserved g c =
    let at = c.loop-position in
    let list = c.args.list.now.texts in
    let inside : at.position < length list = omega (arith, c.loop-position-test.true, c.len-position-end.ensures.value) in
    own_push list at.position (get_or list at.position []) at.codes.items c.push.new.self.items c.len-position-end.ensures.distinct at.invariant (slice_get-get_or list at.position [] inside) c.in_ok-push.ensures.items

pub returns : goal.returns
returns g c =
    let at = c.loop-position in
    let list = c.args.list.now.texts in
    subst (λ (ts : List Text). AreCodes list ts at.codes.items) (take_all at.position list (omega (arith, c.loop-position-test.false, c.len-position-end.ensures.value))) at.invariant
