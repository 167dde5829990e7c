use Rattle.std.proofs.lemmas.Result.{err_from_is_err_and}
use Rattle.lasso_codes.proofs.Cuts.{byte_was, loses_first, loses_fourth, loses_second, loses_third}
use Rattle.lasso_codes.proofs.entries.next_number.Goals as goal

pub returns-in_err-first-clause-lost : goal.returns-in_err-first-clause-lost
returns-in_err-first-clause-lost g c =
    let p = err_from_is_err_and c.from_residual.result c.from_residual.ensures.1 in
    rw (p.1) (loses_first _ _ c.in_err-first.ensures.kept)

pub returns-in_err-second-clause-lost : goal.returns-in_err-second-clause-lost
returns-in_err-second-clause-lost g c =
    let p = err_from_is_err_and c.from_residual-in_err-second.result c.from_residual-in_err-second.ensures.1 in
    let one = byte_was _ _ c.in_ok-first.field-0 c.in-Some.first c.in_ok-first.ensures.taken c.in-Some.is in
    rw (p.1) (loses_second _ _ _ c.in-Some.first one c.in_err-second.ensures.kept)

pub returns-in_err-third-clause-lost : goal.returns-in_err-third-clause-lost
returns-in_err-third-clause-lost g c =
    let p = err_from_is_err_and c.from_residual-in_err-third.result c.from_residual-in_err-third.ensures.1 in
    let one = byte_was _ _ c.in_ok-first.field-0 c.in-Some.first c.in_ok-first.ensures.taken c.in-Some.is in
    let two = byte_was _ _ c.in_ok-second.field-0 c.in-Some-2.second c.in_ok-second.ensures.taken c.in-Some-2.is in
    rw (p.1) (loses_third _ _ _ _ c.in-Some.first c.in-Some-2.second one two c.in_err-third.ensures.kept)

pub returns-in_err-fourth-clause-lost : goal.returns-in_err-fourth-clause-lost
returns-in_err-fourth-clause-lost g c =
    let p = err_from_is_err_and c.from_residual-in_err-fourth.result c.from_residual-in_err-fourth.ensures.1 in
    let one = byte_was _ _ c.in_ok-first.field-0 c.in-Some.first c.in_ok-first.ensures.taken c.in-Some.is in
    let two = byte_was _ _ c.in_ok-second.field-0 c.in-Some-2.second c.in_ok-second.ensures.taken c.in-Some-2.is in
    let three = byte_was _ _ c.in_ok-third.field-0 c.in-Some-3.third c.in_ok-third.ensures.taken c.in-Some-3.is in
    rw (p.1) (loses_fourth _ _ _ _ _ c.in-Some.first c.in-Some-2.second c.in-Some-3.third one two three c.in_err-fourth.ensures.kept)
