use Rattle.std.proofs.Common.{◌≡◌, ◌+◌, ◌-◌, ◌++◌, length, take, drop, ap, subst, refl, arith, length-drop}
use Rattle.std.proofs.lemmas.Result.{err_from_is_err_and}
use Rattle.lasso_input.proofs.FirstLines.{rest_behind}
use Rattle.lasso_codes.specs.Merge.{recoded}
use Rattle.lasso_codes.specs.Stages.{EntriesAhead}
use Rattle.lasso_codes.proofs.MergedColumns.{number_added, number_fails}
use Rattle.lasso_codes.proofs.Stretches.{next_entry_cut}
use Rattle.lasso_codes.proofs.merge.add_stretch.Goals as goal

pub returns-in_err-add_number-clause-error : goal.returns-in_err-add_number-clause-error
returns-in_err-add_number-clause-error c =
    let p = err_from_is_err_and c.from_residual.result c.from_residual.ensures.1 in
    let at = c.loop-position in
    let stretch = c.args.stretch.now in
    let rest = take (length stretch - at.used) (drop at.used stretch) in
    let header = c.args.header in
    let entry = c.in-Some.entry in
    let len = c.in-Some.len in
    rw (p.1, p.2) (λ list texts are few bytes later before so_far.
    let left = drop at.used stretch ++ later in
    let following = drop (at.used + len) stretch ++ later in
    let cut = next_entry_cut stretch rest at.used len (rest_behind at.used stretch) header.binary entry c.in-Some.ensures.cut later in
    number_fails list texts header bytes left at.position before at.numbers.items (at.invariant.added list texts are few bytes later before so_far) entry following cut
    (recoded list texts entry (at.position + 1)) c.args.column c.add_number.new.numbers.items c.in_err-add_number.field-0.0 c.loop-position-test.true refl (c.in_err-add_number.ensures.added list texts are few))

pub loop-position-preserved : goal.loop-position-preserved
loop-position-preserved c =
    let at = c.loop-position in
    let stretch = c.args.stretch.now in
    let rest = take (length stretch - at.used) (drop at.used stretch) in
    let same : rest ≡ drop at.used stretch = rest_behind at.used stretch in
    let long : length rest ≡ length (drop at.used stretch) = ap (λ bs. length bs) same in
    let header = c.args.header in
    let entry = c.in-Some.entry in
    let len = c.in-Some.len in
    record {
      within = omega (arith, c.in-Some.ensures.within, at.invariant.within, long, length-drop at.used stretch);
      added = λ list texts are few bytes later before so_far.
          let left = drop at.used stretch ++ later in
          let following = drop (at.used + len) stretch ++ later in
          let cut = next_entry_cut stretch rest at.used len same header.binary entry c.in-Some.ensures.cut later in
          number_added list texts header bytes left at.position before at.numbers.items (at.invariant.added list texts are few bytes later before so_far) entry following cut
          (recoded list texts entry (at.position + 1)) c.args.column c.add_number.new.numbers.items refl (c.in_ok-add_number.ensures.added list texts are few);
    }

pub returns-clause-added : goal.returns-clause-added
returns-clause-added c = λ list texts are few bytes later before so_far.
    let at = c.loop-position in
    let header = c.args.header in
    let all : at.position ≡ header.lines = omega (arith, c.loop-position-test.false, at.auto.position-end, c.requires) in
    let left = drop at.used c.args.stretch.now ++ later in
    subst (λ n. EntriesAhead (recoded list texts) header.binary bytes left n before at.numbers.items) all (at.invariant.added list texts are few bytes later before so_far)
