use Rattle.std.proofs.Common.{◌∙◌, ◌++◌, refl, sym, subst, arith}
use Rattle.lasso_single.specs.Interner.{made_with}
use Rattle.lasso_input.proofs.FirstLines.{lines_fed}
use Rattle.lasso_input.proofs.Remaining.{IsEndOf, end_after, whole_is_end}
use Rattle.lasso_codes.specs.Stages.{Counting}
use Rattle.lasso_codes.proofs.CountedLines.{counting_push, counting_many, counting_line_fails}
use Rattle.lasso_codes.proofs.counts.count_stretch.Goals as goal

pub loop-number-init : goal.loop-number-init
loop-number-init c = record {
  lengths = c.requires.lengths;
  total = c.requires.total;
  end = subst (λ bs. IsEndOf bs c.args.stretch.now) (sym c.new-lines.ensures) (whole_is_end c.args.stretch.now);
  counted = λ input later start so_far. subst (λ bs. Counting input (bs ++ later) c.args.rule.only_utf8 c.args.first start c.args.rodeo.now c.args.counts.now.items) (sym c.new-lines.ensures) so_far;
}

pub taken-requires : goal.taken-requires
taken-requires c = subst (λ bs. IsEndOf bs c.args.stretch.now) (sym c.in_default.ensures.line.1) c.loop-number.invariant.end

pub returns-in_default-clause-counted : goal.returns-in_default-clause-counted
returns-in_default-clause-counted c = λ input later start so_far.
    let at = c.loop-number in
    subst (λ bs. Counting input (bs ++ later) c.args.rule.only_utf8 at.number start at.rodeo at.counts.items) (sym (c.taken.ensures.left ∙ c.in_default.ensures.line.1)) (at.invariant.counted input later start so_far)

pub returns-in-Err-clause-error : goal.returns-in-Err-clause-error
returns-in-Err-clause-error c = λ input later limit after so_far.
    let at = c.loop-number in
    let line = c.in-Some.line in
    let rest = c.next_ended.new.self in
    let start = made_with 4096 limit in
    counting_line_fails input (at.lines ++ later) c.args.rule.only_utf8 at.number start at.rodeo at.counts.items (at.invariant.counted input later start so_far) limit after line (rest ++ later) c.in-Err.error refl
    (lines_fed at.lines line rest later c.in-Some.ensures.line) c.in-Err.ensures.error

pub loop-number-preserved : goal.loop-number-preserved
loop-number-preserved c =
    let at = c.loop-number in
    let line = c.in-Some.line in
    let rest = c.next_ended.new.self in
    let cut = c.in-Some.ensures.line in
    let told = c.in_default-count_line.ensures in
    record {
      lengths = told.lengths;
      total = omega (arith, told.total, at.invariant.total);
      end = end_after at.lines c.args.stretch.now line rest at.invariant.end cut.1;
      counted = λ input later start so_far.
          counting_push input (at.lines ++ later) c.args.rule.only_utf8 at.number start at.rodeo c.count_line.new.rodeo at.counts.items line (rest ++ later) c.count_line.new.counts.items told.interned.1.0
          (at.invariant.counted input later start so_far) (lines_fed at.lines line rest later cut) told.interned.0 told.interned.1.1 told.counted;
    }

pub returns-clause-error : goal.returns-clause-error
returns-clause-error c = λ input later limit after so_far.
    let at = c.loop-number in
    let start = made_with 4096 limit in
    counting_many input (at.lines ++ later) c.args.rule.only_utf8 at.number start at.rodeo at.counts.items (at.invariant.counted input later start so_far) limit after (omega (arith, c.loop-number-test.false))
