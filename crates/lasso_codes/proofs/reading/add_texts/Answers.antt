use Rattle.std.proofs.Common.{◌≡◌, ◌∙◌, ◌++◌, drop, sym, subst, arith}
use Rattle.lasso_single.specs.Interner.{made_with}
use Rattle.lasso_input.proofs.Remaining.{IsEndOf, end_after, whole_is_end}
use Rattle.lasso_codes.specs.Stages.{Reading}
use Rattle.lasso_codes.proofs.ReadTexts.{reading_push, reading_fails, adds_more}
use Rattle.lasso_codes.proofs.Stretches.{line_cut}
use Rattle.lasso_codes.proofs.reading.add_texts.Goals as goal

pub loop-position-init : goal.loop-position-init
loop-position-init c = record {
  end = subst (λ bs. IsEndOf bs c.args.stretch.now) (sym c.new-lines.ensures) (whole_is_end c.args.stretch.now);
  added = λ bytes later so_far. subst (λ bs. Reading c.args.rule.only_utf8 bytes (bs ++ later) c.args.count c.args.rodeo.now) (sym c.new-lines.ensures) so_far;
  list = λ start list. list;
}

pub taken-requires : goal.taken-requires
taken-requires c = subst (λ bs. IsEndOf bs c.args.stretch.now) (sym c.in_default.ensures.line.1) c.loop-position.invariant.end

pub returns-in_default-clause-added : goal.returns-in_default-clause-added
returns-in_default-clause-added c = λ bytes later so_far.
    let at = c.loop-position in
    subst (λ bs. Reading c.args.rule.only_utf8 bytes (bs ++ later) at.position at.rodeo) (sym (c.taken.ensures.left ∙ c.in_default.ensures.line.1)) (at.invariant.added bytes later so_far)

pub returns-in-Err-clause-error : goal.returns-in-Err-clause-error
returns-in-Err-clause-error c = λ bytes later limit after so_far list.
    let at = c.loop-position in
    let line = c.in-Some.line in
    let rest = c.next_ended.new.self in
    reading_fails c.args.rule.only_utf8 bytes (at.lines ++ later) at.position c.args.distinct at.rodeo c.loop-position-test.true (at.invariant.added bytes later so_far) limit c.args.column after line (rest ++ later) c.in-Err.error
    (at.invariant.list (made_with 4096 limit) list) (line_cut at.lines line rest later c.in-Some.ensures.line) c.in-Err.ensures

pub loop-position-preserved : goal.loop-position-preserved
loop-position-preserved c =
    let at = c.loop-position in
    let line = c.in-Some.line in
    let rest = c.next_ended.new.self in
    let cut = c.in-Some.ensures.line in
    let adds = c.in_default-add_text.ensures in
    let after = c.add_text.new.rodeo in
    record {
      end = end_after at.lines c.args.stretch.now line rest at.invariant.end cut.1;
      added = λ bytes later so_far.
          reading_push c.args.rule.only_utf8 bytes (at.lines ++ later) at.position c.args.distinct at.rodeo c.loop-position-test.true (at.invariant.added bytes later so_far) line (rest ++ later) after (line_cut at.lines line rest later cut) adds;
      list = λ start list. adds_more c.args.rule.only_utf8 start at.rodeo after line (at.invariant.list start list) adds;
    }

pub taken-requires-2 : goal.taken-requires-2
taken-requires-2 c = c.loop-position.invariant.end

pub returns-clause-added : goal.returns-clause-added
returns-clause-added c = λ bytes later so_far.
    let at = c.loop-position in
    let all : at.position ≡ c.args.distinct = omega (arith, c.loop-position-test.false, at.auto.position-end, c.requires) in
    let left = subst (λ bs. Reading c.args.rule.only_utf8 bytes (bs ++ later) at.position at.rodeo) (sym c.taken-2.ensures.left) (at.invariant.added bytes later so_far) in
    subst (λ n. Reading c.args.rule.only_utf8 bytes (drop c.taken-2.result c.args.stretch.now ++ later) n at.rodeo) all left
