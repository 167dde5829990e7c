use Rattle.std.proofs.Common.{◌∙◌, ◌++◌, refl, sym, subst, arith}
use Rattle.lasso_single.specs.Interner.{made_with}
use Rattle.lasso_input.proofs.FirstLines.{lines_fed}
use Rattle.lasso_input.proofs.Remaining.{IsEndOf, end_after, whole_is_end}
use Rattle.lasso_columns.specs.Rows.{word_of}
use Rattle.lasso_codes.specs.Stages.{Encoding}
use Rattle.lasso_codes.proofs.EncodedLines.{encoding_push, encoding_many, encoding_line_fails}
use Rattle.lasso_codes.proofs.encode.encode_stretch.Goals as goal

pub loop-number-init : goal.loop-number-init
loop-number-init c = record {
  end = subst (λ bs. IsEndOf bs c.args.stretch.now) (sym c.new-lines.ensures) (whole_is_end c.args.stretch.now);
  numbered = λ input later start so_far. subst (λ bs. Encoding input (bs ++ later) c.args.rule.only_utf8 c.args.first (word_of c.args.null) start c.args.rodeo.now c.args.numbers.now.items) (sym c.new-lines.ensures) so_far;
}

pub taken-requires : goal.taken-requires
taken-requires c = subst (λ bs. IsEndOf bs c.args.stretch.now) (sym c.in_default.ensures.line.1) c.loop-number.invariant.end

pub returns-in_default-clause-numbered : goal.returns-in_default-clause-numbered
returns-in_default-clause-numbered c = λ input later start so_far.
    let at = c.loop-number in
    subst (λ bs. Encoding input (bs ++ later) c.args.rule.only_utf8 at.number (word_of c.args.null) start at.rodeo at.numbers.items) (sym (c.taken.ensures.left ∙ c.in_default.ensures.line.1)) (at.invariant.numbered input later start so_far)

pub returns-in-Err-clause-error : goal.returns-in-Err-clause-error
returns-in-Err-clause-error c = λ input later limit after so_far.
    let at = c.loop-number in
    let line = c.in-Some.line in
    let rest = c.next_ended.new.self in
    let start = made_with 4096 limit in
    encoding_line_fails input (at.lines ++ later) c.args.rule.only_utf8 at.number (word_of c.args.null) start at.rodeo at.numbers.items (at.invariant.numbered input later start so_far) limit after line (rest ++ later) c.in-Err.error refl
    (lines_fed at.lines line rest later c.in-Some.ensures.line) c.in-Err.ensures.error c.in-Err.ensures.null

pub loop-number-preserved : goal.loop-number-preserved
loop-number-preserved c =
    let at = c.loop-number in
    let line = c.in-Some.line in
    let rest = c.next_ended.new.self in
    let cut = c.in-Some.ensures.line in
    let told = c.in_default-encode_line.ensures.numbered in
    record {
      end = end_after at.lines c.args.stretch.now line rest at.invariant.end cut.1;
      numbered = λ input later start so_far.
          encoding_push input (at.lines ++ later) c.args.rule.only_utf8 at.number (word_of c.args.null) start at.rodeo c.encode_line.new.rodeo at.numbers.items line (rest ++ later) told.1.0 c.encode_line.new.numbers.items
          (at.invariant.numbered input later start so_far) (lines_fed at.lines line rest later cut) told.0 told.1.1 told.1.2;
    }

pub returns-clause-error : goal.returns-clause-error
returns-clause-error c = λ input later limit after so_far.
    let at = c.loop-number in
    let start = made_with 4096 limit in
    encoding_many input (at.lines ++ later) c.args.rule.only_utf8 at.number (word_of c.args.null) start at.rodeo at.numbers.items (at.invariant.numbered input later start so_far) limit after (omega (arith, c.loop-number-test.false))
