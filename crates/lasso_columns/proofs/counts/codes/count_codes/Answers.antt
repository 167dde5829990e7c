use Rattle.std.proofs.Common.{◌<◌, ◌∙◌, length, get_or, ap, refl, sum, arith}
use Rattle.lasso_columns.proofs.Added.{code_inside, codes_all, codes_more, raised_all, raised_is, raised_long, raised_more, raised_sum}
use Rattle.lasso_columns.proofs.counts.codes.count_codes.Goals as goal

pub loop-position-preserved : goal.loop-position-preserved
loop-position-preserved c =
    let at = c.loop-position in
    let codes = c.args.codes.now in
    let old = c.args.counts.now.items in
    let now = at.counts.items in
    let code = get_or codes at.position 0 in
    let is = c.count_code.ensures in
    record {
      added = λ list texts lengths are.
          let so_far = at.invariant.added list texts lengths are in
          let inside : code < length now = code_inside list texts codes old now at.position code are so_far c.loop-position-test.true refl in
          codes_more list texts codes old now c.count_code.new.counts.items at.position code (get_or now code 0) are so_far c.loop-position-test.true refl inside refl (is ∙ raised_is now code inside);
      each = raised_more old now c.count_code.new.counts.items codes at.position code at.invariant.each c.loop-position-test.true refl is;
      long = ap length is ∙ raised_long now code ∙ at.invariant.long;
      total = omega (arith, ap sum is, raised_sum now code, at.invariant.total);
    }

pub returns-clause-counts : goal.returns-clause-counts
returns-clause-counts c = λ list texts lengths are.
    let at = c.loop-position in
    codes_all list texts c.args.codes.now c.args.counts.now.items at.counts.items at.position are (omega (arith, c.loop-position-test.false)) (at.invariant.added list texts lengths are)

pub returns-clause-each : goal.returns-clause-each
returns-clause-each c =
    let at = c.loop-position in
    raised_all c.args.counts.now.items at.counts.items c.args.codes.now at.position at.invariant.each (omega (arith, c.loop-position-test.false))
