use Rattle.std.proofs.Common.{ℕ, ◌∙◌, ◌+◌, List, [], None, ap, length, refl, subst, sum, arith}
use Rattle.std.proofs.lemmas.Result.{err_from_is_err_and}
use Rattle.lasso_input.specs.Lines.{lines_of}
use Rattle.lasso_columns.specs.Adding.{CountsCodes}
use Rattle.lasso_columns.specs.Steps.{AreLeftAfter, EncodesFirst}
use Rattle.lasso_codes.specs.Counts.{StopsCountingRound, grown_to}
use Rattle.lasso_codes.proofs.CountedRounds.{rounds_begin, rounds_end, rounds_next, rounds_none, rounds_stop, rounds_uncounted}
use Rattle.lasso_codes.proofs.Cuts.{open_stops}
use Rattle.lasso_codes.proofs.counts.count_stream.Goals as goal

pub returns-in_err-encoder-clause-error : goal.returns-in_err-encoder-clause-error
returns-in_err-encoder-clause-error g c =
    let p = err_from_is_err_and c.from_residual.result c.from_residual.ensures.1 in
    rw (p.1, p.2) (λ bytes e limit made.
    rounds_none c.args.rule.only_utf8 limit (lines_of bytes) c.in_err-encoder.field-0.0 c.stream_encoder.new.self.left ([], bytes, c.in_err-encoder.ensures.kept ∙ e, refl, open_stops [] tt) c.in_err-encoder.ensures.errors)

pub loop-goes_on-init : goal.loop-goes_on-init
loop-goes_on-init g c = record {
  by = c.in_ok-encoder.ensures.by;
  known = λ bytes e. (lines_of bytes, rounds_begin c.args.rule.only_utf8 (lines_of bytes) c.args.rodeo.now c.args.counts.now.items 0 c.requires.no_texts c.requires.no_counts refl, c.in_ok-encoder.ensures.left bytes e);
  total = omega (arith, ap sum c.requires.no_counts);
  lengths = omega (arith, ap length c.requires.no_texts, ap length c.requires.no_counts, c.args.counts.now.ok.0);
  reads = omega (arith, c.in_ok-encoder.ensures.reads);
}

pub returns-in_err-goes_on-clause-error : goal.returns-in_err-goes_on-clause-error
returns-in_err-goes_on-clause-error g c =
    let p = err_from_is_err_and c.from_residual-in_err-goes_on.result c.from_residual-in_err-goes_on.ensures.1 in
    let at = c.loop-goes_on in
    let only = c.args.rule.only_utf8 in
    let round = c.encode_round in
    rw (p.1, p.2) (λ bytes e limit made.
    let so_far = at.invariant.known bytes e in
    let left = subst (λ b. AreLeftAfter b at.encoder at.input.left so_far.0) c.loop-goes_on-test.true so_far.2 in
    rounds_stop only (lines_of bytes) so_far.0 c.args.rodeo.now at.rodeo round.new.rodeo at.counts.items at.number limit round.new.codes round.new.self.left c.in_err-goes_on.field-0.0 so_far.1 made (c.in_err-goes_on.ensures.stops only so_far.0 at.invariant.by left))

pub returns-in_err-number-clause-error : goal.returns-in_err-number-clause-error
returns-in_err-number-clause-error g c =
    let p = err_from_is_err_and c.from_residual-in_err-number.result c.from_residual-in_err-number.ensures.1 in
    let at = c.loop-goes_on in
    let only = c.args.rule.only_utf8 in
    let round = c.encode_round in
    let codes = round.new.codes.items in
    rw (p.1, p.2) (λ bytes e limit made.
    let so_far = at.invariant.known bytes e in
    let left = subst (λ b. AreLeftAfter b at.encoder at.input.left so_far.0) c.loop-goes_on-test.true so_far.2 in
    let step = subst (λ b. EncodesFirst b None at.rodeo so_far.0 [] round.new.rodeo codes (AreLeftAfter c.in_ok-goes_on.goes_on round.new.encoder round.new.self.left)) at.invariant.by (c.in_ok-goes_on.ensures.rows so_far.0 left) in
    rounds_uncounted only (lines_of bytes) so_far.0 c.args.rodeo.now at.rodeo at.counts.items at.number so_far.1 round.new.rodeo codes step.0 step.1 step.2 step.3 step.4 limit round.new.self.left c.in_err-number.field-0.0 (subst (λ cs. StopsCountingRound (at.number + length cs) c.in_err-number.field-0.0) c.deref.ensures.value c.in_err-number.ensures.error))

pub loop-goes_on-preserved : goal.loop-goes_on-preserved
loop-goes_on-preserved g c =
    let at = c.loop-goes_on in
    let only = c.args.rule.only_utf8 in
    let round = c.encode_round in
    let codes = round.new.codes.items in
    let told = c.in_ok-number.ensures in
    record {
      by = c.in_ok-goes_on.ensures.by ∙ at.invariant.by;
      known = λ bytes e.
          let so_far = at.invariant.known bytes e in
          let left = subst (λ b. AreLeftAfter b at.encoder at.input.left so_far.0) c.loop-goes_on-test.true so_far.2 in
          let step = subst (λ b. EncodesFirst b None at.rodeo so_far.0 [] round.new.rodeo codes (AreLeftAfter c.in_ok-goes_on.goes_on round.new.encoder round.new.self.left)) at.invariant.by (c.in_ok-goes_on.ensures.rows so_far.0 left) in
          let tally = subst (λ cs. CountsCodes cs (grown_to c.len.result at.counts.items) c.count_round.new.counts.items) c.deref.ensures.value told.counted in
          let more = told.number ∙ ap (λ (cs : List ℕ). at.number + length cs) c.deref.ensures.value in
          (step.1, rounds_next only (lines_of bytes) so_far.0 c.args.rodeo.now at.rodeo at.counts.items at.number so_far.1 round.new.rodeo codes step.0 step.1 step.2 step.3 step.4 c.count_round.new.counts.items c.len.result c.in_ok-number.number c.len.ensures.value tally more, step.5);
      total = told.total;
      lengths = told.lengths ∙ c.len.ensures.value;
      reads = omega (arith, c.in_ok-goes_on.ensures.reads, at.invariant.reads);
    }

pub returns-clause-counted : goal.returns-clause-counted
returns-clause-counted g c = λ bytes e.
    let at = c.loop-goes_on in
    let so_far = at.invariant.known bytes e in
    let end = subst (λ b. AreLeftAfter b at.encoder at.input.left so_far.0) c.loop-goes_on-test.false so_far.2 in
    let all = rounds_end c.args.rule.only_utf8 (lines_of bytes) so_far.0 c.args.rodeo.now at.rodeo at.counts.items at.number so_far.1 end.1 c.requires.no_texts in
    all.0

pub returns-clause-interned : goal.returns-clause-interned
returns-clause-interned g c = λ bytes e.
    let at = c.loop-goes_on in
    let so_far = at.invariant.known bytes e in
    let end = subst (λ b. AreLeftAfter b at.encoder at.input.left so_far.0) c.loop-goes_on-test.false so_far.2 in
    let all = rounds_end c.args.rule.only_utf8 (lines_of bytes) so_far.0 c.args.rodeo.now at.rodeo at.counts.items at.number so_far.1 end.1 c.requires.no_texts in
    all.1
