use Rattle.std.proofs.Common.{◌≡◌, ◌∙◌, ◌+◌, ◌∷◌, ◌++◌, ap, drop, length, refl, sum, sym, subst, arith}
use Rattle.std.proofs.lemmas.Result.{err_from_is_err_and}
use Rattle.lasso_single.specs.Interner.{InternerView}
use Rattle.lasso_codes.specs.Limits.{IsLineFault}
use Rattle.lasso_input.specs.Lines.{lines_of}
use Rattle.lasso_codes.specs.Stages.{Counting}
use Rattle.lasso_codes.proofs.Feeds.{no_line, one_line}
use Rattle.lasso_codes.proofs.CountedLines.{counting_begins, counting_push, counting_ends, counting_interned, counting_many, counting_read_fails, counting_line_fails}
use Rattle.lasso_codes.proofs.Stretches.{left_after}
use Rattle.lasso_codes.proofs.counts.count_lines.Goals as goal

pub loop-number-init : goal.loop-number-init
loop-number-init g c = record {
  lengths = omega (arith, ap length c.requires.no_texts, ap length c.requires.no_counts);
  total = ap (λ ns. sum ns + 1) c.requires.no_counts;
  ahead = λ bytes e. (bytes, e, counting_begins bytes c.args.rule.only_utf8 c.args.rodeo.now c.args.counts.now.items c.requires.no_texts c.requires.no_counts);
  reads = refl;
}

-- a buffered line is refused or not UTF-8
pub returns-in_err-next-clause-error : goal.returns-in_err-next-clause-error
returns-in_err-next-clause-error g c =
    let p = err_from_is_err_and c.from_residual.result c.from_residual.ensures.1 in
    let at = c.loop-number in
    rw (p.1, p.2) (λ bytes e limit made.
    let ahead = at.invariant.ahead bytes e in
    let hand = c.buffered-shown.ensures.first ahead.0 ahead.1 in
    let so_far = subst (λ bs. Counting bytes bs c.args.rule.only_utf8 at.number c.args.rodeo.now at.rodeo at.counts.items) hand.1 ahead.2 in
    c.in_err-next.ensures.error bytes hand.0 limit at.input.left (subst (λ (i : InternerView). Counting bytes (c.buffered-shown.result.now ++ hand.0) c.args.rule.only_utf8 at.number i at.rodeo at.counts.items) made so_far))

pub returns-in_err-next_line-clause-error : goal.returns-in_err-next_line-clause-error
returns-in_err-next_line-clause-error g c =
    let p = err_from_is_err_and c.from_residual-in_err-next_line.result c.from_residual-in_err-next_line.ensures.1 in
    let at = c.loop-number in
    rw (p.1, p.2) (λ bytes e limit made.
    let ahead = at.invariant.ahead bytes e in
    let hand = c.buffered-shown.ensures.first ahead.0 ahead.1 in
    let shown = c.buffered-shown.result.now in
    let left = drop c.in_ok-next.used shown ++ hand.0 in
    let so_far = subst (λ bs. Counting bytes bs c.args.rule.only_utf8 at.number c.args.rodeo.now at.rodeo at.counts.items) hand.1 ahead.2 in
    let then = c.in_ok-next.ensures.counted bytes hand.0 c.args.rodeo.now so_far in
    let known = left_after _ _ _ shown hand.0 ahead.0 c.in_ok-next.used c.buffered-shown.ensures.value c.consume.ensures.left ahead.1 hand.1 in
    counting_read_fails bytes left c.args.rule.only_utf8 c.in_ok-next.next c.args.rodeo.now c.count_stretch.new.rodeo c.count_stretch.new.counts.items then limit c.consume.new.self.left c.next_line.new.input.left c.in_err-next_line.field-0.0 made known c.in_err-next_line.ensures.lost c.in_err-next_line.ensures.errors)

pub returns-then-not-branch-clause-counted : goal.returns-then-not-branch-clause-counted
returns-then-not-branch-clause-counted g c = λ bytes e.
    let at = c.loop-number in
    let ahead = at.invariant.ahead bytes e in
    let hand = c.buffered-shown.ensures.first ahead.0 ahead.1 in
    let shown = c.buffered-shown.result.now in
    let left = drop c.in_ok-next.used shown ++ hand.0 in
    let so_far = subst (λ bs. Counting bytes bs c.args.rule.only_utf8 at.number c.args.rodeo.now at.rodeo at.counts.items) hand.1 ahead.2 in
    let then = c.in_ok-next.ensures.counted bytes hand.0 c.args.rodeo.now so_far in
    let known = left_after _ _ _ shown hand.0 ahead.0 c.in_ok-next.used c.buffered-shown.ensures.value c.consume.ensures.left ahead.1 hand.1 in
    counting_ends bytes left c.args.rule.only_utf8 c.in_ok-next.next c.args.rodeo.now c.count_stretch.new.rodeo c.count_stretch.new.counts.items then (no_line _ _ c.in_ok-next_line.field-0 _ c.in_ok-next_line.ensures.taken c.if-not-branch.true left known)

pub returns-then-not-branch-clause-interned : goal.returns-then-not-branch-clause-interned
returns-then-not-branch-clause-interned g c = λ bytes e.
    let at = c.loop-number in
    let ahead = at.invariant.ahead bytes e in
    let hand = c.buffered-shown.ensures.first ahead.0 ahead.1 in
    let shown = c.buffered-shown.result.now in
    let left = drop c.in_ok-next.used shown ++ hand.0 in
    let so_far = subst (λ bs. Counting bytes bs c.args.rule.only_utf8 at.number c.args.rodeo.now at.rodeo at.counts.items) hand.1 ahead.2 in
    let then = c.in_ok-next.ensures.counted bytes hand.0 c.args.rodeo.now so_far in
    let known = left_after _ _ _ shown hand.0 ahead.0 c.in_ok-next.used c.buffered-shown.ensures.value c.consume.ensures.left ahead.1 hand.1 in
    counting_interned bytes left c.args.rule.only_utf8 c.in_ok-next.next c.args.rodeo.now c.count_stretch.new.rodeo c.count_stretch.new.counts.items then (no_line _ _ c.in_ok-next_line.field-0 _ c.in_ok-next_line.ensures.taken c.if-not-branch.true left known)

pub returns-in-Err-clause-error : goal.returns-in-Err-clause-error
returns-in-Err-clause-error g c = λ bytes e limit made.
    let at = c.loop-number in
    let ahead = at.invariant.ahead bytes e in
    let hand = c.buffered-shown.ensures.first ahead.0 ahead.1 in
    let shown = c.buffered-shown.result.now in
    let left = drop c.in_ok-next.used shown ++ hand.0 in
    let so_far = subst (λ bs. Counting bytes bs c.args.rule.only_utf8 at.number c.args.rodeo.now at.rodeo at.counts.items) hand.1 ahead.2 in
    let then = c.in_ok-next.ensures.counted bytes hand.0 c.args.rodeo.now so_far in
    let known = left_after _ _ _ shown hand.0 ahead.0 c.in_ok-next.used c.buffered-shown.ensures.value c.consume.ensures.left ahead.1 hand.1 in
    let cut = one_line _ _ c.in_ok-next_line.field-0 _ c.in_ok-next_line.ensures.taken c.if-not-branch.false left known in
    let is = subst (λ l. IsLineFault c.args.rule.only_utf8 c.count_stretch.new.rodeo l c.in_ok-next.next c.in-Err.error) (c.untested-whole.ensures ∙ c.deref.ensures.value) c.in-Err.ensures.error in
    counting_line_fails bytes left c.args.rule.only_utf8 c.in_ok-next.next c.args.rodeo.now c.count_stretch.new.rodeo c.count_stretch.new.counts.items then limit c.next_line.new.input.left c.next_line.new.line.items cut.0 c.in-Err.error made cut.2 is

pub loop-number-preserved : goal.loop-number-preserved
loop-number-preserved g c =
    let at = c.loop-number in
    record {
      lengths = c.in_default.ensures.lengths;
      total = omega (arith, c.in_default.ensures.total, c.in_ok-next.ensures.total);
      reads = omega (arith, c.in_ok-next_line.ensures.reads, c.consume.ensures.reads, at.invariant.reads);
      ahead = λ bytes e.
          let ahead = at.invariant.ahead bytes e in
          let hand = c.buffered-shown.ensures.first ahead.0 ahead.1 in
          let shown = c.buffered-shown.result.now in
          let left = drop c.in_ok-next.used shown ++ hand.0 in
          let so_far = subst (λ bs. Counting bytes bs c.args.rule.only_utf8 at.number c.args.rodeo.now at.rodeo at.counts.items) hand.1 ahead.2 in
          let then = c.in_ok-next.ensures.counted bytes hand.0 c.args.rodeo.now so_far in
          let known = left_after _ _ _ shown hand.0 ahead.0 c.in_ok-next.used c.buffered-shown.ensures.value c.consume.ensures.left ahead.1 hand.1 in
          let cut = one_line _ _ c.in_ok-next_line.field-0 _ c.in_ok-next_line.ensures.taken c.if-not-branch.false left known in
          let line_is = subst (λ l. lines_of left ≡ l ∷ lines_of cut.0) (sym (c.untested-whole.ensures ∙ c.deref.ensures.value)) cut.2 in
          let told = c.in_default.ensures in
          (cut.0, cut.1, counting_push bytes left c.args.rule.only_utf8 c.in_ok-next.next c.args.rodeo.now c.count_stretch.new.rodeo c.count_line.new.rodeo c.count_stretch.new.counts.items c.untested-whole.result cut.0 c.count_line.new.counts.items told.interned.1.0 then line_is told.interned.0 told.interned.1.1 told.counted);
    }

pub returns-clause-error : goal.returns-clause-error
returns-clause-error g c = λ bytes e limit made.
    let at = c.loop-number in
    let ahead = at.invariant.ahead bytes e in
    counting_many bytes ahead.0 c.args.rule.only_utf8 at.number c.args.rodeo.now at.rodeo at.counts.items ahead.2 limit at.input.left (omega (arith, c.loop-number-test.false))
