use Rattle.std.proofs.Common.{◌≡◌, ◌∙◌, ◌+◌, ◌<◌, [], ◌++◌, Ok, drop, inl, subst, arith}
use Rattle.std.proofs.lemmas.Result.{err_from_is_err_and}
use Rattle.lasso_single.specs.Filling.{extend}
use Rattle.lasso_single.specs.Interner.{InternerView}
use Rattle.lasso_single.proofs.Filled.{accepted}
use Rattle.lasso_single.specs.Coding.{spur_at}
use Rattle.lasso_codes.specs.Stages.{Reading}
use Rattle.lasso_codes.specs.Reading.{AddError, AddsText, texts_from}
use Rattle.lasso_codes.specs.declared.input.Cut.TheVariants.{Whole}
use Rattle.lasso_codes.proofs.Cuts.{texts_cut}
use Rattle.lasso_codes.proofs.Feeds.{cut_as, no_cut}
use Rattle.lasso_codes.proofs.ReadTexts.{reading_push, reading_misses, reading_fails, adds_more}
use Rattle.lasso_codes.proofs.Stretches.{left_after}
use Rattle.lasso_codes.proofs.reading.read_texts.Goals as goal

-- a buffered text is bad
pub returns-in_err-next-clause-error : goal.returns-in_err-next-clause-error
returns-in_err-next-clause-error g c =
    let p = err_from_is_err_and c.from_residual.result c.from_residual.ensures.1 in
    let at = c.loop-count in
    rw (p.1, p.2) (λ bytes e limit made.
    let ahead = at.invariant.ahead bytes e in
    let hand = c.buffered-shown.ensures.first ahead.0 ahead.1 in
    let so_far = subst (λ bs. Reading c.args.rule.only_utf8 bytes bs at.count at.rodeo) hand.1 ahead.2 in
    let list = subst (λ (i : InternerView). extend spur_at i at.rodeo.texts accepted at.rodeo) made at.invariant.list in
    c.in_err-next.ensures.error bytes hand.0 limit at.input.left so_far list)

pub returns-in_err-next_whole_line-clause-error : goal.returns-in_err-next_whole_line-clause-error
returns-in_err-next_whole_line-clause-error g c =
    let p = err_from_is_err_and c.from_residual-in_err-next_whole_line.result c.from_residual-in_err-next_whole_line.ensures.1 in
    let at = c.loop-count in
    let next = c.in_ok-next.next in
    rw (p.1, p.2) (λ bytes e limit made.
    let ahead = at.invariant.ahead bytes e in
    let shown = c.buffered-shown.result.now in
    let hand = c.buffered-shown.ensures.first ahead.0 ahead.1 in
    let so_far = subst (λ bs. Reading c.args.rule.only_utf8 bytes bs at.count at.rodeo) hand.1 ahead.2 in
    let then = c.in_ok-next.ensures.added bytes hand.0 so_far in
    let left = drop c.in_ok-next.used shown ++ hand.0 in
    let known = left_after _ _ _ shown hand.0 ahead.0 c.in_ok-next.used c.buffered-shown.ensures.value c.consume.ensures.left ahead.1 hand.1 in
    let small : next < c.args.distinct = omega (arith, c.in_ok-next.ensures.more, c.if-next-distinct.false) in
    let now = c.add_texts.new.rodeo in
    let list = subst (λ (i : InternerView). extend spur_at i now.texts accepted now) made (c.in_ok-next.ensures.list c.args.rodeo.now at.invariant.list) in
    inl (c.in_err-next_whole_line.ensures.errors, texts_cut c.args.rule.only_utf8 bytes left next c.args.distinct now limit c.next_whole_line.new.input.left small then list (c.in_err-next_whole_line.ensures.lost left known)))

-- the last text is in the buffer
pub returns-then-next-distinct-clause-taken : goal.returns-then-next-distinct-clause-taken
returns-then-next-distinct-clause-taken g c = λ bytes e.
    let at = c.loop-count in
    let ahead = at.invariant.ahead bytes e in
    let shown = c.buffered-shown.result.now in
    let hand = c.buffered-shown.ensures.first ahead.0 ahead.1 in
    let so_far = subst (λ bs. Reading c.args.rule.only_utf8 bytes bs at.count at.rodeo) hand.1 ahead.2 in
    let then = c.in_ok-next.ensures.added bytes hand.0 so_far in
    let left = drop c.in_ok-next.used shown ++ hand.0 in
    let known = left_after _ _ _ shown hand.0 ahead.0 c.in_ok-next.used c.buffered-shown.ensures.value c.consume.ensures.left ahead.1 hand.1 in
    (left, known, (then.done, subst (λ n. texts_from c.args.rule.only_utf8 n [] bytes ≡ Ok (then.done, left)) c.if-next-distinct.true then.read, then.are_bytes, then.texts))

pub returns-then-next-distinct-clause-list : goal.returns-then-next-distinct-clause-list
returns-then-next-distinct-clause-list g c = c.in_ok-next.ensures.list c.args.rodeo.now c.loop-count.invariant.list

pub returns-in-Err-clause-error : goal.returns-in-Err-clause-error
returns-in-Err-clause-error g c = λ bytes e limit made.
    let at = c.loop-count in
    let next = c.in_ok-next.next in
    let ahead = at.invariant.ahead bytes e in
    let shown = c.buffered-shown.result.now in
    let hand = c.buffered-shown.ensures.first ahead.0 ahead.1 in
    let so_far = subst (λ bs. Reading c.args.rule.only_utf8 bytes bs at.count at.rodeo) hand.1 ahead.2 in
    let then = c.in_ok-next.ensures.added bytes hand.0 so_far in
    let left = drop c.in_ok-next.used shown ++ hand.0 in
    let known = left_after _ _ _ shown hand.0 ahead.0 c.in_ok-next.used c.buffered-shown.ensures.value c.consume.ensures.left ahead.1 hand.1 in
    let small : next < c.args.distinct = omega (arith, c.in_ok-next.ensures.more, c.if-next-distinct.false) in
    let now = c.add_texts.new.rodeo in
    let line = c.next_whole_line.new.line.items in
    let cut = cut_as _ _ c.in_ok-next_whole_line.field-0 Whole line c.in_ok-next_whole_line.ensures.taken c.in-Whole.is left known in
    let list = subst (λ (i : InternerView). extend spur_at i now.texts accepted now) made (c.in_ok-next.ensures.list c.args.rodeo.now at.invariant.list) in
    let error = subst (λ l. AddError c.args.rule.only_utf8 now l (next + 1) c.in-Err.error) (c.untested-whole.ensures ∙ c.deref.ensures.value) c.in-Err.ensures in
    reading_fails c.args.rule.only_utf8 bytes left next c.args.distinct now small then limit c.args.column c.next_whole_line.new.input.left line cut.0 c.in-Err.error list cut.2 error

pub returns-in-Part : goal.returns-in-Part
returns-in-Part g c = record {
  taken = tt;
  list = tt;
  faults = tt;
  reads = omega (arith, c.in_ok-next_whole_line.ensures.reads, c.consume.ensures.reads, c.loop-count.invariant.reads);
  error = λ bytes e limit made.
      let at = c.loop-count in
      let next = c.in_ok-next.next in
      let ahead = at.invariant.ahead bytes e in
      let shown = c.buffered-shown.result.now in
      let hand = c.buffered-shown.ensures.first ahead.0 ahead.1 in
      let so_far = subst (λ bs. Reading c.args.rule.only_utf8 bytes bs at.count at.rodeo) hand.1 ahead.2 in
      let then = c.in_ok-next.ensures.added bytes hand.0 so_far in
      let left = drop c.in_ok-next.used shown ++ hand.0 in
      let known = left_after _ _ _ shown hand.0 ahead.0 c.in_ok-next.used c.buffered-shown.ensures.value c.consume.ensures.left ahead.1 hand.1 in
      let small : next < c.args.distinct = omega (arith, c.in_ok-next.ensures.more, c.if-next-distinct.false) in
      let none = no_cut _ _ c.in_ok-next_whole_line.field-0 c.next_whole_line.new.line.items c.in_ok-next_whole_line.ensures.taken c.in-Part.is left known in
      let now = c.add_texts.new.rodeo in
      let list = subst (λ (i : InternerView). extend spur_at i now.texts accepted now) made (c.in_ok-next.ensures.list c.args.rodeo.now at.invariant.list) in
      reading_misses c.args.rule.only_utf8 bytes left next c.args.distinct now small then limit c.args.column c.next_whole_line.new.input.left list none.1;
}

pub loop-count-preserved : goal.loop-count-preserved
loop-count-preserved g c =
    let at = c.loop-count in
    let next = c.in_ok-next.next in
    let small : next < c.args.distinct = omega (arith, c.in_ok-next.ensures.more, c.if-next-distinct.false) in
    let now = c.add_texts.new.rodeo in
    let after = c.add_text.new.rodeo in
    let line = c.next_whole_line.new.line.items in
    let adds = subst (λ l. AddsText c.args.rule.only_utf8 now l after) (c.untested-whole.ensures ∙ c.deref.ensures.value) c.in_default.ensures in
    record {
      within = omega (arith, small);
      reads = omega (arith, c.in_ok-next_whole_line.ensures.reads, c.consume.ensures.reads, at.invariant.reads);
      ahead = λ bytes e.
          let ahead = at.invariant.ahead bytes e in
          let shown = c.buffered-shown.result.now in
          let hand = c.buffered-shown.ensures.first ahead.0 ahead.1 in
          let so_far = subst (λ bs. Reading c.args.rule.only_utf8 bytes bs at.count at.rodeo) hand.1 ahead.2 in
          let then = c.in_ok-next.ensures.added bytes hand.0 so_far in
          let left = drop c.in_ok-next.used shown ++ hand.0 in
          let known = left_after _ _ _ shown hand.0 ahead.0 c.in_ok-next.used c.buffered-shown.ensures.value c.consume.ensures.left ahead.1 hand.1 in
          let cut = cut_as _ _ c.in_ok-next_whole_line.field-0 Whole line c.in_ok-next_whole_line.ensures.taken c.in-Whole.is left known in
          (cut.0, cut.1, reading_push c.args.rule.only_utf8 bytes left next c.args.distinct now small then line cut.0 after cut.2 adds);
      list = adds_more c.args.rule.only_utf8 c.args.rodeo.now now after line (c.in_ok-next.ensures.list c.args.rodeo.now at.invariant.list) adds;
    }

pub returns-clause-taken : goal.returns-clause-taken
returns-clause-taken g c = λ bytes e.
    let at = c.loop-count in
    let ahead = at.invariant.ahead bytes e in
    let all : at.count ≡ c.args.distinct = omega (arith, c.loop-count-test.false, at.invariant.within) in
    (ahead.0, ahead.1, (ahead.2.done, subst (λ n. texts_from c.args.rule.only_utf8 n [] bytes ≡ Ok (ahead.2.done, ahead.0)) all ahead.2.read, ahead.2.are_bytes, ahead.2.texts))
