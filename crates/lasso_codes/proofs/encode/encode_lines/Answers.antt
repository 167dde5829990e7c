use Rattle.std.proofs.Common.{◌≡◌, ◌∙◌, ◌∷◌, ◌++◌, drop, sym, subst, arith}
use Rattle.std.proofs.lemmas.Result.{err_from_is_err_and}
use Rattle.lasso_single.specs.Interner.{InternerView}
use Rattle.lasso_codes.specs.Limits.{IsLineFault}
use Rattle.lasso_input.specs.Lines.{lines_of}
use Rattle.lasso_columns.specs.Rows.{word_of}
use Rattle.lasso_codes.specs.Encode.{IsNoNull}
use Rattle.lasso_codes.specs.Stages.{Encoding}
use Rattle.lasso_codes.proofs.Feeds.{no_line, one_line}
use Rattle.lasso_codes.proofs.EncodedLines.{encoding_push, encoding_ends, encoding_interned, encoding_many, encoding_read_fails, encoding_line_fails}
use Rattle.lasso_codes.proofs.Stretches.{left_after}
use Rattle.lasso_codes.proofs.encode.encode_lines.Goals as goal

-- a buffered line is refused or not UTF-8
pub returns-in_err-next-clause-error : goal.returns-in_err-next-clause-error
returns-in_err-next-clause-error g c =
    let p = err_from_is_err_and c.from_residual.result c.from_residual.ensures.1 in
    let at = c.loop-number in
    let null = word_of c.args.null in
    rw (p.1, p.2) (λ bytes e limit made.
    let ahead = at.invariant.ahead bytes e in
    let hand = c.buffered-shown.ensures.first ahead.0 ahead.1 in
    let so_far = subst (λ bs. Encoding bytes bs c.args.rule.only_utf8 at.number null c.args.rodeo.now at.rodeo at.numbers.items) hand.1 ahead.2 in
    c.in_err-next.ensures.error bytes hand.0 limit at.input.left (subst (λ (i : InternerView). Encoding bytes (c.buffered-shown.result.now ++ hand.0) c.args.rule.only_utf8 at.number null i at.rodeo at.numbers.items) made so_far))

pub returns-in_err-next_line-clause-error : goal.returns-in_err-next_line-clause-error
returns-in_err-next_line-clause-error g c =
    let p = err_from_is_err_and c.from_residual-in_err-next_line.result c.from_residual-in_err-next_line.ensures.1 in
    let at = c.loop-number in
    let null = word_of c.args.null in
    rw (p.1, p.2) (λ bytes e limit made.
    let ahead = at.invariant.ahead bytes e in
    let hand = c.buffered-shown.ensures.first ahead.0 ahead.1 in
    let shown = c.buffered-shown.result.now in
    let left = drop c.in_ok-next.used shown ++ hand.0 in
    let so_far = subst (λ bs. Encoding bytes bs c.args.rule.only_utf8 at.number null c.args.rodeo.now at.rodeo at.numbers.items) hand.1 ahead.2 in
    let then = c.in_ok-next.ensures.numbered bytes hand.0 c.args.rodeo.now so_far in
    let known = left_after _ _ _ shown hand.0 ahead.0 c.in_ok-next.used c.buffered-shown.ensures.value c.consume.ensures.left ahead.1 hand.1 in
    encoding_read_fails bytes left c.args.rule.only_utf8 c.in_ok-next.next null c.args.rodeo.now c.encode_stretch.new.rodeo c.encode_stretch.new.numbers.items then limit c.consume.new.self.left c.next_line.new.input.left c.in_err-next_line.field-0.0 made known c.in_err-next_line.ensures.lost c.in_err-next_line.ensures.errors)

pub returns-then-not-branch-clause-numbered : goal.returns-then-not-branch-clause-numbered
returns-then-not-branch-clause-numbered g c = λ bytes e.
    let at = c.loop-number in
    let null = word_of c.args.null in
    let ahead = at.invariant.ahead bytes e in
    let hand = c.buffered-shown.ensures.first ahead.0 ahead.1 in
    let shown = c.buffered-shown.result.now in
    let left = drop c.in_ok-next.used shown ++ hand.0 in
    let so_far = subst (λ bs. Encoding bytes bs c.args.rule.only_utf8 at.number null c.args.rodeo.now at.rodeo at.numbers.items) hand.1 ahead.2 in
    let then = c.in_ok-next.ensures.numbered bytes hand.0 c.args.rodeo.now so_far in
    let known = left_after _ _ _ shown hand.0 ahead.0 c.in_ok-next.used c.buffered-shown.ensures.value c.consume.ensures.left ahead.1 hand.1 in
    encoding_ends bytes left c.args.rule.only_utf8 c.in_ok-next.next null c.args.rodeo.now c.encode_stretch.new.rodeo c.encode_stretch.new.numbers.items then c.requires.no_texts (no_line _ _ c.in_ok-next_line.field-0 _ c.in_ok-next_line.ensures.taken c.if-not-branch.true left known)

pub returns-then-not-branch-clause-interned : goal.returns-then-not-branch-clause-interned
returns-then-not-branch-clause-interned g c = λ bytes e.
    let at = c.loop-number in
    let null = word_of c.args.null in
    let ahead = at.invariant.ahead bytes e in
    let hand = c.buffered-shown.ensures.first ahead.0 ahead.1 in
    let shown = c.buffered-shown.result.now in
    let left = drop c.in_ok-next.used shown ++ hand.0 in
    let so_far = subst (λ bs. Encoding bytes bs c.args.rule.only_utf8 at.number null c.args.rodeo.now at.rodeo at.numbers.items) hand.1 ahead.2 in
    let then = c.in_ok-next.ensures.numbered bytes hand.0 c.args.rodeo.now so_far in
    let known = left_after _ _ _ shown hand.0 ahead.0 c.in_ok-next.used c.buffered-shown.ensures.value c.consume.ensures.left ahead.1 hand.1 in
    encoding_interned bytes left c.args.rule.only_utf8 c.in_ok-next.next null c.args.rodeo.now c.encode_stretch.new.rodeo c.encode_stretch.new.numbers.items then (no_line _ _ c.in_ok-next_line.field-0 _ c.in_ok-next_line.ensures.taken c.if-not-branch.true left known)

pub returns-in-Err-clause-error : goal.returns-in-Err-clause-error
returns-in-Err-clause-error g c = λ bytes e limit made.
    let at = c.loop-number in
    let null = word_of c.args.null in
    let ahead = at.invariant.ahead bytes e in
    let hand = c.buffered-shown.ensures.first ahead.0 ahead.1 in
    let shown = c.buffered-shown.result.now in
    let left = drop c.in_ok-next.used shown ++ hand.0 in
    let so_far = subst (λ bs. Encoding bytes bs c.args.rule.only_utf8 at.number null c.args.rodeo.now at.rodeo at.numbers.items) hand.1 ahead.2 in
    let then = c.in_ok-next.ensures.numbered bytes hand.0 c.args.rodeo.now so_far in
    let known = left_after _ _ _ shown hand.0 ahead.0 c.in_ok-next.used c.buffered-shown.ensures.value c.consume.ensures.left ahead.1 hand.1 in
    let cut = one_line _ _ c.in_ok-next_line.field-0 _ c.in_ok-next_line.ensures.taken c.if-not-branch.false left known in
    let is = subst (λ l. IsLineFault c.args.rule.only_utf8 c.encode_stretch.new.rodeo l c.in_ok-next.next c.in-Err.error) (c.untested-whole.ensures ∙ c.deref.ensures.value) c.in-Err.ensures.error in
    let no_null = subst (λ l. IsNoNull null l c.in-Err.error) (c.untested-whole.ensures ∙ c.deref.ensures.value) c.in-Err.ensures.null in
    encoding_line_fails bytes left c.args.rule.only_utf8 c.in_ok-next.next null c.args.rodeo.now c.encode_stretch.new.rodeo c.encode_stretch.new.numbers.items then limit c.next_line.new.input.left c.next_line.new.line.items cut.0 c.in-Err.error made cut.2 is no_null

pub loop-number-preserved : goal.loop-number-preserved
loop-number-preserved g c =
    let at = c.loop-number in
    record {
      reads = omega (arith, c.in_ok-next_line.ensures.reads, c.consume.ensures.reads, at.invariant.reads);
      ahead = λ bytes e.
          let null = word_of c.args.null in
          let ahead = at.invariant.ahead bytes e in
          let hand = c.buffered-shown.ensures.first ahead.0 ahead.1 in
          let shown = c.buffered-shown.result.now in
          let left = drop c.in_ok-next.used shown ++ hand.0 in
          let so_far = subst (λ bs. Encoding bytes bs c.args.rule.only_utf8 at.number null c.args.rodeo.now at.rodeo at.numbers.items) hand.1 ahead.2 in
          let then = c.in_ok-next.ensures.numbered bytes hand.0 c.args.rodeo.now so_far in
          let known = left_after _ _ _ shown hand.0 ahead.0 c.in_ok-next.used c.buffered-shown.ensures.value c.consume.ensures.left ahead.1 hand.1 in
          let cut = one_line _ _ c.in_ok-next_line.field-0 _ c.in_ok-next_line.ensures.taken c.if-not-branch.false left known in
          let line_is = subst (λ l. lines_of left ≡ l ∷ lines_of cut.0) (sym (c.untested-whole.ensures ∙ c.deref.ensures.value)) cut.2 in
          let told = c.in_default.ensures.numbered in
          (cut.0, cut.1, encoding_push bytes left c.args.rule.only_utf8 c.in_ok-next.next null c.args.rodeo.now c.encode_stretch.new.rodeo c.encode_line.new.rodeo c.encode_stretch.new.numbers.items c.untested-whole.result cut.0 told.1.0 c.encode_line.new.numbers.items then line_is told.0 told.1.1 told.1.2);
    }

pub returns-clause-error : goal.returns-clause-error
returns-clause-error g c = λ bytes e limit made.
    let at = c.loop-number in
    let ahead = at.invariant.ahead bytes e in
    encoding_many bytes ahead.0 c.args.rule.only_utf8 at.number (word_of c.args.null) c.args.rodeo.now at.rodeo at.numbers.items ahead.2 limit at.input.left (omega (arith, c.loop-number-test.false))
