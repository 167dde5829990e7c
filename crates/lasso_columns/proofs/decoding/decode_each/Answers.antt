use Rattle.std.proofs.Common.{◌≡◌, ◌<◌, ◌++◌, ◌∷◌, List, [], Bor, length, take, get_or, Some, IsSomeAnd, sym, subst, arith, vec_len}
use Rattle.std.specs.Prelude.{slice_get}
use Rattle.std.proofs.lemmas.Option.{slice_get-get_or, slice_get_past}
use Rattle.lasso_parts.specs.Texts.{Text}
use Rattle.lasso_single.specs.Codes.{AddsTexts}
use Rattle.lasso_columns.proofs.Decoded.{none_decoded, one_decoded, decoded_length, count_is, decoded_told, push_failed, push_done}
use Rattle.lasso_columns.proofs.decoding.decode_each.Goals as goal

pub loop-position-init : goal.loop-position-init
loop-position-init g c =
    subst (λ (ts : List (Bor Text)). AddsTexts c.args.reader.now (take 0 c.args.codes.now) c.args.out.now.items ts) (sym c.reserve.ensures.items) (none_decoded c.args.reader.now c.args.codes.now c.args.out.now.items)

pub returns-then-code-count-clause-texts : goal.returns-then-code-count-clause-texts
returns-then-code-count-clause-texts g c =
    let at = c.loop-position in
    decoded_told c.args.reader.now c.args.codes.now at.position c.args.out.now.items at.out.items (vec_len at.out) (vec_len c.args.out.now) at.invariant at.auto.position-end at.out.ok.0 c.args.out.now.ok.0

pub returns-then-code-count-clause-fault : goal.returns-then-code-count-clause-fault
returns-then-code-count-clause-fault g c =
    let at = c.loop-position in
    let codes = c.args.codes.now in
    let code = get_or codes at.position 0 in
    let same = count_is c.args.reader.now codes at.position c.args.out.now.items at.out.items (vec_len at.out) (vec_len c.args.out.now) at.invariant at.auto.position-end at.out.ok.0 c.args.out.now.ok.0 in
    let there = slice_get-get_or codes at.position 0 c.loop-position-test.true in (
      sym same,
      subst (λ m. slice_get codes m ≡ Some code) (sym same) there,
      slice_get_past c.args.reader.now code (omega (arith, c.if-code-count.true, c.len-count.ensures.value)),
    )

pub returns-then-is_err-clause-texts : goal.returns-then-is_err-clause-texts
returns-then-is_err-clause-texts g c =
    let at = c.loop-position in
    let new = c.push.new.self in
    let kept = push_failed c.push.result c.is_err.result at.out.items (at.out.items ++ c.text_at.result ∷ []) new.items c.push.ensures.items c.is_err.ensures.negation c.if-is_err.true in
    let added = subst (λ (ts : List (Bor Text)). AddsTexts c.args.reader.now (take at.position c.args.codes.now) c.args.out.now.items ts) (sym kept) at.invariant in
    decoded_told c.args.reader.now c.args.codes.now at.position c.args.out.now.items new.items (vec_len new) (vec_len c.args.out.now) added at.auto.position-end new.ok.0 c.args.out.now.ok.0

pub returns-then-is_err-clause-fault : goal.returns-then-is_err-clause-fault
returns-then-is_err-clause-fault g c =
    let at = c.loop-position in
    let codes = c.args.codes.now in
    let list = c.args.reader.now in
    let new = c.push.new.self in
    let kept = push_failed c.push.result c.is_err.result at.out.items (at.out.items ++ c.text_at.result ∷ []) new.items c.push.ensures.items c.is_err.ensures.negation c.if-is_err.true in
    let added = subst (λ (ts : List (Bor Text)). AddsTexts list (take at.position codes) c.args.out.now.items ts) (sym kept) at.invariant in
    let same = count_is list codes at.position c.args.out.now.items new.items (vec_len new) (vec_len c.args.out.now) added at.auto.position-end new.ok.0 c.args.out.now.ok.0 in
    let there = slice_get-get_or codes at.position 0 c.loop-position-test.true in
    let below : get_or codes at.position 0 < length list = omega (arith, c.if-code-count.false, c.len-count.ensures.value) in
    subst (λ m. IsSomeAnd (slice_get codes m) (λ code. code < length list)) (sym same) (subst (λ o. IsSomeAnd o (λ code. code < length list)) (sym there) below)

pub loop-position-preserved : goal.loop-position-preserved
loop-position-preserved g c =
    let at = c.loop-position in
    let new = c.push.new.self in
    let pushed = push_done c.push.result c.is_err.result at.out.items (at.out.items ++ c.text_at.result ∷ []) new.items c.push.ensures.items c.is_err.ensures.negation c.if-is_err.false in
    one_decoded c.args.reader.now c.args.codes.now at.position c.args.out.now.items at.out.items new.items c.text_at.result at.invariant c.loop-position-test.true c.text_at.ensures pushed

pub returns-clause-texts : goal.returns-clause-texts
returns-clause-texts g c =
    let at = c.loop-position in
    decoded_told c.args.reader.now c.args.codes.now at.position c.args.out.now.items at.out.items (vec_len at.out) (vec_len c.args.out.now) at.invariant at.auto.position-end at.out.ok.0 c.args.out.now.ok.0

pub returns-clause-whole : goal.returns-clause-whole
returns-clause-whole g c =
    let at = c.loop-position in
    omega (arith, decoded_length c.args.reader.now c.args.codes.now at.position c.args.out.now.items at.out.items at.invariant at.auto.position-end, at.out.ok.0, c.args.out.now.ok.0, c.loop-position-test.false, at.auto.position-end)
