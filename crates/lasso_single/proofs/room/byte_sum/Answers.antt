use Rattle.std.proofs.Common.{◌≡◌, ◌+◌, ◌<◌, ◌^◌, length, take, ap, arith}
use Rattle.std.proofs.lemmas.List.{take_all}
use Rattle.std.proofs.lemmas.List.Sums.{sum_by-take-le}
use Rattle.lasso_parts.specs.Texts.{Text}
use Rattle.lasso_single.specs.Copies.{bytes_of}
use Rattle.lasso_single.proofs.Copied.{bytes_more_at}
use Rattle.lasso_single.proofs.room.byte_sum.Goals as goal

pub returns-in_err-bytes : goal.returns-in_err-bytes
returns-in_err-bytes g c =
    let texts = g.T.Texts.list c.args.texts.now in
    let i = c.loop-position.position in
    let more = bytes_more_at texts i c.text_at.result.now c.text_at.ensures in
    let all = sum_by-take-le (λ (t : Text). length t) texts (i + 1) in
    rw c.from_residual.ensures (λ small. c.in_err-bytes.ensures (omega (arith, c.loop-position.invariant.0)))

pub loop-position-preserved : goal.loop-position-preserved
loop-position-preserved g c =
    let texts = g.T.Texts.list c.args.texts.now in
    let i = c.loop-position.position in
    let more = bytes_more_at texts i c.text_at.result.now c.text_at.ensures in
    let sum : c.in_ok-bytes.bytes ≡ bytes_of (take (i + 1) texts) = omega (arith, c.loop-position.invariant.0, c.in_ok-bytes.ensures) in
    let fits : c.in_ok-bytes.bytes < 2 ^ 64 = omega (arith, c.in_ok-bytes.ensures) in
    (sum, fits)

pub returns : goal.returns
returns g c =
    let texts = g.T.Texts.list c.args.texts.now in
    let full = ap bytes_of (take_all c.loop-position.position texts (omega (arith, c.requires))) in
    let sum : c.loop-position.bytes ≡ bytes_of texts = omega (arith, full, c.loop-position.invariant.0) in
    (omega (arith, c.loop-position.invariant.1), sum)
