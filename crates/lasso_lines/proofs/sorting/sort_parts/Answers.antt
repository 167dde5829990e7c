use Rattle.std.proofs.Common.{arith, subst}
use Rattle.std.specs.Prelude.{IsPermutation}
use Rattle.std.specs.Fork.{slice_chunk}
use Rattle.lasso_lines.proofs.Parts.{PartsMove, parts_move}
use Rattle.lasso_lines.proofs.sorting.sort_parts.Goals as goal

pub returns : goal.returns
returns g c =
    let xs = c.args.texts.now in
    let ys = c.for_each_chunk_mut.new.s in
    let size = c.max-size.result in
    let part : PartsMove size xs ys = λ n small.
    let at = c.for_each_chunk_mut.ensures.chunks n small in
    subst (λ zs. IsPermutation (slice_chunk xs size n) zs) at.left (subst (λ zs. IsPermutation zs at.after_call.now) at.argument_is at.call) in
    parts_move size xs ys (c.for_each_chunk_mut.auto.s) part (omega (arith, c.max-size.ensures))
