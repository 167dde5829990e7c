use Rattle.std.proofs.Common.{◌∙◌, ◌<◌, List, map, sym, ap, length, arith}
use Rattle.std.specs.List.{swap}
use Rattle.std.proofs.lemmas.List.Edits.{length-swap}
use Rattle.lasso_parts.specs.Bucket.{Block, Extent, block_of}
use Rattle.lasso_parts.proofs.Gathered.{gathered_more, gathered_pass, read_is, swap_blocks}
use Rattle.lasso_parts.proofs.arena.owned.gather_kept.Goals.{then-last-capacity+then-capacity-last, else-last-capacity, else-last-capacity-via-then-last-capacity+else-capacity-last, else-last-capacity-via-else-last-capacity}
use Rattle.lasso_parts.proofs.arena.owned.gather_kept.Goals as goal

pub loop-at-preserved : goal.loop-at-preserved
loop-at-preserved g c =
    let ys = c.loop-at.regions.items in
    let at = c.loop-at.at in
    let k = c.loop-at.kept in
    let i = c.loop-at.invariant in
    let inside : at < length ys = omega (arith, c.loop-at-test.true, i.same) in
    let here = ap (λ (r : Extent). r.capacity) (read_is ys at c.index-in-loop-at.result.now inside c.index-in-loop-at.ensures) in
    let size = c.capacity-capacity.ensures in
    elim c.if-last-capacity.branch [
      | then-last-capacity+then-capacity-last w ↦ rw (w.regions-is, w.rights-is, w.kept-is, w.last-is) (record {
        joined = w.swap-then-capacity-last.ensures.items ∙ ap (λ (l : List Block). swap l k at) i.joined ∙ sym (swap_blocks ys k at (omega (arith, i.count, inside)) inside) ∙ ap (map block_of) (sym w.swap.ensures.items);
        count = omega (arith, i.count);
        same = ap length w.swap.ensures.items ∙ length-swap ys k at ∙ i.same;
        kept = gathered_more ys w.swap.new.self.items k c.loop-at.last c.capacity-capacity.result at i.count inside (size ∙ here) (omega (arith, w.if-last-capacity.true, w.if-capacity-last.true)) w.swap.ensures.items ∙ i.kept;
      })
      | else-last-capacity w ↦ rw (w.regions-is, w.rights-is, w.kept-is, w.last-is) (record {
        joined = i.joined;
        count = omega (arith, i.count);
        same = i.same;
        kept = gathered_pass ys k c.loop-at.last at inside (λ e. elim w.else-last-capacity.branch [
          | else-last-capacity-via-then-last-capacity+else-capacity-last v ↦ omega (arith, e, size, here, v.if-last-capacity.true, v.if-capacity-last.false)
          | else-last-capacity-via-else-last-capacity v ↦ omega (arith, e, size, here, v.if-last-capacity.false)
        ]) ∙ i.kept;
      })
    ]
