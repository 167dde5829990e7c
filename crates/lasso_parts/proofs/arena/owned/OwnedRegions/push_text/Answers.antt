use Rattle.std.proofs.Common.{◌∙◌, ◌<◌, length, sym, subst, List}
use Rattle.lasso_parts.specs.Bucket.{Extent}
use Rattle.lasso_parts.proofs.Regions.{blocks_set}
use Rattle.lasso_parts.proofs.arena.owned.OwnedRegions.push_text.Goals as goal

pub invariant_of-self : goal.invariant_of-self
invariant_of-self g c =
    let inside = subst (λ (v : List Extent). c.args.at < length v) (sym c.self.view_is) c.requires.in_bounds in
    c.self.invariant ∙ sym (blocks_set _ c.args.at c.index_mut-region.result.now _ c.as_bytes.result.now inside c.index_mut-region.ensures.value c.push_slice.ensures.bytes)
