-- The mask has a bit for each byte that was compared with a line feed.
use Rattle.std.proofs.Common.{eqb, sym, subst, w8, arith}
use Rattle.std.proofs.lemmas.Simd.{bitmask_splat, length-chunk}
use Rattle.std.specs.Simd.Lanes.{chunk}
use Rattle.lasso_input.specs.Skipping.{FeedBits}
use Rattle.lasso_input.proofs.Skipped.{feed_bits}
use Rattle.lasso_input.proofs.skipping.feeds_from.Goals as goal

pub returns : goal.returns
returns c =
    let bytes = c.args.bytes.now in
    let at = c.args.at in
    let mask = bitmask_splat w8 eqb (chunk at 32 bytes) 32 10 (length-chunk at 32 bytes c.requires) (omega arith) in
    subst (FeedBits bytes at at) (sym mask) (feed_bits bytes at c.requires)
