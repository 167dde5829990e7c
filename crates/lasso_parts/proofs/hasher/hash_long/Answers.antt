use Rattle.std.proofs.Common.{◌≡◌, ℕ, suc, ◌+◌, ◌-◌, ◌*◌, ◌/◌, length, refl, arith}
use Rattle.lasso_parts.specs.TextHash.{after_lanes, after_long}
use Rattle.lasso_parts.proofs.hasher.hash_long.Goals as goal

pub loop-at-init : goal.loop-at-init
unfolding after_lanes
loop-at-init c = record { whole = refl; inside = omega (arith, c.requires); lanes = refl }

pub loop-at-preserved : goal.loop-at-preserved
unfolding after_lanes
loop-at-preserved c =
    let i = c.loop-at.invariant in
    let at : ℕ = c.loop-at.at in
    let whole : at ≡ 16 * (at / 16) = omega (arith, i.whole) in
    let more : (at + 16) / 16 ≡ suc (at / 16) = omega arith in
    record {
      whole = omega (arith, i.whole);
      inside = omega arith;
      lanes = rw (more, c.folded-now.ensures, c.word.ensures, c.word-in-loop-at.ensures, ← i.lanes, ← whole);
    }

pub returns : goal.returns
unfolding after_long
returns c =
    let i = c.loop-at.invariant in
    let count : (length c.args.bytes.now - 1) / 16 ≡ c.loop-at.at / 16 = omega (arith, i.whole, i.inside, c.loop-at-test.false) in
    rw (count, ← i.lanes, c.folded.ensures, c.word-2.ensures, c.word-3.ensures, c.rotate_left-last.ensures)
