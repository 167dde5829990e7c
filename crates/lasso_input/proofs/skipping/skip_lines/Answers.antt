use Rattle.std.proofs.Common.{◌≡◌, ◌+◌, ◌*◌, subst, arith}
use Rattle.lasso_input.proofs.Skipped.{Passing, passing_none, passing_more, passing_block, bits_less}
use Rattle.lasso_input.proofs.skipping.skip_lines.Goals as goal

pub loop-block-init : goal.loop-block-init
loop-block-init c = record { few = omega (arith, c.if-most-eq0.false); low = omega arith; passing = passing_none c.args.bytes.now }

pub loop-bits-init : goal.loop-bits-init
loop-bits-init c =
    let i = c.loop-block.invariant in
    let marks = c.feeds_from-bits.ensures in record {
      few = i.few;
      room = omega (arith, c.loop-block-test.true);
      low = omega (arith, i.low);
      passing = i.passing;
      bits = record {
        set = λ k small low is. marks.set k small (omega arith) is;
        only = λ k one. let had = marks.only k one in (had.0, omega (arith, i.low), had.2);
      };
    }

-- the next line ends at the lowest bit
pub returns-then-count-most-clause-skipped : goal.returns-then-count-most-clause-skipped
returns-then-count-most-clause-skipped c =
    let i = c.loop-bits.invariant in
    let bit = c.lowest_bit-bit in
    (passing_more c.args.bytes.now c.loop-bits.count c.loop-bits.end (c.loop-block.block * 32) c.loop-bits.bits i.passing i.bits i.room bit.result bit.ensures.set bit.ensures.below).skipped

pub returns-then-count-most-clause-feed : goal.returns-then-count-most-clause-feed
returns-then-count-most-clause-feed c =
    let i = c.loop-bits.invariant in
    let bit = c.lowest_bit-bit in
    (passing_more c.args.bytes.now c.loop-bits.count c.loop-bits.end (c.loop-block.block * 32) c.loop-bits.bits i.passing i.bits i.room bit.result bit.ensures.set bit.ensures.below).feed

pub loop-bits-preserved : goal.loop-bits-preserved
loop-bits-preserved c =
    let i = c.loop-bits.invariant in
    let bit = c.lowest_bit-bit in
    let left = c.without_bit-bits.ensures in
    let at = c.loop-block.block * 32 in record {
      few = omega (arith, i.few, c.if-count-most.false);
      room = i.room;
      low = let only = i.bits.only bit.result bit.ensures.set in omega (arith, only.0);
      passing = passing_more c.args.bytes.now c.loop-bits.count c.loop-bits.end at c.loop-bits.bits i.passing i.bits i.room bit.result bit.ensures.set bit.ensures.below;
      bits = bits_less c.args.bytes.now c.loop-bits.count c.loop-bits.end at c.loop-bits.bits i.passing i.bits i.room bit.result c.without_bit-bits.result bit.ensures.set bit.ensures.below left.kept left.no_more left.gone;
    }

pub loop-block-preserved : goal.loop-block-preserved
loop-block-preserved c =
    let i = c.loop-bits.invariant in
    let at = c.loop-block.block * 32 in
    let next : at + 32 ≡ (c.loop-block.block + 1) * 32 = omega arith in record {
      few = i.few;
      low = omega (arith, i.low);
      passing = subst (λ n. Passing c.args.bytes.now c.loop-bits.count c.loop-bits.end n) next
          (passing_block c.args.bytes.now c.loop-bits.count c.loop-bits.end at c.loop-bits.bits i.passing i.bits i.room (omega (arith, c.loop-bits-test.false)));
    }
