use Rattle.std.proofs.Common.{arith, drop}
use Rattle.std.proofs.lemmas.Grind.{common_steps}
use Rattle.lasso_lines.proofs.Known.{only_grows_then}
use Rattle.lasso_lines.proofs.Buffers.{grows_by, sends_part, cut_rest, stays_then}
use Rattle.lasso_lines.proofs.standard.Outgoing.send.Goals as goal

pub loop-self-preserved : goal.loop-self-preserved
loop-self-preserved g c =
    let w = c.loop-self.self in
    record {
      in_range = grind (arith, common_steps);
      delivered = only_grows_then _ _ _ c.loop-self.invariant.delivered (grows_by _ _ _ c.in-Ok.ensures.bytes);
      written = stays_then _ _ _ c.loop-self.invariant.written (sends_part _ _ (drop w.sent w.buffer.items) _ _ c.in-Ok.count (cut_rest w.sent c.deref.result.now w.buffer.items (grind (arith, common_steps)) c.deref.ensures.value) c.in-Ok.ensures.bytes (grind (arith, common_steps)));
    }
