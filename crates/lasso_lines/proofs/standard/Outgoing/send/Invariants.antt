use Rattle.std.proofs.Common.{◌-◌, ◌≤◌, length}
use Rattle.lasso_lines.specs.Stream.{OnlyGrows, Stays, taken}
use Rattle.lasso_lines.proofs.standard.Outgoing.send.Given as goal

abbrev pub invariant-loop-self : goal.invariant-loop-self
invariant-loop-self g l =
    let W = g.W.Write in
    record {
      in_range : l.self.sent ≤ length l.self.buffer.items;
      delivered : OnlyGrows (W.contents l.fn.self.inner) (W.contents l.self.inner);
      written : Stays (taken W.contents l.fn.self.inner l.fn.self.sent l.fn.self.buffer) (taken W.contents l.self.inner l.self.sent l.self.buffer);
    }

abbrev pub decreases-loop-self : goal.decreases-loop-self
decreases-loop-self g l = length l.self.buffer.items - l.self.sent
