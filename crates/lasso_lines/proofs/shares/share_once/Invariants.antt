use Rattle.std.proofs.Common.{◌≡◌, None}
use Rattle.std.specs.Prelude.{IfSome}
use Rattle.lasso_input.specs.Lines.{lines_of}
use Rattle.lasso_single.specs.Coding.{spur_at}
use Rattle.lasso_log.specs.History.{IsLegal}
use Rattle.lasso_log.specs.Views.{list_of, seen, IsSamePass}
use Rattle.lasso_lines.specs.Shares.{IsRefusedIn}
use Rattle.lasso_lines.proofs.Lowest.{AreReached}
use Rattle.lasso_lines.proofs.ShareLines.{Gathered}
use Rattle.lasso_lines.proofs.shares.share_once.Given as goal

-- if no line of the earlier workers was refused, their lines have their codes in the list that the pass has
-- seen. If one was, the history that the pass has seen explains the lowest one, and their lines before it
-- are in the list
abbrev pub invariant-loop-share : goal.invariant-loop-share
invariant-loop-share g l = record {
  same : IsSamePass l.pass l.fn.pass;
  gathered : l.lowest ≡ None → Gathered (list_of l.rodeo l.pass.notes) (lines_of l.lines) l.workers l.share l.codes.items;
  refused : IfSome l.lowest (IsRefusedIn l.rodeo.opening (seen l.pass) (lines_of l.lines));
  reached : AreReached (list_of l.rodeo l.pass.notes) (lines_of l.lines) l.workers l.share l.lowest;
  legal : IsLegal spur_at l.rodeo.opening (seen l.pass);
}
