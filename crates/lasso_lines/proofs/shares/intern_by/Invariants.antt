use Rattle.std.proofs.Common.{◌≡◌, length}
use Rattle.lasso_input.specs.Lines.{lines_of}
use Rattle.lasso_log.specs.Views.{list_of}
use Rattle.lasso_lines.proofs.Turns.{Worked}
use Rattle.lasso_lines.proofs.shares.intern_by.Given as goal

-- the worker's lines before those that are left have their codes in the list that the pass has seen
abbrev pub invariant-loop-line : goal.invariant-loop-line
invariant-loop-line g l = record {
  of : l.pass.of ≡ l.rodeo;
  worked : Worked (list_of l.rodeo l.pass.notes) (lines_of l.lines) (lines_of l.rest) l.worker l.workers l.next l.others l.codes.items;
}

abbrev pub decreases-loop-line : goal.decreases-loop-line
decreases-loop-line g l = length l.rest
