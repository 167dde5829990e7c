use Rattle.std.proofs.Common.{ℕ, ◌≡◌, List, ◌++◌, Option}
use Rattle.lasso_input.proofs.Remaining.{IsEndOf}
use Rattle.lasso_codes.specs.Stages.{OnTheWay}
use Rattle.lasso_codes.specs.Streams.{Writes}
use Rattle.lasso_codes.proofs.distinct.pass_stretch.Given as goal

-- the lines before this number were interned and written if new, and the bytes after them are left
abbrev pub invariant-loop-number : goal.invariant-loop-number
invariant-loop-number g l = record {
  end : IsEndOf l.lines l.fn.stretch;
  passed : (input later : List ℕ) (limit : ℕ) (before : Option (List ℕ)) → Writes before l.fn.output.written (OnTheWay input l.fn.rule.only_utf8 limit (l.fn.stretch ++ later) l.fn.first l.fn.rodeo) → Writes before l.output.written (OnTheWay input l.fn.rule.only_utf8 limit (l.lines ++ later) l.number l.rodeo);
  writes : l.output.failures ≡ l.fn.output.failures;
  gone : l.output.gone ≡ l.fn.output.gone;
}
