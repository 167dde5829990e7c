use Rattle.std.proofs.Common.{ℕ, ◌≡◌, List, Some, ◌-◌, ◌^◌}
use Rattle.lasso_codes.specs.Streams.{Writes}
use Rattle.lasso_codes.specs.Stages.{OnTheWay}
use Rattle.lasso_codes.proofs.distinct.write_distinct.Given as goal

-- the lines before this number were read, and the distinct ones written
abbrev pub invariant-loop-number : goal.invariant-loop-number
invariant-loop-number g l = record {
  ahead : (bytes : List ℕ) → l.fn.input.left ≡ Some bytes → (rest : List ℕ) × (l.input.left ≡ Some rest)
      × Writes l.fn.output.written l.output.written (OnTheWay bytes l.fn.rule.only_utf8 l.fn.limits rest l.number l.rodeo);
  reads : l.input.failures ≡ l.fn.input.failures;
  writes : l.output.failures ≡ l.fn.output.failures;
  gone : l.output.gone ≡ l.fn.output.gone;
}

abbrev pub decreases-loop-number : goal.decreases-loop-number
decreases-loop-number g l = 2 ^ 64 - 1 - l.number
