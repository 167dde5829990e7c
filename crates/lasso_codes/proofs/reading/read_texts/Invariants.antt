use Rattle.std.proofs.Common.{ℕ, ◌≡◌, ◌-◌, ◌≤◌, List, Some}
use Rattle.lasso_single.specs.Filling.{extend}
use Rattle.lasso_single.proofs.Filled.{accepted}
use Rattle.lasso_single.specs.Coding.{spur_at}
use Rattle.lasso_codes.specs.Stages.{Reading}
use Rattle.lasso_codes.proofs.reading.read_texts.Given as goal

-- `count` texts were read and interned
abbrev pub invariant-loop-count : goal.invariant-loop-count
invariant-loop-count g l = record {
  within : l.count ≤ l.distinct;
  ahead : (bytes : List ℕ) → l.fn.input.left ≡ Some bytes → (rest : List ℕ) × (l.input.left ≡ Some rest) × Reading l.rule.only_utf8 bytes rest l.count l.rodeo;
  list : extend spur_at l.fn.rodeo l.rodeo.texts accepted l.rodeo;
  reads : l.input.failures ≡ l.fn.input.failures;
}

abbrev pub decreases-loop-count : goal.decreases-loop-count
decreases-loop-count g l = l.distinct - l.count
