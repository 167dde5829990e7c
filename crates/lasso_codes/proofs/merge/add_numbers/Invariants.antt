use Rattle.std.proofs.Common.{ℕ, ◌≡◌, ◌-◌, ◌^◌, ◌<◌, ◌≤◌, List, length, Some}
use Rattle.lasso_parts.specs.Texts.{Text}
use Rattle.lasso_single.specs.Codes.{AreCodes}
use Rattle.lasso_codes.specs.Merge.{recoded}
use Rattle.lasso_codes.specs.Stages.{EntriesAhead}
use Rattle.lasso_codes.proofs.merge.add_numbers.Given as goal

-- some entries were added, and the others follow
abbrev pub invariant-loop-count : goal.invariant-loop-count
invariant-loop-count g l = record {
  within : l.count ≤ l.header.lines;
  ahead : (list texts : List Text) → AreCodes list texts l.table → length list < 2 ^ 32
      → (bytes : List ℕ) → l.fn.input.left ≡ Some bytes → (rest : List ℕ) × (l.input.left ≡ Some rest)
      × EntriesAhead (recoded list texts) l.header.binary bytes rest l.count l.fn.numbers.items l.numbers.items;
  reads : l.input.failures ≡ l.fn.input.failures;
}

abbrev pub decreases-loop-count : goal.decreases-loop-count
decreases-loop-count g l = l.header.lines - l.count
