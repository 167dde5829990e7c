use Rattle.std.proofs.Common.{◌≡◌, ℕ, ◌-◌, ◌/◌, ◌^◌, ◌<◌, ◌≤◌}
use Rattle.lasso_parts.specs.Index.{load_limit}
use Rattle.lasso_parts.proofs.index.table.slot_count.Given as goal

abbrev pub invariant-loop-count : goal.invariant-loop-count
invariant-loop-count l = record {
  power : (k : ℕ) × (3 ≤ k) × (l.count ≡ 2 ^ k);
  needed : 8 < l.count → load_limit (l.count / 2) < l.capacity;
}

abbrev pub decreases-loop-count : goal.decreases-loop-count
decreases-loop-count l = 2 ^ 64 - l.count
