use Rattle.std.specs.Prelude.{◌≡◌, ◌-◌, ◌/◌, ◌%◌, ◌<◌}
use Rattle.lasso_parts.specs.TextHash.{after_lanes}
use Rattle.lasso_parts.proofs.hasher.hash_long.Given as goal

abbrev pub invariant-loop-at : goal.invariant-loop-at
invariant-loop-at l = record {
  whole : l.at % 16 ≡ 0;
  inside : l.at < l.len;
  lanes : l.now ≡ after_lanes l.state l.factor l.bytes (l.at / 16);
}

abbrev pub decreases-loop-at : goal.decreases-loop-at
decreases-loop-at l = l.len - l.at
