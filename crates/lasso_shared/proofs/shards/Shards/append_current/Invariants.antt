use Rattle.std.proofs.Common.{◌≡◌, []}
use mathlib.Core.List.{IsPrefix}
use Rattle.lasso_log.specs.Notes.{Since}
use Rattle.lasso_log.specs.Views.{IsSamePass}
use Rattle.lasso_shared.proofs.shards.Shards.append_current.Given as goal

-- no event of its own was added yet, and the shard is as it was
abbrev pub invariant-loop : goal.invariant-loop
invariant-loop g l =
    (goal.iterator-loop g).can_next l.iterator' × (goal.iterator-loop g).is_finite l.iterator' × IsSamePass l.pass l.fn.pass × Since l.fn.pass.number l.fn.pass.notes l.pass.notes [] × IsPrefix l.fn.shard.known.notes l.pass.notes × (l.shard ≡ l.fn.shard)
