use Rattle.lasso_shared.proofs.MachineSteps.{holds_from_start}
use Rattle.lasso_shared.proofs.machine.all_runs_of.Goals as goal

pub returns : goal.returns
returns g c shard start steps starts runs = holds_from_start g.K.Key.key_at shard start steps starts runs
