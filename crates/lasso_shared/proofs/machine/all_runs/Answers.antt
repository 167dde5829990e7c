use Rattle.lasso_shared.proofs.MachineSteps.{holds_from_start}
use Rattle.lasso_shared.proofs.machine.all_runs.Goals as goal

pub returns : goal.returns
returns c key_at shard start steps starts runs = holds_from_start key_at shard start steps starts runs
