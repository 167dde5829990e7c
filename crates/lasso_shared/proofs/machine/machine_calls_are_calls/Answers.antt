use Rattle.lasso_shared.proofs.MachineCalls.{each_call}
use Rattle.lasso_shared.proofs.machine.machine_calls_are_calls.Goals as goal

pub returns : goal.returns
returns g c shard start earlier steps pass question r starts runs call = each_call g.K.Key.key_at shard start earlier steps pass question r starts runs call
