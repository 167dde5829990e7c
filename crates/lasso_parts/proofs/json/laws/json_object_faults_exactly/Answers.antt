use Rattle.lasso_parts.proofs.JsonObjectLaws.{faults_exactly}
use Rattle.lasso_parts.proofs.json.laws.json_object_faults_exactly.Goals as goal

pub returns : goal.returns
returns g c = faults_exactly g.K.Key.key_at
