use Rattle.lasso_parts.proofs.JsonObjectLaws.{reads_back}
use Rattle.lasso_parts.proofs.json.laws.json_object_reads_back.Goals as goal

pub returns : goal.returns
returns g c = reads_back g.K.Key.key_at
