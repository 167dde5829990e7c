use Rattle.lasso_parts.proofs.JsonLaws.{reads_exactly}
use Rattle.lasso_parts.proofs.json.laws.json_reads_exactly.Goals as goal

pub returns : goal.returns
returns g c = reads_exactly g.K.Key.key_at
