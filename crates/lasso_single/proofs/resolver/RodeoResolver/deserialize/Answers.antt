use Rattle.std.proofs.Common.{false}
use Rattle.serde_json.specs.View.{view}
use Rattle.lasso_single.proofs.JsonReading.{refuses_first_item, refuses_no_array}
use Rattle.lasso_single.proofs.resolver.RodeoResolver.deserialize.Goals as goal

pub returns-clause-no_array : goal.returns-clause-no_array
returns-clause-no_array g c = refuses_no_array g.K.Key.key_at false (view c.args.value.now) c.read_value.result c.read_value.ensures.read

pub returns-clause-first_item : goal.returns-clause-first_item
returns-clause-first_item g c = refuses_first_item g.K.Key.key_at false (view c.args.value.now) c.read_value.result c.read_value.ensures.read
