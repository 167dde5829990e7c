use Rattle.std.proofs.Common.{true}
use Rattle.serde_json.specs.View.{view}
use Rattle.lasso_parts.specs.Json.{shown}
use Rattle.lasso_single.specs.Interner.{InternerView}
use Rattle.lasso_single.proofs.Copied.{read_limit, read_usage}
use Rattle.lasso_single.proofs.JsonReading.{refuses_first_item, refuses_no_array, shown_error}
use Rattle.lasso_single.proofs.rodeo.Rodeo.deserialize.Goals as goal

pub returns-clause-limit : goal.returns-clause-limit
returns-clause-limit g c = read_limit c.read_value.result c.read_value.ensures.account

pub returns-clause-usage : goal.returns-clause-usage
returns-clause-usage g c = read_usage c.read_value.result c.read_value.ensures.account

pub returns-clause-no_array : goal.returns-clause-no_array
returns-clause-no_array g c none =
    let answer = shown (λ (r : InternerView). r.texts) c.read_value.result in
    shown_error (λ (r : InternerView). r.texts) c.read_value.result _ (refuses_no_array g.K.Key.key_at true (view c.args.value.now) answer c.read_value.ensures.read none)

pub returns-clause-first_item : goal.returns-clause-first_item
returns-clause-first_item g c first others fault at is =
    let answer = shown (λ (r : InternerView). r.texts) c.read_value.result in
    shown_error (λ (r : InternerView). r.texts) c.read_value.result fault (refuses_first_item g.K.Key.key_at true (view c.args.value.now) answer c.read_value.ensures.read first others fault at is)
