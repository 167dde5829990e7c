-- What was read fits the keys.
use Rattle.std.proofs.Common.{map, false}
use Rattle.serde_json.specs.View.{view}
use Rattle.lasso_parts.specs.Json.{TakesText}
use Rattle.lasso_single.proofs.JsonReading.{was_read, was_readable}
use Rattle.lasso_single.proofs.resolver.RodeoResolver.read_value.Goals as goal

pub new-requires : goal.new-requires
new-requires g c =
    let key_at = g.K.Key.key_at in
    let d = view c.args.value.now in
    let texts = map (λ t. t.now) c.in_ok-texts.texts.items in
    rw (c.in_ok-list.ensures.texts, c.as_slice.ensures.value) ((was_readable key_at false d texts (was_read key_at false d (TakesText key_at d) texts c.in_ok-texts.ensures)).fits)
