-- An array is read as one, and any other value as an object, whose members are in order.
use Rattle.std.proofs.Common.{map, sym, ◌∙◌}
use Rattle.lasso_shared.proofs.ReadList.{by_items, by_members, items_distinct, items_fit, members_distinct, members_fit}
use Rattle.serde_json.specs.View.{view}
use Rattle.lasso_shared.proofs.threaded.json.texts_of.Goals as goal

pub returns-then-is_array-clause-read : goal.returns-then-is_array-clause-read
returns-then-is_array-clause-read g c = by_items g.K.Key.key_at (view c.args.value.now) _ (sym c.is_array.ensures ∙ c.if-is_array.true) c.read_array.ensures

pub returns-then-is_array-clause-distinct : goal.returns-then-is_array-clause-distinct
returns-then-is_array-clause-distinct g c = items_distinct g.K.Key.key_at (λ texts. map (λ t. t.now) texts.items) (view c.args.value.now) c.read_array.result c.read_array.ensures

pub returns-then-is_array-clause-fits : goal.returns-then-is_array-clause-fits
returns-then-is_array-clause-fits g c = items_fit g.K.Key.key_at (λ texts. map (λ t. t.now) texts.items) (view c.args.value.now) c.read_array.result c.read_array.ensures

pub returns-else-is_array-clause-read : goal.returns-else-is_array-clause-read
returns-else-is_array-clause-read g c = by_members g.K.Key.key_at (view c.args.value.now) _ (sym c.is_array.ensures ∙ c.if-is_array.false) c.read_map.ensures.read

pub returns-else-is_array-clause-distinct : goal.returns-else-is_array-clause-distinct
returns-else-is_array-clause-distinct g c = members_distinct g.K.Key.key_at (λ texts. map (λ t. t.now) texts.items) (view c.args.value.now) c.read_map.result c.read_map.ensures.order c.read_map.ensures.read

pub returns-else-is_array-clause-fits : goal.returns-else-is_array-clause-fits
returns-else-is_array-clause-fits g c = members_fit g.K.Key.key_at (λ texts. map (λ t. t.now) texts.items) (view c.args.value.now) c.read_map.result c.read_map.ensures.order c.read_map.ensures.read
