use Rattle.std.proofs.Common.{◌≡◌, IsTrue, [], map, drop}
use Rattle.serde_json.specs.View.{items_view}
use Rattle.lasso_parts.specs.Hashing.{hash_by}
use Rattle.lasso_parts.specs.Index.{IsIndexOf}
use Rattle.lasso_parts.specs.Json.{read_items}
use Rattle.lasso_parts.proofs.json.arrays.read_items.Given as goal

abbrev pub invariant-loop-item : goal.invariant-loop-item
invariant-loop-item g l = record {
  whole : IsTrue l.distinct → IsIndexOf (hash_by g.S.BuildHasher g.S.Hasher.Hasher l.hasher) (map (λ t. t.now) l.texts.items) l.index;
  read : read_items g.K.Key.key_at l.distinct [] (items_view l.items) ≡ read_items g.K.Key.key_at l.distinct (map (λ t. t.now) l.texts.items) (items_view (drop l.item-index l.items));
}
