use Rattle.std.proofs.Common.{◌≡◌, ◌<◌, length}
use Rattle.lasso_parts.specs.Hashing.{hash_by}
use Rattle.lasso_parts.specs.IndexTable.{IsRefilled}
use Rattle.lasso_parts.proofs.index.table.refill_in_order.Given as goal

abbrev pub invariant-loop-position : goal.invariant-loop-position
invariant-loop-position g l = record {
  refilled : IsRefilled (hash_by g.S.BuildHasher g.S.Hasher.Hasher l.hasher) (g.T.Texts.list l.texts) l.slots (λ n. n < l.position) l.position;
  long : length l.slots.slots ≡ length l.initial.slots.slots;
}
