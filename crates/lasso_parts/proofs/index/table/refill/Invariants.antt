use Rattle.std.proofs.Common.{◌≡◌, take, length}
use Rattle.lasso_parts.specs.Hashing.{hash_by}
use Rattle.lasso_parts.specs.Index.{Holds, used}
use Rattle.lasso_parts.specs.IndexTable.{IsRefilled, KnowsHashes}
use Rattle.lasso_parts.proofs.index.table.refill.Given as goal

abbrev pub invariant-loop-j : goal.invariant-loop-j
invariant-loop-j g l = record {
  refilled : IsRefilled (hash_by g.S.BuildHasher g.S.Hasher.Hasher l.hasher) (g.T.Texts.list l.texts) l.slots (Holds (take l.j l.old.slots)) (used (take l.j l.old.slots));
  long : length l.slots.slots ≡ length l.initial.slots.slots;
  known : KnowsHashes (hash_by g.S.BuildHasher g.S.Hasher.Hasher l.hasher) (g.T.Texts.list l.texts) l.old.slots l.ahead.first l.ahead.size l.ahead.each;
}
