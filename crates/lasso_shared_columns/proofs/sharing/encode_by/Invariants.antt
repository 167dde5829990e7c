use Rattle.std.proofs.Common.{◌≡◌, map}
use Rattle.std.specs.Slice.Iter.{chunks_rest}
use Rattle.lasso_log.specs.Views.{list_of}
use Rattle.lasso_shared_columns.proofs.Shared.{CodedSo}
use Rattle.lasso_shared_columns.proofs.sharing.encode_by.Given as goal

-- the texts of the batches so far have their codes in the list that the pass has seen
abbrev pub invariant-loop-batch : goal.invariant-loop-batch
invariant-loop-batch g l = record {
  can : (goal.iterator-loop-batch g).can_next l.batch-iterator;
  finite : (goal.iterator-loop-batch g).is_finite l.batch-iterator;
  of : l.pass.of ≡ l.rodeo;
  coded : CodedSo (list_of l.rodeo l.pass.notes) (map (λ t. t.now) l.texts) (map (λ t. t.now) (chunks_rest l.batch-iterator)) l.codes.items;
}
