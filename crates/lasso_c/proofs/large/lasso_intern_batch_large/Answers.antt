use Rattle.std.proofs.Common.{[], length}
use Rattle.lasso_parts.specs.Layout.{greatest_large_offset}
use Rattle.lasso_c.proofs.TextFacts.{batch_at}
use Rattle.lasso_c.proofs.large.lasso_intern_batch_large.Goals as goal

pub returns-clause-at : goal.returns-clause-at
returns-clause-at c =
    batch_at greatest_large_offset c.args.lasso.now.seat.value [] c.args.bytes.now c.args.offsets.now (length c.args.codes.now) c.intern_batch.result c.intern_batch.new.report c.intern_batch.new.lasso.seat.value c.intern_batch.ensures.outcome
