use Rattle.std.proofs.lemmas.Result.{err_from_is_err_and}
use Rattle.lasso_codes.proofs.Cuts.{loses_entry_line}
use Rattle.lasso_codes.proofs.Items.{entry_missing}
use Rattle.lasso_codes.proofs.entries.next_entry.Goals as goal

pub returns-in_err-next_whole_line-clause-lost : goal.returns-in_err-next_whole_line-clause-lost
returns-in_err-next_whole_line-clause-lost g c =
    let p = err_from_is_err_and c.from_residual.result c.from_residual.ensures.1 in
    rw (p.1) (loses_entry_line c.args.binary _ _ c.if-binary.false c.in_err-next_whole_line.ensures.lost)

pub returns-in-Part : goal.returns-in-Part
returns-in-Part g c = record {
  taken = entry_missing _ _ c.in_ok-next_whole_line.field-0 _ c.args.binary c.in_ok-next_whole_line.ensures.taken c.in-Part.is c.if-binary.false;
  lost = tt;
  errors = tt;
  reads = c.in_ok-next_whole_line.ensures.reads;
}
