use Rattle.std.proofs.Common.{◌-◌, vec_len}
use Rattle.lasso_columns.proofs.LineFaults.{code_memory, code_no_text}
use Rattle.lasso_columns.proofs.decoding.decode.Goals as goal

pub returns-clause-no_text : goal.returns-clause-no_text
returns-clause-no_text g c =
    code_no_text c.args.reader.now c.args.codes.now (vec_len c.decode_each.new.out - vec_len c.args.out.now) c.decode_each.result c.decode_each.ensures.fault

pub returns-clause-memory : goal.returns-clause-memory
returns-clause-memory g c =
    code_memory c.args.reader.now c.args.codes.now (vec_len c.decode_each.new.out - vec_len c.args.out.now) c.decode_each.result c.decode_each.ensures.fault
