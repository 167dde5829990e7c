use Rattle.std.proofs.Common.{arith}
use Rattle.lasso_columns.proofs.Rewritten.{end_rewritten}
use Rattle.lasso_columns.proofs.parts.append_rewritten.Goals as goal

pub returns : goal.returns
returns g c =
    end_rewritten c.args.table.now c.args.part.now c.args.codes.now.items c.extend_from_slice.new.self.items c.len-before.result c.extend_from_slice.new.self.len (omega (arith, c.len-before.ensures)) c.in-Ok.ensures.items (omega arith) c.requires.inside c.slice_mut.result.now c.rewrite.new.codes c.slice_mut.ensures.value c.rewrite.auto.codes c.rewrite.ensures
