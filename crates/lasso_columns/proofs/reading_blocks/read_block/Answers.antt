use Rattle.std.proofs.Common.{[], refl}
use Rattle.lasso_columns.proofs.StreamLines.{lines_unread}
use Rattle.lasso_columns.proofs.reading_blocks.read_block.Goals as goal

pub returns-in-Err : goal.returns-in-Err
returns-in-Err g c =
    lines_unread (g.I.Read.remaining c.args.input.now) (g.I.Read.remaining c.fill.new.input) [] c.fill.new.block.items c.fill.new.block.items c.cut_last_line.new.block.items c.in-Err.error c.fill.ensures.taken refl c.cut_last_line.ensures
