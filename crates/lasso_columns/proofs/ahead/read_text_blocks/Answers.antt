use Rattle.lasso_columns.proofs.TextLines.{blocks_become}
use Rattle.lasso_columns.proofs.ahead.read_text_blocks.Goals as goal

pub returns : goal.returns
returns g c =
    blocks_become c.args.by (g.I.Read.remaining c.args.input.now) (g.I.Read.remaining c.read_blocks-read.new.input) c.read_blocks-read.result.blocks.items c.with_texts.result.blocks.items c.read_blocks-read.result.more c.with_texts.result.more c.read_blocks-read.ensures c.with_texts.ensures
