use Rattle.lasso_columns.specs.Rows.{word_of}
use Rattle.lasso_columns.proofs.PutBlocks.{last_for}
use Rattle.lasso_columns.proofs.ahead.all_made.Goals as goal

pub returns : goal.returns
returns c =
    last_for (word_of c.args.null) c.args.rodeo.now.texts c.args.now.now.blocks.items c.args.made.items c.args.last c.with_last.result.items c.requires.made c.requires.last c.with_last.ensures
