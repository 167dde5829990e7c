use Rattle.std.proofs.Common.{◌≡◌, [], subst}
use Rattle.lasso_columns.specs.Blocks.{StopsInRound}
use Rattle.lasso_columns.specs.Rows.{word_of, EncodesRows}
use Rattle.lasso_columns.specs.Streams.{lines_in}
use Rattle.lasso_columns.proofs.PutBlocks.{none_made}
use Rattle.lasso_columns.proofs.Steps.{no_err}
use Rattle.lasso_columns.proofs.ahead.put_last.Goals as goal

pub put_blocks-requires : goal.put_blocks-requires
put_blocks-requires c = record { made = none_made (word_of c.args.null) c.args.rodeo.now.texts c.deref.result.now }

pub returns-in-Ok : goal.returns-in-Ok
returns-in-Ok c =
    let new = c.put_blocks.new.rodeo in
    let after = c.put_blocks.new.entries.items in
    (subst (λ bs. EncodesRows (word_of c.args.null) c.args.rodeo.now (lines_in bs) [] c.args.entries.now.items new after) c.deref.ensures.value c.in_default.ensures.rows, no_err c.args.now.more _ (λ failed. c.from.result ≡ failed) c.in-Ok.is)

pub returns-in-Err : goal.returns-in-Err
returns-in-Err c =
    let new = c.put_blocks.new.rodeo in
    let after = c.put_blocks.new.entries in
    subst (λ bs. StopsInRound (word_of c.args.null) c.args.rodeo.now (lines_in bs) c.args.entries.now.items new after c.args.start c.in-Err.error) c.deref.ensures.value c.in-Err.ensures.stops
