use Rattle.std.proofs.Common.{sym, subst}
use Rattle.lasso_columns.proofs.StreamLines.{ReadSoFar, reading_stops}
use Rattle.lasso_columns.proofs.reading_blocks.read_blocks.Goals as goal

pub returns-then-is_err : goal.returns-then-is_err
returns-then-is_err g c =
    let before = g.I.Read.remaining c.args.input.now in
    let after = g.I.Read.remaining c.loop-index.input in
    reading_stops before after c.reserve.new.self.items c.from.result (subst (ReadSoFar before after) (sym c.reserve.ensures.items) c.loop-index.invariant.read)
