use Rattle.std.proofs.Common.{◌≡◌, ◌++◌, drop, length, sym, ap, ◌∙◌}
use Rattle.std.proofs.lemmas.List.{take-append-drop}
use Rattle.lasso_columns.proofs.StreamLines.{line_read, lines_unread}
use Rattle.lasso_columns.proofs.reading_blocks.end_line.Goals as goal

pub returns-in-Ok : goal.returns-in-Ok
returns-in-Ok g c =
    line_read (Unit {0}) (g.I.Read.remaining c.args.input.now) (g.I.Read.remaining c.read_until.new.self) c.args.block.now.items c.read_until.new.buf.items c.in-Ok.ensures.bytes c.in-Ok.ensures.rest

pub returns-in-Err : goal.returns-in-Err
returns-in-Err g c =
    let front = c.args.block.now.items in
    let whole = c.read_until.new.buf.items in
    let is : whole ≡ front ++ drop (length front) whole = sym (take-append-drop (length front) whole) ∙ ap (λ bs. bs ++ drop (length front) whole) c.read_until.ensures.appends in
    lines_unread (g.I.Read.remaining c.args.input.now) (g.I.Read.remaining c.read_until.new.self) front (drop (length front) whole) whole c.cut_last_line.new.block.items c.in-Err.error c.read_until.ensures.none_lost is c.cut_last_line.ensures
