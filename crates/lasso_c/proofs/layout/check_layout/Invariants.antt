use Rattle.std.proofs.Common.{◌≡◌, ◌+◌, drop}
use Rattle.lasso_c.specs.Layout.{texts_fault, layout_fault}
use Rattle.lasso_c.proofs.layout.check_layout.Given as goal

-- nothing was wrong so far
abbrev pub invariant-loop-at : goal.invariant-loop-at
invariant-loop-at g l =
    let offsets = g.O.Offset.numbers l.offsets in
    layout_fault g.O.Offset.GREATEST l.bytes offsets ≡ texts_fault g.O.Offset.GREATEST l.bytes l.at l.from (drop (l.at + 1) offsets)
