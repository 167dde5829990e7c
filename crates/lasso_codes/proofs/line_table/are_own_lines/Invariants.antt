use Rattle.std.proofs.Common.{◌≡◌, map, take}
use Rattle.lasso_input.specs.Texts.{line_of}
use Rattle.lasso_codes.proofs.line_table.are_own_lines.Given as goal

-- the first texts are their own lines
abbrev pub invariant-loop-position : goal.invariant-loop-position
invariant-loop-position l = take l.position (map line_of l.rodeo.texts) ≡ take l.position l.rodeo.texts
