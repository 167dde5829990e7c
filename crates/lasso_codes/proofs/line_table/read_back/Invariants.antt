use Rattle.std.proofs.Common.{◌≡◌, map, take}
use Rattle.std.specs.Prelude.{flat_map}
use Rattle.lasso_codes.specs.Tables.{bounds_of, kept_line}
use Rattle.lasso_codes.proofs.line_table.read_back.Given as goal

-- what is kept of the lines of the first texts, and its bounds
abbrev pub invariant-loop-position : goal.invariant-loop-position
invariant-loop-position l = (l.others.items ≡ flat_map kept_line (take l.position l.rodeo.texts)) × (l.bounds.items ≡ bounds_of 0 (map kept_line (take l.position l.rodeo.texts)))
