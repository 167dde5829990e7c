use Rattle.std.proofs.Common.{◌≡◌, map, take}
use Rattle.serde_json.specs.Data.{string}
use Rattle.serde_json.specs.View.{view}
use Rattle.lasso_parts.proofs.json.arrays.write_array.Given as goal

abbrev pub invariant-loop-position : goal.invariant-loop-position
invariant-loop-position g l = map view l.items.items ≡ map string (take l.position (g.T.Texts.list l.texts))
