use Rattle.std.proofs.Common.{◌≤◌, map, take}
use Rattle.std.specs.Vec.{vec_capacity}
use Rattle.lasso_single.proofs.Encoded.{Encoded}
use Rattle.lasso_single.proofs.coding.encode_each.Given as goal

-- the texts before the index were encoded, and the codes lost no room
abbrev pub invariant-loop-i : goal.invariant-loop-i
invariant-loop-i g l = record {
  encoded : Encoded l.fn.rodeo (take l.i (map (λ t. t.now) l.texts)) l.fn.codes.items l.rodeo l.codes.items;
  room : vec_capacity l.fn.codes ≤ vec_capacity l.codes;
}
