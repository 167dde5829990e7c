use Rattle.std.proofs.Common.{◌≤◌, length, take, vec_capacity}
use Rattle.lasso_single.proofs.Encoded.{Encoded}
use Rattle.lasso_columns.proofs.merging.encode_list.Given as goal

-- the texts before the position were encoded, and the codes have room for all
abbrev pub invariant-loop-position : goal.invariant-loop-position
invariant-loop-position g l = record {
  encoded : Encoded l.fn.into (take l.position l.from) l.fn.codes.items l.into l.codes.items;
  room : length l.from ≤ vec_capacity l.codes;
}
