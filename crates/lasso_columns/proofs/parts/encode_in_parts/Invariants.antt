use Rattle.std.proofs.Common.{◌≡◌, ◌*◌, length, map, min, take}
use Rattle.lasso_single.proofs.Encoded.{Encoded}
use Rattle.lasso_columns.proofs.parts.encode_in_parts.Given as goal

-- the texts of the earlier parts were encoded
abbrev pub invariant-loop-part : goal.invariant-loop-part
invariant-loop-part g l = record {
  start : l.start ≡ min (l.part * l.size) (length l.texts);
  encoded : Encoded l.fn.rodeo (take l.start (map (λ t. t.now) l.texts)) l.fn.codes.items l.rodeo l.codes.items;
}
