use Rattle.std.proofs.Common.{◌+◌, ◌≤◌, length}
use Rattle.lasso_columns.proofs.EncodedLines.{LinesSoFar}
use Rattle.lasso_columns.proofs.encoding.encode_each_line.Given as goal

-- the lines before the rest were encoded, at most one for each byte before the rest
abbrev pub invariant-loop-line : goal.invariant-loop-line
invariant-loop-line g l = record {
  lines : LinesSoFar l.fn.rodeo l.bytes l.fn.codes.items l.number l.lines l.rodeo l.codes.items;
  fits : l.number + length l.lines ≤ length l.bytes;
}

abbrev pub decreases-loop-line : goal.decreases-loop-line
decreases-loop-line g l = length l.lines
