use Rattle.std.proofs.Common.{ℕ, ◌≡◌, ◌*◌, List, length, take, drop, sym, ap, ◌∙◌, arith}
use Rattle.lasso_codes.proofs.EntryParts.{chunk_is}
use Rattle.lasso_codes.proofs.entry_parts.part_at.Goals as goal

pub returns : goal.returns
returns c = chunk_is c.args.numbers.now c.split_at.result.1.now c.split_at-2.result.0.now c.args.index 262144 c.min-start.result c.min.result c.split_at.ensures.back c.split_at-2.ensures.front (omega arith) (omega arith)
