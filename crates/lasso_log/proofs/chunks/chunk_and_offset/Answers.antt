use Rattle.std.proofs.Common.{rules, arith, ◌<◌, ◌-◌, ◌*◌, ◌^◌, ◌%◌, sym, subst, ℕ}
use Rattle.std.proofs.lemmas.Nat.{one_shl}
use Rattle.lasso_log.proofs.ChunkPositions.{top_low, top_high, top_lies, Lies}
use Rattle.lasso_log.proofs.chunks.chunk_and_offset.Goals as goal

found : (c : goal.After-ilog2-top) → Lies c.args.position (c.ilog2-top.result - 4) (c.args.position - (1 * 2 ^ c.ilog2-top.result) % 2 ^ 64)
found c = let n : ℕ = c.args.position in let top : ℕ = c.ilog2-top.result in let low = c.if-position-lt-FIRST_LENGTH.false in let high : n < 2 ^ 64 = search rules in let at = c.ilog2-top.ensures.power_le in let next = c.ilog2-top.ensures.next_power_gt in
    subst (λ (p : ℕ). Lies n (top - 4) (n - p)) (sym (one_shl top 64 (top_high n top low high at next))) (top_lies n top low high at next)

pub overflow_sub-result : goal.overflow_sub-result
overflow_sub-result c = let low = top_low c.args.position c.ilog2-top.result c.if-position-lt-FIRST_LENGTH.false (search rules) c.ilog2-top.ensures.power_le c.ilog2-top.ensures.next_power_gt in omega arith

pub returns-clause-value : goal.returns-clause-value
returns-clause-value c = ((found c).chunk_is, (found c).offset_is)

pub returns-clause-there : goal.returns-clause-there
returns-clause-there c = ((found c).few, (found c).inside)
