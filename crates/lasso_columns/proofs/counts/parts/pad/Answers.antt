use Rattle.std.proofs.Common.{◌≡◌, ◌-◌, ◌++◌, ◌∙◌, ap, arith, vec_len}
use Rattle.std.specs.Prelude.{replicate}
use Rattle.lasso_columns.proofs.counts.parts.pad.Goals as goal

pub returns-clause-items : goal.returns-clause-items
returns-clause-items c =
    let so_far = c.loop.invariant in
    let old = c.args.counts.now in
    let many : c.loop.counter - vec_len old ≡ c.args.len - vec_len old = omega (arith, so_far.few, c.loop-test.false) in
    so_far.items ∙ ap (λ n. old.items ++ replicate n 0) many
