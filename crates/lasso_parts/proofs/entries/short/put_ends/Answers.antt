use Rattle.std.proofs.Common.{◌∙◌, ◌-◌, length, arith}
use Rattle.lasso_parts.proofs.Ends.{written_first}
use Rattle.lasso_parts.proofs.entries.short.put_ends.Goals as goal

pub returns : goal.returns
returns g c =
    let t = c.args.text.now in
    let rest = length t - g.row.N in
    written_first t _ _ _ g.row.N rest _ (omega (arith, c.requires.ends)) (omega (arith, c.requires.all)) (c.copy_from_slice.ensures.after ∙ c.first.ensures) (c.copy_from_slice-2.ensures.after ∙ c.last.ensures)
