use Rattle.std.proofs.Common.{length, ap, sym, ◌∙◌}
use Rattle.std.proofs.lemmas.List.{length-map}
use Rattle.lasso_c.proofs.offsets.count.Goals as goal

pub returns : goal.returns
returns g c = sym (ap length (g.met.O.Offset.each c.args.offsets.now) ∙ length-map c.args.offsets.now g.O.Offset.number)
