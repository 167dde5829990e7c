use Rattle.std.proofs.Common.{ℕ, List, map, set, ap, sym, ◌∙◌}
use Rattle.std.proofs.lemmas.List.{map-set}
use Rattle.lasso_c.proofs.offsets.put.Goals as goal

pub returns : goal.returns
returns g c =
    let each = g.met.O.Offset.each in
    let number = g.O.Offset.number in
    let offsets = c.args.offsets.now in
    each (set offsets c.args.at c.from_usize.result) ∙ map-set number offsets c.args.at c.from_usize.result ∙ ap (set (map number offsets) c.args.at) c.from_usize.ensures
    ∙ ap (λ (ns : List ℕ). set ns c.args.at c.args.number) (sym (each offsets))
