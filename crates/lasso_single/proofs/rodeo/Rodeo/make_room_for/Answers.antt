use Rattle.std.proofs.Common.{◌≡◌, [], ap, ◌∙◌}
use Rattle.lasso_single.specs.Interner.{InternerView}
use Rattle.lasso_single.proofs.Wholes.{whole_empty}
use Rattle.lasso_single.proofs.rodeo.Rodeo.make_room_for.Goals as goal

pub invariant_of-self-2 : goal.invariant_of-self-2
invariant_of-self-2 g c =
    let empty : c.reserve.new.self.texts ≡ [] = ap (λ (i : InternerView). i.texts) (c.reserve.ensures.same ∙ c.self.view_is) ∙ c.requires in
    whole_empty _ g.K.Key.key_at c.reserve.new.self.texts c.in_ok-index.index empty c.in_ok-index.ensures.empty
