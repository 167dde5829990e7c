use Rattle.std.proofs.Common.{Ok, subst, sym, ◌∙◌}
use Rattle.lasso_single.specs.Intern.{InternsIn}
use Rattle.lasso_single.specs.Interner.{InternerView}
use Rattle.lasso_single.proofs.Interned.{present}
use Rattle.lasso_single.proofs.rodeo.Rodeo.intern.Goals as goal

pub returns-in-Ok : goal.returns-in-Ok
returns-in-Ok g c =
    let found = c.in-Ok.ensures.whole c.self.invariant.0 in
    subst (λ (v : InternerView). InternsIn g.K.Key.key_at v c.args.text.now (Ok c.unwrap.result) v) c.self.view_is
    (present g.K.Key.key_at c.self.inside.list c.args.text.now c.in-Ok.position c.unwrap.result found (sym c.try_from_usize.ensures ∙ c.unwrap.ensures))
