-- The numbers of the two keys are equal exactly where the texts are, and the keys are compared by their numbers.
use Rattle.std.proofs.Common.{◌∙◌, sym, eq-eqb, eqb-true}
use Rattle.lasso.proofs.Calling.{keys_tell_texts}
use Rattle.lasso.proofs.Interned.{if_some_map}
use Rattle.lasso_guide.proofs.any.have_one_key.Goals as goal

pub returns : goal.returns
returns g c =
    if_some_map _ _ (g.I.Resolver.meaning c.args.interner.now)
    (λ _ tell. (
      (λ one. tell.0 (sym c.into_usize.ensures ∙ eqb-true _ _ one ∙ c.into_usize-2.ensures)),
      (λ same. eq-eqb _ _ (c.into_usize.ensures ∙ tell.1 same ∙ sym c.into_usize-2.ensures)),
    ))
    (keys_tell_texts g.K.Key.key_at g.K.Key.number (λ n k e. (g.met.K.Key.made n k e).2) _ _ _ c.args.left.now c.args.right.now _ _ c.in_ok-left_key.ensures c.in_ok-right_key.ensures)
