-- The list of a legal history is distinct and fits the keys.
use Rattle.std.proofs.Common.{sym, subst, List, length}
use Rattle.lasso_parts.specs.Texts.{Text, IsDistinct, Fits}
use Rattle.lasso_shared.proofs.Whole.{list_good}
use Rattle.lasso_shared.proofs.threaded.ThreadedRodeo.copy_list.Goals as goal

pub copy_of-requires-clause-distinct : goal.copy_of-requires-clause-distinct
copy_of-requires-clause-distinct g c =
    let known = c.args.list.now in
    subst (λ (ts : List Text). IsDistinct ts) (sym c.texts_of-texts.ensures) (list_good g.K.Key.key_at known.of.opening known.notes c.prove_legal.ensures.opening c.prove_legal.ensures.legal).0

pub copy_of-requires-clause-fits : goal.copy_of-requires-clause-fits
copy_of-requires-clause-fits g c =
    let known = c.args.list.now in
    subst (λ (ts : List Text). Fits g.K.Key.key_at (length ts)) (sym c.texts_of-texts.ensures) (list_good g.K.Key.key_at known.of.opening known.notes c.prove_legal.ensures.opening c.prove_legal.ensures.legal).1
