-- Lists of two lengths differ, and so do lists with two texts at one position. Lists that agree at each position up to their common
-- length are equal.
use Rattle.std.proofs.Common.{refl, sym, arith, below_more, below_none}
use Rattle.lasso_single.proofs.Equality.{same_texts, agree_at}
use Rattle.lasso_shared.proofs.threaded.comparing.have_same_texts.Goals as goal

pub loop-position-init : goal.loop-position-init
loop-position-init g c = below_none _

pub loop-position-preserved : goal.loop-position-preserved
loop-position-preserved g c =
    below_more _ _ c.loop-position.invariant
    (agree_at (g.T.Texts.list c.args.one.now) (g.U.Texts.list c.args.other.now) c.loop-position.position c.text_at.result.now c.text_at-in-loop-position.result.now c.text_at.ensures c.text_at-in-loop-position.ensures (sym c.if-ne.ensures))

pub returns : goal.returns
returns g c =
    (λ _. same_texts (g.T.Texts.list c.args.one.now) (g.U.Texts.list c.args.other.now) (omega arith) (λ k below. c.loop-position.invariant k (omega arith)), λ _. refl)
