-- Lists of two lengths differ, and so do lists with two texts at one position. Lists that agree at each
-- position up to their common length are equal.
use Rattle.std.proofs.Common.{refl, sym, arith, below_more, below_none}
use Rattle.lasso_single.proofs.Equality.{same_texts, texts_differ, texts_agree, differ_at, agree_at}
use Rattle.lasso_single.proofs.text_list.TextList.has_texts_of.Goals as goal

pub returns-then-ne-clause-value : goal.returns-then-ne-clause-value
returns-then-ne-clause-value g c =
    texts_differ c.args.self.now.texts c.args.other.now.texts
    (differ_at c.args.self.now.texts c.args.other.now.texts c.loop-position.position c.text_at.result.now c.text_at-in-loop-position.result.now c.text_at.ensures c.text_at-in-loop-position.ensures (sym c.if-ne.ensures))

pub loop-position-init : goal.loop-position-init
loop-position-init g c = below_none _

pub loop-position-preserved : goal.loop-position-preserved
loop-position-preserved g c =
    below_more _ _ c.loop-position.invariant
    (agree_at c.args.self.now.texts c.args.other.now.texts c.loop-position.position c.text_at.result.now c.text_at-in-loop-position.result.now c.text_at.ensures c.text_at-in-loop-position.ensures (sym c.if-ne.ensures))

pub returns-clause-value : goal.returns-clause-value
returns-clause-value g c =
    texts_agree c.args.self.now.texts c.args.other.now.texts
    (same_texts c.args.self.now.texts c.args.other.now.texts (omega arith) (λ k below. c.loop-position.invariant k (omega arith)))

pub returns-clause-same : goal.returns-clause-same
returns-clause-same g c =
    (λ _. same_texts c.args.self.now.texts c.args.other.now.texts (omega arith) (λ k below. c.loop-position.invariant k (omega arith)), λ _. refl)
