-- What the threads hand back of their halves is a share of all words.
use Rattle.std.proofs.Common.{List, subst}
use Rattle.lasso.specs.Texts.{Text}
use Rattle.lasso_guide.specs.WordKeys.{IsShareOf}
use Rattle.lasso_guide.proofs.Counting.{halves}
use Rattle.lasso_guide.proofs.word_counts.intern_by_four.Goals as goal

pub returns : goal.returns
returns g c =
    subst (λ (words : List Text). IsShareOf g.K.Key.number g.K.Key.key_at c.args.rodeo.now words c.both.result.known c.both.result.keys)
    (halves c.args.words.now _ _ _ c.split_at.ensures.front c.split_at.ensures.back)
    (c.both.ensures _ _ c.join-first.ensures.first c.join-first.ensures.second)
