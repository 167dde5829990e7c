-- A key below the number of keywords is a keyword's, and no other is.
use Rattle.std.proofs.Common.{sym, subst, ◌<◌}
use Rattle.std.proofs.lemmas.Bool.{ltb-true, lt-ltb}
use Rattle.lasso_guide.proofs.Keywords.{keyword_below, keyword_is_below}
use Rattle.lasso_guide.proofs.lexer.Lexer.is_keyword.Goals as goal

pub returns : goal.returns
returns c =
    let keeps = c.args.self.now.keywords_first in (
      (λ low. keyword_below c.args.self.now.names.texts c.args.key keeps (subst (λ n. n < 4) c.into_usize.ensures (ltb-true c.into_usize.result 4 low))),
      (λ is. lt-ltb c.into_usize.result 4 (subst (λ n. n < 4) (sym c.into_usize.ensures) (keyword_is_below c.args.self.now.names.texts c.args.key keeps c.len-count.ensures.distinct is))),
    )
