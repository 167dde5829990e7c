-- What an intern call promises of a word and of the texts from before.
use Rattle.lasso.proofs.CallingSpurs.{spur_answer_resolves, spur_texts_stay}
use Rattle.lasso_guide.proofs.lexer.Lexer.intern.Goals as goal

pub invariant_of-self : goal.invariant_of-self
invariant_of-self c = record {
  keywords_first = λ n text at. spur_texts_stay _ _ c.args.word.now _ c.try_get_or_intern.ensures.all n text (c.args.self.now.keywords_first n text at);
}

pub returns-clause-named : goal.returns-clause-named
returns-clause-named c = spur_answer_resolves _ _ c.args.word.now _ c.try_get_or_intern.ensures.all

pub returns-clause-kept : goal.returns-clause-kept
returns-clause-kept c = spur_texts_stay _ _ c.args.word.now _ c.try_get_or_intern.ensures.all
