use Rattle.std.proofs.Common.{List, ◌++◌, length}
use denote.Text.{Utf8}
use denote.Shadow.{shadow}
use Rattle.lasso.specs.Texts.{Text}
use Rattle.lasso_guide.specs.declared.lexer.Token.{Token}
use Rattle.lasso_guide.specs.Lexing.{IsCutInto, Keep}
use Rattle.lasso_guide.proofs.lexer.Lexer.tokens.Given as goal

-- what the rest is cut into follows the tokens so far, in every list that keeps the names
abbrev pub invariant-loop-rest : goal.invariant-loop-rest
invariant-loop-rest l =
    shadow (Utf8 l.rest) × Keep l.fn.self.names.texts l.self.names.texts
    × ((texts : List Text) (later : List Token) → Keep l.self.names.texts texts → IsCutInto texts l.rest later → IsCutInto texts l.source (l.tokens.items ++ later))

abbrev pub decreases-loop-rest : goal.decreases-loop-rest
decreases-loop-rest l = length l.rest
