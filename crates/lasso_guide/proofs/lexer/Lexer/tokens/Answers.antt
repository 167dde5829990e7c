-- The token of a piece, and what the text after the piece is cut into, are what the text from the piece on is
-- cut into.
use Rattle.std.proofs.Common.{◌≡◌, List, [], ◌∷◌, ◌++◌, length, get_or, Option, sym, ap, subst, ◌∙◌, append_assoc, arith, rules}
use Rattle.std.specs.Prelude.{MatchOption}
use Rattle.std.proofs.lemmas.Bool.Decides.{nat_tests}
use Rattle.std.proofs.lemmas.List.{append-nil}
use Rattle.lasso_guide.specs.declared.lexer.Kind.TheVariants.{Space}
use Rattle.lasso_guide.specs.declared.lexer.Token.{Token}
use Rattle.lasso_guide.specs.Lexing.{kind_of, IsCutInto, IsTokenOf}
use Rattle.lasso_guide.proofs.Pieces.{space_before, token_before, token_kept}
use Rattle.lasso_guide.proofs.lexer.Lexer.tokens.Goals as goal
use Rattle.lasso_guide.proofs.lexer.Lexer.tokens.Goals.{In_ok-token}

-- what `token_of` said of the piece
told : (c : In_ok-token) (found : Option Token) → c.in_ok-token.field-0 ≡ found → MatchOption found (kind_of (get_or c.first_piece.result.0.now 0 0) ≡ Space) (IsTokenOf c.token_of.new.self.names.texts c.first_piece.result.0.now)
told c found is = subst (λ (o : Option Token). MatchOption o (kind_of (get_or c.first_piece.result.0.now 0 0) ≡ Space) (IsTokenOf c.token_of.new.self.names.texts c.first_piece.result.0.now)) is c.in_ok-token.ensures.token

pub loop-rest-preserved-in_ok-reserve : goal.loop-rest-preserved-in_ok-reserve
loop-rest-preserved-in_ok-reserve c = (
  search rules,
  λ n text at. c.token_of.ensures.kept n text (c.loop-rest.invariant.1 n text at),
  λ texts later keeps cut.
      let token = c.in-Some.token in
      let of = told (goal.at.loop-rest-preserved-in_ok-reserve c).In_ok-token _ c.in-Some.is in
      let kept = token_kept c.token_of.new.self.names.texts texts c.first_piece.result.0.now token keeps of in
      let here = token_before texts _ _ _ token later c.first_piece.ensures kept cut in
      let pushed : c.push_reserved.new.self.items ≡ c.loop-rest.tokens.items ++ token ∷ [] = c.push_reserved.ensures.items ∙ ap (λ (ts : List Token). ts ++ token ∷ []) c.in_ok-reserve.ensures.items in
      subst (IsCutInto texts c.args.source.now) (sym (ap (λ (ts : List Token). ts ++ later) pushed ∙ append_assoc c.loop-rest.tokens.items (token ∷ []) later))
      (c.loop-rest.invariant.2 texts (token ∷ later) (λ n text at. keeps n text (c.token_of.ensures.kept n text at)) here),
)

pub loop-rest-preserved : goal.loop-rest-preserved
loop-rest-preserved c = (
  search rules,
  λ n text at. c.token_of.ensures.kept n text (c.loop-rest.invariant.1 n text at),
  λ texts later keeps cut.
      let space = told (goal.at.loop-rest-preserved c).In_ok-token _ c.in_default.is in
      c.loop-rest.invariant.2 texts later (λ n text at. keeps n text (c.token_of.ensures.kept n text at)) (space_before texts _ _ _ later c.first_piece.ensures space cut),
)

pub returns-clause-cut : goal.returns-clause-cut
returns-clause-cut c =
    let ends : length c.loop-rest.rest.now ≡ 0 = grind (arith, nat_tests) in
    subst (IsCutInto c.loop-rest.self.names.texts c.args.source.now) (append-nil c.loop-rest.tokens.items)
    (c.loop-rest.invariant.2 c.loop-rest.self.names.texts [] (λ n text at. at) (λ k d low. absurd (omega (arith, ends, low))))
