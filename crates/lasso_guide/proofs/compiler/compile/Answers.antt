-- The code of a token, and what follows it, is code of the tokens from it on.
use Rattle.std.proofs.Common.{suc, ◌≡◌, ◌+◌, List, [], ◌++◌, drop, refl, ap, sym, subst, ◌∙◌, arith, append_assoc}
use Rattle.std.proofs.Math.Seq.{drop-cons}
use Rattle.std.proofs.lemmas.List.{append-nil, drop_all}
use Rattle.lasso_guide.specs.declared.compiler.Token.{Token}
use Rattle.lasso_guide.specs.declared.compiler.Instruction.{Instruction}
use Rattle.lasso_guide.specs.Compiling.{IsCodeOf}
use Rattle.lasso_guide.specs.Scopes.{names_of}
use Rattle.lasso_guide.proofs.Compiled.{key_number}
use Rattle.lasso_guide.proofs.compiler.compile.Goals as goal

pub loop-token-preserved : goal.loop-token-preserved
loop-token-preserved c rest is =
    let tokens = c.args.tokens.now in
    let at = c.loop-token.token-index in
    let code = c.loop-token.code.items in
    let names = names_of key_number c.loop-token.scopes.names.texts c.loop-token.scopes.variables.items in
    let told = c.in_ok-translate.ensures in
    let next : at + 1 ≡ suc at = omega arith in
    let after = names_of key_number c.translate.new.scopes.names.texts c.translate.new.scopes.variables.items in
    let here = told.2 (drop (suc at) tokens) rest (subst (λ n. IsCodeOf after c.translate.new.scopes.opened.items (drop n tokens) rest) next is) in
    let split = drop-cons tokens at _ c.loop-token-test.true in
    let follows = c.loop-token.invariant (told.0 ++ rest) (subst (λ (ts : List Token). IsCodeOf names c.loop-token.scopes.opened.items ts (told.0 ++ rest)) (sym split) here) in
    subst (λ (is : List Instruction). IsCodeOf [] [] tokens is) (sym (ap (λ (is : List Instruction). is ++ rest) told.1 ∙ append_assoc code told.0 rest)) follows

pub returns : goal.returns
returns c =
    let tokens = c.args.tokens.now in
    let names = names_of key_number c.loop-token.scopes.names.texts c.loop-token.scopes.variables.items in
    let none = drop_all c.loop-token.token-index tokens (omega (arith, c.loop-token-test.false)) in
    subst (λ (is : List Instruction). IsCodeOf [] [] tokens is) (append-nil c.loop-token.code.items)
    (c.loop-token.invariant [] (subst (λ (ts : List Token). IsCodeOf names c.loop-token.scopes.opened.items ts []) (sym none) refl))
