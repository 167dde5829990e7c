-- Code that grows token by token.
use Rattle.std.proofs.Common.{ℕ, ◌≡◌, ◌-◌, List, [], ◌∷◌, ◌++◌, take, Option, sym, subst}
use Rattle.std.proofs.lemmas.List.{append-nil}
use Rattle.lasso.specs.Texts.{Text}
use Rattle.lasso_guide.specs.declared.compiler.Token.{Token}
use Rattle.lasso_guide.specs.declared.compiler.Token.TheVariants.{Close}
use Rattle.lasso_guide.specs.declared.compiler.Instruction.{Instruction}
use Rattle.lasso_guide.specs.Compiling.{IsCodeOf, Translates}

-- the position of a `Spur`
abbrev pub key_number : ℕ → ℕ
key_number key = key - 1

-- a closed scope has no code of its own
pub closes : (names after : List (Option Text)) (opened opened_after : List ℕ) (code : List Instruction) (count : ℕ) (token : Token) → token ≡ Close → opened ≡ opened_after ++ count ∷ [] → after ≡ take count names → Translates names opened code token after opened_after code
closes names after opened opened_after code count token close begun left = (
  [],
  sym (append-nil code),
  λ tokens rest is. subst (λ (t : Token). IsCodeOf names opened (t ∷ tokens) rest) (sym close) (opened_after, count, begun, subst (λ (ns : List (Option Text)). IsCodeOf ns opened_after tokens rest) left is),
)
