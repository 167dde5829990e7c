-- The code of a program, by the names of the variables in scope.
use denote.Ref.{Bor}
use Rattle.std.specs.Prelude.{◌≡◌, ℕ, List, [], ◌∷◌, ◌++◌, length, take, Option, Some}
use Rattle.lasso.specs.Texts.{Text}
use Rattle.lasso_guide.specs.Scopes.{IsLast, IsNamed}
use Rattle.lasso_guide.specs.declared.compiler.Token.{Token}
use Rattle.lasso_guide.specs.declared.compiler.Token.TheVariants.{Number, Name, Plus, Let, Open, Close}
use Rattle.lasso_guide.specs.declared.compiler.Instruction.{Instruction}
use Rattle.lasso_guide.specs.declared.compiler.Instruction.TheVariants.{Push, Load, Add, Store}

-- This is the code of the tokens where these names are in scope, at their places, and each open scope began at
-- these counts. A name loads the place of the variable of that name that was declared last; a closed scope
-- leaves the variables that there were when it was opened.
abbrev pub IsCodeOf : List (Option Text) → List ℕ → List Token → List Instruction → Type 0
IsCodeOf names opened [] code = code ≡ []
IsCodeOf names opened (Number n ∷ tokens) code =
    (rest : List Instruction) × (code ≡ Push n ∷ rest) × IsCodeOf names opened tokens rest
IsCodeOf names opened (Name name ∷ tokens) code =
    (place : ℕ) × (rest : List Instruction) × IsLast (λ n. IsNamed names n name.now) (length names) (Some place) × (code ≡ Load place ∷ rest) × IsCodeOf names opened tokens rest
IsCodeOf names opened (Plus ∷ tokens) code =
    (rest : List Instruction) × (code ≡ Add ∷ rest) × IsCodeOf names opened tokens rest
IsCodeOf names opened (Let name ∷ tokens) code =
    (rest : List Instruction) × (code ≡ Store (length names) ∷ rest) × IsCodeOf (names ++ Some name.now ∷ []) opened tokens rest
IsCodeOf names opened (Open ∷ tokens) code = IsCodeOf names (opened ++ length names ∷ []) tokens code
IsCodeOf names opened (Close ∷ tokens) code =
    (outer : List ℕ) × (count : ℕ) × (opened ≡ outer ++ count ∷ []) × IsCodeOf (take count names) outer tokens code

-- One token takes this scope and code to those: what follows as code there follows the token's own here.
abbrev pub Translates : List (Option Text) → List ℕ → List Instruction → Token → List (Option Text) → List ℕ → List Instruction → Type 0
Translates names opened code token after opened_after code_after =
    (added : List Instruction) × (code_after ≡ code ++ added)
    × ((tokens : List Token) (rest : List Instruction) → IsCodeOf after opened_after tokens rest → IsCodeOf names opened (token ∷ tokens) (added ++ rest))
