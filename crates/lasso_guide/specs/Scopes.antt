-- The variables in scope, by their names.
use Rattle.std.specs.Prelude.{◌≡◌, ℕ, ◌<◌, ◌++◌, ◌∷◌, List, [], map, take, Option, Some, None, Vec, slice_get}
use Rattle.lasso.specs.Interner.{InternerView}
use Rattle.lasso.specs.Texts.{Text}

-- the names of variables whose keys these are
abbrev pub names_of : {K : Type 0} → (K → ℕ) → List Text → List K → List (Option Text)
names_of number texts variables = map (λ variable. slice_get texts (number variable)) variables

-- the same, of an interner and the keys of the variables
abbrev pub names_in : {K A : Type 0} → (K → ℕ) → InternerView → Vec K A → List (Option Text)
names_in number interner variables = names_of number interner.texts variables.items

-- the innermost of the open scopes is closed: its variables are gone, and the others keep their names
abbrev pub Closes : {K A B : Type 0} → (K → ℕ) → InternerView → Vec K A → Vec ℕ B → InternerView → Vec K A → Vec ℕ B → Type 0
Closes number interner variables opened interner' variables' opened' =
    (count : ℕ) × (opened.items ≡ opened'.items ++ count ∷ []) × (names_in number interner' variables' ≡ take count (names_in number interner variables))

-- the variable in this place has the name
abbrev pub IsNamed : List (Option Text) → ℕ → Text → Type 0
IsNamed names place name = slice_get names place ≡ Some (Some name)

-- the last number below the end for which P holds, or none where it holds for no such number
abbrev pub IsLast : (ℕ → Type 0) → ℕ → Option ℕ → Type 0
IsLast P end None = (n : ℕ) → n < end → P n → ⊥
IsLast P end (Some last) = (last < end) × P last × ((n : ℕ) → last < n → n < end → P n → ⊥)
