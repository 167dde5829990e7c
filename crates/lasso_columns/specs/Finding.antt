-- Why the codes of a list's texts were not found in another list, and what that error prints.
use Rattle.std.specs.Prelude.{ℕ, ◌≡◌, ◌+◌, List, ◌++◌, take, None, IsSomeAnd, slice_get, codes, decimal}
use Rattle.lasso_parts.specs.Texts.{Text, position_of}
use Rattle.lasso_single.specs.Codes.{AreCodes}
use Rattle.lasso_columns.specs.declared.finding.FindError.{FindError}
use Rattle.lasso_columns.specs.declared.finding.FindError.TheVariants.{Absent, NoMemory}

-- what the error prints
abbrev pub find_error_text : FindError → List ℕ
find_error_text (Absent number) = codes "text " ++ (decimal number ++ codes " is absent")
find_error_text NoMemory = codes "Failed to allocate memory"

-- the list has the texts before the one with this number, and not that one; or memory ran out
abbrev pub IsFindError : List Text → List Text → FindError → Type 0
IsFindError list texts (Absent number) =
    (n : ℕ) × (number ≡ n + 1) × ((found : List ℕ) × AreCodes list (take n texts) found) × IsSomeAnd (slice_get texts n) (λ text. position_of list text ≡ None)
IsFindError list texts NoMemory = Unit {0}
