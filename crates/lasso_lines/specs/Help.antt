-- Which words ask for the help text or for the version.
use Rattle.std.specs.Prelude.{List, [], ◌∷◌, ℕ, Option, Some, None, bytes_eq, codes, if◌then◌else◌}
use Rattle.lasso_lines.specs.declared.help.Page.{Page}
use Rattle.lasso_lines.specs.declared.help.Page.TheVariants.{Help, Version}

-- what the words ask for if they are one of these two alone
abbrev pub page_of : List (List ℕ) → Option Page
page_of [] = None
page_of (word ∷ []) = if bytes_eq word (codes "--help") then Some Help else (if bytes_eq word (codes "--version") then Some Version else None)
page_of (word ∷ other ∷ words) = None
