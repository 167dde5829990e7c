-- The texts by their numbers.
use Rattle.std.specs.Prelude.{ℕ, ◌++◌, codes, decimal}
use Rattle.lasso_parts.specs.Texts.{Text}

-- the text with this number
abbrev pub named : ℕ → Text
named number = codes "text " ++ decimal number
