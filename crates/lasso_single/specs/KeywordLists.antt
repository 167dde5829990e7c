-- Lists of keywords, and whether one comes twice.
use Rattle.std.specs.Prelude.{Bool, true, false, List, [], ◌∷◌, bytes_eq, if◌then◌else◌}
use Rattle.std.specs.List.{list_any}
use Rattle.lasso_parts.specs.Texts.{Text}

-- whether no text comes twice, as a test that computes on a list that is known
abbrev pub all_differ : List Text → Bool
all_differ [] = true
all_differ (t ∷ ts) = if list_any (bytes_eq t) ts then false else all_differ ts
