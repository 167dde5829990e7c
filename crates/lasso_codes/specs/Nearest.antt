-- How far a word is from a verb.
use Rattle.std.specs.Prelude.{ℕ, List, [], ◌∷◌, chars, length, nat_eq}
use Rattle.strsim.specs.Edits.{levenshtein_row}
use Rattle.lasso_parts.specs.Texts.{Text}
use Rattle.lasso_codes.specs.Arguments.{name_of}
use Rattle.lasso_codes.specs.declared.arguments.Verb.{Verb}
use Rattle.lasso_codes.specs.declared.arguments.Verb.TheVariants.{Counts, Decode, Dictionary, Distinct, Encode, Join, Merge, Recode}

-- all verbs
abbrev pub verbs : List Verb
verbs = Counts ∷ Decode ∷ Dictionary ∷ Distinct ∷ Encode ∷ Join ∷ Merge ∷ Recode ∷ []

-- the Levenshtein distance of the word from the verb's name
abbrev pub edits : Text → Verb → ℕ
edits word verb = levenshtein_row nat_eq (chars word) (chars (name_of verb)) (length (chars (name_of verb)))
