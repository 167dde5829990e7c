-- How a run of a request ends.
use Rattle.std.specs.Prelude.{ℕ, List, Option, Result}
use Rattle.lasso_parts.specs.Texts.{Text}
use Rattle.lasso_codes.specs.Counts.{CountsEnd}
use Rattle.lasso_codes.specs.Decode.{DecodeEnd}
use Rattle.lasso_codes.specs.Distinct.{DistinctEnd}
use Rattle.lasso_codes.specs.Encode.{EncodeEnd}
use Rattle.lasso_codes.specs.Merge.{DictionaryEnd, MergeEnd}
use Rattle.lasso_codes.specs.Recode.{JoinEnd, RecodeEnd}
use Rattle.lasso_codes.specs.declared.arguments.Command.{Command}
use Rattle.lasso_codes.specs.declared.arguments.Command.TheVariants.{Help, VerbHelp, Version, Run}
use Rattle.lasso_codes.specs.declared.arguments.Settings.{Settings}
use Rattle.lasso_codes.specs.declared.arguments.Verb.{Verb}
use Rattle.lasso_codes.specs.declared.arguments.Verb.TheVariants.{Counts, Decode, Dictionary, Distinct, Encode, Join, Merge, Recode}
use Rattle.lasso_codes.specs.declared.error.RunError.{RunError}

-- how a run of a verb over this input ends, when it has written the part and these bytes of the input are left
abbrev pub VerbEnd : Verb → Settings → Option Text → List ℕ → Option (List ℕ) → List ℕ → Result (Unit {0}) RunError → Type 0
VerbEnd Counts settings null input after part result = CountsEnd input settings.only_utf8 settings.limit settings.top after part result
VerbEnd Decode settings null input after part result = DecodeEnd input settings.only_utf8 settings.limit null after part result
VerbEnd Dictionary settings null input after part result = DictionaryEnd input settings.only_utf8 settings.limit settings.binary after part result
VerbEnd Distinct settings null input after part result = DistinctEnd input settings.only_utf8 settings.limit after part result
VerbEnd Encode settings null input after part result = EncodeEnd input settings.only_utf8 settings.limit null settings.binary after part result
VerbEnd Join settings null input after part result = JoinEnd input settings.only_utf8 settings.limit settings.binary after part result
VerbEnd Merge settings null input after part result = MergeEnd input settings.only_utf8 settings.limit settings.binary after part result
VerbEnd Recode settings null input after part result = RecodeEnd input settings.only_utf8 settings.limit settings.binary after part result

-- the same, of the input and the part
abbrev pub VerbEnds : Verb → Settings → Option Text → Option (List ℕ) → Result (Unit {0}) RunError → List ℕ → List ℕ → Type 0
VerbEnds verb settings null after result input part = VerbEnd verb settings null input after part result

-- the same for a request: of a help text it says nothing
abbrev pub RequestEnd : Command → Option Text → List ℕ → Option (List ℕ) → List ℕ → Result (Unit {0}) RunError → Type 0
RequestEnd Help null input after part result = Unit {0}
RequestEnd (VerbHelp verb) null input after part result = Unit {0}
RequestEnd Version null input after part result = Unit {0}
RequestEnd (Run verb settings) null input after part result = VerbEnd verb settings null input after part result

-- the same, of the input and the part
abbrev pub RequestEnds : Command → Option Text → Option (List ℕ) → Result (Unit {0}) RunError → List ℕ → List ℕ → Type 0
RequestEnds command null after result input part = RequestEnd command null input after part result
