-- What a verb ends with, also if the last flush fails then: each verb has its own.
use Rattle.std.proofs.Common.{ℕ, ◌≡◌, ◌⊎◌, List, Option, Result}
use Rattle.lasso_parts.specs.Texts.{Text}
use Rattle.lasso_codes.specs.Columns.{column_of}
use Rattle.lasso_codes.specs.Errors.{IsWriteEnd}
use Rattle.lasso_codes.specs.Merge.{without_entries}
use Rattle.lasso_codes.specs.Recode.{without_texts}
use Rattle.lasso_codes.specs.Requests.{VerbEnd}
use Rattle.lasso_codes.specs.declared.arguments.Settings.{Settings}
use Rattle.lasso_codes.specs.declared.arguments.Verb.{Verb}
use Rattle.lasso_codes.specs.declared.arguments.Verb.TheVariants.{Counts, Decode, Dictionary, Distinct, Encode, Join, Merge, Recode}
use Rattle.lasso_codes.specs.declared.error.RunError.{RunError}
use Rattle.lasso_codes.proofs.CountedLines.{end_then as counts_then}
use Rattle.lasso_codes.proofs.DecodedLines.{end_then as decode_then}
use Rattle.lasso_codes.proofs.DistinctLines.{end_then as distinct_then}
use Rattle.lasso_codes.proofs.EncodedLines.{end_then as encode_then}
use Rattle.lasso_codes.proofs.MergedColumns.{end_then as merge_then}
use Rattle.lasso_codes.proofs.RecodedColumns.{recoded_then as recode_then}

pub verb_then : (verb : Verb) (settings : Settings) (null : Option Text) (input : List ℕ) (after : Option (List ℕ)) (part : List ℕ) (given result : Result (Unit {0}) RunError) → VerbEnd verb settings null input after part given → (result ≡ given) ⊎ IsWriteEnd result → VerbEnd verb settings null input after part result
verb_then Counts settings null input after part given result = counts_then input settings.only_utf8 settings.limit settings.top after part given result
verb_then Decode settings null input after part given result = decode_then settings.only_utf8 input settings.limit null after part given result
verb_then Dictionary settings null input after part given result = merge_then settings.only_utf8 input settings.limit (without_entries settings.binary) after part given result
verb_then Distinct settings null input after part given result = distinct_then input settings.only_utf8 settings.limit after part given result
verb_then Encode settings null input after part given result = encode_then input settings.only_utf8 settings.limit null settings.binary after part given result
verb_then Join settings null input after part given result = recode_then settings.only_utf8 input settings.limit (column_of settings.binary) after part given result
verb_then Merge settings null input after part given result = merge_then settings.only_utf8 input settings.limit (column_of settings.binary) after part given result
verb_then Recode settings null input after part given result = recode_then settings.only_utf8 input settings.limit (without_texts settings.binary) after part given result
