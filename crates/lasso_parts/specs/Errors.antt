-- What errors print.
use Rattle.std.specs.Prelude.{ℕ, List, ◌++◌, codes}
use Rattle.lasso_parts.specs.declared.util.LassoErrorKind.{LassoErrorKind}
use Rattle.lasso_parts.specs.declared.util.LassoErrorKind.TheVariants.{MemoryLimitReached, KeySpaceExhaustion, FailedAllocation}

-- the text of a kind
abbrev pub kind_text : LassoErrorKind → List ℕ
kind_text MemoryLimitReached = codes "The configured memory limit was reached"
kind_text KeySpaceExhaustion = codes "The key space was exhausted"
kind_text FailedAllocation = codes "Failed to allocate memory"

-- the text of an error, which contracts see as its kind
abbrev pub error_text : LassoErrorKind → List ℕ
error_text kind = codes "Lasso encountered an error: " ++ kind_text kind
