-- What the faults of JSON values print.
use Rattle.std.specs.Prelude.{ℕ, List, ◌++◌, codes, decimal}
use Rattle.lasso_parts.specs.Errors.{error_text}
use Rattle.lasso_parts.specs.declared.json.error.JsonError.{JsonError}
use Rattle.lasso_parts.specs.declared.json.error.JsonError.TheVariants.{NotAnArray, NotText, Doubled, TooMany, NotAnObject, NotAPosition, Taken, Lasso, NotAKey}

-- `item at`, and what is wrong with it
abbrev pub item_fault_text : ℕ → List ℕ → List ℕ
item_fault_text at fault = codes "item " ++ (decimal at ++ fault)

-- the text of a fault
abbrev pub json_error_text : JsonError → List ℕ
json_error_text NotAnArray = codes "The value is not an array"
json_error_text (NotText at) = item_fault_text at (codes " is not a text")
json_error_text (Doubled at) = item_fault_text at (codes " is the text of an earlier item")
json_error_text (TooMany at) = item_fault_text at (codes " has a position without a key")
json_error_text NotAnObject = codes "The value is not an object"
json_error_text (NotAPosition at) = item_fault_text at (codes " is not a position")
json_error_text (Taken at) = item_fault_text at (codes " is the position of an earlier item")
json_error_text (Lasso kind) = error_text kind
json_error_text NotAKey = codes "The value is not a key"
