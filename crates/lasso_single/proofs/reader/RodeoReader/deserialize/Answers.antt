use Rattle.std.proofs.Common.{List, Ok, true, sym, subst}
use Rattle.serde_json.specs.View.{view}
use Rattle.lasso_parts.specs.Texts.{Text}
use Rattle.lasso_single.specs.Json.{ReadsInto}
use Rattle.lasso_single.proofs.reader.RodeoReader.deserialize.Goals as goal

pub returns-in-Ok-clause-read : goal.returns-in-Ok-clause-read
returns-in-Ok-clause-read g c = subst (λ (ts : List Text). ReadsInto g.K.Key.key_at true (view c.args.value.now) (Ok ts)) (sym c.into_reader.ensures) c.in-Ok.ensures.read

pub returns-in-Ok-clause-overflow : goal.returns-in-Ok-clause-overflow
returns-in-Ok-clause-overflow g c texts read too_many = let refused = c.in-Ok.ensures.overflow texts read too_many in cc

pub returns-in-Err-clause-read : goal.returns-in-Err-clause-read
returns-in-Err-clause-read g c = c.in-Err.ensures.read

pub returns-in-Err-clause-overflow : goal.returns-in-Err-clause-overflow
returns-in-Err-clause-overflow g c texts read too_many = let refused = c.in-Err.ensures.overflow texts read too_many in cc

pub returns-in-Ok-clause-no_array : goal.returns-in-Ok-clause-no_array
returns-in-Ok-clause-no_array g c none = let refused = c.in-Ok.ensures.no_array none in cc

pub returns-in-Ok-clause-first_item : goal.returns-in-Ok-clause-first_item
returns-in-Ok-clause-first_item g c first others fault at is = let refused = c.in-Ok.ensures.first_item first others fault at is in cc

pub returns-in-Err-clause-no_array : goal.returns-in-Err-clause-no_array
returns-in-Err-clause-no_array g c none = let refused = c.in-Err.ensures.no_array none in cc

pub returns-in-Err-clause-first_item : goal.returns-in-Err-clause-first_item
returns-in-Err-clause-first_item g c first others fault at is = let refused = c.in-Err.ensures.first_item first others fault at is in cc
