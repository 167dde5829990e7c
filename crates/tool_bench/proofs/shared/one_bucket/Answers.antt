use Rattle.std.proofs.Common.{◌≡◌, [], arith}
use Rattle.std.specs.Str.{bytes_eq}
use Rattle.std.proofs.lemmas.Map.Keys.{IsDistinct-from_apart}
use Rattle.lasso_parts.specs.Texts.{IsDistinct}
use Rattle.tool_bench.proofs.shared.one_bucket.Goals as goal

none_distinct : IsDistinct []
none_distinct = IsDistinct-from_apart bytes_eq [] (λ i j d below inside. absurd (omega (arith, inside)))

-- a log opens with no text
pub open_with-log-requires-clause-distinct : goal.open_with-log-requires-clause-distinct
open_with-log-requires-clause-distinct g c = rw c.in_ok-texts.ensures.texts none_distinct
