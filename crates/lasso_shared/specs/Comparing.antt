-- What a comparison with an interner that threads share says.
use Rattle.std.specs.Prelude.{◌≡◌, ◌↔◌, ℕ, Bool, IsTrue, List, Option, Ok}
use Rattle.lasso_parts.specs.Texts.{Text}
use Rattle.lasso_log.specs.Calls.{IsPlainCall}
use Rattle.lasso_log.specs.History.{Totals}
use Rattle.lasso_log.specs.Replies.{Strings, Listed}

-- the result is whether the interner's list at one step, as a plain walk over its texts gives it, is this list
abbrev pub ComparesList : {K : Type 0} → (ℕ → Option K) → Totals → List Text → Bool → Type 0
ComparesList {K} key_at opening texts result =
    (list : List Text) × IsPlainCall {K = K} key_at opening Strings (Listed (Ok list)) × (IsTrue result ↔ (list ≡ texts))
