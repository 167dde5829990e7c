-- What refuses to freeze an interner that threads share.
--
-- The reply to freezing is the list, or out of memory. So a refusal is out of memory.
use Rattle.std.proofs.Common.{ℕ, ◌≡◌, List, Option, Result, Ok, Err, IfErr, inl, inr}
use Rattle.lasso_parts.specs.Texts.{Text}
use Rattle.lasso_parts.specs.declared.util.LassoErrorKind.{LassoErrorKind}
use Rattle.lasso_parts.specs.declared.util.LassoErrorKind.TheVariants.{FailedAllocation}
use Rattle.lasso_log.specs.History.{Totals}
use Rattle.lasso_log.specs.Replies.{Freeze, Listed, MayCopy}
use Rattle.lasso_log.specs.Calls.{IsPlainCall}

copied : (texts : List Text) (reply : Result (List Text) LassoErrorKind) → MayCopy texts reply → IfErr reply (λ error. error ≡ FailedAllocation)
copied texts (Ok list) may = tt
copied texts (Err error) (inl none) = cc
copied texts (Err error) (inr want) = cc

-- a frozen form is refused only when out of memory
pub want_alone : {K : Type 0} (key_at : ℕ → Option K) (opening : Totals) (reply : Result (List Text) LassoErrorKind) → IsPlainCall key_at opening Freeze (Listed reply) → IfErr reply (λ error. error ≡ FailedAllocation)
want_alone key_at opening reply c = copied _ reply c.call.explained.4
