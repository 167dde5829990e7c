-- The clauses of calls with codes that say why a text was refused, a field each, and the law that together they say just what `IsRefused`
-- and `MayLackMemory` say.
use Rattle.std.specs.Prelude.{ℕ, ◌≡◌, ◌≤◌, ◌⊎◌, ◌↔◌, IsSome, None}
use Rattle.lasso_parts.specs.Texts.{Text}
use Rattle.lasso_parts.specs.declared.util.LassoError.{LassoError}
use Rattle.lasso_parts.specs.declared.util.LassoErrorKind.TheVariants.{MemoryLimitReached, KeySpaceExhaustion, FailedAllocation}
use Rattle.lasso_single.specs.Coding.{spur_at, IsAdmitted, IsRefused}
use Rattle.lasso_single.specs.Intern.{IsAbsent, account_with, next_key}
use Rattle.lasso_single.specs.Interner.{InternerView}

-- the clauses; there are `len` codes, and room for `capacity`
pub record RefusalFacts (now : InternerView) (capacity len : ℕ) (text : Text) (error : LassoError) : Type 0 where
  pub no_key : error ≡ KeySpaceExhaustion → IsAbsent now text × (next_key spur_at now ≡ None)
  pub limit : error ≡ MemoryLimitReached → IsAbsent now text × IsSome (next_key spur_at now) × (account_with now text ≡ None)
  pub memory : error ≡ FailedAllocation → (capacity ≤ len) ⊎ (IsAbsent now text × IsSome (next_key spur_at now) × IsSome (account_with now text))

-- they hold exactly if these two do
abbrev pub RefusalFactsSayAll : Type 0
RefusalFactsSayAll =
    (now : InternerView) (capacity len : ℕ) (text : Text) (error : LassoError)
    → RefusalFacts now capacity len text error ↔ (IsRefused now text error × (error ≡ FailedAllocation → (capacity ≤ len) ⊎ IsAdmitted now text))
