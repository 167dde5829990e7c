-- One text whose code was returned: the clauses of the call, from the relation `InternsCode`.
use Rattle.std.proofs.Common.{◌≡◌, ◌↔◌, ℕ, ◌+◌, [], ◌∷◌, ◌++◌, length, Some, None, IsSome, Result, Ok, Err, IsOk, refl}
use Rattle.std.specs.Prelude.{OnOk, OnErr}
use Rattle.lasso_parts.specs.Texts.{Text}
use Rattle.lasso_parts.specs.declared.util.LassoError.{LassoError}
use Rattle.lasso_parts.specs.declared.util.LassoErrorKind.TheVariants.{MemoryLimitReached, KeySpaceExhaustion, FailedAllocation}
use Rattle.lasso_single.specs.Coding.{spur_at, InternsCode}
use Rattle.lasso_single.specs.Intern.{IsAbsent, IsPresent, account_with, next_key}
use Rattle.lasso_single.specs.Interner.{InternerView, KeepsOrigin}
use Rattle.lasso_single.proofs.InternFacts.{present_idle, absent_last, absent_stored, absent_copied, refused_idle, refused_keyless, refused_limit, refused_memory}

module _ (old new : InternerView) (text : Text) where
  pub code_present : (reply : Result ℕ LassoError) → InternsCode old text reply new → IsPresent old text → IsOk reply × (new ≡ old)
  code_present (Ok code) h is = (refl, (present_idle spur_at old new text (Ok (code + 1)) h is).1)
  code_present (Err error) h is = present_idle spur_at old new text (Err error) h is

  pub code_appended : (reply : Result ℕ LassoError) → InternsCode old text reply new → IsAbsent old text → OnOk reply (new.texts ≡ old.texts ++ text ∷ [])
  code_appended (Ok code) h absent = absent_last spur_at old new text (Ok (code + 1)) h absent
  code_appended (Err error) h absent = tt

  pub code_account : (reply : Result ℕ LassoError) → InternsCode old text reply new → IsAbsent old text → OnOk reply (account_with old text ≡ Some new.account)
  code_account (Ok code) h absent = absent_stored spur_at old new text (Ok (code + 1)) h absent
  code_account (Err error) h absent = tt

  pub code_copied : (reply : Result ℕ LassoError) → InternsCode old text reply new → IsAbsent old text → OnOk reply (new.copied ≡ old.copied + length text)
  code_copied (Ok code) h absent = absent_copied spur_at old new text (Ok (code + 1)) h absent
  code_copied (Err error) h absent = tt

  pub code_origin : (reply : Result ℕ LassoError) → InternsCode old text reply new → KeepsOrigin old new
  code_origin (Ok code) h = h.2
  code_origin (Err error) h = h.2

  pub code_unchanged : (reply : Result ℕ LassoError) → InternsCode old text reply new → OnErr reply (new ≡ old)
  code_unchanged (Ok code) h = tt
  code_unchanged (Err error) h = refused_idle spur_at old new text (Err error) h

  pub code_no_key : (reply : Result ℕ LassoError) → InternsCode old text reply new → (reply ≡ Err KeySpaceExhaustion) ↔ (IsAbsent old text × (next_key spur_at old ≡ None))
  code_no_key (Ok code) h =
      ((λ is. absurd (cc is)), (λ why. absurd (cc ((refused_keyless spur_at old new text (Ok (code + 1)) h).1 why))))
  code_no_key (Err error) h = refused_keyless spur_at old new text (Err error) h

  pub code_limit : (reply : Result ℕ LassoError) → InternsCode old text reply new → (reply ≡ Err MemoryLimitReached) ↔ (IsAbsent old text × IsSome (next_key spur_at old) × (account_with old text ≡ None))
  code_limit (Ok code) h =
      ((λ is. absurd (cc is)), (λ why. absurd (cc ((refused_limit spur_at old new text (Ok (code + 1)) h).1 why))))
  code_limit (Err error) h = refused_limit spur_at old new text (Err error) h

  pub code_memory : (reply : Result ℕ LassoError) → InternsCode old text reply new → reply ≡ Err FailedAllocation → IsAbsent old text × IsSome (next_key spur_at old) × IsSome (account_with old text)
  code_memory (Ok code) h is = cc
  code_memory (Err error) h is = refused_memory spur_at old new text (Err error) h is
