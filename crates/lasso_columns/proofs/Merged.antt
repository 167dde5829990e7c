-- The clauses of merging one interner into another, from the relations that it keeps.
use Rattle.std.proofs.Common.{◌≡◌, ◌⊎◌, inl, inr, ℕ, List, take, slice_get, None, IsSome, IsSomeAnd, Result, Ok, Err, refl}
use Rattle.std.specs.Prelude.{IfErr, OnOk}
use Rattle.lasso_parts.specs.Texts.{Text}
use Rattle.lasso_parts.specs.declared.util.LassoError.{LassoError}
use Rattle.lasso_parts.specs.declared.util.LassoErrorKind.TheVariants.{MemoryLimitReached, KeySpaceExhaustion, FailedAllocation}
use Rattle.lasso_single.specs.Coding.{spur_at, IsAdmitted, IsRefused}
use Rattle.lasso_single.specs.Filling.{extend, with_all_new}
use Rattle.lasso_single.specs.Intern.{IsAbsent, account_with, next_key}
use Rattle.lasso_single.specs.Interner.{InternerView}
use Rattle.lasso_single.proofs.Filled.{accepted}
use Rattle.lasso_single.proofs.FillingFacts.{Added, filled_added, filled_texts}
use Rattle.lasso_single.proofs.RefusalFacts.{admitted_parts, at_error, limit_of, no_key_of, some_and_weaker}
use Rattle.lasso_columns.specs.Merging.{MayLackMemoryMerging, MergesUpTo, StopsMerging}

pub merged_texts : {X : Type 0} (old new : InternerView) (list : List Text) (result : Result X LassoError) → OnOk result (extend spur_at old list accepted new) → OnOk result (new.texts ≡ with_all_new old.texts list)
merged_texts old new list (Ok x) interns = filled_texts spur_at list old new interns
merged_texts old new list (Err error) interns = tt

pub merged_added : {X : Type 0} (old new : InternerView) (list : List Text) (result : Result X LassoError) → OnOk result (extend spur_at old list accepted new) → IfErr result (λ error. StopsMerging old new list error) → Added old new
merged_added old new list (Ok x) interns refused = filled_added spur_at list old new interns
merged_added old new list (Err error) interns refused = filled_added spur_at (take refused.0 list) old new refused.1

module _ (old new : InternerView) (list : List Text) where
  up_to : (P Q : Text → Type 0) → ((text : Text) → P text → Q text) → (n : ℕ) → extend spur_at old (take n list) accepted new → IsSomeAnd (slice_get list n) P → MergesUpTo old new list Q
  up_to P Q weaker n interns holds = (n, filled_texts spur_at (take n list) old new interns, some_and_weaker (slice_get list n) P Q weaker holds)

  pub merged_no_key : {X : Type 0} (result : Result X LassoError) → IfErr result (λ error. StopsMerging old new list error) → result ≡ Err KeySpaceExhaustion → MergesUpTo old new list (λ text. IsAbsent new text × (next_key spur_at new ≡ None))
  merged_no_key result refused is =
      let stops = at_error result (λ error. StopsMerging old new list error) KeySpaceExhaustion refused is in
      up_to (λ text. IsRefused new text KeySpaceExhaustion) (λ text. IsAbsent new text × (next_key spur_at new ≡ None)) (λ text why. no_key_of new text KeySpaceExhaustion why refl) stops.0 stops.1 stops.2

  pub merged_limit : {X : Type 0} (result : Result X LassoError) → IfErr result (λ error. StopsMerging old new list error) → result ≡ Err MemoryLimitReached → MergesUpTo old new list (λ text. IsAbsent new text × IsSome (next_key spur_at new) × (account_with new text ≡ None))
  merged_limit result refused is =
      let stops = at_error result (λ error. StopsMerging old new list error) MemoryLimitReached refused is in
      up_to (λ text. IsRefused new text MemoryLimitReached) (λ text. IsAbsent new text × IsSome (next_key spur_at new) × (account_with new text ≡ None)) (λ text why. limit_of new text MemoryLimitReached why refl) stops.0 stops.1 stops.2

  pub merged_memory : {X : Type 0} (result : Result X LassoError) → IfErr result (λ error. MayLackMemoryMerging old new list error) → result ≡ Err FailedAllocation
      → (new ≡ old) ⊎ MergesUpTo old new list (λ text. IsAbsent new text × IsSome (next_key spur_at new) × IsSome (account_with new text))
  merged_memory result lacks is = elim (at_error result (λ error. MayLackMemoryMerging old new list error) FailedAllocation lacks is refl) [
    | inl same ↦ inl same
    | inr stops ↦
        inr (up_to (λ text. IsAdmitted new text) (λ text. IsAbsent new text × IsSome (next_key spur_at new) × IsSome (account_with new text)) (λ text admits. admitted_parts new text admits) stops.0 stops.1 stops.2)
  ]
