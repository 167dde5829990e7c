-- The clauses of the calls that intern one text, a field each, and the laws that together they say just what the clause `all` says.
use Rattle.std.specs.Prelude.{ℕ, ◌≡◌, ◌≢◌, ◌+◌, ◌↔◌, [], ◌∷◌, ◌++◌, length, Option, IsSome, Some, None, Result, Err, IsOk, IfOk, OnOk, OnErr}
use Rattle.lasso_parts.specs.Texts.{Text, key_of}
use Rattle.lasso_parts.specs.declared.util.LassoError.{LassoError}
use Rattle.lasso_parts.specs.declared.util.LassoErrorKind.TheVariants.{MemoryLimitReached, KeySpaceExhaustion, FailedAllocation}
use Rattle.lasso_single.specs.Intern.{InternsIn, InternsStaticIn, IsPresent, IsAbsent, next_key, account_with}
use Rattle.lasso_single.specs.Interner.{InternerView, KeepsOrigin}

-- the clauses of `Rodeo::try_get_or_intern`
pub record CopiedFacts (K : Type 0) (key_at : ℕ → Option K) (old : InternerView) (text : Text) (reply : Result K LassoError) (new : InternerView) : Type 0 where
  pub key : IfOk reply (λ k. key_of key_at new.texts text ≡ Some k)
  pub present : IsPresent old text → IsOk reply × (new ≡ old)
  pub appended : IsAbsent old text → OnOk reply (new.texts ≡ old.texts ++ text ∷ [])
  pub account : IsAbsent old text → OnOk reply (account_with old text ≡ Some new.account)
  pub copied : IsAbsent old text → OnOk reply (new.copied ≡ old.copied + length text)
  pub origin : KeepsOrigin old new
  pub unchanged : OnErr reply (new ≡ old)
  pub no_key : (reply ≡ Err KeySpaceExhaustion) ↔ (IsAbsent old text × (next_key key_at old ≡ None))
  pub limit : (reply ≡ Err MemoryLimitReached) ↔ (IsAbsent old text × IsSome (next_key key_at old) × (account_with old text ≡ None))
  pub memory : reply ≡ Err FailedAllocation → IsAbsent old text × IsSome (next_key key_at old) × IsSome (account_with old text)

-- the clauses of `Rodeo::try_get_or_intern_static`
pub record StaticFacts (K : Type 0) (key_at : ℕ → Option K) (old : InternerView) (text : Text) (reply : Result K LassoError) (new : InternerView) : Type 0 where
  pub key : IfOk reply (λ k. key_of key_at new.texts text ≡ Some k)
  pub present : IsPresent old text → IsOk reply × (new ≡ old)
  pub appended : IsAbsent old text → OnOk reply (new.texts ≡ old.texts ++ text ∷ [])
  pub account : new.account ≡ old.account
  pub copied : new.copied ≡ old.copied
  pub origin : KeepsOrigin old new
  pub unchanged : OnErr reply (new ≡ old)
  pub no_key : (reply ≡ Err KeySpaceExhaustion) ↔ (IsAbsent old text × (next_key key_at old ≡ None))
  pub no_limit : reply ≢ Err MemoryLimitReached
  pub memory : reply ≡ Err FailedAllocation → IsAbsent old text × IsSome (next_key key_at old)

-- the clauses of `Rodeo::try_get_or_intern` hold exactly if `InternsIn` does
abbrev pub CopiedFactsSayAll : {K : Type 0} → (ℕ → Option K) → Type 0
CopiedFactsSayAll {K} key_at =
    (old new : InternerView) (text : Text) (reply : Result K LassoError)
    → CopiedFacts K key_at old text reply new ↔ InternsIn key_at old text reply new

-- the clauses of `Rodeo::try_get_or_intern_static` hold exactly if `InternsStaticIn` does
abbrev pub StaticFactsSayAll : {K : Type 0} → (ℕ → Option K) → Type 0
StaticFactsSayAll {K} key_at =
    (old new : InternerView) (text : Text) (reply : Result K LassoError)
    → StaticFacts K key_at old text reply new ↔ InternsStaticIn key_at old text reply new
