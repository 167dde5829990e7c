-- The clauses of a call that copies the texts of an interner over those of another, a field each, and the law that together they say just
-- what `ClonesInto` says.
use Rattle.std.specs.Prelude.{◌≡◌, ◌⊎◌, ◌↔◌, List, [], true, Some, None, Result, Err, IfErr, OnOk, OnErr, IsSome, IsSomeAnd, length, slice_get}
use Rattle.lasso_parts.specs.Account.{clear, store}
use Rattle.lasso_parts.specs.Texts.{Text}
use Rattle.lasso_parts.specs.declared.util.LassoError.{LassoError}
use Rattle.lasso_parts.specs.declared.util.LassoErrorKind.TheVariants.{MemoryLimitReached, FailedAllocation}
use Rattle.lasso_single.specs.Copies.{ClearsAgain, ClonesInto, bytes_of, store_all}
use Rattle.lasso_single.specs.Interner.{InternerView, most_copied}

-- the clauses of `Rodeo::try_clone_from`
pub record CloneFacts (old : InternerView) (source : List Text) (reply : Result (Unit {0}) LassoError) (new : InternerView) : Type 0 where
  pub texts : OnOk reply (new.texts ≡ source)
  pub account : OnOk reply (store_all old.first (clear old.first old.account) source ≡ Some new.account)
  pub copied : OnOk reply (new.copied ≡ bytes_of source)
  pub most : OnOk reply (new.most ≡ most_copied old)
  pub first : new.first ≡ old.first
  pub mark : new.is_cleared ≡ true
  pub reason : IfErr reply (λ error. (error ≡ MemoryLimitReached) ⊎ (error ≡ FailedAllocation))
  pub emptied : OnErr reply (new.texts ≡ [])
  pub uncopied : OnErr reply (new.copied ≡ 0)
  pub limit :
      reply ≡ Err MemoryLimitReached
      → ClearsAgain old new source (λ j account. IsSomeAnd (slice_get source j) (λ text. store old.first account (length text) ≡ None))
  pub memory :
      reply ≡ Err FailedAllocation
      → ClearsAgain old new source (λ j account. (j ≡ 0) ⊎ IsSomeAnd (slice_get source j) (λ text. IsSome (store old.first account (length text))))

-- they hold exactly if `ClonesInto` does
abbrev pub CloneFactsSayAll : Type 0
CloneFactsSayAll =
    (old new : InternerView) (source : List Text) (reply : Result (Unit {0}) LassoError)
    → CloneFacts old source reply new ↔ ClonesInto old source reply new
