-- A new text that keys and limit admit, and that memory was not found for.
--
-- The list, the account and the bytes copied in are as before, so the reply is one of those that interning allows: the text is
-- absent, its position has a key, and the account has a place for it.
use Rattle.std.proofs.Common.{◌≡◌, ◌∙◌, ℕ, length, inr, Option, Some, None, IsSome, Result, Ok, Err, IsOk, refl, sym, subst}
use Rattle.std.specs.Result.{IsErrAnd}
use Rattle.lasso_parts.specs.Account.{Account, store}
use Rattle.lasso_parts.specs.Held.{Held}
use Rattle.lasso_parts.specs.Texts.{Text, position_of}
use Rattle.lasso_parts.specs.declared.util.LassoError.{LassoError}
use Rattle.lasso_parts.specs.declared.util.LassoErrorKind.TheVariants.{FailedAllocation}
use Rattle.lasso_single.specs.Intern.{InternsIn, interned, found_or_new, keyed_or_refused, stored_or_refused}
use Rattle.lasso_single.specs.Interner.{InternerView, KeepsOrigin}

-- the account has a place, so the text would go in
stored : (held : Held) (text : Text) (place : Option Account) → IsSome place → IsOk (stored_or_refused held text place)
stored held text None there = absurd (cc)
stored held text (Some account) there = refl

module _ {K : Type 0} (key_at : ℕ → Option K) where
  pub admitted : (first : ℕ) (held : Held) (text : Text) (k : K) → position_of held.texts text ≡ None → Some k ≡ key_at (length held.texts) → IsSome (store first held.account (length text)) → IsOk (interned key_at first held text)
  admitted first held text k absent keyed place =
      subst (λ (found : Option ℕ). IsOk (found_or_new key_at first held text found)) (sym absent)
      (subst (λ (key : Option K). IsOk (keyed_or_refused first held text key)) keyed (stored held text (store first held.account (length text)) place))

  pub lacking : (old new : InternerView) (text : Text) (k : K) (why : LassoError) (reply : Result K LassoError) → IsErrAnd reply (λ error. error ≡ why) → why ≡ FailedAllocation → new.texts ≡ old.texts → new.account ≡ old.account → new.copied ≡ old.copied → KeepsOrigin old new
      → position_of old.texts text ≡ None → Some k ≡ key_at (length old.texts) → IsSome (store old.first old.account (length text)) → InternsIn key_at old text reply new
  lacking old new text k why (Ok _) failed memory texts account copied origin absent keyed place = absurd failed
  lacking old new text k why (Err error) failed memory texts account copied origin absent keyed place =
      ((texts, account, inr (failed ∙ memory, absent, admitted old.first (record { texts = old.texts; account = old.account }) text k absent keyed place)), copied, origin)
