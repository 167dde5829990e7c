-- One text that was interned and whose code went last: the clauses of the call, from the relation `EncodesText`.
use Rattle.std.proofs.Common.{◌≡◌, ◌⊎◌, ℕ, ◌+◌, ◌≤◌, [], ◌∷◌, ◌++◌, length, Some, None, IsSome, Result, Ok, Err, refl, sym, subst}
use Rattle.std.specs.Prelude.{OnOk, OnErr, Vec}
use Rattle.std.specs.Vec.{vec_capacity, vec_len}
use Rattle.lasso_parts.specs.Texts.{Text, position_of}
use Rattle.lasso_parts.specs.declared.util.LassoError.{LassoError}
use Rattle.lasso_parts.specs.declared.util.LassoErrorKind.TheVariants.{MemoryLimitReached, KeySpaceExhaustion, FailedAllocation}
use Rattle.lasso_single.specs.Coding.{spur_at, EncodesText}
use Rattle.lasso_single.specs.Intern.{IsAbsent, IsPresent, account_with, next_key}
use Rattle.lasso_single.specs.Interner.{InternerView, KeepsOrigin}
use Rattle.lasso_single.proofs.InternFacts.{present_idle, absent_last, absent_stored, absent_copied}
use Rattle.lasso_single.proofs.RefusalFacts.{limit_of, memory_of, no_key_of}

abbrev Reply : Type 0
Reply = Result (Unit {0}) LassoError

module _ {A : Type 0} (old new : InternerView) (text : Text) (codes after : Vec ℕ A) where
  pub text_code : (reply : Reply) → EncodesText old text codes reply new after → OnOk reply ((code : ℕ) × (position_of new.texts text ≡ Some code) × (after.items ≡ codes.items ++ code ∷ []))
  text_code (Ok done) h = h.1
  text_code (Err error) h = tt

  pub text_present : (reply : Reply) → EncodesText old text codes reply new after → IsPresent old text → new ≡ old
  text_present (Ok done) h is = (present_idle spur_at old new text (Ok h.0.0) h.0.1 is).1
  text_present (Err error) h is = h.0

  pub text_appended : (reply : Reply) → EncodesText old text codes reply new after → IsAbsent old text → OnOk reply (new.texts ≡ old.texts ++ text ∷ [])
  text_appended (Ok done) h absent = absent_last spur_at old new text (Ok h.0.0) h.0.1 absent
  text_appended (Err error) h absent = tt

  pub text_account : (reply : Reply) → EncodesText old text codes reply new after → IsAbsent old text → OnOk reply (account_with old text ≡ Some new.account)
  text_account (Ok done) h absent = absent_stored spur_at old new text (Ok h.0.0) h.0.1 absent
  text_account (Err error) h absent = tt

  pub text_copied : (reply : Reply) → EncodesText old text codes reply new after → IsAbsent old text → OnOk reply (new.copied ≡ old.copied + length text)
  text_copied (Ok done) h absent = absent_copied spur_at old new text (Ok h.0.0) h.0.1 absent
  text_copied (Err error) h absent = tt

  pub text_origin : (reply : Reply) → EncodesText old text codes reply new after → KeepsOrigin old new
  text_origin (Ok done) h = h.0.1.2
  text_origin (Err error) h = subst (KeepsOrigin old) (sym h.0) (refl, refl, refl)

  pub text_room : (reply : Reply) → EncodesText old text codes reply new after → vec_capacity codes ≤ vec_capacity after
  text_room (Ok done) h = h.2
  text_room (Err error) h = h.4

  pub text_unchanged : (reply : Reply) → EncodesText old text codes reply new after → OnErr reply (new ≡ old)
  text_unchanged (Ok done) h = tt
  text_unchanged (Err error) h = h.0

  pub text_codes_kept : (reply : Reply) → EncodesText old text codes reply new after → OnErr reply (after.items ≡ codes.items)
  text_codes_kept (Ok done) h = tt
  text_codes_kept (Err error) h = h.1

  pub text_no_key : (reply : Reply) → EncodesText old text codes reply new after → reply ≡ Err KeySpaceExhaustion → IsAbsent old text × (next_key spur_at old ≡ None)
  text_no_key (Ok done) h is = cc
  text_no_key (Err error) h is = let why : error ≡ KeySpaceExhaustion = cc in no_key_of old text error h.2 why

  pub text_limit : (reply : Reply) → EncodesText old text codes reply new after → reply ≡ Err MemoryLimitReached → IsAbsent old text × IsSome (next_key spur_at old) × (account_with old text ≡ None)
  text_limit (Ok done) h is = cc
  text_limit (Err error) h is = let why : error ≡ MemoryLimitReached = cc in limit_of old text error h.2 why

  pub text_memory : (reply : Reply) → EncodesText old text codes reply new after → reply ≡ Err FailedAllocation → (vec_capacity after ≤ vec_len after) ⊎ (IsAbsent old text × IsSome (next_key spur_at old) × IsSome (account_with old text))
  text_memory (Ok done) h is = cc
  text_memory (Err error) h is = let why : error ≡ FailedAllocation = cc in memory_of old text (vec_capacity after) (vec_len after) error h.3 why
