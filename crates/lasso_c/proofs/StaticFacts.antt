-- Interning one static text on a handle: the clauses of the call, from the relation `StaticEnds`.
--
-- The status says which case it was, as `TextFacts` has it of a copied text: but a static one is refused for two reasons alone, and no
-- case changes the account.
use Rattle.std.proofs.Common.{◌≡◌, ◌≢◌, ◌↔◌, ℕ, ◌+◌, ◌-◌, Bool, true, false, List, Option, Some, None, IsSome, IsSomeAnd, IsTrue, Result, Ok, Err, refl, sym, ap, ◌∙◌, arith}
use Rattle.std.proofs.lemmas.Grind.{common_steps}
use Rattle.lasso_parts.specs.Account.{Account}
use Rattle.lasso_parts.specs.Texts.{Text, position_of}
use Rattle.lasso_parts.specs.declared.util.LassoError.{LassoError}
use Rattle.lasso_parts.specs.declared.util.LassoErrorKind.TheVariants.{MemoryLimitReached, KeySpaceExhaustion, FailedAllocation}
use Rattle.lasso_single.specs.Intern.{InternsStaticIn, IsAbsent, IsPresent, next_key}
use Rattle.lasso_single.specs.Interner.{InternerView}
use Rattle.lasso_single.proofs.InternFacts.{static_account_stays, static_never_limited, static_present_idle, static_refused_idle, static_refused_keyless, static_refused_memory}
use Rattle.lasso_c.specs.Encoding.{with_new}
use Rattle.lasso_c.specs.Handles.{account_in}
use Rattle.lasso_c.specs.Interning.{InternsStaticCode, StaticEnds, key_of_code, refusal_at}
use Rattle.lasso_c.specs.Status.{error_status, outcome_status}
use Rattle.lasso_c.specs.declared.error.CallError.{CallError}
use Rattle.lasso_c.specs.declared.status.TheConstants.{DONE, LIMIT_REACHED, NOT_UTF8, NO_CODE_LEFT, NO_INTERNER, NO_MEMORY}
use Rattle.lasso_c.specs.Seeded.{Interner}
use Rattle.lasso_c.proofs.Interning.{position_interned}

-- the status of a refusal by the interner
abbrev refused_status : LassoError → ℕ
refused_status error = error_status (refusal_at 0 error)

-- ---- one text and the interner that was there

-- a refused text leaves the interner as it was
pub unchanged_static : (old new : InternerView) (text : Text) (refusal : CallError) → InternsStaticCode old text (Err refusal) new → new ≡ old
unchanged_static old new text refusal h = static_refused_idle {K = ℕ} key_of_code old new text (Err h.0) h.1

-- the list with a text, and its code
pub grown_static : (old new : InternerView) (text : Text) (code : ℕ) → InternsStaticCode old text (Ok code) new → new.texts ≡ with_new old.texts text
grown_static old new text code h = grind (arith, common_steps, h)

pub static_code_found : (old new : InternerView) (text : Text) (code : ℕ) → InternsStaticCode old text (Ok code) new → position_of (with_new old.texts text) text ≡ Some code
static_code_found old new text code h = position_interned old.texts text (code + 1) h.0.1 ∙ ap (λ n. Some n) (let n : (code + 1) - 1 ≡ code = omega arith in n)

module _ (old new : InternerView) (text : Text) (status : ℕ) where
  ended_no_code : (outcome : Result ℕ CallError) → InternsStaticCode old text outcome new → status ≡ outcome_status outcome → (status ≡ NO_CODE_LEFT) ↔ (IsAbsent old text × (next_key key_of_code old ≡ None))
  ended_no_code (Ok code) h is =
      ((λ e. absurd (omega (arith, e, is))), (λ why. absurd (cc ((static_refused_keyless key_of_code old new text (Ok (code + 1)) h).1 why))))
  ended_no_code (Err refusal) h is = by h.0 h.1 (is ∙ ap error_status h.2)
    where
      by : (error : LassoError) → InternsStaticIn {K = ℕ} key_of_code old text (Err error) new → status ≡ refused_status error → (status ≡ NO_CODE_LEFT) ↔ (IsAbsent old text × (next_key key_of_code old ≡ None))
      by KeySpaceExhaustion refused told = ((λ e. (static_refused_keyless key_of_code old new text (Err KeySpaceExhaustion) refused).0 refl), (λ why. told))
      by MemoryLimitReached refused told = absurd (static_never_limited {K = ℕ} key_of_code old new text (Err MemoryLimitReached) refused refl)
      by FailedAllocation refused told =
          ((λ e. absurd (omega (arith, e, told))), (λ why. absurd (cc ((static_refused_keyless key_of_code old new text (Err FailedAllocation) refused).1 why))))

  ended_no_limit : (outcome : Result ℕ CallError) → InternsStaticCode old text outcome new → status ≡ outcome_status outcome → status ≢ LIMIT_REACHED
  ended_no_limit (Ok code) h is e = absurd (omega (arith, e, is))
  ended_no_limit (Err refusal) h is e = by h.0 h.1 (is ∙ ap error_status h.2)
    where
      by : (error : LassoError) → InternsStaticIn {K = ℕ} key_of_code old text (Err error) new → status ≡ refused_status error → ⊥
      by MemoryLimitReached refused told = static_never_limited {K = ℕ} key_of_code old new text (Err MemoryLimitReached) refused refl
      by KeySpaceExhaustion refused told = absurd (omega (arith, e, told))
      by FailedAllocation refused told = absurd (omega (arith, e, told))

  ended_memory : (outcome : Result ℕ CallError) → InternsStaticCode old text outcome new → status ≡ outcome_status outcome → status ≡ NO_MEMORY → IsAbsent old text × IsSome (next_key key_of_code old)
  ended_memory (Ok code) h is e = absurd (omega (arith, e, is))
  ended_memory (Err refusal) h is e = by h.0 h.1 (is ∙ ap error_status h.2)
    where
      by : (error : LassoError) → InternsStaticIn {K = ℕ} key_of_code old text (Err error) new → status ≡ refused_status error → IsAbsent old text × IsSome (next_key key_of_code old)
      by FailedAllocation refused told = static_refused_memory key_of_code old new text (Err FailedAllocation) refused refl
      by KeySpaceExhaustion refused told = absurd (omega (arith, e, told))
      by MemoryLimitReached refused told = absurd (omega (arith, e, told))

  -- a present text is never refused
  ended_present : (outcome : Result ℕ CallError) → InternsStaticCode old text outcome new → status ≡ outcome_status outcome → IsPresent old text → status ≡ DONE
  ended_present (Ok code) h is there = is
  ended_present (Err refusal) h is there = absurd (cc ((static_present_idle {K = ℕ} key_of_code old new text (Err h.0) h.1 there).0))

  ended_account : (outcome : Result ℕ CallError) → InternsStaticCode old text outcome new → new.account ≡ old.account
  ended_account (Ok code) h = static_account_stays key_of_code old new text (Ok (code + 1)) h
  ended_account (Err refusal) h = static_account_stays {K = ℕ} key_of_code old new text (Err h.0) h.1

-- the statuses of these cases are those of no other
ended_else : (status : ℕ) (outcome : Result ℕ CallError) (old new : InternerView) (text : Text) → InternsStaticCode old text outcome new → status ≡ outcome_status outcome → (status ≡ NOT_UTF8 → ⊥) × (status ≡ NO_INTERNER → ⊥)
ended_else status (Ok code) old new text h is = ((λ e. absurd (omega (arith, e, is))), (λ e. absurd (omega (arith, e, is))))
ended_else status (Err refusal) old new text h is = by h.0 (is ∙ ap error_status h.2)
  where
    by : (error : LassoError) → status ≡ refused_status error → (status ≡ NOT_UTF8 → ⊥) × (status ≡ NO_INTERNER → ⊥)
    by MemoryLimitReached told = ((λ e. absurd (omega (arith, e, told))), (λ e. absurd (omega (arith, e, told))))
    by KeySpaceExhaustion told = ((λ e. absurd (omega (arith, e, told))), (λ e. absurd (omega (arith, e, told))))
    by FailedAllocation told = ((λ e. absurd (omega (arith, e, told))), (λ e. absurd (omega (arith, e, told))))

-- ---- on the handle

module _ (new : Option Interner) (text : Text) (status : ℕ) where
  pub static_not_utf8 : (utf8 : Bool) (old : Option Interner) → StaticEnds utf8 old text status new → (status ≡ NOT_UTF8) ↔ (utf8 ≡ false)
  static_not_utf8 false old h = ((λ e. refl), (λ no. h.0))
  static_not_utf8 true None h = ((λ e. absurd (omega (arith, e, h.0))), (λ no. absurd (cc no)))
  static_not_utf8 true (Some old) h = ((λ e. absurd ((ended_else status h.1 old.rodeo h.0.rodeo text h.3 h.4).0 e)), (λ no. absurd (cc no)))

  pub static_no_interner : (utf8 : Bool) (old : Option Interner) → StaticEnds utf8 old text status new → (status ≡ NO_INTERNER) ↔ (IsTrue utf8 × (old ≡ None))
  static_no_interner false old h = ((λ e. absurd (omega (arith, e, h.0))), (λ both. absurd (cc (both.0))))
  static_no_interner true None h = ((λ e. (refl, refl)), (λ both. h.0))
  static_no_interner true (Some old) h = ((λ e. absurd ((ended_else status h.1 old.rodeo h.0.rodeo text h.3 h.4).1 e)), (λ both. absurd (cc (both.1))))

  pub static_no_code : (utf8 : Bool) (old : Option Interner) → StaticEnds utf8 old text status new → (status ≡ NO_CODE_LEFT) ↔ (IsTrue utf8 × IsSomeAnd old (λ i. IsAbsent i.rodeo text × (next_key key_of_code i.rodeo ≡ None)))
  static_no_code false old h = ((λ e. absurd (omega (arith, e, h.0))), (λ both. absurd (cc (both.0))))
  static_no_code true None h = ((λ e. absurd (omega (arith, e, h.0))), (λ both. absurd (both.1)))
  static_no_code true (Some old) h = let ends = ended_no_code old.rodeo h.0.rodeo text status h.1 h.3 h.4 in ((λ e. (refl, ends.0 e)), (λ both. ends.1 both.1))

  pub static_no_limit : (utf8 : Bool) (old : Option Interner) → StaticEnds utf8 old text status new → status ≢ LIMIT_REACHED
  static_no_limit false old h e = absurd (omega (arith, e, h.0))
  static_no_limit true None h e = absurd (omega (arith, e, h.0))
  static_no_limit true (Some old) h e = ended_no_limit old.rodeo h.0.rodeo text status h.1 h.3 h.4 e

  pub static_memory : (utf8 : Bool) (old : Option Interner) → StaticEnds utf8 old text status new
      → status ≡ NO_MEMORY → IsTrue utf8 × IsSomeAnd old (λ i. IsAbsent i.rodeo text × IsSome (next_key key_of_code i.rodeo))
  static_memory false old h e = absurd (omega (arith, e, h.0))
  static_memory true None h e = absurd (omega (arith, e, h.0))
  static_memory true (Some old) h e = (refl, ended_memory old.rodeo h.0.rodeo text status h.1 h.3 h.4 e)

  pub static_present : (utf8 : Bool) (old : Option Interner) → StaticEnds utf8 old text status new → IsTrue utf8 → IsSomeAnd old (λ i. IsPresent i.rodeo text) → status ≡ DONE
  static_present false old h good there = absurd (cc good)
  static_present true None h good there = absurd there
  static_present true (Some old) h good there = ended_present old.rodeo h.0.rodeo text status h.1 h.3 h.4 there

  pub static_account : (utf8 : Bool) (old : Option Interner) → StaticEnds utf8 old text status new → account_in new ≡ account_in old
  static_account false old h = ap account_in h.1
  static_account true None h = ap account_in h.1
  static_account true (Some old) h = ap account_in h.2 ∙ ap (λ (a : Account). Some a) (ended_account old.rodeo h.0.rodeo text status h.1 h.3)
