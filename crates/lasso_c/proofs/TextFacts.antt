-- Interning one text on a handle: the clauses of the call, from the relation `TextEnds`.
--
-- The status says which case it was: the bytes are not UTF-8; there is no interner; the interner has the text then; or it refused it, for
-- one of the three reasons of `Rodeo::try_get_or_intern`. No two cases have one status.
use Rattle.std.proofs.Common.{◌≡◌, ◌↔◌, ℕ, ◌+◌, Bool, true, false, List, Option, Some, None, IsSome, IsSomeAnd, IsTrue, Result, Ok, Err, refl, sym, ap, ◌∙◌, arith}
use Rattle.lasso_parts.specs.Texts.{Text}
use Rattle.lasso_parts.specs.declared.util.LassoError.{LassoError}
use Rattle.lasso_parts.specs.declared.util.LassoErrorKind.TheVariants.{MemoryLimitReached, KeySpaceExhaustion, FailedAllocation}
use Rattle.lasso_single.specs.Intern.{InternsIn, IsAbsent, IsPresent, account_with, next_key}
use Rattle.lasso_single.specs.Interner.{InternerView}
use Rattle.lasso_single.proofs.InternFacts.{absent_stored, present_idle, refused_keyless, refused_limit, refused_memory}
use Rattle.lasso_c.specs.Handles.{account_in}
use Rattle.lasso_c.specs.Interning.{BatchEnds, InternsCode, TextEnds, batch_report, key_of_code, refusal_at}
use Rattle.lasso_c.specs.Status.{error_status, outcome_status}
use Rattle.lasso_c.specs.declared.error.CallError.{CallError}
use Rattle.lasso_c.specs.declared.error.LassoReport.{LassoReport}
use Rattle.lasso_c.specs.declared.status.TheConstants.{DONE, LIMIT_REACHED, NOT_UTF8, NO_CODE_LEFT, NO_INTERNER, NO_MEMORY}
use Rattle.lasso_c.specs.Seeded.{Interner}

-- the status of a refusal by the interner
abbrev refused_status : LassoError → ℕ
refused_status error = error_status (refusal_at 0 error)

-- ---- one text and the interner that was there

module _ (old new : InternerView) (text : Text) (status : ℕ) where
  ended_no_code : (outcome : Result ℕ CallError) → InternsCode 0 old text outcome new → status ≡ outcome_status outcome → (status ≡ NO_CODE_LEFT) ↔ (IsAbsent old text × (next_key key_of_code old ≡ None))
  ended_no_code (Ok code) h is =
      ((λ e. absurd (omega (arith, e, is))), (λ why. absurd (cc ((refused_keyless key_of_code old new text (Ok (code + 1)) h).1 why))))
  ended_no_code (Err refusal) h is = by h.0 h.1 (is ∙ ap error_status h.2)
    where
      by : (error : LassoError) → InternsIn {K = ℕ} key_of_code old text (Err error) new → status ≡ refused_status error → (status ≡ NO_CODE_LEFT) ↔ (IsAbsent old text × (next_key key_of_code old ≡ None))
      by KeySpaceExhaustion refused told = ((λ e. (refused_keyless key_of_code old new text (Err KeySpaceExhaustion) refused).0 refl), (λ why. told))
      by MemoryLimitReached refused told =
          ((λ e. absurd (omega (arith, e, told))), (λ why. absurd (cc ((refused_keyless key_of_code old new text (Err MemoryLimitReached) refused).1 why))))
      by FailedAllocation refused told =
          ((λ e. absurd (omega (arith, e, told))), (λ why. absurd (cc ((refused_keyless key_of_code old new text (Err FailedAllocation) refused).1 why))))

  ended_limit : (outcome : Result ℕ CallError) → InternsCode 0 old text outcome new → status ≡ outcome_status outcome → (status ≡ LIMIT_REACHED) ↔ (IsAbsent old text × IsSome (next_key key_of_code old) × (account_with old text ≡ None))
  ended_limit (Ok code) h is =
      ((λ e. absurd (omega (arith, e, is))), (λ why. absurd (cc ((refused_limit key_of_code old new text (Ok (code + 1)) h).1 why))))
  ended_limit (Err refusal) h is = by h.0 h.1 (is ∙ ap error_status h.2)
    where
      by : (error : LassoError) → InternsIn {K = ℕ} key_of_code old text (Err error) new → status ≡ refused_status error → (status ≡ LIMIT_REACHED) ↔ (IsAbsent old text × IsSome (next_key key_of_code old) × (account_with old text ≡ None))
      by MemoryLimitReached refused told = ((λ e. (refused_limit key_of_code old new text (Err MemoryLimitReached) refused).0 refl), (λ why. told))
      by KeySpaceExhaustion refused told =
          ((λ e. absurd (omega (arith, e, told))), (λ why. absurd (cc ((refused_limit key_of_code old new text (Err KeySpaceExhaustion) refused).1 why))))
      by FailedAllocation refused told =
          ((λ e. absurd (omega (arith, e, told))), (λ why. absurd (cc ((refused_limit key_of_code old new text (Err FailedAllocation) refused).1 why))))

  ended_memory : (outcome : Result ℕ CallError) → InternsCode 0 old text outcome new → status ≡ outcome_status outcome → status ≡ NO_MEMORY → IsAbsent old text × IsSome (next_key key_of_code old) × IsSome (account_with old text)
  ended_memory (Ok code) h is e = absurd (omega (arith, e, is))
  ended_memory (Err refusal) h is e = by h.0 h.1 (is ∙ ap error_status h.2)
    where
      by : (error : LassoError) → InternsIn {K = ℕ} key_of_code old text (Err error) new → status ≡ refused_status error → IsAbsent old text × IsSome (next_key key_of_code old) × IsSome (account_with old text)
      by FailedAllocation refused told = refused_memory key_of_code old new text (Err FailedAllocation) refused refl
      by KeySpaceExhaustion refused told = absurd (omega (arith, e, told))
      by MemoryLimitReached refused told = absurd (omega (arith, e, told))

  -- a present text is never refused
  ended_present : (outcome : Result ℕ CallError) → InternsCode 0 old text outcome new → status ≡ outcome_status outcome → IsPresent old text → (status ≡ DONE) × (new ≡ old)
  ended_present (Ok code) h is there = (is, (present_idle key_of_code old new text (Ok (code + 1)) h there).1)
  ended_present (Err refusal) h is there = absurd (cc ((present_idle {K = ℕ} key_of_code old new text (Err h.0) h.1 there).0))

  ended_account : (outcome : Result ℕ CallError) → InternsCode 0 old text outcome new → status ≡ outcome_status outcome → status ≡ DONE → IsAbsent old text → account_with old text ≡ Some new.account
  ended_account (Ok code) h is done absent = absent_stored key_of_code old new text (Ok (code + 1)) h absent
  ended_account (Err refusal) h is done absent = by h.0 (is ∙ ap error_status h.2)
    where
      by : (error : LassoError) → status ≡ refused_status error → account_with old text ≡ Some new.account
      by MemoryLimitReached told = absurd (omega (arith, done, told))
      by KeySpaceExhaustion told = absurd (omega (arith, done, told))
      by FailedAllocation told = absurd (omega (arith, done, told))

-- the statuses of these cases are those of no other
ended_else : (status : ℕ) (outcome : Result ℕ CallError) (old new : InternerView) (text : Text) → InternsCode 0 old text outcome new → status ≡ outcome_status outcome → (status ≡ NOT_UTF8 → ⊥) × (status ≡ NO_INTERNER → ⊥)
ended_else status (Ok code) old new text h is = ((λ e. absurd (omega (arith, e, is))), (λ e. absurd (omega (arith, e, is))))
ended_else status (Err refusal) old new text h is = by h.0 (is ∙ ap error_status h.2)
  where
    by : (error : LassoError) → status ≡ refused_status error → (status ≡ NOT_UTF8 → ⊥) × (status ≡ NO_INTERNER → ⊥)
    by MemoryLimitReached told = ((λ e. absurd (omega (arith, e, told))), (λ e. absurd (omega (arith, e, told))))
    by KeySpaceExhaustion told = ((λ e. absurd (omega (arith, e, told))), (λ e. absurd (omega (arith, e, told))))
    by FailedAllocation told = ((λ e. absurd (omega (arith, e, told))), (λ e. absurd (omega (arith, e, told))))

-- ---- on the handle

module _ (new : Option Interner) (text : Text) (status : ℕ) where
  pub text_not_utf8 : (utf8 : Bool) (old : Option Interner) → TextEnds utf8 old text status new → (status ≡ NOT_UTF8) ↔ (utf8 ≡ false)
  text_not_utf8 false old h = ((λ e. refl), (λ no. h.0))
  text_not_utf8 true None h = ((λ e. absurd (omega (arith, e, h.0))), (λ no. absurd (cc no)))
  text_not_utf8 true (Some old) h = ((λ e. absurd ((ended_else status h.1 old.rodeo h.0.rodeo text h.3 h.4).0 e)), (λ no. absurd (cc no)))

  pub text_no_interner : (utf8 : Bool) (old : Option Interner) → TextEnds utf8 old text status new → (status ≡ NO_INTERNER) ↔ (IsTrue utf8 × (old ≡ None))
  text_no_interner false old h = ((λ e. absurd (omega (arith, e, h.0))), (λ both. absurd (cc (both.0))))
  text_no_interner true None h = ((λ e. (refl, refl)), (λ both. h.0))
  text_no_interner true (Some old) h = ((λ e. absurd ((ended_else status h.1 old.rodeo h.0.rodeo text h.3 h.4).1 e)), (λ both. absurd (cc (both.1))))

  pub text_no_code : (utf8 : Bool) (old : Option Interner) → TextEnds utf8 old text status new → (status ≡ NO_CODE_LEFT) ↔ (IsTrue utf8 × IsSomeAnd old (λ i. IsAbsent i.rodeo text × (next_key key_of_code i.rodeo ≡ None)))
  text_no_code false old h = ((λ e. absurd (omega (arith, e, h.0))), (λ both. absurd (cc (both.0))))
  text_no_code true None h = ((λ e. absurd (omega (arith, e, h.0))), (λ both. absurd (both.1)))
  text_no_code true (Some old) h = let ends = ended_no_code old.rodeo h.0.rodeo text status h.1 h.3 h.4 in ((λ e. (refl, ends.0 e)), (λ both. ends.1 both.1))

  pub text_limit : (utf8 : Bool) (old : Option Interner) → TextEnds utf8 old text status new
      → (status ≡ LIMIT_REACHED) ↔ (IsTrue utf8 × IsSomeAnd old (λ i. IsAbsent i.rodeo text × IsSome (next_key key_of_code i.rodeo) × (account_with i.rodeo text ≡ None)))
  text_limit false old h = ((λ e. absurd (omega (arith, e, h.0))), (λ both. absurd (cc (both.0))))
  text_limit true None h = ((λ e. absurd (omega (arith, e, h.0))), (λ both. absurd (both.1)))
  text_limit true (Some old) h = let ends = ended_limit old.rodeo h.0.rodeo text status h.1 h.3 h.4 in ((λ e. (refl, ends.0 e)), (λ both. ends.1 both.1))

  pub text_memory : (utf8 : Bool) (old : Option Interner) → TextEnds utf8 old text status new
      → status ≡ NO_MEMORY → IsTrue utf8 × IsSomeAnd old (λ i. IsAbsent i.rodeo text × IsSome (next_key key_of_code i.rodeo) × IsSome (account_with i.rodeo text))
  text_memory false old h e = absurd (omega (arith, e, h.0))
  text_memory true None h e = absurd (omega (arith, e, h.0))
  text_memory true (Some old) h e = (refl, ended_memory old.rodeo h.0.rodeo text status h.1 h.3 h.4 e)

  pub text_present : (utf8 : Bool) (old : Option Interner) → TextEnds utf8 old text status new → IsTrue utf8 → IsSomeAnd old (λ i. IsPresent i.rodeo text) → (status ≡ DONE) × (account_in new ≡ account_in old)
  text_present false old h good there = absurd (cc good)
  text_present true None h good there = absurd there
  text_present true (Some old) h good there =
      let ends = ended_present old.rodeo h.0.rodeo text status h.1 h.3 h.4 there in
      (ends.0, ap account_in h.2 ∙ ap (λ (v : InternerView). Some v.account) ends.1)

  pub text_account : (utf8 : Bool) (old : Option Interner) → TextEnds utf8 old text status new → status ≡ DONE → IsSomeAnd old (λ i. IsAbsent i.rodeo text → account_in new ≡ account_with i.rodeo text)
  text_account false old h done = absurd (omega (arith, done, h.0))
  text_account true None h done = absurd (omega (arith, done, h.0))
  text_account true (Some old) h done = λ absent. ap account_in h.2 ∙ sym (ended_account old.rodeo h.0.rodeo text status h.1 h.3 h.4 done absent)

-- ---- a batch on the handle

-- a batch that is not done reports the number of its refused row
pub batch_at : (greatest : ℕ) (old : Option Interner) (bits bytes offsets : List ℕ) (room status : ℕ) (report : LassoReport) (new : Option Interner) → BatchEnds greatest old bits bytes offsets room status report new → ¬ (status ≡ DONE) → report.at ≡ report.texts
batch_at greatest None bits bytes offsets room status report new h refused = ap (λ (r : LassoReport). r.at) h.0.1 ∙ sym (ap (λ (r : LassoReport). r.texts) h.0.1)
batch_at greatest (Some old) bits bytes offsets room status report new h refused = by h.1 h.4 h.5
  where
    by : (outcome : Result (Unit {0}) CallError) → status ≡ outcome_status outcome → report ≡ batch_report report.texts outcome → report.at ≡ report.texts
    by (Ok done) is told = absurd (refused is)
    by (Err refusal) is told = ap (λ (r : LassoReport). r.at) told
