-- Why reading a layout ended at a text: the clauses of the call, from the relation `IsFaultAfter`. And what a layout was read into.
use Rattle.std.proofs.Common.{◌≡◌, ℕ, List, slice_get, Option, None, Some, IsSome, Result, Ok, Err, refl, sym, subst, arith}
use Rattle.std.specs.Prelude.{IfErr, IfOk}
use Rattle.lasso_parts.specs.Layout.{layout_texts}
use Rattle.lasso_parts.specs.Texts.{Text}
use Rattle.lasso_parts.specs.declared.util.LassoErrorKind.TheVariants.{MemoryLimitReached, KeySpaceExhaustion, FailedAllocation}
use Rattle.lasso_single.specs.Copies.{bytes_of}
use Rattle.lasso_single.specs.Filling.{extend, account_with_all}
use Rattle.lasso_single.specs.Intern.{InternsIn, IsAbsent, IsPresent, account_with, next_key}
use Rattle.lasso_single.specs.Interner.{InternerView, KeepsOrigin}
use Rattle.lasso_single.proofs.Filled.{accepted}
use Rattle.lasso_single.proofs.FillingFacts.{filled_added}
use Rattle.lasso_single.proofs.InternFacts.{refused_keyless, refused_limit, refused_memory}
use Rattle.lasso_single.proofs.RefusalFacts.{at_error, some_and_weaker}
use Rattle.lasso_columns.specs.Dictionaries.{IsFaultAfter, IsGoodAnd, IsOfLayout, fault_position, made_to_read}
use Rattle.lasso_columns.specs.Layout.{layout_fault}
use Rattle.lasso_columns.specs.declared.faults.ReadError.{ReadError}
use Rattle.lasso_columns.specs.declared.faults.ReadError.TheVariants.{OffsetsFall, OffsetPastBytes, NotText, Doubled, Refused}

module _ {K : Type 0} (key_at : ℕ → Option K) (most : ℕ) (bytes offsets : List ℕ) (n : ℕ) (now : InternerView) where
  position_of_fault : (error : ReadError) → IsFaultAfter key_at most bytes offsets n now error → fault_position error ≡ n
  position_of_fault (OffsetsFall at) why = why.0
  position_of_fault (OffsetPastBytes at) why = why.0
  position_of_fault (NotText at) why = why.0
  position_of_fault (Doubled at) why = why.0
  position_of_fault (Refused at kind) why = why.0

  of_layout : (error : ReadError) → IsFaultAfter key_at most bytes offsets n now error → IsOfLayout error → layout_fault most bytes offsets ≡ Some error
  of_layout (OffsetsFall at) why is = why.1
  of_layout (OffsetPastBytes at) why is = why.1
  of_layout (NotText at) why is = why.1
  of_layout (Doubled at) why is = absurd is
  of_layout (Refused at kind) why is = absurd is

  pub read_position : {X : Type 0} (result : Result X ReadError) → IfErr result (λ error. IsFaultAfter key_at most bytes offsets n now error) → IfErr result (λ error. fault_position error ≡ n)
  read_position (Ok x) fault = tt
  read_position (Err error) fault = position_of_fault error fault

  pub read_layout : {X : Type 0} (result : Result X ReadError) → IfErr result (λ error. IsFaultAfter key_at most bytes offsets n now error) → IfErr result (λ error. IsOfLayout error → layout_fault most bytes offsets ≡ Some error)
  read_layout (Ok x) fault = tt
  read_layout (Err error) fault = of_layout error fault

  moved : (at : ℕ) (P Q : Text → Type 0) → ((text : Text) → P text → Q text) → at ≡ n → IsGoodAnd most bytes offsets n P → IsGoodAnd most bytes offsets at Q
  moved at P Q weaker is good =
      subst (λ (m : ℕ). IsGoodAnd most bytes offsets m Q) (sym is) (good.0, some_and_weaker (slice_get (layout_texts bytes offsets) n) P Q weaker good.1)

  module _ {X : Type 0} (result : Result X ReadError) (fault : IfErr result (λ error. IsFaultAfter key_at most bytes offsets n now error)) (at : ℕ) where
    fault_as : (error : ReadError) → result ≡ Err error → IsFaultAfter key_at most bytes offsets n now error
    fault_as error is = at_error result (λ e. IsFaultAfter key_at most bytes offsets n now e) error fault is

    pub read_doubled : result ≡ Err (Doubled at) → IsGoodAnd most bytes offsets at (λ text. IsPresent now text)
    read_doubled is =
        let why = fault_as (Doubled at) is in
        moved at (λ text. IsPresent now text) (λ text. IsPresent now text) (λ text there. there) why.0 why.1

    pub read_no_key : result ≡ Err (Refused at KeySpaceExhaustion) → IsGoodAnd most bytes offsets at (λ text. IsAbsent now text × (next_key key_at now ≡ None))
    read_no_key is =
        let why = fault_as (Refused at KeySpaceExhaustion) is in
        moved at (λ text. InternsIn {K = K} key_at now text (Err KeySpaceExhaustion) now) (λ text. IsAbsent now text × (next_key key_at now ≡ None))
        (λ text interns. (refused_keyless key_at now now text (Err KeySpaceExhaustion) interns).0 refl) why.0 why.1

    pub read_limit : result ≡ Err (Refused at MemoryLimitReached) → IsGoodAnd most bytes offsets at (λ text. IsAbsent now text × IsSome (next_key key_at now) × (account_with now text ≡ None))
    read_limit is =
        let why = fault_as (Refused at MemoryLimitReached) is in
        moved at (λ text. InternsIn {K = K} key_at now text (Err MemoryLimitReached) now) (λ text. IsAbsent now text × IsSome (next_key key_at now) × (account_with now text ≡ None))
        (λ text interns. (refused_limit key_at now now text (Err MemoryLimitReached) interns).0 refl) why.0 why.1

    pub read_memory : result ≡ Err (Refused at FailedAllocation) → IsGoodAnd most bytes offsets at (λ text. IsAbsent now text × IsSome (next_key key_at now) × IsSome (account_with now text))
    read_memory is =
        let why = fault_as (Refused at FailedAllocation) is in
        moved at (λ text. InternsIn {K = K} key_at now text (Err FailedAllocation) now) (λ text. IsAbsent now text × IsSome (next_key key_at now) × IsSome (account_with now text))
        (λ text interns. refused_memory key_at now now text (Err FailedAllocation) interns refl) why.0 why.1

-- ---- what a layout was read into

module _ {K : Type 0} (key_at : ℕ → Option K) (limit : ℕ) (bytes : List ℕ) (texts : List Text) where
  pub read_account : (result : Result InternerView ReadError) → IfOk result (λ rodeo. extend key_at (made_to_read limit bytes) texts accepted rodeo) → IfOk result (λ rodeo. account_with_all (made_to_read limit bytes) rodeo.texts ≡ Some rodeo.account)
  read_account (Ok rodeo) list = (filled_added key_at texts (made_to_read limit bytes) rodeo list).account
  read_account (Err error) list = tt

  pub read_copied : (result : Result InternerView ReadError) → IfOk result (λ rodeo. extend key_at (made_to_read limit bytes) texts accepted rodeo) → IfOk result (λ rodeo. rodeo.copied ≡ bytes_of rodeo.texts)
  read_copied (Ok rodeo) list = omega (arith, (filled_added key_at texts (made_to_read limit bytes) rodeo list).copied)
  read_copied (Err error) list = tt

  pub read_origin : (result : Result InternerView ReadError) → IfOk result (λ rodeo. extend key_at (made_to_read limit bytes) texts accepted rodeo) → IfOk result (λ rodeo. KeepsOrigin (made_to_read limit bytes) rodeo)
  read_origin (Ok rodeo) list = (filled_added key_at texts (made_to_read limit bytes) rodeo list).origin
  read_origin (Err error) list = tt
