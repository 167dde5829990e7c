-- Why the line after those that were encoded was refused, and why the code after those that were decoded had no text: the clauses of the
-- calls, from the relations that they keep.
use Rattle.std.proofs.Common.{◌≡◌, ◌⊎◌, ℕ, ◌+◌, ◌<◌, ◌≤◌, List, length, slice_get, Option, None, Some, IsSome, IsSomeAnd, Result, Ok, Err, refl, sym, subst}
use Rattle.std.specs.Prelude.{IfErr}
use Rattle.std.specs.Str.{IsUtf8}
use Rattle.lasso_parts.specs.Texts.{Text}
use Rattle.lasso_parts.specs.declared.util.LassoErrorKind.TheVariants.{MemoryLimitReached, KeySpaceExhaustion, FailedAllocation}
use Rattle.lasso_single.specs.Coding.{spur_at, IsAdmitted}
use Rattle.lasso_single.specs.Intern.{IsAbsent, account_with, next_key}
use Rattle.lasso_single.specs.Interner.{InternerView}
use Rattle.lasso_single.proofs.RefusalFacts.{at_error, limit_of, memory_of, no_key_of, some_and_weaker}
use Rattle.lasso_columns.specs.Faults.{IsFaultAt, IsFaultOf, fault_line}
use Rattle.lasso_columns.specs.declared.faults.DecodeError.{DecodeError}
use Rattle.lasso_columns.specs.declared.faults.DecodeError.TheVariants.{NoText, NoMemory}
use Rattle.lasso_columns.specs.declared.faults.LineError.{LineError}
use Rattle.lasso_columns.specs.declared.faults.LineError.TheVariants.{Refused, NotText}

number_of : (now : InternerView) (o : Option Text) (number : ℕ) (fault : LineError) → IsSomeAnd o (λ line. IsFaultOf now line number fault) → fault_line fault ≡ number
number_of now None number fault is = absurd is
number_of now (Some line) number (Refused at error) is = is.0
number_of now (Some line) number (NotText at) is = is.0

module _ {X : Type 0} (now : InternerView) (lines : List Text) (n : ℕ) (result : Result X LineError) (refused : IfErr result (λ fault. IsSomeAnd (slice_get lines n) (λ line. IsFaultOf now line (n + 1) fault))) where
  refused_as : (fault : LineError) → result ≡ Err fault → IsSomeAnd (slice_get lines n) (λ line. IsFaultOf now line (n + 1) fault)
  refused_as fault is = at_error result (λ f. IsSomeAnd (slice_get lines n) (λ line. IsFaultOf now line (n + 1) f)) fault refused is

  pub line_not_text : (at : ℕ) → result ≡ Err (NotText at) → IsSomeAnd (slice_get lines n) (λ text. ¬ (IsUtf8 text))
  line_not_text at is =
      some_and_weaker (slice_get lines n) (λ line. IsFaultOf now line (n + 1) (NotText at)) (λ text. ¬ (IsUtf8 text)) (λ line why. why.1) (refused_as (NotText at) is)

  pub line_no_key : (at : ℕ) → result ≡ Err (Refused at KeySpaceExhaustion) → IsSomeAnd (slice_get lines n) (λ text. IsAbsent now text × (next_key spur_at now ≡ None))
  line_no_key at is =
      some_and_weaker (slice_get lines n) (λ line. IsFaultOf now line (n + 1) (Refused at KeySpaceExhaustion)) (λ text. IsAbsent now text × (next_key spur_at now ≡ None))
      (λ line why. no_key_of now line KeySpaceExhaustion why.2 refl) (refused_as (Refused at KeySpaceExhaustion) is)

  pub line_limit : (at : ℕ) → result ≡ Err (Refused at MemoryLimitReached) → IsSomeAnd (slice_get lines n) (λ text. IsAbsent now text × IsSome (next_key spur_at now) × (account_with now text ≡ None))
  line_limit at is =
      some_and_weaker (slice_get lines n) (λ line. IsFaultOf now line (n + 1) (Refused at MemoryLimitReached)) (λ text. IsAbsent now text × IsSome (next_key spur_at now) × (account_with now text ≡ None))
      (λ line why. limit_of now line MemoryLimitReached why.2 refl) (refused_as (Refused at MemoryLimitReached) is)

-- the error has the number of the line
pub line_number : {X : Type 0} (now : InternerView) (lines : List Text) (n : ℕ) (result : Result X LineError) → IfErr result (λ fault. IsSomeAnd (slice_get lines n) (λ line. IsFaultOf now line (n + 1) fault)) → IfErr result (λ fault. fault_line fault ≡ n + 1)
line_number now lines n (Ok x) refused = tt
line_number now lines n (Err fault) refused = number_of now (slice_get lines n) (n + 1) fault refused

-- of memory: `May` says when it may run out for a line
pub line_memory : {X : Type 0} (now : InternerView) (lines : List Text) (n capacity len : ℕ) (result : Result X LineError) (May : Text → LineError → Type 0)
    → ((line : Text) (at : ℕ) → May line (Refused at FailedAllocation) → FailedAllocation ≡ FailedAllocation → (capacity ≤ len) ⊎ IsAdmitted now line)
    → IfErr result (λ fault. IsSomeAnd (slice_get lines n) (λ line. May line fault)) → (at : ℕ) → result ≡ Err (Refused at FailedAllocation)
    → IsSomeAnd (slice_get lines n) (λ text. (capacity ≤ len) ⊎ (IsAbsent now text × IsSome (next_key spur_at now) × IsSome (account_with now text)))
line_memory now lines n capacity len result May may lacks at is =
    some_and_weaker (slice_get lines n) (λ line. May line (Refused at FailedAllocation)) (λ text. (capacity ≤ len) ⊎ (IsAbsent now text × IsSome (next_key spur_at now) × IsSome (account_with now text)))
    (λ line lacking. memory_of now line capacity len FailedAllocation (may line at lacking) refl)
    (at_error result (λ fault. IsSomeAnd (slice_get lines n) (λ line. May line fault)) (Refused at FailedAllocation) lacks is)

-- ---- codes

pub code_no_text : {X : Type 0} (list : List Text) (codes : List ℕ) (n : ℕ) (result : Result X DecodeError) → IfErr result (λ fault. IsFaultAt list codes n fault) → (position code : ℕ) → result ≡ Err (NoText position code)
    → (position ≡ n) × (slice_get codes position ≡ Some code) × (slice_get list code ≡ None)
code_no_text list codes n result fault position code is =
    let why = at_error result (λ f. IsFaultAt list codes n f) (NoText position code) fault is in
    (why.0, subst (λ (m : ℕ). slice_get codes m ≡ Some code) (sym why.0) why.1, why.2)

pub code_memory : {X : Type 0} (list : List Text) (codes : List ℕ) (n : ℕ) (result : Result X DecodeError) → IfErr result (λ fault. IsFaultAt list codes n fault) → result ≡ Err NoMemory → IsSomeAnd (slice_get codes n) (λ code. code < length list)
code_memory list codes n result fault is = at_error result (λ f. IsFaultAt list codes n f) NoMemory fault is
