-- Why a text was refused: the clauses of calls with codes, from `IsRefused` and `MayLackMemory`, and these again from them.
--
-- What refuses a text alone refuses it here: so each reason is that of a call which interns one text, or memory ran out, for the text or
-- for its code.
use Rattle.std.proofs.Common.{◌≡◌, ◌⊎◌, ℕ, ◌≤◌, inl, inr, List, slice_get, Option, Some, None, IsSome, IsSomeAnd, Result, Ok, Err, refl, sym, ap, subst}
use Rattle.std.specs.Prelude.{IfErr}
use Rattle.lasso_parts.specs.Held.{Held}
use Rattle.lasso_parts.specs.Texts.{Text}
use Rattle.lasso_parts.specs.declared.util.LassoError.{LassoError}
use Rattle.lasso_parts.specs.declared.util.LassoErrorKind.TheVariants.{MemoryLimitReached, KeySpaceExhaustion, FailedAllocation}
use Rattle.lasso_single.specs.Coding.{spur_at, IsAdmitted, IsRefused}
use Rattle.lasso_single.specs.Intern.{InternsIn, IsAbsent, account_with, interned, next_key}
use Rattle.lasso_single.specs.Interner.{InternerView}
use Rattle.lasso_single.specs.RefusalFacts.{RefusalFacts, RefusalFactsSayAll}
use Rattle.lasso_single.proofs.InternFacts.{refused_keyless, refused_limit, refused_memory}
use Rattle.lasso_single.proofs.Interned.{without_key, past_limit}
use Rattle.lasso_single.proofs.Lacking.{admitted}

there : {X : Type 0} (o : Option X) → IsSome o → (x : X) × (o ≡ Some x)
there None some = cc
there (Some x) some = (x, refl)

lacks : {X : Type 0} (o : Option X) → o ≡ None → IsSome o → ⊥
lacks None none some = cc
lacks (Some x) none some = cc

module _ (now : InternerView) (text : Text) where
  abbrev held : Held
  held = record { texts = now.texts; account = now.account }

  refused : (error : LassoError) → interned spur_at now.first held text ≡ Err error → InternsIn {K = ℕ} spur_at now text (Err error) now
  refused error is = ((refl, refl, inl is), refl, (refl, refl, refl))

  lacking : IsAdmitted now text → InternsIn {K = ℕ} spur_at now text (Err FailedAllocation) now
  lacking admits = ((refl, refl, inr (refl, admits.0, admits.1)), refl, (refl, refl, refl))

  -- an admitted text is absent, has a key and a place
  pub admitted_parts : IsAdmitted now text → IsAbsent now text × IsSome (next_key spur_at now) × IsSome (account_with now text)
  admitted_parts admits = refused_memory spur_at now now text (Err FailedAllocation) (lacking admits) refl

  pub parts_admitted : IsAbsent now text × IsSome (next_key spur_at now) × IsSome (account_with now text) → IsAdmitted now text
  parts_admitted parts =
      let key = there (next_key spur_at now) parts.1 in
      (parts.0, admitted spur_at now.first held text key.0 parts.0 (sym key.1) parts.2)

  refused_by : (error : LassoError) → InternsIn {K = ℕ} spur_at now text (Err error) now → IsRefused now text error
  refused_by error h = elim h.0.2 [ inl is ↦ inl is | inr memory ↦ inr memory.0 ]

  -- no key was left
  pub no_key_of : (error : LassoError) → IsRefused now text error → error ≡ KeySpaceExhaustion → IsAbsent now text × (next_key spur_at now ≡ None)
  no_key_of error (inl is) why = (refused_keyless spur_at now now text (Err error) (refused error is)).0 (ap Err why)
  no_key_of error (inr memory) why = absurd (cc (memory, why))

  -- the limit refused it
  pub limit_of : (error : LassoError) → IsRefused now text error → error ≡ MemoryLimitReached → IsAbsent now text × IsSome (next_key spur_at now) × (account_with now text ≡ None)
  limit_of error (inl is) why = (refused_limit spur_at now now text (Err error) (refused error is)).0 (ap Err why)
  limit_of error (inr memory) why = absurd (cc (memory, why))

  module _ (capacity len : ℕ) where
    -- memory ran out
    pub memory_of : (error : LassoError) → (error ≡ FailedAllocation → (capacity ≤ len) ⊎ IsAdmitted now text) → error ≡ FailedAllocation → (capacity ≤ len) ⊎ (IsAbsent now text × IsSome (next_key spur_at now) × IsSome (account_with now text))
    memory_of error lacks why = elim (lacks why) [ inl full ↦ inl full | inr admits ↦ inr (admitted_parts admits) ]

    refusal_facts : (error : LassoError) → IsRefused now text error × (error ≡ FailedAllocation → (capacity ≤ len) ⊎ IsAdmitted now text) → RefusalFacts now capacity len text error
    refusal_facts error h = record {
      no_key = no_key_of error h.0;
      limit = limit_of error h.0;
      memory = memory_of error h.1;
    }

    all_refused : (error : LassoError) → RefusalFacts now capacity len text error → IsRefused now text error
    all_refused KeySpaceExhaustion facts = let why = facts.no_key refl in refused_by KeySpaceExhaustion (without_key spur_at now text why.0 why.1)
    all_refused MemoryLimitReached facts =
        let why = facts.limit refl in
        let key = there (next_key spur_at now) why.1 in
        refused_by MemoryLimitReached (past_limit spur_at now text why.0 key.0 key.1 (lacks (account_with now text) why.2))
    all_refused FailedAllocation facts = inr refl

    all_lacking : (error : LassoError) → RefusalFacts now capacity len text error → error ≡ FailedAllocation → (capacity ≤ len) ⊎ IsAdmitted now text
    all_lacking error facts why = elim (facts.memory why) [ inl full ↦ inl full | inr parts ↦ inr (parts_admitted parts) ]

pub refusal_facts_say_all : RefusalFactsSayAll
refusal_facts_say_all now capacity len text error =
    ((λ told. (all_refused now text capacity len error told, all_lacking now text capacity len error told)), refusal_facts now text capacity len error)

-- ---- of the result of a call

pub some_and_weaker : {X : Type 0} (o : Option X) (P Q : X → Type 0) → ((x : X) → P x → Q x) → IsSomeAnd o P → IsSomeAnd o Q
some_and_weaker None P Q weaker holds = absurd holds
some_and_weaker (Some x) P Q weaker holds = weaker x holds

-- what holds of an error holds of the one that was returned
pub at_error : {X E : Type 0} (result : Result X E) (P : E → Type 0) (error : E) → IfErr result P → result ≡ Err error → P error
at_error (Ok x) P error holds is = cc
at_error (Err e) P error holds is = let same : e ≡ error = cc in subst P same holds

module _ {X : Type 0} (now : InternerView) (texts : List Text) (n : ℕ) (result : Result X LassoError) where
  -- the text at this position was refused
  pub next_no_key : IfErr result (λ error. IsSomeAnd (slice_get texts n) (λ text. IsRefused now text error)) → result ≡ Err KeySpaceExhaustion → IsSomeAnd (slice_get texts n) (λ text. IsAbsent now text × (next_key spur_at now ≡ None))
  next_no_key refused is =
      some_and_weaker (slice_get texts n) (λ text. IsRefused now text KeySpaceExhaustion) (λ text. IsAbsent now text × (next_key spur_at now ≡ None)) (λ text why. no_key_of now text KeySpaceExhaustion why refl)
      (at_error result (λ error. IsSomeAnd (slice_get texts n) (λ text. IsRefused now text error)) KeySpaceExhaustion refused is)

  pub next_limit : IfErr result (λ error. IsSomeAnd (slice_get texts n) (λ text. IsRefused now text error)) → result ≡ Err MemoryLimitReached → IsSomeAnd (slice_get texts n) (λ text. IsAbsent now text × IsSome (next_key spur_at now) × (account_with now text ≡ None))
  next_limit refused is =
      some_and_weaker (slice_get texts n) (λ text. IsRefused now text MemoryLimitReached) (λ text. IsAbsent now text × IsSome (next_key spur_at now) × (account_with now text ≡ None)) (λ text why. limit_of now text MemoryLimitReached why refl)
      (at_error result (λ error. IsSomeAnd (slice_get texts n) (λ text. IsRefused now text error)) MemoryLimitReached refused is)

  pub next_memory : (capacity len : ℕ) → IfErr result (λ error. IsSomeAnd (slice_get texts n) (λ text. error ≡ FailedAllocation → (capacity ≤ len) ⊎ IsAdmitted now text)) → result ≡ Err FailedAllocation
      → IsSomeAnd (slice_get texts n) (λ text. (capacity ≤ len) ⊎ (IsAbsent now text × IsSome (next_key spur_at now) × IsSome (account_with now text)))
  next_memory capacity len lacks is =
      some_and_weaker (slice_get texts n) (λ text. FailedAllocation ≡ FailedAllocation → (capacity ≤ len) ⊎ IsAdmitted now text) (λ text. (capacity ≤ len) ⊎ (IsAbsent now text × IsSome (next_key spur_at now) × IsSome (account_with now text)))
      (λ text may. memory_of now text capacity len FailedAllocation may refl)
      (at_error result (λ error. IsSomeAnd (slice_get texts n) (λ text. error ≡ FailedAllocation → (capacity ≤ len) ⊎ IsAdmitted now text)) FailedAllocation lacks is)

-- ---- of the result of a call with keys, which may also end early, for lack of memory

module _ {K X : Type 0} (key_at : ℕ → Option K) (now : InternerView) (texts : List Text) (n : ℕ) (early : LassoError → Type 0) (memory : (error : LassoError) → early error → error ≡ FailedAllocation) (result : Result X LassoError) (refused : IfErr result (λ error. early error ⊎ IsSomeAnd (slice_get texts n) (λ text. InternsIn {K = K} key_at now text (Err error) now))) where
  refused_as : (error : LassoError) → result ≡ Err error → early error ⊎ IsSomeAnd (slice_get texts n) (λ text. InternsIn {K = K} key_at now text (Err error) now)
  refused_as error is = at_error result (λ e. early e ⊎ IsSomeAnd (slice_get texts n) (λ text. InternsIn {K = K} key_at now text (Err e) now)) error refused is

  pub keyed_no_key : result ≡ Err KeySpaceExhaustion → IsSomeAnd (slice_get texts n) (λ text. IsAbsent now text × (next_key key_at now ≡ None))
  keyed_no_key is = elim (refused_as KeySpaceExhaustion is) [
    | inl soon ↦ absurd (cc (memory KeySpaceExhaustion soon))
    | inr next ↦
        some_and_weaker (slice_get texts n) (λ text. InternsIn {K = K} key_at now text (Err KeySpaceExhaustion) now) (λ text. IsAbsent now text × (next_key key_at now ≡ None))
        (λ text interns. (refused_keyless key_at now now text (Err KeySpaceExhaustion) interns).0 refl) next
  ]

  pub keyed_limit : result ≡ Err MemoryLimitReached → IsSomeAnd (slice_get texts n) (λ text. IsAbsent now text × IsSome (next_key key_at now) × (account_with now text ≡ None))
  keyed_limit is = elim (refused_as MemoryLimitReached is) [
    | inl soon ↦ absurd (cc (memory MemoryLimitReached soon))
    | inr next ↦
        some_and_weaker (slice_get texts n) (λ text. InternsIn {K = K} key_at now text (Err MemoryLimitReached) now) (λ text. IsAbsent now text × IsSome (next_key key_at now) × (account_with now text ≡ None))
        (λ text interns. (refused_limit key_at now now text (Err MemoryLimitReached) interns).0 refl) next
  ]

  pub keyed_memory : result ≡ Err FailedAllocation → early FailedAllocation ⊎ IsSomeAnd (slice_get texts n) (λ text. IsAbsent now text × IsSome (next_key key_at now) × IsSome (account_with now text))
  keyed_memory is = elim (refused_as FailedAllocation is) [
    | inl soon ↦ inl soon
    | inr next ↦
        inr (some_and_weaker (slice_get texts n) (λ text. InternsIn {K = K} key_at now text (Err FailedAllocation) now) (λ text. IsAbsent now text × IsSome (next_key key_at now) × IsSome (account_with now text))
        (λ text interns. refused_memory key_at now now text (Err FailedAllocation) interns refl) next)
  ]
