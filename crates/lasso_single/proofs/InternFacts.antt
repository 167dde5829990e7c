-- The clauses of the calls that intern one text, each from the clause `all`, and that clause again from them.
--
-- A present text changes nothing, and its call succeeds. An absent one whose position has no key is refused for that. An absent one that
-- has a key goes last, and the account is asked for its bytes; or the account has no place for it; or memory ran out, and then the
-- account had a place. So a refusal has one of three reasons (`Why`), and each reason rules the other two out.
-- The other way, whether the text is present, whether the next position has a key, and whether the account has a place fix what the call
-- returned and left: for each case `Interned` or `Lacking` has the clause `all`.
use Rattle.std.proofs.Common.{◌≡◌, ◌≢◌, ◌∙◌, ◌⊎◌, ◌↔◌, ℕ, ◌+◌, List, [], ◌∷◌, ◌++◌, length, inl, inr, cond, is_some, Option, Some, None, IsSome, Result, Ok, Err, IsOk, refl, sym, ap, subst, arith}
use Rattle.std.specs.Prelude.{OnOk, OnErr, IfOk, option_and_then, unwrap_or}
use Rattle.lasso_parts.specs.Account.{Account}
use Rattle.lasso_parts.specs.Held.{Held}
use Rattle.lasso_parts.specs.Texts.{Text, position_of, key_of}
use Rattle.lasso_parts.specs.declared.util.LassoError.{LassoError}
use Rattle.lasso_parts.specs.declared.util.LassoErrorKind.TheVariants.{MemoryLimitReached, KeySpaceExhaustion, FailedAllocation}
use Rattle.lasso_parts.proofs.TextLemmas.{position_last}
use Rattle.lasso_single.specs.Intern.{InternsIn, InternsStaticIn, IsPresent, IsAbsent, next_key, account_with, with_text, found_or_new, keyed_or_refused, found_or_kept, kept_or_refused}
use Rattle.lasso_single.specs.InternFacts.{CopiedFacts, StaticFacts, CopiedFactsSayAll, StaticFactsSayAll}
use Rattle.lasso_single.specs.Interner.{InternerView, bytes_added}
use Rattle.lasso_single.proofs.Copied.{interns_new}
use Rattle.lasso_single.proofs.Interned.{present, without_key, past_limit, gone_in}
use Rattle.lasso_single.proofs.KeyLists.{key_left, same_fields, unchanged}
use Rattle.lasso_single.proofs.Lacking.{lacking}

-- ---- cases that exclude each other

there : {X : Type 0} (o : Option X) → IsSome o → (x : X) × (o ≡ Some x)
there None some = cc
there (Some x) some = (x, refl)

not_both : {X : Type 0} (o : Option X) (x : X) → o ≡ None → o ≡ Some x → ⊥
not_both o x none some = cc

lacks : {X : Type 0} (o : Option X) → o ≡ None → IsSome o → ⊥
lacks None none some = cc
lacks (Some x) none some = cc

not_refused : {K : Type 0} (reply : Result K LassoError) (k : K) (error : LassoError) → reply ≡ Ok k → reply ≡ Err error → ⊥
not_refused reply k error ok err = cc

not_ok : {K : Type 0} (reply : Result K LassoError) (error : LassoError) → reply ≡ Err error → IsOk reply → ⊥
not_ok (Ok k) error err ok = cc
not_ok (Err e) error err ok = cc

-- ---- reasons of a refusal

-- no key was left; or there was one, and the limit had no place; or there were both, and memory ran out
abbrev Why : {K : Type 0} → Option K → Option Account → LassoError → Type 0
Why key place error =
    ((error ≡ KeySpaceExhaustion) × (key ≡ None))
    ⊎ (((error ≡ MemoryLimitReached) × IsSome key × (place ≡ None)) ⊎ ((error ≡ FailedAllocation) × IsSome key × IsSome place))

module _ {K : Type 0} (key : Option K) (place : Option Account) (absent : Type 0) (is : absent) (reply : Result K LassoError) (error : LassoError) (refused : reply ≡ Err error) where
  why_no_key : Why key place error → (reply ≡ Err KeySpaceExhaustion) ↔ (absent × (key ≡ None))
  why_no_key (inl why) = ((λ e. (is, why.1)), (λ both. refused ∙ ap Err why.0))
  why_no_key (inr (inl why)) = ((λ e. absurd (cc (e, refused, why.0))), (λ both. absurd (lacks key both.1 why.1)))
  why_no_key (inr (inr why)) = ((λ e. absurd (cc (e, refused, why.0))), (λ both. absurd (lacks key both.1 why.1)))

  why_limit : Why key place error → (reply ≡ Err MemoryLimitReached) ↔ (absent × IsSome key × (place ≡ None))
  why_limit (inl why) = ((λ e. absurd (cc (e, refused, why.0))), (λ all. absurd (lacks key why.1 all.1)))
  why_limit (inr (inl why)) = ((λ e. (is, why.1, why.2)), (λ all. refused ∙ ap Err why.0))
  why_limit (inr (inr why)) = ((λ e. absurd (cc (e, refused, why.0))), (λ all. absurd (lacks place all.2 why.2)))

  why_memory : Why key place error → reply ≡ Err FailedAllocation → absent × IsSome key × IsSome place
  why_memory (inl why) e = absurd (cc (e, refused, why.0))
  why_memory (inr (inl why)) e = absurd (cc (e, refused, why.0))
  why_memory (inr (inr why)) e = (is, why.1, why.2)

-- ---- a copied text: what the steps of the definition come to

found_same : {K : Type 0} (key_at : ℕ → Option K) (first : ℕ) (held left : Held) (text : Text) (n : ℕ) → found_or_new key_at first held text (Some n) ≡ Ok left → left ≡ held
found_same key_at first held left text n h = let same : held ≡ left = cc in sym same

found_fine : {K : Type 0} (key_at : ℕ → Option K) (first : ℕ) (held : Held) (text : Text) (n : ℕ) (error : LassoError) → found_or_new key_at first held text (Some n) ≡ Err error → ⊥
found_fine key_at first held text n error h = cc

keyless : {K : Type 0} (first : ℕ) (held : Held) (text : Text) (o : Option K) (error : LassoError) → o ≡ None → keyed_or_refused first held text o ≡ Err error → error ≡ KeySpaceExhaustion
keyless first held text None error none h = cc
keyless first held text (Some k) error none h = cc

keyless_fails : {K : Type 0} (first : ℕ) (held : Held) (text : Text) (o : Option K) → o ≡ None → IsOk (keyed_or_refused first held text o) → ⊥
keyless_fails first held text None none h = cc
keyless_fails first held text (Some k) none h = cc

module _ {K : Type 0} (key_at : ℕ → Option K) (old new : InternerView) (text : Text) where
  abbrev before : Held
  before = record { texts = old.texts; account = old.account }

  abbrev after : Held
  after = record { texts = new.texts; account = new.account }

  found_at : (reply : Result K LassoError) → InternsIn key_at old text reply new → (n : ℕ) → position_of old.texts text ≡ Some n → IsOk reply × (new ≡ old)
  found_at (Ok k) h n found =
      let same : after ≡ before = found_same key_at old.first before after text n (subst (λ (p : Option ℕ). found_or_new key_at old.first before text p ≡ Ok after) found h.0.0) in
      let none : bytes_added old.texts text ≡ 0 = ap (λ (p : Option ℕ). cond (is_some p) 0 (length text)) found in
      let copied : new.copied ≡ old.copied = omega (arith, none, h.1) in (
        refl,
        same_fields old.texts new.texts old.account new.account old.first new.first old.copied new.copied old.most new.most old.is_cleared new.is_cleared
            (ap (λ (x : Held). x.texts) same) (ap (λ (x : Held). x.account) same) h.2.0 copied h.2.2 h.2.1,
      )
  found_at (Err error) h n found = absurd (elim h.0.2 [
    | inl e ↦ found_fine key_at old.first before text n error (subst (λ (p : Option ℕ). found_or_new key_at old.first before text p ≡ Err error) found e)
    | inr memory ↦ not_both (position_of old.texts text) n memory.1 found
  ])

  has_key : IsAbsent old text → (k : K) → InternsIn key_at old text (Ok k) new → next_key key_at old ≡ Some k
  has_key absent k h = ap (λ (p : Option ℕ). key_at (unwrap_or p (length old.texts))) (sym absent) ∙ h.0.1

  gone_last : IsAbsent old text → (k : K) → InternsIn key_at old text (Ok k) new → (new.texts ≡ old.texts ++ text ∷ []) × (account_with old text ≡ Some new.account)
  gone_last absent k h =
      interns_new key_at old.first old.texts old.account text (Ok k) new.texts new.account h.0 absent (subst IsSome (sym (has_key absent k h)) refl)

  why_absent : (o : Option K) → next_key key_at old ≡ o → (error : LassoError) → IsAbsent old text → InternsIn {K = K} key_at old text (Err error) new → Why (next_key key_at old) (account_with old text) error
  why_absent None none error absent h = elim h.0.2 [
    | inl e ↦ inl (keyless old.first before text (next_key key_at old) error none (subst (λ (p : Option ℕ). found_or_new key_at old.first before text p ≡ Err error) absent e), none)
    | inr memory ↦ absurd (keyless_fails old.first before text (next_key key_at old) none (subst (λ (p : Option ℕ). IsOk (found_or_new key_at old.first before text p)) absent memory.2))
  ]
  why_absent (Some k) some error absent h =
      let keyed : IsSome (next_key key_at old) = subst IsSome (sym some) refl in
      let left = interns_new {K = K} key_at old.first old.texts old.account text (Err error) new.texts new.account h.0 absent keyed in
      elim left.2 [
        | inl memory ↦ inr (inr (memory.0, keyed, memory.1))
        | inr limit ↦ inr (inl (limit.0, keyed, limit.1))
      ]

  refusal : (o : Option ℕ) → position_of old.texts text ≡ o → (error : LassoError) → InternsIn {K = K} key_at old text (Err error) new → IsAbsent old text × Why (next_key key_at old) (account_with old text) error
  refusal (Some n) found error h = absurd (not_ok {K = K} (Err error) error refl (found_at (Err error) h n found).0)
  refusal None absent error h = (absent, why_absent (next_key key_at old) refl error absent h)

  -- ---- a copied text: the clauses

  pub key_told : (reply : Result K LassoError) → InternsIn key_at old text reply new → IfOk reply (λ k. key_of key_at new.texts text ≡ Some k)
  key_told (Ok k) h = key_left key_at old new text k h
  key_told (Err error) h = tt

  pub present_idle : (reply : Result K LassoError) → InternsIn key_at old text reply new → IsPresent old text → IsOk reply × (new ≡ old)
  present_idle reply h is =
      let at = there (position_of old.texts text) is in
      found_at reply h at.0 at.1

  pub absent_last : (reply : Result K LassoError) → InternsIn key_at old text reply new → IsAbsent old text → OnOk reply (new.texts ≡ old.texts ++ text ∷ [])
  absent_last (Ok k) h absent = (gone_last absent k h).0
  absent_last (Err error) h absent = tt

  pub absent_stored : (reply : Result K LassoError) → InternsIn key_at old text reply new → IsAbsent old text → OnOk reply (account_with old text ≡ Some new.account)
  absent_stored (Ok k) h absent = (gone_last absent k h).1
  absent_stored (Err error) h absent = tt

  pub absent_copied : (reply : Result K LassoError) → InternsIn key_at old text reply new → IsAbsent old text → OnOk reply (new.copied ≡ old.copied + length text)
  absent_copied (Ok k) h absent =
      let added : bytes_added old.texts text ≡ length text = ap (λ (p : Option ℕ). cond (is_some p) 0 (length text)) absent in
      h.1 ∙ ap (λ (n : ℕ). old.copied + n) added
  absent_copied (Err error) h absent = tt

  pub refused_idle : (reply : Result K LassoError) → InternsIn key_at old text reply new → OnErr reply (new ≡ old)
  refused_idle (Ok k) h = tt
  refused_idle (Err error) h = unchanged K key_at old new text error h

  pub refused_keyless : (reply : Result K LassoError) → InternsIn key_at old text reply new → (reply ≡ Err KeySpaceExhaustion) ↔ (IsAbsent old text × (next_key key_at old ≡ None))
  refused_keyless (Ok k) h =
      ((λ e. absurd (not_refused (Ok k) k KeySpaceExhaustion refl e)), (λ both. absurd (not_both (next_key key_at old) k both.1 (has_key both.0 k h))))
  refused_keyless (Err error) h =
      let why = refusal (position_of old.texts text) refl error h in
      why_no_key (next_key key_at old) (account_with old text) (IsAbsent old text) why.0 (Err error) error refl why.1

  pub refused_limit : (reply : Result K LassoError) → InternsIn key_at old text reply new → (reply ≡ Err MemoryLimitReached) ↔ (IsAbsent old text × IsSome (next_key key_at old) × (account_with old text ≡ None))
  refused_limit (Ok k) h =
      ((λ e. absurd (not_refused (Ok k) k MemoryLimitReached refl e)), (λ all. absurd (not_both (account_with old text) new.account all.2 (gone_last all.0 k h).1)))
  refused_limit (Err error) h =
      let why = refusal (position_of old.texts text) refl error h in
      why_limit (next_key key_at old) (account_with old text) (IsAbsent old text) why.0 (Err error) error refl why.1

  pub refused_memory : (reply : Result K LassoError) → InternsIn key_at old text reply new → reply ≡ Err FailedAllocation → IsAbsent old text × IsSome (next_key key_at old) × IsSome (account_with old text)
  refused_memory (Ok k) h e = absurd (not_refused (Ok k) k FailedAllocation refl e)
  refused_memory (Err error) h e =
      let why = refusal (position_of old.texts text) refl error h in
      why_memory (next_key key_at old) (account_with old text) (IsAbsent old text) why.0 (Err error) error refl why.1 e

  copied_facts : (reply : Result K LassoError) → InternsIn key_at old text reply new → CopiedFacts K key_at old text reply new
  copied_facts reply h = record {
    key = key_told reply h;
    present = present_idle reply h;
    appended = absent_last reply h;
    account = absent_stored reply h;
    copied = absent_copied reply h;
    origin = h.2;
    unchanged = refused_idle reply h;
    no_key = refused_keyless reply h;
    limit = refused_limit reply h;
    memory = refused_memory reply h;
  }

  -- ---- a copied text: the clauses say all

  -- of an interner that a present text left as it was
  all_found : (k : K) (n : ℕ) → position_of old.texts text ≡ Some n → CopiedFacts K key_at old text (Ok k) new → InternsIn key_at old text (Ok k) new
  all_found k n found facts =
      let same : new ≡ old = (facts.present (subst IsSome (sym found) refl)).1 in
      let keyed : key_at n ≡ Some k = ap (option_and_then key_at) (sym found) ∙ ap (λ (v : InternerView). key_of key_at v.texts text) (sym same) ∙ facts.key in
      subst (λ (v : InternerView). InternsIn key_at old text (Ok k) v) (sym same) (present key_at old text n k found keyed)

  all_appended : (k : K) → IsAbsent old text → CopiedFacts K key_at old text (Ok k) new → InternsIn key_at old text (Ok k) new
  all_appended k absent facts =
      let last : key_of key_at (old.texts ++ text ∷ []) text ≡ Some k = ap (λ (ts : List Text). key_of key_at ts text) (sym (facts.appended absent)) ∙ facts.key in
      let keyed : next_key key_at old ≡ Some k = ap (option_and_then key_at) (sym (position_last old.texts text absent)) ∙ last in
      gone_in key_at old text absent k keyed new (facts.appended absent) (facts.account absent) (facts.copied absent) facts.origin

  -- of a refusal, by the key and the place; the error is none of those that another case has
  all_refused : (key : Option K) → next_key key_at old ≡ key → (place : Option Account) → account_with old text ≡ place → (error : LassoError) → IsAbsent old text → CopiedFacts K key_at old text (Err error) new → InternsIn {K = K} key_at old text (Err error) old
  all_refused None none place is error absent facts =
      subst (λ (r : Result K LassoError). InternsIn key_at old text r old) (sym (facts.no_key.1 (absent, none))) (without_key key_at old text absent none)
  all_refused (Some k) some None none error absent facts =
      subst (λ (r : Result K LassoError). InternsIn key_at old text r old) (sym (facts.limit.1 (absent, subst IsSome (sym some) refl, none)))
      (past_limit key_at old text absent k some (lacks (account_with old text) none))
  all_refused (Some k) some (Some account) is KeySpaceExhaustion absent facts = absurd (not_both (next_key key_at old) k (facts.no_key.0 refl).1 some)
  all_refused (Some k) some (Some account) is MemoryLimitReached absent facts = absurd (not_both (account_with old text) account (facts.limit.0 refl).2 is)
  all_refused (Some k) some (Some account) is FailedAllocation absent facts =
      lacking key_at old old text k FailedAllocation (Err FailedAllocation) refl refl refl refl refl (refl, refl, refl) absent (sym some) (subst IsSome (sym is) refl)

  all_of : (o : Option ℕ) → position_of old.texts text ≡ o → (reply : Result K LassoError) → CopiedFacts K key_at old text reply new → InternsIn key_at old text reply new
  all_of (Some n) found (Ok k) facts = all_found k n found facts
  all_of None absent (Ok k) facts = all_appended k absent facts
  all_of (Some n) found (Err error) facts = absurd (not_ok {K = K} (Err error) error refl (facts.present (subst IsSome (sym found) refl)).0)
  all_of None absent (Err error) facts =
      subst (λ (v : InternerView). InternsIn {K = K} key_at old text (Err error) v) (sym facts.unchanged)
      (all_refused (next_key key_at old) refl (account_with old text) refl error absent facts)

pub copied_facts_say_all : {K : Type 0} (key_at : ℕ → Option K) → CopiedFactsSayAll key_at
copied_facts_say_all key_at old new text reply =
    (all_of key_at old new text (position_of old.texts text) refl reply, copied_facts key_at old new text reply)

-- ---- a text that is kept as it is: what the steps of the definition come to

kept_same : {K : Type 0} (key_at : ℕ → Option K) (held left : Held) (text : Text) (n : ℕ) → found_or_kept key_at held text (Some n) ≡ Ok left → left ≡ held
kept_same key_at held left text n h = let same : held ≡ left = cc in sym same

kept_fine : {K : Type 0} (key_at : ℕ → Option K) (held : Held) (text : Text) (n : ℕ) (error : LassoError) → found_or_kept key_at held text (Some n) ≡ Err error → ⊥
kept_fine key_at held text n error h = cc

kept_left : {K : Type 0} (held left : Held) (text : Text) (o : Option K) → kept_or_refused held text o ≡ Ok left → left ≡ with_text held text held.account
kept_left held left text None h = cc
kept_left held left text (Some k) h = let same : with_text held text held.account ≡ left = cc in sym same

kept_keyless : {K : Type 0} (held : Held) (text : Text) (o : Option K) (error : LassoError) → kept_or_refused held text o ≡ Err error → (error ≡ KeySpaceExhaustion) × (o ≡ None)
kept_keyless held text None error h = (cc, refl)
kept_keyless held text (Some k) error h = cc

kept_keyed : {K : Type 0} (held : Held) (text : Text) (o : Option K) → IsOk (kept_or_refused held text o) → IsSome o
kept_keyed held text None h = cc
kept_keyed held text (Some k) h = refl

-- no key was left; or there was one, and memory ran out
abbrev WhyStatic : {K : Type 0} → Option K → LassoError → Type 0
WhyStatic key error = ((error ≡ KeySpaceExhaustion) × (key ≡ None)) ⊎ ((error ≡ FailedAllocation) × IsSome key)

module _ {K : Type 0} (key : Option K) (absent : Type 0) (is : absent) (reply : Result K LassoError) (error : LassoError) (refused : reply ≡ Err error) where
  static_no_key : WhyStatic key error → (reply ≡ Err KeySpaceExhaustion) ↔ (absent × (key ≡ None))
  static_no_key (inl why) = ((λ e. (is, why.1)), (λ both. refused ∙ ap Err why.0))
  static_no_key (inr why) = ((λ e. absurd (cc (e, refused, why.0))), (λ both. absurd (lacks key both.1 why.1)))

  static_no_limit : WhyStatic key error → reply ≡ Err MemoryLimitReached → ⊥
  static_no_limit (inl why) e = cc (e, refused, why.0)
  static_no_limit (inr why) e = cc (e, refused, why.0)

  static_memory : WhyStatic key error → reply ≡ Err FailedAllocation → absent × IsSome key
  static_memory (inl why) e = absurd (cc (e, refused, why.0))
  static_memory (inr why) e = (is, why.1)

module _ {K : Type 0} (key_at : ℕ → Option K) (old new : InternerView) (text : Text) where
  abbrev held : Held
  held = record { texts = old.texts; account = old.account }

  abbrev left : Held
  left = record { texts = new.texts; account = new.account }

  static_found : (reply : Result K LassoError) → InternsStaticIn key_at old text reply new → (n : ℕ) → position_of old.texts text ≡ Some n → IsOk reply × (new ≡ old)
  static_found (Ok k) h n found =
      let same : left ≡ held = kept_same key_at held left text n (subst (λ (p : Option ℕ). found_or_kept key_at held text p ≡ Ok left) found h.0.0) in (
        refl,
        same_fields old.texts new.texts old.account new.account old.first new.first old.copied new.copied old.most new.most old.is_cleared new.is_cleared
            (ap (λ (x : Held). x.texts) same) (ap (λ (x : Held). x.account) same) h.2.0 h.1 h.2.2 h.2.1,
      )
  static_found (Err error) h n found = absurd (elim h.0.2 [
    | inl e ↦ kept_fine key_at held text n error (subst (λ (p : Option ℕ). found_or_kept key_at held text p ≡ Err error) found e)
    | inr memory ↦ not_both (position_of old.texts text) n memory.1 found
  ])

  static_has_key : IsAbsent old text → (k : K) → InternsStaticIn key_at old text (Ok k) new → next_key key_at old ≡ Some k
  static_has_key absent k h = ap (λ (p : Option ℕ). key_at (unwrap_or p (length old.texts))) (sym absent) ∙ h.0.1

  static_gone_last : IsAbsent old text → (k : K) → InternsStaticIn key_at old text (Ok k) new → left ≡ with_text held text old.account
  static_gone_last absent k h =
      kept_left held left text (next_key key_at old) (subst (λ (p : Option ℕ). found_or_kept key_at held text p ≡ Ok left) absent h.0.0)

  static_why : (error : LassoError) → IsAbsent old text → InternsStaticIn {K = K} key_at old text (Err error) new → WhyStatic (next_key key_at old) error
  static_why error absent h = elim h.0.2 [
    | inl e ↦ inl (kept_keyless held text (next_key key_at old) error (subst (λ (p : Option ℕ). found_or_kept key_at held text p ≡ Err error) absent e))
    | inr memory ↦ inr (memory.0, kept_keyed held text (next_key key_at old) (subst (λ (p : Option ℕ). IsOk (found_or_kept key_at held text p)) absent memory.2))
  ]

  static_refusal : (o : Option ℕ) → position_of old.texts text ≡ o → (error : LassoError) → InternsStaticIn {K = K} key_at old text (Err error) new → IsAbsent old text × WhyStatic (next_key key_at old) error
  static_refusal (Some n) found error h = absurd (not_ok {K = K} (Err error) error refl (static_found (Err error) h n found).0)
  static_refusal None absent error h = (absent, static_why error absent h)

  -- ---- a text that is kept as it is: the clauses

  static_key_of : (o : Option ℕ) → position_of old.texts text ≡ o → (k : K) → InternsStaticIn key_at old text (Ok k) new → key_of key_at new.texts text ≡ Some k
  static_key_of (Some n) found k h =
      let same : new ≡ old = (static_found (Ok k) h n found).1 in
      let keyed : key_of key_at old.texts text ≡ Some k = ap (option_and_then key_at) found ∙ ap (λ (p : Option ℕ). key_at (unwrap_or p (length old.texts))) (sym found) ∙ h.0.1 in
      ap (λ (v : InternerView). key_of key_at v.texts text) same ∙ keyed
  static_key_of None absent k h =
      ap (λ (x : Held). key_of key_at x.texts text) (static_gone_last absent k h) ∙ ap (option_and_then key_at) (position_last old.texts text absent) ∙ static_has_key absent k h

  pub static_key_told : (reply : Result K LassoError) → InternsStaticIn key_at old text reply new → IfOk reply (λ k. key_of key_at new.texts text ≡ Some k)
  static_key_told (Ok k) h = static_key_of (position_of old.texts text) refl k h
  static_key_told (Err error) h = tt

  pub static_present_idle : (reply : Result K LassoError) → InternsStaticIn key_at old text reply new → IsPresent old text → IsOk reply × (new ≡ old)
  static_present_idle reply h is =
      let at = there (position_of old.texts text) is in
      static_found reply h at.0 at.1

  pub static_absent_last : (reply : Result K LassoError) → InternsStaticIn key_at old text reply new → IsAbsent old text → OnOk reply (new.texts ≡ old.texts ++ text ∷ [])
  static_absent_last (Ok k) h absent = ap (λ (x : Held). x.texts) (static_gone_last absent k h)
  static_absent_last (Err error) h absent = tt

  static_account_of : (o : Option ℕ) → position_of old.texts text ≡ o → (k : K) → InternsStaticIn key_at old text (Ok k) new → new.account ≡ old.account
  static_account_of (Some n) found k h = ap (λ (v : InternerView). v.account) (static_found (Ok k) h n found).1
  static_account_of None absent k h = ap (λ (x : Held). x.account) (static_gone_last absent k h)

  pub static_account_stays : (reply : Result K LassoError) → InternsStaticIn key_at old text reply new → new.account ≡ old.account
  static_account_stays (Ok k) h = static_account_of (position_of old.texts text) refl k h
  static_account_stays (Err error) h = h.0.1

  pub static_refused_idle : (reply : Result K LassoError) → InternsStaticIn key_at old text reply new → OnErr reply (new ≡ old)
  static_refused_idle (Ok k) h = tt
  static_refused_idle (Err error) h =
      same_fields old.texts new.texts old.account new.account old.first new.first old.copied new.copied old.most new.most old.is_cleared new.is_cleared h.0.0 h.0.1 h.2.0 h.1 h.2.2 h.2.1

  pub static_refused_keyless : (reply : Result K LassoError) → InternsStaticIn key_at old text reply new → (reply ≡ Err KeySpaceExhaustion) ↔ (IsAbsent old text × (next_key key_at old ≡ None))
  static_refused_keyless (Ok k) h =
      ((λ e. absurd (not_refused (Ok k) k KeySpaceExhaustion refl e)), (λ both. absurd (not_both (next_key key_at old) k both.1 (static_has_key both.0 k h))))
  static_refused_keyless (Err error) h =
      let why = static_refusal (position_of old.texts text) refl error h in
      static_no_key (next_key key_at old) (IsAbsent old text) why.0 (Err error) error refl why.1

  pub static_never_limited : (reply : Result K LassoError) → InternsStaticIn key_at old text reply new → reply ≢ Err MemoryLimitReached
  static_never_limited (Ok k) h e = not_refused (Ok k) k MemoryLimitReached refl e
  static_never_limited (Err error) h e =
      let why = static_refusal (position_of old.texts text) refl error h in
      static_no_limit (next_key key_at old) (IsAbsent old text) why.0 (Err error) error refl why.1 e

  pub static_refused_memory : (reply : Result K LassoError) → InternsStaticIn key_at old text reply new → reply ≡ Err FailedAllocation → IsAbsent old text × IsSome (next_key key_at old)
  static_refused_memory (Ok k) h e = absurd (not_refused (Ok k) k FailedAllocation refl e)
  static_refused_memory (Err error) h e =
      let why = static_refusal (position_of old.texts text) refl error h in
      static_memory (next_key key_at old) (IsAbsent old text) why.0 (Err error) error refl why.1 e

  static_facts : (reply : Result K LassoError) → InternsStaticIn key_at old text reply new → StaticFacts K key_at old text reply new
  static_facts reply h = record {
    key = static_key_told reply h;
    present = static_present_idle reply h;
    appended = static_absent_last reply h;
    account = static_account_stays reply h;
    copied = h.1;
    origin = h.2;
    unchanged = static_refused_idle reply h;
    no_key = static_refused_keyless reply h;
    no_limit = static_never_limited reply h;
    memory = static_refused_memory reply h;
  }

  -- ---- a text that is kept as it is: the clauses say all

  static_all_found : (k : K) (n : ℕ) → position_of old.texts text ≡ Some n → StaticFacts K key_at old text (Ok k) new → InternsStaticIn key_at old text (Ok k) new
  static_all_found k n found facts =
      let same : new ≡ old = (facts.present (subst IsSome (sym found) refl)).1 in
      let keyed : key_at (unwrap_or (position_of old.texts text) (length old.texts)) ≡ Some k = ap (λ (p : Option ℕ). key_at (unwrap_or p (length old.texts))) found ∙ ap (option_and_then key_at) (sym found) ∙ ap (λ (v : InternerView). key_of key_at v.texts text) (sym same) ∙ facts.key in
      subst (λ (v : InternerView). InternsStaticIn key_at old text (Ok k) v) (sym same) ((ap (found_or_kept key_at held text) found, keyed), refl, (refl, refl, refl))

  static_all_appended : (k : K) → IsAbsent old text → StaticFacts K key_at old text (Ok k) new → InternsStaticIn key_at old text (Ok k) new
  static_all_appended k absent facts =
      let last : key_of key_at (old.texts ++ text ∷ []) text ≡ Some k = ap (λ (ts : List Text). key_of key_at ts text) (sym (facts.appended absent)) ∙ facts.key in
      let keyed : next_key key_at old ≡ Some k = ap (option_and_then key_at) (sym (position_last old.texts text absent)) ∙ last in
      let kept : with_text held text old.account ≡ left = rw (facts.appended absent, facts.account) refl in
      ((ap (found_or_kept key_at held text) absent ∙ ap (kept_or_refused held text) keyed ∙ ap Ok kept, ap (λ (p : Option ℕ). key_at (unwrap_or p (length old.texts))) absent ∙ keyed), facts.copied, facts.origin)

  static_all_refused : (key : Option K) → next_key key_at old ≡ key → (error : LassoError) → IsAbsent old text → StaticFacts K key_at old text (Err error) new → InternsStaticIn {K = K} key_at old text (Err error) old
  static_all_refused None none error absent facts =
      subst (λ (r : Result K LassoError). InternsStaticIn key_at old text r old) (sym (facts.no_key.1 (absent, none)))
      ((refl, refl, inl (ap (found_or_kept key_at held text) absent ∙ ap (kept_or_refused held text) none)), refl, (refl, refl, refl))
  static_all_refused (Some k) some KeySpaceExhaustion absent facts = absurd (not_both (next_key key_at old) k (facts.no_key.0 refl).1 some)
  static_all_refused (Some k) some MemoryLimitReached absent facts = absurd (facts.no_limit refl)
  static_all_refused (Some k) some FailedAllocation absent facts =
      let fine : IsOk (found_or_kept key_at held text (position_of old.texts text)) = subst (λ (p : Option ℕ). IsOk (found_or_kept key_at held text p)) (sym absent) (subst (λ (o : Option K). IsOk (kept_or_refused held text o)) (sym some) refl) in
      ((refl, refl, inr (refl, absent, fine)), refl, (refl, refl, refl))

  static_all_of : (o : Option ℕ) → position_of old.texts text ≡ o → (reply : Result K LassoError) → StaticFacts K key_at old text reply new → InternsStaticIn key_at old text reply new
  static_all_of (Some n) found (Ok k) facts = static_all_found k n found facts
  static_all_of None absent (Ok k) facts = static_all_appended k absent facts
  static_all_of (Some n) found (Err error) facts = absurd (not_ok {K = K} (Err error) error refl (facts.present (subst IsSome (sym found) refl)).0)
  static_all_of None absent (Err error) facts =
      subst (λ (v : InternerView). InternsStaticIn {K = K} key_at old text (Err error) v) (sym facts.unchanged)
      (static_all_refused (next_key key_at old) refl error absent facts)

pub static_facts_say_all : {K : Type 0} (key_at : ℕ → Option K) → StaticFactsSayAll key_at
static_facts_say_all key_at old new text reply =
    (static_all_of key_at old new text (position_of old.texts text) refl reply, static_facts key_at old new text reply)
