-- The clauses of the calls that intern the items of an iterator, from `InternsEach` of those that were interned and `StopsAtRefusal`.
--
-- A refused text changes nothing, so what the texts before it left is what the call left.
use Rattle.std.proofs.Common.{◌≡◌, ℕ, List, map, Option, None, IsSome, Result, Ok, Err, sym, ap, subst}
use Rattle.std.specs.Prelude.{IfErr, OnOk}
use Rattle.lasso_parts.specs.Texts.{Text}
use Rattle.lasso_parts.specs.declared.util.LassoError.{LassoError}
use Rattle.lasso_parts.specs.declared.util.LassoErrorKind.TheVariants.{MemoryLimitReached, KeySpaceExhaustion, FailedAllocation}
use Rattle.lasso_single.specs.Filling.{FillsUpTo, InternsEach, StopsAtRefusal, with_all_new}
use Rattle.lasso_single.specs.Intern.{InternsIn, IsAbsent, account_with, next_key}
use Rattle.lasso_single.specs.Interner.{InternerView}
use Rattle.lasso_single.proofs.FillingFacts.{Added, filled_added, filled_texts}
use Rattle.lasso_single.proofs.InternFacts.{refused_idle, refused_keyless, refused_limit, refused_memory}

module _ {K : Type 0} (key_at : ℕ → Option K) (old new : InternerView) where
  -- ---- why a text was refused

  abbrev NoKey : Text → Type 0
  NoKey text = IsAbsent new text × (next_key key_at new ≡ None)

  abbrev PastLimit : Text → Type 0
  PastLimit text = IsAbsent new text × IsSome (next_key key_at new) × (account_with new text ≡ None)

  abbrev MayLack : Text → Type 0
  MayLack text = IsAbsent new text × IsSome (next_key key_at new) × IsSome (account_with new text)

  -- ---- texts of which the last was refused

  stopped_idle : (texts : List Text) (error : LassoError) (s : StopsAtRefusal key_at old texts error new) → new ≡ s.2
  stopped_idle texts error s = refused_idle key_at s.2 new s.1 (Err error) s.5

  pub stopped_added : (texts : List Text) (error : LassoError) → StopsAtRefusal key_at old texts error new → Added old new
  stopped_added texts error s = subst (λ (v : InternerView). Added old v) (sym (stopped_idle texts error s)) (filled_added key_at s.0 old s.2 s.4)

  stopped_at : (texts : List Text) (error : LassoError) (P : Text → Type 0) → StopsAtRefusal key_at old texts error new → ((last : Text) → InternsIn {K = K} key_at new last (Err error) new → P last) → FillsUpTo old new texts P
  stopped_at texts error P s why =
      let same : new ≡ s.2 = stopped_idle texts error s in
      let here : InternsIn {K = K} key_at new s.1 (Err error) new = subst (λ (v : InternerView). InternsIn {K = K} key_at v s.1 (Err error) new) (sym same) s.5 in
      let list : new.texts ≡ with_all_new old.texts s.0 = subst (λ (v : InternerView). v.texts ≡ with_all_new old.texts s.0) (sym same) (filled_texts key_at s.0 old s.2 s.4) in
      (s.0, s.1, s.3, list, why s.1 here)

  pub stopped_no_key : (texts : List Text) (error : LassoError) → StopsAtRefusal key_at old texts error new → error ≡ KeySpaceExhaustion → FillsUpTo old new texts NoKey
  stopped_no_key texts error s is = stopped_at texts error NoKey s (λ last here. (refused_keyless key_at new new last (Err error) here).0 (ap Err is))

  pub stopped_limit : (texts : List Text) (error : LassoError) → StopsAtRefusal key_at old texts error new → error ≡ MemoryLimitReached → FillsUpTo old new texts PastLimit
  stopped_limit texts error s is = stopped_at texts error PastLimit s (λ last here. (refused_limit key_at new new last (Err error) here).0 (ap Err is))

  pub stopped_memory : (texts : List Text) (error : LassoError) → StopsAtRefusal key_at old texts error new → error ≡ FailedAllocation → FillsUpTo old new texts MayLack
  stopped_memory texts error s is = stopped_at texts error MayLack s (λ last here. refused_memory key_at new new last (Err error) here (ap Err is))

  -- ---- items: `Ended` holds of all that were given, `Stopped` of those up to the refused one

  module _ {T : Type 0} (text : T → Text) (Ended Stopped : List T → Type 0) where
    abbrev Filled : Result (Unit {0}) LassoError → Type 0
    Filled reply = OnOk reply ((xs : List T) × Ended xs × InternsEach key_at old (map text xs) new)

    abbrev Refused : Result (Unit {0}) LassoError → Type 0
    Refused reply = IfErr reply (λ error. (xs : List T) × Stopped xs × StopsAtRefusal key_at old (map text xs) error new)

    pub items_texts : (reply : Result (Unit {0}) LassoError) → Filled reply → OnOk reply ((xs : List T) × Ended xs × (new.texts ≡ with_all_new old.texts (map text xs)))
    items_texts (Ok done) filled = (filled.0, filled.1, filled_texts key_at (map text filled.0) old new filled.2)
    items_texts (Err error) filled = tt

    pub items_added : (reply : Result (Unit {0}) LassoError) → Filled reply → Refused reply → Added old new
    items_added (Ok done) filled refused = filled_added key_at (map text filled.0) old new filled.2
    items_added (Err error) filled refused = stopped_added (map text refused.0) error refused.2

    pub items_no_key : (reply : Result (Unit {0}) LassoError) → Refused reply → reply ≡ Err KeySpaceExhaustion → (xs : List T) × Stopped xs × FillsUpTo old new (map text xs) NoKey
    items_no_key (Ok done) refused is = absurd (cc is)
    items_no_key (Err error) refused is = (refused.0, refused.1, stopped_no_key (map text refused.0) error refused.2 (cc is))

    pub items_limit : (reply : Result (Unit {0}) LassoError) → Refused reply → reply ≡ Err MemoryLimitReached → (xs : List T) × Stopped xs × FillsUpTo old new (map text xs) PastLimit
    items_limit (Ok done) refused is = absurd (cc is)
    items_limit (Err error) refused is = (refused.0, refused.1, stopped_limit (map text refused.0) error refused.2 (cc is))

    pub items_memory : (reply : Result (Unit {0}) LassoError) → Refused reply → reply ≡ Err FailedAllocation → (xs : List T) × Stopped xs × FillsUpTo old new (map text xs) MayLack
    items_memory (Ok done) refused is = absurd (cc is)
    items_memory (Err error) refused is = (refused.0, refused.1, stopped_memory (map text refused.0) error refused.2 (cc is))
