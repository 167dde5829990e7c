-- The clauses of a call that copies the texts of an interner over those of another, each from `ClonesInto`, and that relation again from them.
--
-- A call that stopped says how many texts were copied, and why the next one was not. So its error says which of the two reasons it was.
use Rattle.std.proofs.Common.{◌≡◌, ◌⊎◌, ℕ, List, inl, inr, length, slice_get, Option, Some, None, IsSome, IsSomeAnd, Result, Ok, Err, refl, sym, subst}
use Rattle.lasso_parts.specs.Account.{Account, store}
use Rattle.lasso_parts.specs.Texts.{Text}
use Rattle.lasso_parts.specs.declared.util.LassoError.{LassoError}
use Rattle.lasso_parts.specs.declared.util.LassoErrorKind.TheVariants.{MemoryLimitReached, KeySpaceExhaustion, FailedAllocation}
use Rattle.lasso_single.specs.CloneFacts.{CloneFacts, CloneFactsSayAll}
use Rattle.lasso_single.specs.Copies.{ClearsAgain, ClonesInto, StopsCloning}
use Rattle.lasso_single.specs.Interner.{InternerView}

found : (o : Option Text) (P : Text → Type 0) (text : Text) → o ≡ Some text → P text → IsSomeAnd o P
found o P text at holds = subst (λ (p : Option Text). IsSomeAnd p P) (sym at) holds

some_text : (o : Option Text) (P : Text → Type 0) → IsSomeAnd o P → (text : Text) × (o ≡ Some text) × P text
some_text None P holds = absurd holds
some_text (Some text) P holds = (text, refl, holds)

module _ (old new : InternerView) (source : List Text) where
  -- the limit has no room for the next text
  abbrev PastLimit : ℕ → Account → Type 0
  PastLimit j account = IsSomeAnd (slice_get source j) (λ text. store old.first account (length text) ≡ None)

  -- memory runs out before the first text, or for one that the limit has room for
  abbrev MayLack : ℕ → Account → Type 0
  MayLack j account = (j ≡ 0) ⊎ IsSomeAnd (slice_get source j) (λ text. IsSome (store old.first account (length text)))

  stopped_limit : (error : LassoError) → StopsCloning old source error new → error ≡ MemoryLimitReached → ClearsAgain old new source PastLimit
  stopped_limit error h why = elim h.2.1 [
    | inl memory ↦ absurd (cc (memory.0, why))
    | inr limit ↦
        (h.0, h.1, h.2.0, found (slice_get source h.0) (λ text. store old.first h.1 (length text) ≡ None) limit.1.0 limit.1.1 limit.1.2, h.3, h.4)
  ]

  lacking : (j : ℕ) (account : Account) → (j ≡ 0) ⊎ ((text : Text) × (slice_get source j ≡ Some text) × IsSome (store old.first account (length text))) → MayLack j account
  lacking j account (inl none) = inl none
  lacking j account (inr next) = inr (found (slice_get source j) (λ text. IsSome (store old.first account (length text))) next.0 next.1 next.2)

  stopped_memory : (error : LassoError) → StopsCloning old source error new → error ≡ FailedAllocation → ClearsAgain old new source MayLack
  stopped_memory error h why = elim h.2.1 [
    | inl memory ↦ (h.0, h.1, h.2.0, lacking h.0 h.1 memory.1, h.3, h.4)
    | inr limit ↦ absurd (cc (limit.0, why))
  ]

  reason_of : (error : LassoError) → StopsCloning old source error new → (error ≡ MemoryLimitReached) ⊎ (error ≡ FailedAllocation)
  reason_of error h = elim h.2.1 [ inl memory ↦ inr memory.0 | inr limit ↦ inl limit.0 ]

  pub clone_facts : (reply : Result (Unit {0}) LassoError) → ClonesInto old source reply new → CloneFacts old source reply new
  clone_facts (Ok done) h = record {
    texts = h.0.0;
    account = h.0.1;
    copied = h.0.2;
    most = h.0.3;
    first = h.1;
    mark = h.2;
    reason = tt;
    emptied = tt;
    uncopied = tt;
    limit = λ is. absurd (cc is);
    memory = λ is. absurd (cc is);
  }
  clone_facts (Err error) h = record {
    texts = tt;
    account = tt;
    copied = tt;
    most = tt;
    first = h.1;
    mark = h.2;
    reason = reason_of error h.0.2;
    emptied = h.0.0;
    uncopied = h.0.1;
    limit = λ is. stopped_limit error h.0.2 (cc is);
    memory = λ is. stopped_memory error h.0.2 (cc is);
  }

  -- ---- the clauses say all

  stops_limit : ClearsAgain old new source PastLimit → StopsCloning old source MemoryLimitReached new
  stops_limit h = let next = some_text (slice_get source h.0) (λ text. store old.first h.1 (length text) ≡ None) h.3 in
      (h.0, h.1, (h.2, inr (refl, (next.0, next.1, next.2))), h.4, h.5)

  lacks : (j : ℕ) (account : Account) → MayLack j account → (j ≡ 0) ⊎ ((text : Text) × (slice_get source j ≡ Some text) × IsSome (store old.first account (length text)))
  lacks j account (inl none) = inl none
  lacks j account (inr next) = inr (some_text (slice_get source j) (λ text. IsSome (store old.first account (length text))) next)

  stops_memory : ClearsAgain old new source MayLack → StopsCloning old source FailedAllocation new
  stops_memory h = (h.0, h.1, (h.2, inl (refl, lacks h.0 h.1 h.3)), h.4, h.5)

  neither : (KeySpaceExhaustion ≡ MemoryLimitReached) ⊎ (KeySpaceExhaustion ≡ FailedAllocation) → ⊥
  neither (inl is) = cc is
  neither (inr is) = cc is

  stops : (error : LassoError) → CloneFacts old source (Err error) new → StopsCloning old source error new
  stops MemoryLimitReached facts = stops_limit (facts.limit refl)
  stops FailedAllocation facts = stops_memory (facts.memory refl)
  stops KeySpaceExhaustion facts = absurd (neither facts.reason)

  pub clones_from_facts : (reply : Result (Unit {0}) LassoError) → CloneFacts old source reply new → ClonesInto old source reply new
  clones_from_facts (Ok done) facts = ((facts.texts, facts.account, facts.copied, facts.most), facts.first, facts.mark)
  clones_from_facts (Err error) facts = ((facts.emptied, facts.uncopied, stops error facts), facts.first, facts.mark)

pub clone_facts_say_all : CloneFactsSayAll
clone_facts_say_all old new source reply = (clones_from_facts old new source reply, clone_facts old new source reply)
