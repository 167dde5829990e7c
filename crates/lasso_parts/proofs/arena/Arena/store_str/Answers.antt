-- Texts that were stored stay where they are: one region gets more bytes, or a region more comes, or nothing changes.
use Rattle.std.proofs.Common.{◌≡◌, ◌↔◌, ◌<◌, ◌≤◌, ◌+◌, ◌⊎◌, inr, ℕ, ◌++◌, ◌∷◌, [], List, Bool, false, length, ap, ◌∙◌, sym, subst, refl, Option, Some, None, Ok, Err, IsOk, OnErr, IfOk, IfErr, arith}
use Rattle.std.proofs.lemmas.Bool.Decides.{nat_tests}
use Rattle.std.proofs.lemmas.Grind.{common_steps}
use Rattle.std.proofs.lemmas.List.{get_or_append_left}
use Rattle.std.specs.Prelude.{nat_eq, nat_le}
use denote.RawPtr.{Ptr}
use Rattle.core.specs.declared.result.Result.{Result}
use Rattle.lasso_parts.specs.Account.{Account, store, store_in_other, store_in_spare, spare_for}
use Rattle.lasso_parts.specs.Arena.{Regions, IsStored, text_at, KeepsTexts, no_region, region_at, account_of, copied_of, first_of}
use Rattle.lasso_parts.specs.Bucket.{Extent}
use Rattle.lasso_parts.specs.Placements.{with_bucket}
use Rattle.lasso_parts.specs.declared.arena.Span.{Span}
use Rattle.std.specs.Prelude.{IsUtf8}
use Rattle.lasso_parts.specs.declared.util.LassoError.{LassoError}
use Rattle.lasso_parts.specs.declared.util.LassoErrorKind.TheVariants.{FailedAllocation, MemoryLimitReached}
use Rattle.lasso_parts.proofs.RegionOrder.{first_set, copied_set, copied_push}
use Rattle.lasso_parts.proofs.Regions.{filled, kept_set, kept_push, kept_same, stored_push}
use Rattle.lasso_parts.proofs.arena.Arena.store_str.Goals as goal

abbrev all_of : Regions → List Extent
all_of a = a.all

-- a region more comes, or nothing changes
kept_new : {T E : Type 0} (result : Result T E) (a b : Regions) → (IsOk result → (r : Extent) × (b.all ≡ a.all ++ r ∷ [])) → OnErr result (b ≡ a) → KeepsTexts a.all b.all
kept_new (Ok value) a b added same = let made = added refl in kept_push a.all b.all made.0 made.1
kept_new (Err error) a b added same = subst (KeepsTexts a.all) (sym (ap all_of same)) (kept_same a.all)

-- the text of the region that comes
stored_new : {E : Type 0} (result : Result Span E) (a b : Regions) (t : List ℕ) → (IsOk result → (at : Ptr) × (b.all ≡ a.all ++ filled at t (length t) ∷ [])) → IsUtf8 t
    → IfOk result (λ (s : Span). s ≡ record { region = length a.all; start = 0; len = length t }) → IfOk result (λ (s : Span). IsStored b.all s × (text_at b.all s ≡ t))
stored_new (Ok span) a b t added utf8 is = let made = added refl in stored_push a.all b.all (filled made.0 t (length t)) span made.1 utf8 is
stored_new (Err error) a b t added utf8 is = tt

-- a region more leaves the first one
first_new : {T E : Type 0} (result : Result T E) (a b : Regions) → 0 < length a.all → (IsOk result → (r : Extent) × (b.all ≡ a.all ++ r ∷ [])) → OnErr result (b ≡ a) → first_of b ≡ first_of a
first_new (Ok value) a b some added same =
    let made = added refl in ap (λ (l : List Extent). (region_at l 0).capacity) made.1 ∙ ap (λ (r : Extent). r.capacity) (get_or_append_left a.all (made.0 ∷ []) no_region 0 some)
first_new (Err error) a b some added same = ap first_of same

-- a text that the account takes is not refused by the limit
limit_takes : {T : Type 0} (result : Result T LassoError) (s : Option Account) (a : Account) → s ≡ Some a → IfErr result (λ error. error ≡ FailedAllocation) → (result ≡ Err MemoryLimitReached) ↔ (s ≡ None)
limit_takes (Ok value) s a takes refused = (λ e. cc, λ e. cc)
limit_takes (Err error) s a takes refused = (λ e. absurd (grind (arith, common_steps, e, refused)), λ e. cc)

-- usage grows only where no spare has room for the text
no_spare : (a b : Account) (n : ℕ) (spare : Option ℕ) → a.usage < b.usage → store_in_other a n spare ≡ Some b → spare ≡ None
no_spare a b n None more e = refl
no_spare a b n (Some size) more e = let same : store_in_spare a size n ≡ b = cc in absurd (omega (arith, more, ap (λ (x : Account). x.usage) same))

needs_new : (first : ℕ) (a b : Account) (n : ℕ) → 0 < n → a.room < n → a.usage < b.usage → store first a n ≡ Some b → spare_for first a n ≡ None
needs_new first a b n some full more e =
    let is_some : nat_eq n 0 ≡ false = grind (arith, nat_tests) in
    let is_full : nat_le n a.room ≡ false = grind (arith, nat_tests) in
    no_spare a b n (spare_for first a n) more (rw (is_some, is_full) at e)

-- memory runs out only for a text that needs a new region
memory_new : {T A B : Type 0} (result : Result T LassoError) → IfErr result (λ error. error ≡ FailedAllocation) → A → B → IfErr result (λ error. (error ≡ MemoryLimitReached) ⊎ (error ≡ FailedAllocation) × A × B)
memory_new (Ok value) refused full none = tt
memory_new (Err error) refused full none = inr (refused, full, none)

pub returns-in-Current-clause-kept : goal.returns-in-Current-clause-kept
returns-in-Current-clause-kept g c =
    let a = c.args.self.now in
    let inside = subst (λ (v : Regions). v.current < length v.all) c.self.view_is c.self.invariant.1.order.current in
    kept_set a.all c.store_in_current.new.self.all a.current c.args.text.now inside (ap all_of c.store_in_current.ensures.text)

pub returns-in-Exact-clause-stored : goal.returns-in-Exact-clause-stored
returns-in-Exact-clause-stored g c =
    stored_new c.store_in_exact.result c.args.self.now c.store_in_exact.new.self c.args.text.now (λ ok. let made = c.store_in_exact.ensures.text ok in (made.0, ap all_of made.1)) c.utf8.text c.store_in_exact.ensures.span

pub returns-in-Exact-clause-kept : goal.returns-in-Exact-clause-kept
returns-in-Exact-clause-kept g c =
    kept_new c.store_in_exact.result c.args.self.now c.store_in_exact.new.self (λ ok. let made = c.store_in_exact.ensures.text ok in (filled made.0 c.args.text.now (length c.args.text.now), ap all_of made.1)) c.store_in_exact.ensures.err

pub returns-in-Remnant-clause-kept : goal.returns-in-Remnant-clause-kept
returns-in-Remnant-clause-kept g c =
    kept_new c.store_in_remnant.result c.args.self.now c.store_in_remnant.new.self (λ ok. let made = c.store_in_remnant.ensures.text ok in (filled made.0 c.args.text.now c.in-Remnant.size, ap all_of made.1)) c.store_in_remnant.ensures.err

pub returns-in-Doubled-clause-kept : goal.returns-in-Doubled-clause-kept
returns-in-Doubled-clause-kept g c =
    kept_new c.store_in_doubled.result c.args.self.now c.store_in_doubled.new.self (λ ok. let made = c.store_in_doubled.ensures.text ok in (filled made.0 c.args.text.now c.in-Doubled.size, ap all_of made.1)) c.store_in_doubled.ensures.err

pub returns-in-Current-clause-first : goal.returns-in-Current-clause-first
returns-in-Current-clause-first g c = let a = c.args.self.now in ap first_of c.store_in_current.ensures.text ∙ first_set a.all a.current c.args.text.now

pub returns-in-Current-clause-copied : goal.returns-in-Current-clause-copied
returns-in-Current-clause-copied g c ok =
    let a = c.args.self.now in
    let inside = subst (λ (v : Regions). v.current < length v.all) c.self.view_is c.self.invariant.1.order.current in
    ap copied_of c.store_in_current.ensures.text ∙ copied_set a.all a.current c.args.text.now inside

pub returns-in-Current-clause-account : goal.returns-in-Current-clause-account
returns-in-Current-clause-account g c ok = c.store_in_current.ensures.account

pub returns-in-Current-clause-limit : goal.returns-in-Current-clause-limit
returns-in-Current-clause-limit g c = limit_takes (Ok c.store_in_current.result) (store (first_of c.args.self.now) (account_of c.args.self.now) (length c.args.text.now)) (account_of c.store_in_current.new.self) c.store_in_current.ensures.account tt

pub returns-in-Spare-clause-first : goal.returns-in-Spare-clause-first
returns-in-Spare-clause-first g c = ap first_of c.store_in_spare.ensures.text ∙ first_set c.args.self.now.all c.in-Spare.at c.args.text.now

pub returns-in-Spare-clause-copied : goal.returns-in-Spare-clause-copied
returns-in-Spare-clause-copied g c ok = ap copied_of c.store_in_spare.ensures.text ∙ copied_set c.args.self.now.all c.in-Spare.at c.args.text.now c.store_in_spare.ensures.inside

pub returns-in-Spare-clause-limit : goal.returns-in-Spare-clause-limit
returns-in-Spare-clause-limit g c = limit_takes (Ok c.store_in_spare.result) (store (first_of c.args.self.now) (account_of c.args.self.now) (length c.args.text.now)) (account_of c.store_in_spare.new.self) c.store_in_spare.ensures.account tt

pub returns-in-Exact-clause-first : goal.returns-in-Exact-clause-first
returns-in-Exact-clause-first g c =
    let inside = subst (λ (v : Regions). v.current < length v.all) c.self.view_is c.self.invariant.1.order.current in
    first_new c.store_in_exact.result c.args.self.now c.store_in_exact.new.self (omega (arith, inside)) (λ ok. let made = c.store_in_exact.ensures.text ok in (filled made.0 c.args.text.now (length c.args.text.now), ap all_of made.1)) c.store_in_exact.ensures.err

pub returns-in-Exact-clause-copied : goal.returns-in-Exact-clause-copied
returns-in-Exact-clause-copied g c ok =
    let made = c.store_in_exact.ensures.text ok in ap copied_of made.1 ∙ copied_push c.args.self.now (filled made.0 c.args.text.now (length c.args.text.now))

pub returns-in-Exact-clause-limit : goal.returns-in-Exact-clause-limit
returns-in-Exact-clause-limit g c = limit_takes c.store_in_exact.result (store (first_of c.args.self.now) (account_of c.args.self.now) (length c.args.text.now)) _ c.in-Exact.ensures.3 c.store_in_exact.ensures.refused

pub returns-in-Exact-clause-memory : goal.returns-in-Exact-clause-memory
returns-in-Exact-clause-memory g c =
    let a = account_of c.args.self.now in
    let n = length c.args.text.now in
    let new = c.in-Exact.ensures in
    let some : 0 < n = omega (arith, c.if-n-eq0.false) in
    memory_new c.store_in_exact.result c.store_in_exact.ensures.refused new.0.room (needs_new (first_of c.args.self.now) a (record a { usage = a.usage + n }) n some new.0.room (omega (arith, some)) new.3)

pub returns-in-Remnant-clause-first : goal.returns-in-Remnant-clause-first
returns-in-Remnant-clause-first g c =
    let inside = subst (λ (v : Regions). v.current < length v.all) c.self.view_is c.self.invariant.1.order.current in
    first_new c.store_in_remnant.result c.args.self.now c.store_in_remnant.new.self (omega (arith, inside)) (λ ok. let made = c.store_in_remnant.ensures.text ok in (filled made.0 c.args.text.now c.in-Remnant.size, ap all_of made.1)) c.store_in_remnant.ensures.err

pub returns-in-Remnant-clause-copied : goal.returns-in-Remnant-clause-copied
returns-in-Remnant-clause-copied g c ok =
    let made = c.store_in_remnant.ensures.text ok in ap copied_of made.1 ∙ copied_push c.args.self.now (filled made.0 c.args.text.now c.in-Remnant.size)

pub returns-in-Remnant-clause-limit : goal.returns-in-Remnant-clause-limit
returns-in-Remnant-clause-limit g c = limit_takes c.store_in_remnant.result (store (first_of c.args.self.now) (account_of c.args.self.now) (length c.args.text.now)) _ c.in-Remnant.ensures.4 c.store_in_remnant.ensures.refused

pub returns-in-Remnant-clause-memory : goal.returns-in-Remnant-clause-memory
returns-in-Remnant-clause-memory g c =
    let a = account_of c.args.self.now in
    let n = length c.args.text.now in
    let new = c.in-Remnant.ensures in
    let some : 0 < n = omega (arith, c.if-n-eq0.false) in
    memory_new c.store_in_remnant.result c.store_in_remnant.ensures.refused new.0.room (needs_new (first_of c.args.self.now) a (with_bucket a c.in-Remnant.size n) n some new.0.room (omega (arith, some, new.1)) new.4)

pub returns-in-Doubled-clause-first : goal.returns-in-Doubled-clause-first
returns-in-Doubled-clause-first g c =
    let inside = subst (λ (v : Regions). v.current < length v.all) c.self.view_is c.self.invariant.1.order.current in
    first_new c.store_in_doubled.result c.args.self.now c.store_in_doubled.new.self (omega (arith, inside)) (λ ok. let made = c.store_in_doubled.ensures.text ok in (filled made.0 c.args.text.now c.in-Doubled.size, ap all_of made.1)) c.store_in_doubled.ensures.err

pub returns-in-Doubled-clause-copied : goal.returns-in-Doubled-clause-copied
returns-in-Doubled-clause-copied g c ok =
    let made = c.store_in_doubled.ensures.text ok in ap copied_of made.1 ∙ copied_push c.args.self.now (filled made.0 c.args.text.now c.in-Doubled.size)

pub returns-in-Doubled-clause-limit : goal.returns-in-Doubled-clause-limit
returns-in-Doubled-clause-limit g c = limit_takes c.store_in_doubled.result (store (first_of c.args.self.now) (account_of c.args.self.now) (length c.args.text.now)) _ c.in-Doubled.ensures.4 c.store_in_doubled.ensures.refused

pub returns-in-Doubled-clause-memory : goal.returns-in-Doubled-clause-memory
returns-in-Doubled-clause-memory g c =
    let a = account_of c.args.self.now in
    let n = length c.args.text.now in
    let new = c.in-Doubled.ensures in
    let some : 0 < n = omega (arith, c.if-n-eq0.false) in
    memory_new c.store_in_doubled.result c.store_in_doubled.ensures.refused new.0.room (needs_new (first_of c.args.self.now) a (with_bucket (record a { doubling = c.in-Doubled.size }) c.in-Doubled.size n) n some new.0.room (omega (arith, some, new.1)) new.4)
