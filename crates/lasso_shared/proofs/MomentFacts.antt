-- What a call with a pass says of the moment that explains its reply, and of the events of its pass.
--
-- The moment is a history between the call's beginning and its end, and the reply is one that may be given there. At a legal history each
-- position has a key, so a text without a key is absent.
use Rattle.std.proofs.Common.{◌≡◌, ◌≢◌, ◌⊎◌, ◌∙◌, ℕ, ◌+◌, ◌<◌, ◌≤◌, Bool, false, List, [], ◌++◌, length, slice_get, inl, inr, Option, Some, None, IsSome, Result, Ok, Err, refl, sym, ap, subst, append_assoc, arith}
use Rattle.std.specs.Prelude.{IsFalse, OnErr, OnOk, nat_lt, option_and_then}
use Rattle.std.proofs.lemmas.Bool.Decides.{nat_tests}
use Rattle.std.proofs.lemmas.Option.{slice_get_within}
use mathlib.Core.List.{IsPrefix}
use Rattle.lasso_parts.specs.Texts.{Text, position_of, key_of, Fits}
use Rattle.lasso_parts.specs.declared.util.LassoErrorKind.{LassoErrorKind}
use Rattle.lasso_parts.specs.declared.util.LassoErrorKind.TheVariants.{MemoryLimitReached, KeySpaceExhaustion, FailedAllocation}
use Rattle.lasso_parts.proofs.TextLemmas.{position_here}
use Rattle.lasso_log.specs.Buckets.{HasNoRoom}
use Rattle.lasso_log.specs.Calls.{events_of, IsCall, Stores, StoresAndAppends}
use Rattle.lasso_log.specs.History.{Event, History, IsLegal, IsOpening, Lacks, Totals, totals}
use Rattle.lasso_log.specs.Replies.{Copied, Static, Keeping, Question, Intern, Get, ContainsKey, Resolve, Reply, Interned, Found, Flag, Resolved, MayReply}
use Rattle.lasso_log.proofs.Legal.{legal_parts, list_kept}
use Rattle.lasso_shared.specs.PassCalls.{AddsEventsOf, AtMomentOf}
use Rattle.lasso_shared.proofs.CallerLaws.{end_past, some_there}

-- a number that is not less is no less
not_less : (n m : ℕ) (b : Bool) → b ≡ nat_lt n m → IsFalse b → m ≤ n
not_less n m b is lacks = grind (arith, nat_tests, is, lacks)

no_some : {X : Type 0} (o : Option X) (x : X) → o ≡ None → o ≡ Some x → ⊥
no_some o x none some = cc

-- an absent text has no position, if each position has a key
lacks_key : {K : Type 0} (key_at : ℕ → Option K) (texts : List Text) (text : Text) (o : Option ℕ) → position_of texts text ≡ o → Fits key_at (length texts) → option_and_then key_at o ≡ None → Lacks texts text
lacks_key key_at texts text None at fits none = at
lacks_key key_at texts text (Some n) at fits none =
    let key = some_there (key_at n) (fits n (slice_get_within texts n text (position_here texts text n at))) in
    absurd (no_some (key_at n) key.0 none key.1)

module _ {K : Type 0} (key_at : ℕ → Option K) (opening : Totals) (before after : History) (pass : ℕ) where
  -- ---- the moment

  -- the reply may be given at some moment
  pub call_moment : (question : Question) (reply : Reply K) → IsCall key_at opening before after pass question reply → AtMomentOf opening before after (λ s. MayReply key_at s question reply)
  call_moment question reply c = (before ++ c.explained.0, (c.explained.0, refl), end_past key_at opening before after pass question reply c, c.explained.4)

  -- each position of the moment has a key
  moment_fits : IsOpening key_at opening → IsLegal key_at opening after → (moment : History) → IsPrefix moment after → Fits key_at (length (totals opening moment).texts)
  moment_fits opens legal moment more =
      let parts = legal_parts key_at opening moment more.0 (subst (IsLegal key_at opening) (sym more.1) legal) in
      (list_kept key_at opening moment opens.distinct opens.fits parts.0).1

  pub found_absent : IsOpening key_at opening → IsLegal key_at opening after → (text : Text) (reply : Option K) → IsCall key_at opening before after pass (Get text) (Found reply) → reply ≡ None → AtMomentOf opening before after (λ s. Lacks s.texts text)
  found_absent opens legal text reply c none =
      let m = call_moment (Get text) (Found reply) c in
      let texts = (totals opening m.0).texts in
      (m.0, m.1, m.2, lacks_key key_at texts text (position_of texts text) refl (moment_fits opens legal m.0 m.2) (sym m.3 ∙ none))

  pub contained_absent : (number : ℕ) (reply : Bool) → IsCall {K = K} key_at opening before after pass (ContainsKey number) (Flag reply) → IsFalse reply → AtMomentOf opening before after (λ s. length s.texts ≤ number)
  contained_absent number reply c lacks =
      let m = call_moment (ContainsKey number) (Flag reply) c in
      (m.0, m.1, m.2, not_less number (length (totals opening m.0).texts) reply m.3 lacks)

  pub resolved_absent : (number : ℕ) (reply : Option Text) → IsCall {K = K} key_at opening before after pass (Resolve number) (Resolved reply) → reply ≡ None → AtMomentOf opening before after (λ s. slice_get s.texts number ≡ None)
  resolved_absent number reply c none =
      let m = call_moment (Resolve number) (Resolved reply) c in
      (m.0, m.1, m.2, sym m.3 ∙ none)

  module _ (keeping : Keeping) (text : Text) where
    abbrev Call : Result K LassoErrorKind → Type 0
    Call reply = IsCall key_at opening before after pass (Intern keeping text) (Interned reply)

    pub refused_no_key : (reply : Result K LassoErrorKind) → Call reply → reply ≡ Err KeySpaceExhaustion → AtMomentOf opening before after (λ s. Lacks s.texts text × (key_at (length s.texts) ≡ None))
    refused_no_key reply c is = call_moment (Intern keeping text) (Interned (Err KeySpaceExhaustion)) (subst Call is c)

    limit_moment : (reply : Result K LassoErrorKind) → Call reply → reply ≡ Err MemoryLimitReached → AtMomentOf opening before after (λ s. MayReply {K = K} key_at s (Intern keeping text) (Interned (Err MemoryLimitReached)))
    limit_moment reply c is = call_moment (Intern keeping text) (Interned (Err MemoryLimitReached)) (subst Call is c)

    pub refused_limit : (reply : Result K LassoErrorKind) → Call reply → reply ≡ Err MemoryLimitReached → AtMomentOf opening before after (λ s. Lacks s.texts text × (text ≢ []) × HasNoRoom s.buckets (length text) × (s.limit < s.usage + length text))
    refused_limit reply c is = let m = limit_moment reply c is in (m.0, m.1, m.2, (m.3.0, m.3.2, m.3.3, m.3.4))

    pub refused_memory : (reply : Result K LassoErrorKind) → Call reply → reply ≡ Err FailedAllocation → AtMomentOf opening before after (λ s. Lacks s.texts text)
    refused_memory reply c is = call_moment (Intern keeping text) (Interned (Err FailedAllocation)) (subst Call is c)

    -- ---- events

    pub added_events : (reply : Result K LassoErrorKind) → Call reply → OnOk reply ((own : List Event) × ((own ≡ []) ⊎ StoresAndAppends keeping text own) × AddsEventsOf before after pass own)
    added_events (Ok k) c = (events_of pass c.past, c.makes, (c.past, c.begins, refl))
    added_events (Err error) c = tt

    pub taken_events : (reply : Result K LassoErrorKind) → Call reply → reply ≡ Err KeySpaceExhaustion → (own : List Event) × Stores keeping text own × AddsEventsOf before after pass own
    taken_events reply c is = let d : Call (Err KeySpaceExhaustion) = subst Call is c in (events_of pass d.past, d.makes, (d.past, d.begins, refl))

    pub refused_idle : (reply : Result K LassoErrorKind) → Call reply → reply ≢ Err KeySpaceExhaustion → OnErr reply (AddsEventsOf before after pass [])
    refused_idle (Ok k) c not = tt
    refused_idle (Err KeySpaceExhaustion) c not = absurd (not refl)
    refused_idle (Err MemoryLimitReached) c not = (c.past, c.begins, c.makes)
    refused_idle (Err FailedAllocation) c not = (c.past, c.begins, c.makes)

  pub found_idle : (text : Text) (reply : Option K) → IsCall key_at opening before after pass (Get text) (Found reply) → AddsEventsOf before after pass []
  found_idle text reply c = (c.past, c.begins, c.makes)

  pub contained_idle : (number : ℕ) (reply : Bool) → IsCall {K = K} key_at opening before after pass (ContainsKey number) (Flag reply) → AddsEventsOf before after pass []
  contained_idle number reply c = (c.past, c.begins, c.makes)

  pub resolved_idle : (number : ℕ) (reply : Option Text) → IsCall {K = K} key_at opening before after pass (Resolve number) (Resolved reply) → AddsEventsOf before after pass []
  resolved_idle number reply c = (c.past, c.begins, c.makes)

  -- a text that is kept as it is takes no byte, so no call of it is refused by the limit, and none that is refused adds an event
  kept_is_copied : Static ≡ Copied → ⊥
  kept_is_copied is = cc is

  pub static_limit : (text : Text) (reply : Result K LassoErrorKind) → IsCall key_at opening before after pass (Intern Static text) (Interned reply) → reply ≢ Err MemoryLimitReached
  static_limit text reply c is = let m = limit_moment Static text reply c is in kept_is_copied m.3.1

  pub static_idle : (text : Text) (reply : Result K LassoErrorKind) → IsCall key_at opening before after pass (Intern Static text) (Interned reply) → OnErr reply (AddsEventsOf before after pass [])
  static_idle text (Ok k) c = tt
  static_idle text (Err KeySpaceExhaustion) c = (c.past, c.begins, c.makes)
  static_idle text (Err MemoryLimitReached) c = (c.past, c.begins, c.makes)
  static_idle text (Err FailedAllocation) c = (c.past, c.begins, c.makes)
