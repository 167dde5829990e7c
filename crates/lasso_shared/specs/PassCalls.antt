-- Calls of a pass, as contracts say them: by what is seen of the pass before and after.
use Rattle.std.specs.Prelude.{◌≡◌, ◌++◌, ℕ, List, [], take, Option}
use mathlib.Core.List.{IsPrefix}
use Rattle.lasso_parts.specs.Texts.{Text}
use Rattle.lasso_parts.specs.declared.util.LassoErrorKind.{LassoErrorKind}
use Rattle.lasso_log.specs.Calls.{IsCall, events_of}
use Rattle.lasso_log.specs.History.{Event, History, Totals, totals}
use Rattle.lasso_log.specs.Notes.{Since}
use Rattle.lasso_log.specs.Replies.{Question, Reply}
use Rattle.lasso_log.specs.Views.{InternerId, IsSamePass, PassView, seen}
use Rattle.lasso_shared.specs.Batches.{AddsInterned, AddsGot, StopsAtText}

-- one call of the pass at this interner, from what the pass had seen before to what it has seen after
abbrev pub IsPassCall : {K : Type 0} → (ℕ → Option K) → InternerId → (before after : PassView) → Question → Reply K → Type 0
IsPassCall key_at of before after question reply = IsCall key_at of.opening (seen before) (seen after) before.number question reply

-- calls of the pass that interned the texts in order, as `AddsInterned`: `new` is `old` with their keys after it
abbrev pub PassInterns : {K : Type 0} → (ℕ → Option K) → InternerId → (before after : PassView) → List Text → (old new : List K) → Type 0
PassInterns key_at of before after texts old new = AddsInterned key_at of.opening (seen before) (seen after) before.number texts old new

-- so were the first texts, and the call of the next one was refused with this error, as `StopsAtText`
abbrev pub PassStopsAt : {K : Type 0} → (ℕ → Option K) → InternerId → (before after : PassView) → List Text → (old new : List K) → LassoErrorKind → Type 0
PassStopsAt key_at of before after texts old new error = StopsAtText key_at of.opening (seen before) (seen after) before.number texts old new error

-- the pass was `first` when it began with the texts, has interned them in order, as `mid`, and has then seen more without an event:
-- `keys` is `begun` with their keys after it
pub record HasInterned {K : Type 0} (key_at : ℕ → Option K) (of : InternerId) (first now : PassView) (texts : List Text) (begun keys : List K) : Type 0 where
  pub mid : PassView
  pub was : IsSamePass mid first
  pub added : PassInterns key_at of first mid texts begun keys
  pub same : IsSamePass now mid
  pub since : Since mid.number mid.notes now.notes []

-- if it had interned the texts before position `from`, then it has interned those before `done`
abbrev pub InternsFurther : {K : Type 0} → (ℕ → Option K) → InternerId → (before after : PassView) → List Text → (from done : ℕ) → (old new : List K) → Type 0
InternsFurther {K} key_at of before after texts from done old new =
    (first : PassView) (begun : List K) → HasInterned key_at of first before (take from texts) begun old → HasInterned key_at of first after (take done texts) begun new

-- if it had interned these, then it has interned some, and was refused the next one
abbrev pub StopsFurther : {K : Type 0} → (ℕ → Option K) → InternerId → (before after : PassView) → List Text → (from : ℕ) → (old new : List K) → LassoErrorKind → Type 0
StopsFurther {K} key_at of before after texts from old new error =
    (first : PassView) (begun : List K) → HasInterned key_at of first before (take from texts) begun old → PassStopsAt key_at of first after texts begun new error

-- calls of the pass that looked the texts up in order, as `AddsGot`: `new` is `old` with what they returned after it
abbrev pub PassGets : {K : Type 0} → (ℕ → Option K) → InternerId → (before after : PassView) → List Text → (old new : List (Option K)) → Type 0
PassGets key_at of before after texts old new = AddsGot key_at of.opening (seen before) (seen after) before.number texts old new

-- after some history between the two, P holds of what it adds up to
abbrev pub AtMomentOf : Totals → (before after : History) → (Totals → Type 0) → Type 0
AtMomentOf opening before after P = (moment : History) × IsPrefix before moment × IsPrefix moment after × P (totals opening moment)

-- P holds at some moment between what the pass had seen of this interner and what it then has seen
abbrev pub AtMoment : InternerId → (before after : PassView) → (Totals → Type 0) → Type 0
AtMoment of before after P = AtMomentOf of.opening (seen before) (seen after) P

-- after the first history, the pass of this number has just these events in the second
abbrev pub AddsEventsOf : (before after : History) → (pass : ℕ) → List Event → Type 0
AddsEventsOf before after pass own = (past : History) × (before ++ past ≡ after) × (events_of pass past ≡ own)

-- after what the pass had seen, it has just these events of its own in what it then has seen
abbrev pub AddsEvents : (before after : PassView) → List Event → Type 0
AddsEvents before after own = AddsEventsOf (seen before) (seen after) before.number own
