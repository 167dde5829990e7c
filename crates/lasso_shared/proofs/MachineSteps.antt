-- What one step does where the state is good, and so what every run does.
--
-- A found text's key is that of its position, since the index that was read was exact. A refusal's reasons are what the step
-- asked for, and that the list lacks the text comes from the state. The events of a step are what it does to the list, the
-- buckets, the usage and the limit; so the events of a run add up to what the run leaves.
use mathlib.Core.List.{IsPrefix}
use Rattle.std.proofs.Common.{◌≡◌, ◌≢◌, ℕ, ◌+◌, ◌<◌, ◌≤◌, List, [], ◌∷◌, ◌++◌, length, Option, Some, None, IsSome, is_some, IfSome, option_and_then, Err, refl, sym, ap, ◌∙◌, subst, ⊎_elim, inl, arith, append-nil, append_assoc}
use Rattle.std.proofs.lemmas.Option.{none-some}
use Rattle.std.proofs.lemmas.List.{map-append}
use Rattle.std.proofs.lemmas.List.Elements.{All-push}
use Rattle.lasso_parts.specs.Texts.{Text, position_of, key_of}
use Rattle.lasso_parts.specs.declared.util.LassoErrorKind.{LassoErrorKind}
use Rattle.lasso_parts.specs.declared.util.LassoErrorKind.TheVariants.{MemoryLimitReached, KeySpaceExhaustion, FailedAllocation}
use Rattle.lasso_parts.proofs.TextLemmas.{key_of_present}
use Rattle.lasso_parts.proofs.IndexLaws.{position_of_at}
use Rattle.lasso_log.specs.Buckets.{CountedBucket, with_taken, changed_at, doubling_after}
use Rattle.lasso_log.specs.History.{Totals, totals, IsLegal}
use Rattle.lasso_log.specs.Replies.{Keeping, Question, Intern, Get, Contains, ContainsKey, Resolve, Len, IsEmpty, Usage, MaxUsage, Iterate, Strings, Serialize, Freeze, Interned, MayReply}
use Rattle.lasso_shared.specs.Machine.{RangedBucket, Phase, Missing, Stored, Appended, Call, State, Step, Take, Reserve, Charge, Append, Release, Refuse, Read, SetLimit, IsInFlight, IsFree, IsReady, MayRefuseCall, MayRead, MayStep, new_call, taken, after, events, replied, found_reply, read, reply, sums, reserved, charged}
use Rattle.lasso_shared.specs.Runs.{IsFilled, StandsBy, IsGood, IsStart, IsRun, run, run_history, OwesReply, IsSoundStep, HoldsInRun}
use Rattle.lasso_log.proofs.Legal.{totals_append, legal_append, bucket_fits}
use Rattle.lasso_shared.proofs.Walked.{walk_from}
use Rattle.lasso_shared.proofs.Ranges.{map_changed, reserved_filled, charged_filled}
use Rattle.lasso_shared.proofs.MachineGood.{HasAppendedNone, found_free, lacks_own, good_begun, good_stored, good_appended, good_refused, good_released, good_limited}

-- ---- calls that have appended nothing

missing_none : (c : Call) → c.phase ≡ Missing → HasAppendedNone c
missing_none c missing position appended = grind arith

stored_none : (c : Call) → c.phase ≡ Stored → HasAppendedNone c
stored_none c stored position appended = grind arith

ready_none : (c : Call) → IsReady c → HasAppendedNone c
ready_none c ready = ⊎_elim (λ (e : c.phase ≡ Stored). stored_none c e) (λ e. missing_none c e.0) ready

refused_none : {K : Type 0} (key_at : ℕ → Option K) (s : State) (c : Call) (why : LassoErrorKind) → MayRefuseCall key_at s c why → HasAppendedNone c
refused_none key_at s c MemoryLimitReached may = missing_none c may.0
refused_none key_at s c KeySpaceExhaustion may = ready_none c may.0
refused_none key_at s c FailedAllocation may = missing_none c may

some_bytes : (text : Text) → text ≢ [] → length text ≢ 0
some_bytes [] ne e = ne refl
some_bytes (byte ∷ bytes) ne e = grind arith

-- ---- replies

-- the same, whatever the option has
whatever : {A : Type 0} (P : Type 0) (o : Option A) → P → IfSome o (λ x. P)
whatever P None p = tt
whatever P (Some x) p = p

-- an intern's key is the key of the text's position
key_explained : {K : Type 0} (key_at : ℕ → Option K) (s : Totals) (keeping : Keeping) (text : Text) (key : Option K) → key_of key_at s.texts text ≡ key → IfSome (found_reply keeping text key) (λ r. MayReply key_at s r.0 r.1)
key_explained key_at s keeping text None e = tt
key_explained key_at s keeping text (Some k) e = e

some_interned : {K : Type 0} (keeping : Keeping) (text : Text) (key : Option K) → IsSome key → IsSome (found_reply keeping text key)
some_interned keeping text None e = absurd (grind arith)
some_interned keeping text (Some k) e = refl

-- ---- what a step does

module _ {K : Type 0} (key_at : ℕ → Option K) (shard : Text → ℕ) (s : State) (good : IsGood key_at shard s) where
  good_taken : (c : Call) → c.shard ≡ shard c.text → c.phase ≡ Missing → s.calls c.number ≡ None → IsFree s c.shard → (o : Option ℕ) → s.index c.shard c.text ≡ o → IsGood key_at shard (taken s c o)
  good_taken c own missing fresh free (Some position) e = good
  good_taken c own missing fresh free None e = good_begun key_at shard s good c own missing fresh free e

  pub good_after : (step : Step) → MayStep key_at shard s step → IsGood key_at shard (after shard s step)
  good_after (Take number keeping text) may = good_taken (new_call shard number keeping text) refl refl may.0 may.1 (s.index (shard text) text) refl
  good_after (Reserve c position) may =
      good_stored key_at shard s good c (changed_at position (reserved (length c.text)) s.buckets) s.doubling s.usage may.0 (missing_none c may.1)
      (reserved_filled (length c.text) position s.buckets good.filled may.3)
  good_after (Charge c size) may =
      good_stored key_at shard s good c (s.buckets ++ charged size (length c.text) ∷ []) (doubling_after s.doubling s.usage s.limit (length c.text)) (s.usage + size) may.0 (missing_none c may.1)
      (All-push IsFilled s.buckets (charged size (length c.text)) good.filled
      (charged_filled size (length c.text) (bucket_fits s.doubling s.usage s.limit (length c.text) size (some_bytes c.text may.2.1) may.4).0))
  good_after (Append c) may = good_appended key_at shard s good c may.0 (ready_none c may.1) may.2
  good_after (Release c position) may = good_released key_at shard s good c position may.0 may.1
  good_after (Refuse c why) may = good_refused key_at shard s good c may.0 (refused_none key_at s c why may.1)
  good_after (Read question) may = good
  good_after (SetLimit number limit) may = good_limited key_at shard s good limit

  -- taking a shard changes nothing that is counted
  taken_sums : (c : Call) (o : Option ℕ) → sums (taken s c o) ≡ sums s
  taken_sums c (Some position) = refl
  taken_sums c None = refl

  took_sums : (number : ℕ) (keeping : Keeping) (text : Text) → sums (after shard s (Take number keeping text)) ≡ sums s
  took_sums number keeping text = taken_sums (new_call shard number keeping text) (s.index (shard text) text)

  grows : (step : Step) → IsPrefix s.texts (after shard s step).texts
  grows (Take number keeping text) = ([], append-nil s.texts ∙ sym (ap (λ (t : Totals). t.texts) (took_sums number keeping text)))
  grows (Append c) = (c.text ∷ [], refl)
  grows (Reserve c position) = ([], append-nil s.texts)
  grows (Charge c size) = ([], append-nil s.texts)
  grows (Release c position) = ([], append-nil s.texts)
  grows (Refuse c why) = ([], append-nil s.texts)
  grows (Read question) = ([], append-nil s.texts)
  grows (SetLimit number limit) = ([], append-nil s.texts)

  limited : (step : Step) → MayStep key_at shard s step → s.usage < (after shard s step).usage → (after shard s step).usage ≤ (after shard s step).limit
  limited (Take number keeping text) may grew = let same = ap (λ (t : Totals). t.usage) (took_sums number keeping text) in absurd (omega (arith, same))
  limited (Charge c size) may grew = (bucket_fits s.doubling s.usage s.limit (length c.text) size (some_bytes c.text may.2.1) may.4).1
  limited (Reserve c position) may grew = absurd (omega arith)
  limited (Append c) may grew = absurd (omega arith)
  limited (Release c position) may grew = absurd (omega arith)
  limited (Refuse c why) may grew = absurd (omega arith)
  limited (Read question) may grew = absurd (omega arith)
  limited (SetLimit number limit) may grew = absurd (omega arith)

  -- the text of an appended call has its position in the list
  own_key : (c : Call) (position : ℕ) → IsInFlight s c → c.phase ≡ Appended position → key_of key_at s.texts c.text ≡ key_at position
  own_key c position flies appended =
      ap (option_and_then key_at) (position_of_at s.texts c.text position good.distinct (subst (λ (p : Phase). StandsBy s c.text p) appended (good.stands c flies)))

  refusal_explained : (c : Call) (why : LassoErrorKind) → IsInFlight s c → MayRefuseCall key_at s c why → MayReply key_at (sums s) (Intern c.keeping c.text) (Interned (Err why))
  refusal_explained c MemoryLimitReached flies may = (lacks_own key_at shard s good c flies (missing_none c may.0), may.1.0, may.1.1, may.2, may.3)
  refusal_explained c KeySpaceExhaustion flies may = (lacks_own key_at shard s good c flies (ready_none c may.0), may.1)
  refusal_explained c FailedAllocation flies may = lacks_own key_at shard s good c flies (missing_none c may)

  reading_explained : (question : Question) → MayRead shard s question → IfSome (replied question (read key_at shard s question)) (λ r. MayReply key_at (sums s) r.0 r.1)
  reading_explained (Get text) may = ap (option_and_then key_at) (found_free key_at shard s good text may)
  reading_explained (Contains text) may = ap is_some (found_free key_at shard s good text may)
  reading_explained (ContainsKey number) may = refl
  reading_explained (Resolve number) may = refl
  reading_explained Len may = refl
  reading_explained IsEmpty may = refl
  reading_explained Usage may = refl
  reading_explained MaxUsage may = refl
  reading_explained Iterate may = walk_from key_at 0 s.texts (λ i below. good.fits i (omega (arith, below)))
  reading_explained Strings may = refl
  reading_explained Serialize may = inl refl
  reading_explained Freeze may = absurd may
  reading_explained (Intern keeping text) may = absurd may
  reading_explained (Question.SetLimit limit) may = absurd may

  reading_given : (question : Question) → MayRead shard s question → IsSome (replied question (read key_at shard s question))
  reading_given (Get text) may = refl
  reading_given (Contains text) may = refl
  reading_given (ContainsKey number) may = refl
  reading_given (Resolve number) may = refl
  reading_given Len may = refl
  reading_given IsEmpty may = refl
  reading_given Usage may = refl
  reading_given MaxUsage may = refl
  reading_given Iterate may = refl
  reading_given Strings may = refl
  reading_given Serialize may = refl
  reading_given Freeze may = absurd may
  reading_given (Intern keeping text) may = absurd may
  reading_given (Question.SetLimit limit) may = absurd may

  explained : (step : Step) → MayStep key_at shard s step → IfSome (reply key_at shard s step) (λ r. MayReply key_at (sums s) r.0 r.1)
  explained (Take number keeping text) may =
      key_explained key_at (sums s) keeping text (option_and_then key_at (s.index (shard text) text)) (sym (ap (option_and_then key_at) (found_free key_at shard s good text may.1)))
  explained (Release c position) may = key_explained key_at (sums s) c.keeping c.text (key_at position) (own_key c position may.0 may.1)
  explained (Refuse c why) may = refusal_explained c why may.0 may.1
  explained (Read question) may = reading_explained question may
  explained (Reserve c position) may = tt
  explained (Charge c size) may = tt
  explained (Append c) may = tt
  explained (SetLimit number limit) may = tt

  stays : (step : Step) → IfSome (reply key_at shard s step) (λ r. sums (after shard s step) ≡ sums s)
  stays (Take number keeping text) =
      whatever (sums (after shard s (Take number keeping text)) ≡ sums s) (found_reply keeping text (option_and_then key_at (s.index (shard text) text))) (took_sums number keeping text)
  stays (Release c position) = whatever (sums s ≡ sums s) (found_reply c.keeping c.text (key_at position)) refl
  stays (Refuse c why) = refl
  stays (Read question) = whatever (sums s ≡ sums s) (replied question (read key_at shard s question)) refl
  stays (Reserve c position) = tt
  stays (Charge c size) = tt
  stays (Append c) = tt
  stays (SetLimit number limit) = tt

  -- a text of the list has a key
  has_key : (text : Text) → IsSome (position_of s.texts text) → IsSome (key_of key_at s.texts text)
  has_key text there = key_of_present key_at s.texts text good.fits ∙ there

  given : (step : Step) → MayStep key_at shard s step → OwesReply shard s step → IsSome (reply key_at shard s step)
  given (Take number keeping text) may owed =
      let found = found_free key_at shard s good text may.1 in
      some_interned keeping text (option_and_then key_at (s.index (shard text) text))
      (subst (λ (o : Option ℕ). IsSome (option_and_then key_at o)) (sym found) (has_key text (subst (λ (o : Option ℕ). IsSome o) found owed)))
  given (Release c position) may owed =
      let at = position_of_at s.texts c.text position good.distinct (subst (λ (p : Phase). StandsBy s c.text p) may.1 (good.stands c may.0)) in
      some_interned c.keeping c.text (key_at position) (subst (λ (o : Option K). IsSome o) (own_key c position may.0 may.1) (has_key c.text (subst (λ (o : Option ℕ). IsSome o) (sym at) refl)))
  given (Refuse c why) may owed = refl
  given (Read question) may owed = reading_given question may
  given (Reserve c position) may owed = absurd owed
  given (Charge c size) may owed = absurd owed
  given (Append c) may owed = absurd owed
  given (SetLimit number limit) may owed = absurd owed

  pub sound : (step : Step) → MayStep key_at shard s step → IsSoundStep key_at shard s step
  sound step may = record {
    grows = grows step;
    limited = limited step may;
    explained = explained step may;
    stays = stays step;
    answers = given step may;
  }

  pub legal_step : (step : Step) → MayStep key_at shard s step → IsLegal key_at (sums s) (events step)
  legal_step (Reserve c position) may = ((some_bytes c.text may.2.1, may.3), tt)
  legal_step (Charge c size) may =
      ((some_bytes c.text may.2.1, may.3, may.4, (bucket_fits s.doubling s.usage s.limit (length c.text) size (some_bytes c.text may.2.1) may.4).1), tt)
  legal_step (Append c) may = ((lacks_own key_at shard s good c may.0 (ready_none c may.1), may.2), tt)
  legal_step (SetLimit number limit) may = (tt, tt)
  legal_step (Take number keeping text) may = tt
  legal_step (Release c position) may = tt
  legal_step (Refuse c why) may = tt
  legal_step (Read question) may = tt

  pub counted_step : (step : Step) → totals (sums s) (events step) ≡ sums (after shard s step)
  counted_step (Reserve c position) =
      ap (λ (bs : List CountedBucket). record (sums s) { buckets = bs })
      (sym (map_changed (λ (b : RangedBucket). b.bucket) (reserved (length c.text)) (with_taken (length c.text)) (λ b. refl) position s.buckets))
  counted_step (Charge c size) =
      ap (λ (bs : List CountedBucket). record (sums s) { buckets = bs; doubling = doubling_after s.doubling s.usage s.limit (length c.text); usage = s.usage + size })
      (sym (map-append (λ (b : RangedBucket). b.bucket) s.buckets (charged size (length c.text) ∷ [])))
  counted_step (Append c) = refl
  counted_step (SetLimit number limit) = refl
  counted_step (Take number keeping text) = sym (took_sums number keeping text)
  counted_step (Release c position) = refl
  counted_step (Refuse c why) = refl
  counted_step (Read question) = refl

-- ---- runs

begins_on : (xs ys zs : List Text) → IsPrefix xs ys → IsPrefix ys zs → IsPrefix xs zs
begins_on xs ys zs one more = (one.0 ++ more.0, sym (append_assoc xs one.0 more.0) ∙ ap (λ l. l ++ more.0) one.1 ∙ more.1)

-- what holds of a run from any good state
pub holds : {K : Type 0} (key_at : ℕ → Option K) (shard : Text → ℕ) (s : State) (steps : List Step) → IsGood key_at shard s → IsRun key_at shard s steps → HoldsInRun key_at shard s steps
holds key_at shard s [] good may = record {
  good = good;
  grows = ([], append-nil s.texts);
  sound = sound key_at shard s good;
  legal = tt;
  adds_up = refl;
}
holds key_at shard s (step ∷ steps) good may =
    let next = after shard s step in
    let rest = holds key_at shard next steps (good_after key_at shard s good step may.0) may.1 in
    let counted = counted_step key_at shard s good step in
    record {
      good = rest.good;
      grows = begins_on s.texts next.texts (run shard next steps).texts (grows key_at shard s good step) rest.grows;
      sound = rest.sound;
      legal = legal_append key_at (sums s) (events step) (run_history steps) (legal_step key_at shard s good step may.0)
          (subst (λ (t : Totals). IsLegal key_at t (run_history steps)) (sym counted) rest.legal);
      adds_up = totals_append (sums s) (events step) (run_history steps) ∙ ap (λ (t : Totals). totals t (run_history steps)) counted ∙ rest.adds_up;
    }

-- a start is good
pub good_start : {K : Type 0} (key_at : ℕ → Option K) (shard : Text → ℕ) (s : State) → IsStart key_at shard s → IsGood key_at shard s
good_start key_at shard s start = record {
  distinct = start.opening.distinct;
  fits = start.opening.fits;
  numbered = λ number c h. absurd (none-some c (sym (start.idle number) ∙ h));
  own = λ c flies. absurd (none_flies c flies);
  apart = λ c d flies h same. absurd (none_flies c flies);
  exact = λ k text free. start.index k text;
  nearly = λ c text flies. absurd (none_flies c flies);
  stands = λ c flies. absurd (none_flies c flies);
  filled = start.filled;
}
  where
    none_flies : (c : Call) → IsInFlight s c → ⊥
    none_flies c flies = none-some c (sym (start.idle c.number) ∙ flies)

-- what holds of a run from a start
pub holds_from_start : {K : Type 0} (key_at : ℕ → Option K) (shard : Text → ℕ) (start : State) (steps : List Step) → IsStart key_at shard start → IsRun key_at shard start steps → HoldsInRun key_at shard start steps
holds_from_start key_at shard start steps starts runs = holds key_at shard start steps (good_start key_at shard start starts) runs
