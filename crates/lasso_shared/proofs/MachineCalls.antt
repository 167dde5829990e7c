-- Each call of the machine is a call of its pass.
--
-- The steps of other calls leave a call in flight as it is, and make no event of its pass. So what its pass
-- has added tells how far the call has come: nothing while its text is absent, then the event that stores its
-- bytes, where it needs any, and then the append. Its last step replies what the state explains, and the
-- state is what the history up to there adds up to.
use Rattle.std.proofs.Common.{◌≡◌, ◌≢◌, ◌⊎◌, ◌==◌, ℕ, List, [], ◌∷◌, ◌++◌, length, Option, Some, None, IfSome, is_some, option_and_then, slice_get, nat_eq, nat_lt, Ok, Err, refl, sym, ap, ◌∙◌, subst, ⊎_elim, inl, inr, arith, append-nil, append_assoc}
use Rattle.std.proofs.lemmas.Bool.Decides.{nat_tests}
use Rattle.std.proofs.lemmas.Option.{none-some}
use Rattle.lasso_parts.specs.Texts.{Text}
use Rattle.lasso_parts.specs.declared.util.LassoErrorKind.{LassoErrorKind}
use Rattle.lasso_parts.specs.declared.util.LassoErrorKind.TheVariants.{MemoryLimitReached, KeySpaceExhaustion, FailedAllocation}
use Rattle.lasso_log.specs.History.{Event, History, Totals, totals}
use Rattle.lasso_log.specs.Replies.{Keeping, Copied, Static, Question, Intern, Get, Contains, ContainsKey, Resolve, Len, IsEmpty, Usage, MaxUsage, Iterate, Strings, Serialize, Freeze, Reply, Interned, Found, Flag, Resolved, Number, Pairs, Listed, Done, MayReply}
use Rattle.lasso_log.specs.Calls.{events_of, Stores, StoresAndAppends, Makes, MayComeAfter, IsCall}
use Rattle.lasso_log.proofs.Histories.{events_append}
use Rattle.lasso_log.proofs.Legal.{totals_append}
use Rattle.lasso_log.proofs.Tickets.{by_cases}
use Rattle.lasso_shared.specs.Machine.{Phase, Missing, Stored, Appended, Call, State, Step, Take, Reserve, Charge, Append, Release, Refuse, Read, SetLimit, IsInFlight, IsReady, NeedsNone, MayStep, MayRefuseCall, MayRead, put, new_call, taken, in_phase, after, events, replied, found_reply, read, reply, sums}
use Rattle.lasso_shared.specs.Walks.{pairs_from}
use Rattle.lasso_shared.specs.Runs.{IsStart, IsRun, HoldsInRun, run, run_history}
use Rattle.lasso_shared.specs.MachineCalls.{IsOneStepCall, IsAmidCall, AreAmidCall, EndsCall, IsLongCall, EachCallIsACall}
use Rattle.lasso_shared.proofs.MachineSteps.{good_start, holds}

-- ---- runs in parts

history_append : (xs ys : List Step) → run_history (xs ++ ys) ≡ run_history xs ++ run_history ys
history_append [] ys = refl
history_append (x ∷ xs) ys =
    ap (λ (h : History). events x ++ h) (history_append xs ys) ∙ sym (append_assoc (events x) (run_history xs) (run_history ys))

run_parts : {K : Type 0} (key_at : ℕ → Option K) (shard : Text → ℕ) (s : State) (xs ys : List Step) → IsRun key_at shard s (xs ++ ys) → IsRun key_at shard s xs × IsRun key_at shard (run shard s xs) ys
run_parts key_at shard s [] ys runs = (tt, runs)
run_parts key_at shard s (x ∷ xs) ys runs =
    let rest = run_parts key_at shard (after shard s x) xs ys runs.1 in ((runs.0, rest.0), rest.1)

-- ---- events of one pass

own_event : (pass number : ℕ) (e : Event) → number ≡ pass → events_of pass ((number, e) ∷ []) ≡ e ∷ []
own_event pass number e own = grind (arith, nat_tests)

other_event : (pass number : ℕ) (e : Event) → number ≢ pass → events_of pass ((number, e) ∷ []) ≡ []
other_event pass number e other = grind (arith, nat_tests)

-- ---- a call in flight

-- what a call has added so far
abbrev HasAdded : Phase → Keeping → Text → List Event → Type 0
HasAdded Missing keeping text es = es ≡ []
HasAdded Stored keeping text es = Stores keeping text es
HasAdded (Appended position) keeping text es = StoresAndAppends keeping text es

-- the call of this pass that is in flight, and what it has added
record Flies (s : State) (pass : ℕ) (keeping : Keeping) (text : Text) (es : List Event) : Type 0 where
  call : Call
  flies : s.calls pass ≡ Some call
  number : call.number ≡ pass
  kept : call.keeping ≡ keeping
  named : call.text ≡ text
  added : HasAdded call.phase keeping text es

-- a call that needs no bytes stores none, and one that needs some stores them by one event
stores_none : (c : Call) → NeedsNone c → Stores c.keeping c.text []
stores_none c none = by_keeping c.keeping c.text none
  where
    by_keeping : (keeping : Keeping) (text : Text) → (keeping ≡ Static) ⊎ (text ≡ []) → Stores keeping text []
    by_keeping Static text e = refl
    by_keeping Copied [] e = refl
    by_keeping Copied (byte ∷ bytes) e = absurd (⊎_elim (λ x. absurd (cc x)) (λ x. absurd (cc x)) e)

stores_by_reserve : (keeping : Keeping) (text : Text) (bucket : ℕ) → keeping ≡ Copied → text ≢ [] → Stores keeping text (Event.Reserve bucket (length text) ∷ [])
stores_by_reserve Static text bucket copied some = absurd (cc copied)
stores_by_reserve Copied [] bucket copied some = absurd (some refl)
stores_by_reserve Copied (byte ∷ bytes) bucket copied some = inl (bucket, refl)

stores_by_charge : (keeping : Keeping) (text : Text) (size : ℕ) → keeping ≡ Copied → text ≢ [] → Stores keeping text (Event.Charge size (length text) ∷ [])
stores_by_charge Static text size copied some = absurd (cc copied)
stores_by_charge Copied [] size copied some = absurd (some refl)
stores_by_charge Copied (byte ∷ bytes) size copied some = inr (size, refl)

-- a call that is ready has stored its bytes
ready_stores : (c : Call) (es : List Event) → IsReady c → HasAdded c.phase c.keeping c.text es → Stores c.keeping c.text es
ready_stores c es ready added =
    ⊎_elim
    (λ stored. subst (λ (p : Phase). HasAdded p c.keeping c.text es) stored added)
    (λ (none : (c.phase ≡ Missing) × NeedsNone c).
    let empty : es ≡ [] = subst (λ (p : Phase). HasAdded p c.keeping c.text es) none.0 added in
    subst (Stores c.keeping c.text) (sym empty) (stores_none c none.1))
    ready

-- a call in flight under its number is the one that flies there
same_call : (s : State) (c d : Call) (pass : ℕ) → s.calls pass ≡ Some c → IsInFlight s d → d.number ≡ pass → d ≡ c
same_call s c d pass flies flown number = grind arith

put_here : (calls : ℕ → Option Call) (n : ℕ) (c : Call) → put calls n (Some c) n ≡ Some c
put_here calls n c = grind (arith, nat_tests)

put_there : (calls : ℕ → Option Call) (n m : ℕ) (o : Option Call) → n ≢ m → put calls n o m ≡ calls m
put_there calls n m o other = grind (arith, nat_tests)

-- two values of one option are the same
some_same : {A : Type 0} (x y : A) → Some x ≡ Some y → x ≡ y
some_same x y is = cc is

-- nothing comes after the step at which the reply is read
nothing_after : (question : Question) → MayComeAfter question []
nothing_after (Intern keeping text) = tt
nothing_after (Get text) = tt
nothing_after (Contains text) = tt
nothing_after (ContainsKey number) = tt
nothing_after (Resolve number) = tt
nothing_after Len = tt
nothing_after IsEmpty = tt
nothing_after Usage = tt
nothing_after MaxUsage = tt
nothing_after (Question.SetLimit limit) = tt
nothing_after Iterate = refl
nothing_after Strings = refl
nothing_after Serialize = refl
nothing_after Freeze = refl

-- a call's events, told of the call that it is
added_as : (c d : Call) (keeping : Keeping) (text : Text) (es : List Event) → c ≡ d → d.keeping ≡ keeping → d.text ≡ text → HasAdded d.phase keeping text es → HasAdded c.phase c.keeping c.text es
added_as c d keeping text es same kept named added =
    subst (λ (x : Call). HasAdded x.phase x.keeping x.text es) (sym same)
    (subst (λ (k : Keeping). HasAdded d.phase k d.text es) (sym kept) (subst (λ (t : Text). HasAdded d.phase keeping t es) (sym named) added))

-- a reply to a question that makes no event
silent_reading : {K : Type 0} (x : Question × Reply K) (question : Question) (r : Reply K) → Some x ≡ Some (question, r) → Makes x.0 x.1 [] → Makes question r []
silent_reading {K} x question r is makes = subst (λ (y : Question × Reply K). Makes y.0 y.1 []) (some_same x (question, r) is) makes

-- a reading makes no event
reading_makes : {K : Type 0} (key_at : ℕ → Option K) (shard : Text → ℕ) (s : State) (asked question : Question) (r : Reply K) → MayRead shard s asked → replied asked (read key_at shard s asked) ≡ Some (question, r) → Makes question r []
reading_makes key_at shard s (Intern keeping text) question r may is = absurd may
reading_makes key_at shard s (Question.SetLimit limit) question r may is = absurd may
reading_makes key_at shard s Freeze question r may is = absurd may
reading_makes {K} key_at shard s (Get text) question r may is = silent_reading (Get text, Found (option_and_then key_at (s.index (shard text) text))) question r is refl
reading_makes {K} key_at shard s (Contains text) question r may is = silent_reading (Contains text, Flag (is_some (s.index (shard text) text))) question r is refl
reading_makes {K} key_at shard s (ContainsKey number) question r may is = silent_reading (ContainsKey number, Flag (nat_lt number (length s.texts))) question r is refl
reading_makes {K} key_at shard s (Resolve number) question r may is = silent_reading (Resolve number, Resolved (slice_get s.texts number)) question r is refl
reading_makes {K} key_at shard s Len question r may is = silent_reading (Len, Number (length s.texts)) question r is refl
reading_makes {K} key_at shard s IsEmpty question r may is = silent_reading (IsEmpty, Flag (nat_eq (length s.texts) 0)) question r is refl
reading_makes {K} key_at shard s Usage question r may is = silent_reading (Usage, Number s.usage) question r is refl
reading_makes {K} key_at shard s MaxUsage question r may is = silent_reading (MaxUsage, Number s.limit) question r is refl
reading_makes {K} key_at shard s Iterate question r may is = silent_reading (Iterate, Pairs (pairs_from key_at 0 s.texts)) question r is refl
reading_makes {K} key_at shard s Strings question r may is = silent_reading (Strings, Listed (Ok s.texts)) question r is refl
reading_makes {K} key_at shard s Serialize question r may is = silent_reading (Serialize, Listed (Ok s.texts)) question r is refl

module _ {K : Type 0} (key_at : ℕ → Option K) (shard : Text → ℕ) where
  -- the call of another pass begins, and this one flies on
  took_other : (s : State) (pass : ℕ) (c : Call) → c.number ≢ pass → (o : Option ℕ) → (taken s c o).calls pass ≡ s.calls pass
  took_other s pass c other (Some position) = refl
  took_other s pass c other None = put_there s.calls c.number pass (Some c) other

  -- what flies where nothing changed for its pass
  flies_still : (s t : State) (pass : ℕ) (keeping : Keeping) (text : Text) (es more : List Event) → Flies s pass keeping text es → t.calls pass ≡ s.calls pass → more ≡ [] → Flies t pass keeping text (es ++ more)
  flies_still s t pass keeping text es more f same none = record {
    call = f.call;
    flies = same ∙ f.flies;
    number = f.number;
    kept = f.kept;
    named = f.named;
    added = subst (HasAdded f.call.phase keeping text) (sym (ap (λ (m : List Event). es ++ m) none ∙ append-nil es)) f.added;
  }

  -- what flies once its own call has come to another phase
  flies_on : (s t : State) (pass : ℕ) (keeping : Keeping) (text : Text) (c : Call) (phase : Phase) (es : List Event) → c.number ≡ pass → c.keeping ≡ keeping → c.text ≡ text → t.calls ≡ put s.calls c.number (Some (in_phase phase c)) → HasAdded phase keeping text es → Flies t pass keeping text es
  flies_on s t pass keeping text c phase es number kept same calls added = record {
    call = in_phase phase c;
    flies = ap (λ (f : ℕ → Option Call). f pass) calls ∙ (ap (put s.calls c.number (Some (in_phase phase c))) (sym number) ∙ put_here s.calls c.number (in_phase phase c));
    number = number;
    kept = kept;
    named = same;
    added = added;
  }

  -- what an own step has added, where nothing was before it
  first_added : (phase : Phase) (keeping : Keeping) (text : Text) (es more : List Event) (e : Event) → es ≡ [] → more ≡ e ∷ [] → HasAdded phase keeping text (e ∷ []) → HasAdded phase keeping text (es ++ more)
  first_added phase keeping text es more e none one added =
      subst (HasAdded phase keeping text) (sym (ap (λ (m : List Event). es ++ m) one ∙ ap (λ (m : List Event). m ++ e ∷ []) none)) added

  -- one step amid a call
  step_amid : (s : State) (pass : ℕ) (keeping : Keeping) (text : Text) (es : List Event) (step : Step) → Flies s pass keeping text es → MayStep key_at shard s step → IsAmidCall pass step → Flies (after shard s step) pass keeping text (es ++ events_of pass (events step))
  step_amid s pass keeping text es (Take number other kept) f may amid =
      flies_still s (after shard s (Take number other kept)) pass keeping text es [] f (took_other s pass (new_call shard number other kept) amid (s.index (shard kept) kept)) refl
  step_amid s pass keeping text es (Reserve d position) f may amid = by_cases (d.number == pass)
      (λ is.
      let own : d.number ≡ pass = grind (arith, nat_tests) in
      let same : d ≡ f.call = same_call s f.call d pass f.flies may.0 own in
      let kept : d.keeping ≡ keeping = ap (λ (c : Call). c.keeping) same ∙ f.kept in
      let named : d.text ≡ text = ap (λ (c : Call). c.text) same ∙ f.named in
      let phase : f.call.phase ≡ Missing = sym (ap (λ (c : Call). c.phase) same) ∙ may.1 in
      let none : es ≡ [] = subst (λ (p : Phase). HasAdded p keeping text es) phase f.added in
      let stored = stores_by_reserve d.keeping d.text position may.2.0 may.2.1 in
      flies_on s (after shard s (Reserve d position)) pass keeping text d Stored (es ++ events_of pass (events (Reserve d position))) own kept named refl
      (first_added Stored keeping text es (events_of pass (events (Reserve d position))) (Event.Reserve position (length d.text)) none (own_event pass d.number (Event.Reserve position (length d.text)) own)
      (subst (λ (k : Keeping). Stores k text (Event.Reserve position (length d.text) ∷ [])) kept (subst (λ (t : Text). Stores d.keeping t (Event.Reserve position (length d.text) ∷ [])) named stored))))
      (λ is.
      let other : d.number ≢ pass = λ e. grind (arith, nat_tests) in
      flies_still s (after shard s (Reserve d position)) pass keeping text es (events_of pass (events (Reserve d position))) f (put_there s.calls d.number pass (Some (in_phase Stored d)) other) (other_event pass d.number (Event.Reserve position (length d.text)) other))
  step_amid s pass keeping text es (Charge d size) f may amid = by_cases (d.number == pass)
      (λ is.
      let own : d.number ≡ pass = grind (arith, nat_tests) in
      let same : d ≡ f.call = same_call s f.call d pass f.flies may.0 own in
      let kept : d.keeping ≡ keeping = ap (λ (c : Call). c.keeping) same ∙ f.kept in
      let named : d.text ≡ text = ap (λ (c : Call). c.text) same ∙ f.named in
      let phase : f.call.phase ≡ Missing = sym (ap (λ (c : Call). c.phase) same) ∙ may.1 in
      let none : es ≡ [] = subst (λ (p : Phase). HasAdded p keeping text es) phase f.added in
      let stored = stores_by_charge d.keeping d.text size may.2.0 may.2.1 in
      flies_on s (after shard s (Charge d size)) pass keeping text d Stored (es ++ events_of pass (events (Charge d size))) own kept named refl
      (first_added Stored keeping text es (events_of pass (events (Charge d size))) (Event.Charge size (length d.text)) none (own_event pass d.number (Event.Charge size (length d.text)) own)
      (subst (λ (k : Keeping). Stores k text (Event.Charge size (length d.text) ∷ [])) kept (subst (λ (t : Text). Stores d.keeping t (Event.Charge size (length d.text) ∷ [])) named stored))))
      (λ is.
      let other : d.number ≢ pass = λ e. grind (arith, nat_tests) in
      flies_still s (after shard s (Charge d size)) pass keeping text es (events_of pass (events (Charge d size))) f (put_there s.calls d.number pass (Some (in_phase Stored d)) other) (other_event pass d.number (Event.Charge size (length d.text)) other))
  step_amid s pass keeping text es (Append d) f may amid = by_cases (d.number == pass)
      (λ is.
      let own : d.number ≡ pass = grind (arith, nat_tests) in
      let same : d ≡ f.call = same_call s f.call d pass f.flies may.0 own in
      let kept : d.keeping ≡ keeping = ap (λ (c : Call). c.keeping) same ∙ f.kept in
      let named : d.text ≡ text = ap (λ (c : Call). c.text) same ∙ f.named in
      let added = added_as d f.call keeping text es same f.kept f.named f.added in
      let stored : Stores keeping text es = subst (λ (k : Keeping). Stores k text es) kept (subst (λ (t : Text). Stores d.keeping t es) named (ready_stores d es may.1 added)) in
      let more : events_of pass (events (Append d)) ≡ Event.Append text ∷ [] = own_event pass d.number (Event.Append d.text) own ∙ ap (λ (t : Text). Event.Append t ∷ []) named in
      flies_on s (after shard s (Append d)) pass keeping text d (Appended (length s.texts)) (es ++ events_of pass (events (Append d))) own kept named refl
      (es, stored, ap (λ (m : List Event). es ++ m) more))
      (λ is.
      let other : d.number ≢ pass = λ e. grind (arith, nat_tests) in
      flies_still s (after shard s (Append d)) pass keeping text es (events_of pass (events (Append d))) f (put_there s.calls d.number pass (Some (in_phase (Appended (length s.texts)) d)) other) (other_event pass d.number (Event.Append d.text) other))
  step_amid s pass keeping text es (Release d position) f may amid =
      flies_still s (after shard s (Release d position)) pass keeping text es [] f (put_there s.calls d.number pass None amid) refl
  step_amid s pass keeping text es (Refuse d why) f may amid =
      flies_still s (after shard s (Refuse d why)) pass keeping text es [] f (put_there s.calls d.number pass None amid) refl
  step_amid s pass keeping text es (Read question) f may amid = flies_still s s pass keeping text es [] f refl refl
  step_amid s pass keeping text es (SetLimit number limit) f may amid =
      flies_still s (after shard s (SetLimit number limit)) pass keeping text es (events_of pass (events (SetLimit number limit))) f refl (other_event pass number (Event.Limit limit) amid)

  -- all steps amid a call
  steps_amid : (s : State) (pass : ℕ) (keeping : Keeping) (text : Text) (es : List Event) (steps : List Step) → Flies s pass keeping text es → IsRun key_at shard s steps → AreAmidCall pass steps → Flies (run shard s steps) pass keeping text (es ++ events_of pass (run_history steps))
  steps_amid s pass keeping text es [] f runs amid = flies_still s s pass keeping text es [] f refl refl
  steps_amid s pass keeping text es (step ∷ steps) f runs amid =
      let own = events_of pass (events step) in
      let rest = steps_amid (after shard s step) pass keeping text (es ++ own) steps (step_amid s pass keeping text es step f runs.0 amid.0) runs.1 amid.1 in
      subst (Flies (run shard (after shard s step) steps) pass keeping text) (append_assoc es own (events_of pass (run_history steps)) ∙ ap (λ (m : List Event). es ++ m) (sym (events_append pass (events step) (run_history steps)))) rest

  -- ---- what a call's last step replies

  -- what an intern of a found or appended text replies is a key, and is a reply to that intern
  replied_key : (keeping : Keeping) (text : Text) (key : Option K) (asked : Question) (r : Reply K) → found_reply keeping text key ≡ Some (asked, r) → (k : K) × (asked ≡ Intern keeping text) × (r ≡ Interned (Ok k))
  replied_key keeping text None asked r is = absurd (none-some (asked, r) is)
  replied_key keeping text (Some k) asked r is =
      let same = some_same (Intern keeping text, Interned (Ok k)) (asked, r) is in
      (k, sym (ap (λ (x : Question × Reply K). x.0) same), sym (ap (λ (x : Question × Reply K). x.1) same))

  -- a refusal's events
  refused_makes : (s : State) (c : Call) (es : List Event) (why : LassoErrorKind) → MayRefuseCall key_at s c why → HasAdded c.phase c.keeping c.text es → Makes {K = K} (Intern c.keeping c.text) (Interned (Err why)) es
  refused_makes s c es MemoryLimitReached may added = subst (λ (p : Phase). HasAdded p c.keeping c.text es) may.0 added
  refused_makes s c es KeySpaceExhaustion may added = ready_stores c es may.0 added
  refused_makes s c es FailedAllocation may added = subst (λ (p : Phase). HasAdded p c.keeping c.text es) may added

  -- what a call that flies ends with: it replies to what was asked, and its events are those of the reply
  record Ended (pass : ℕ) (keeping : Keeping) (text : Text) (es : List Event) (last : Step) (asked : Question) (r : Reply K) : Type 0 where
    asks : asked ≡ Intern keeping text
    makes : Makes (Intern keeping text) r es
    silent : events last ≡ []

  ended : (s : State) (pass : ℕ) (keeping : Keeping) (text : Text) (es : List Event) (last : Step) (asked : Question) (r : Reply K) → Flies s pass keeping text es → MayStep key_at shard s last → EndsCall pass last → reply key_at shard s last ≡ Some (asked, r) → Ended pass keeping text es last asked r
  ended s pass keeping text es (Release d position) asked r f may own is =
      let same : d ≡ f.call = same_call s f.call d pass f.flies may.0 own in
      let question : Intern d.keeping d.text ≡ Intern keeping text = ap (λ (c : Call). Intern c.keeping c.text) same ∙ (ap (λ (k : Keeping). Intern k f.call.text) f.kept ∙ ap (Intern keeping) f.named) in
      let phase : f.call.phase ≡ Appended position = sym (ap (λ (c : Call). c.phase) same) ∙ may.1 in
      let key = replied_key d.keeping d.text (key_at position) asked r is in record {
        asks = key.1 ∙ question;
        makes = subst (λ (x : Reply K). Makes (Intern keeping text) x es) (sym key.2) (inr (subst (λ (p : Phase). HasAdded p keeping text es) phase f.added));
        silent = refl;
      }
  ended s pass keeping text es (Refuse d why) asked r f may own is =
      let same : d ≡ f.call = same_call s f.call d pass f.flies may.0 own in
      let question : Intern d.keeping d.text ≡ Intern keeping text = ap (λ (c : Call). Intern c.keeping c.text) same ∙ (ap (λ (k : Keeping). Intern k f.call.text) f.kept ∙ ap (Intern keeping) f.named) in
      let added : HasAdded d.phase d.keeping d.text es = added_as d f.call keeping text es same f.kept f.named f.added in
      let given = some_same (Intern d.keeping d.text, Interned (Err why)) (asked, r) is in record {
        asks = sym (ap (λ (x : Question × Reply K). x.0) given) ∙ question;
        makes = subst (λ (x : Reply K). Makes (Intern keeping text) x es) (ap (λ (x : Question × Reply K). x.1) given) (subst (λ (q : Question). Makes {K = K} q (Interned (Err why)) es) question (refused_makes s d es why may.1 added));
        silent = refl;
      }
  ended s pass keeping text es (Take number other kept) asked r f may own is = absurd own
  ended s pass keeping text es (Reserve d position) asked r f may own is = absurd own
  ended s pass keeping text es (Charge d size) asked r f may own is = absurd own
  ended s pass keeping text es (Append d) asked r f may own is = absurd own
  ended s pass keeping text es (Read question) asked r f may own is = absurd own
  ended s pass keeping text es (SetLimit number limit) asked r f may own is = absurd own

  -- a call that has just begun flies, and has added nothing
  begun : (s : State) (c : Call) (o : Option ℕ) → o ≡ None → c.phase ≡ Missing → Flies (taken s c o) c.number c.keeping c.text []
  begun s c (Some position) missing first = absurd (none-some position (sym missing))
  begun s c None missing first = record {
    call = c;
    flies = put_here s.calls c.number c;
    number = refl;
    kept = refl;
    named = refl;
    added = subst (λ (p : Phase). HasAdded p c.keeping c.text []) (sym first) refl;
  }

  -- ---- calls

  module _ (start : State) (starts : IsStart key_at shard start) (earlier : List Step) (before : IsRun key_at shard start earlier) where
    held : HoldsInRun key_at shard start earlier
    held = holds key_at shard start earlier (good_start key_at shard start starts) before

    -- the history up to the end of these steps adds up to where they lead
    adds_up : (steps : List Step) → IsRun key_at shard (run shard start earlier) steps → totals (sums start) (run_history earlier ++ run_history steps) ≡ sums (run shard (run shard start earlier) steps)
    adds_up steps runs =
        totals_append (sums start) (run_history earlier) (run_history steps)
        ∙ (ap (λ (t : Totals). totals t (run_history steps)) held.adds_up ∙ (holds key_at shard (run shard start earlier) steps held.good runs).adds_up)

    -- what a step replies after these steps is explained by what the history adds up to
    explained : (steps : List Step) (last : Step) (asked : Question) (r : Reply K) → IsRun key_at shard (run shard start earlier) steps → MayStep key_at shard (run shard (run shard start earlier) steps) last → reply key_at shard (run shard (run shard start earlier) steps) last ≡ Some (asked, r) → MayReply key_at (totals (sums start) (run_history earlier ++ run_history steps)) asked r
    explained steps last asked r runs may is =
        let end = run shard (run shard start earlier) steps in
        let sound = (holds key_at shard (run shard start earlier) steps held.good runs).sound last may in
        let given : MayReply key_at (sums end) asked r = subst (λ (o : Option (Question × Reply K)). IfSome o (λ x. MayReply key_at (sums end) x.0 x.1)) is sound.explained in
        subst (λ (t : Totals). MayReply key_at t asked r) (sym (adds_up steps runs)) given

    -- steps with this history, after which a reply is explained, and whose events are those of the reply, are a call
    is_call : (steps : List Step) (past : History) (pass : ℕ) (question : Question) (r : Reply K) → run_history steps ≡ past → MayReply key_at (totals (sums start) (run_history earlier ++ past)) question r → Makes question r (events_of pass past) → IsCall key_at (sums start) (run_history earlier) (run_history (earlier ++ steps)) pass question r
    is_call steps past pass question r is may makes = record {
      past = past;
      begins = ap (λ (h : History). run_history earlier ++ h) (sym is) ∙ sym (history_append earlier steps);
      explained = (past, [], append-nil past, nothing_after question, may);
      makes = makes;
    }

    -- one step that makes no event
    silent_call : (step : Step) (pass : ℕ) (question : Question) (r : Reply K) → events step ≡ [] → MayStep key_at shard (run shard start earlier) step → reply key_at shard (run shard start earlier) step ≡ Some (question, r) → Makes question r [] → IsCall key_at (sums start) (run_history earlier) (run_history (earlier ++ step ∷ [])) pass question r
    silent_call step pass question r silent may is makes =
        is_call (step ∷ []) [] pass question r (ap (λ (h : History). h ++ []) silent) (explained [] step question r tt may is) makes

    one_step : (step : Step) (pass : ℕ) (question : Question) (r : Reply K) → MayStep key_at shard (run shard start earlier) step → IsOneStepCall key_at shard (run shard start earlier) step pass question r → IsCall key_at (sums start) (run_history earlier) (run_history (earlier ++ step ∷ [])) pass question r
    one_step (Take number keeping text) pass question r may call =
        let key = replied_key keeping text (option_and_then key_at ((run shard start earlier).index (shard text) text)) question r call.1 in
        silent_call (Take number keeping text) pass question r refl may call.1
        (subst (λ (x : Reply K). Makes question x []) (sym key.2) (subst (λ (q : Question). Makes q (Interned (Ok key.0)) []) (sym key.1) (inl refl)))
    one_step (Read asked) pass question r may call =
        silent_call (Read asked) pass question r refl may call (reading_makes key_at shard (run shard start earlier) asked question r may call)
    one_step (SetLimit number limit) pass question r may call =
        is_call (SetLimit number limit ∷ []) ((number, Event.Limit limit) ∷ []) pass question r refl
        (subst (λ (x : Reply K). MayReply key_at (limited number limit) question x) (sym call.2) (subst (λ (q : Question). MayReply {K = K} key_at (limited number limit) q Done) (sym call.1) tt))
        (subst (λ (q : Question). Makes q r (events_of pass ((number, Event.Limit limit) ∷ []))) (sym call.1) (own_event pass number (Event.Limit limit) call.0))
      where
        limited : ℕ → ℕ → Totals
        limited number limit = totals (sums start) (run_history earlier ++ (number, Event.Limit limit) ∷ [])
    one_step (Reserve d position) pass question r may call = absurd call
    one_step (Charge d size) pass question r may call = absurd call
    one_step (Append d) pass question r may call = absurd call
    one_step (Release d position) pass question r may call = absurd call
    one_step (Refuse d why) pass question r may call = absurd call

    -- an intern that did not find its text
    long_call : (pass : ℕ) (keeping : Keeping) (text : Text) (between : List Step) (last : Step) (asked : Question) (r : Reply K)
        → IsRun key_at shard (run shard start earlier) (Take pass keeping text ∷ (between ++ last ∷ []))
        → (run shard start earlier).index (shard text) text ≡ None → AreAmidCall pass between → EndsCall pass last
        → reply key_at shard (run shard (run shard start earlier) (Take pass keeping text ∷ between)) last ≡ Some (asked, r)
        → IsCall key_at (sums start) (run_history earlier) (run_history (earlier ++ Take pass keeping text ∷ (between ++ last ∷ []))) pass (Intern keeping text) r
    long_call pass keeping text between last asked r runs missing amid ends is =
        let first = Take pass keeping text in
        let s = run shard start earlier in
        let parts = run_parts key_at shard (after shard s first) between (last ∷ []) runs.1 in
        let flies = steps_amid (after shard s first) pass keeping text [] between (begun s (new_call shard pass keeping text) (s.index (shard text) text) missing refl) parts.0 amid in
        let e = ended (run shard (after shard s first) between) pass keeping text (events_of pass (run_history between)) last asked r flies parts.1.0 ends is in
        let past : run_history (between ++ last ∷ []) ≡ run_history between =
        history_append between (last ∷ []) ∙ (ap (λ (h : History). run_history between ++ (h ++ [])) e.silent ∙ append-nil (run_history between)) in
        is_call (first ∷ (between ++ last ∷ [])) (run_history between) pass (Intern keeping text) r past
        (subst (λ (q : Question). MayReply key_at (totals (sums start) (run_history earlier ++ run_history between)) q r) e.asks (explained (first ∷ between) last asked r (runs.0, parts.0) parts.1.0 is))
        e.makes

pub each_call : {K : Type 0} (key_at : ℕ → Option K) → EachCallIsACall key_at
each_call {K} key_at shard start earlier steps pass question r starts runs call =
    ⊎_elim
    (λ (one : (step : Step) × (steps ≡ step ∷ []) × IsOneStepCall key_at shard (run shard start earlier) step pass question r).
    let on : IsRun key_at shard (run shard start earlier) (one.0 ∷ []) = subst (IsRun key_at shard (run shard start earlier)) one.1 parts.1 in
    subst (λ (them : List Step). IsCall key_at (sums start) (run_history earlier) (run_history (earlier ++ them)) pass question r) (sym one.1)
    (one_step key_at shard start starts earlier parts.0 one.0 pass question r on.0 one.2))
    (λ (l : IsLongCall key_at shard (run shard start earlier) steps pass question r).
    let on = subst (IsRun key_at shard (run shard start earlier)) l.whole parts.1 in
    let done = long_call key_at shard start starts earlier parts.0 pass l.keeping l.text l.between l.last l.asked r on l.missing l.amid l.ends l.replies in
    subst (λ (q : Question). IsCall key_at (sums start) (run_history earlier) (run_history (earlier ++ steps)) pass q r) (sym l.asks)
    (subst (λ (them : List Step). IsCall key_at (sums start) (run_history earlier) (run_history (earlier ++ them)) pass (Intern l.keeping l.text) r) (sym l.whole) done))
    call
  where
    parts : IsRun key_at shard start earlier × IsRun key_at shard (run shard start earlier) steps
    parts = run_parts key_at shard start earlier steps runs
