-- The calls of the machine, from the first step of each to its last, and the law that each is a call of its pass.
use Rattle.std.specs.Prelude.{◌≡◌, ◌≢◌, ◌⊎◌, ℕ, List, [], ◌∷◌, ◌++◌, Option, Some, None}
use Rattle.lasso_parts.specs.Texts.{Text}
use Rattle.lasso_log.specs.Replies.{Keeping, Question, Intern, Reply, Done}
use Rattle.lasso_log.specs.Calls.{IsCall}
use Rattle.lasso_shared.specs.Machine.{State, Step, Take, Release, Refuse, Read, SetLimit, reply, sums}
use Rattle.lasso_shared.specs.Runs.{IsStart, IsRun, run, run_history}

-- The step is a whole call of the pass with this number: an intern that found its text, a reading, or a new limit. A reading
-- changes nothing, so it may be that of any pass.
abbrev pub IsOneStepCall : {K : Type 0} → (ℕ → Option K) → (Text → ℕ) → State → Step → (pass : ℕ) → Question → Reply K → Type 0
IsOneStepCall key_at shard s (Take number keeping text) pass question r =
    (number ≡ pass) × (reply key_at shard s (Take number keeping text) ≡ Some (question, r))
IsOneStepCall key_at shard s (Read asked) pass question r = reply key_at shard s (Read asked) ≡ Some (question, r)
IsOneStepCall key_at shard s (SetLimit number limit) pass question r =
    (number ≡ pass) × (question ≡ Question.SetLimit limit) × (r ≡ Done)
IsOneStepCall key_at shard s step pass question r = ⊥

-- The step neither begins nor ends a call of the pass: a pass makes one call at a time.
abbrev pub IsAmidCall : (pass : ℕ) → Step → Type 0
IsAmidCall pass (Take number keeping text) = number ≢ pass
IsAmidCall pass (Release c position) = c.number ≢ pass
IsAmidCall pass (Refuse c why) = c.number ≢ pass
IsAmidCall pass (SetLimit number limit) = number ≢ pass
IsAmidCall pass step = Unit {0}

-- so it is with each of these steps
abbrev pub AreAmidCall : (pass : ℕ) → List Step → Type 0
AreAmidCall pass [] = Unit {0}
AreAmidCall pass (step ∷ steps) = IsAmidCall pass step × AreAmidCall pass steps

-- the step ends a call of the pass that took its shard earlier
abbrev pub EndsCall : (pass : ℕ) → Step → Type 0
EndsCall pass (Release c position) = c.number ≡ pass
EndsCall pass (Refuse c why) = c.number ≡ pass
EndsCall pass step = ⊥

-- The steps, from state s on, are an intern that did not find its text, with steps of other calls among its
-- own. The reply is that of the last step; the question is that of the first.
pub record IsLongCall {K : Type 0} (key_at : ℕ → Option K) (shard : Text → ℕ) (s : State) (steps : List Step) (pass : ℕ) (question : Question) (r : Reply K) : Type 0 where
  pub keeping : Keeping
  pub text : Text
  pub between : List Step
  pub last : Step
  pub asked : Question
  pub whole : steps ≡ Take pass keeping text ∷ (between ++ last ∷ [])
  pub asks : question ≡ Intern keeping text
  pub missing : s.index (shard text) text ≡ None
  pub amid : AreAmidCall pass between
  pub ends : EndsCall pass last
  pub replies : reply key_at shard (run shard s (Take pass keeping text ∷ between)) last ≡ Some (asked, r)

-- the steps, from state s on, are one whole call of the pass, from its first step to its last
abbrev pub IsMachineCall : {K : Type 0} → (ℕ → Option K) → (Text → ℕ) → State → List Step → (pass : ℕ) → Question → Reply K → Type 0
IsMachineCall key_at shard s steps pass question r =
    ((step : Step) × (steps ≡ step ∷ []) × IsOneStepCall key_at shard s step pass question r)
    ⊎ IsLongCall key_at shard s steps pass question r

-- The law: in every run, each call of the machine is a call of its pass, which had seen the history up to the
-- call's first step, and has seen it up to the last. The contract of `machine::machine_calls_are_calls`
abbrev pub EachCallIsACall : {K : Type 0} → (ℕ → Option K) → Type 0
EachCallIsACall {K} key_at =
    (shard : Text → ℕ) (start : State) (earlier steps : List Step) (pass : ℕ) (question : Question) (r : Reply K)
    → IsStart key_at shard start → IsRun key_at shard start (earlier ++ steps)
    → IsMachineCall key_at shard (run shard start earlier) steps pass question r
    → IsCall key_at (sums start) (run_history earlier) (run_history (earlier ++ steps)) pass question r
