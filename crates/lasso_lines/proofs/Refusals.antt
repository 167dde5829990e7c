-- Why a line was refused, in the history that the run's pass has seen.
--
-- In the history that a worker's pass has seen, its refused line may be refused. Once the run's pass has
-- learned what the worker has seen, its history begins with the worker's, and so explains the error too. Of
-- two refused lines the lower one keeps its number and its error.
use Rattle.std.proofs.Common.{ℕ, ◌≡◌, ◌+◌, ◌*◌, ◌<◌, ◌≤◌, ◌⊎◌, inl, inr, List, [], ◌∷◌, Option, Some, None, Result, Ok, Err, Vec, sym, subst}
use Rattle.std.specs.Prelude.{IfSome, IsSomeAnd, MatchResult}
use Rattle.std.proofs.lemmas.Bool.{cases_lt}
use mathlib.Core.List.{IsPrefix}
use Rattle.lasso_parts.specs.Texts.{Text}
use Rattle.lasso_log.specs.History.{Totals}
use Rattle.lasso_log.specs.Notes.{NoteView, history}
use Rattle.lasso_lines.proofs.SharedCalls.{refused_later}
use Rattle.lasso_lines.specs.Shares.{line_at, IsLower, IsRefusedBy, IsRefusedIn, NumberedError}

-- what explains an error also explains it in each history that begins with this one
refused_past : (o : Totals) (known after : List NoteView) (lines : List Text) (refusal : NumberedError) → IsPrefix known after → IsRefusedIn o (history known) lines refusal → IsRefusedIn o (history after) lines refusal
refused_past o known after lines refusal knows why =
    (why.0, why.1, why.2, refused_later o known after (line_at lines why.0 ∷ []) refusal.1 knows why.3)

-- a worker's refused line is a refused line of the run
refused_by : (o : Totals) (known after : List NoteView) (lines : List Text) (worker workers : ℕ) (refusal : NumberedError) → IsPrefix known after → IsRefusedBy o (history known) lines worker workers refusal → IsRefusedIn o (history after) lines refusal
refused_by o known after lines worker workers refusal knows why = refused_past o known after lines refusal knows (worker + why.0 * workers, why.1, why.2, why.3)

module _ (o : Totals) (before known after : List NoteView) (lines : List Text) (worker workers : ℕ) (begins : IsPrefix before after) (knows : IsPrefix known after) where
  kept_lowest : (lowest : Option NumberedError) → IfSome lowest (IsRefusedIn o (history before) lines) → IfSome lowest (IsRefusedIn o (history after) lines)
  kept_lowest None why = tt
  kept_lowest (Some refusal) why = refused_past o before after lines refusal begins why

  lower_refused : (first other result : NumberedError) → ((other.0 < first.0) ⊎ (first.0 ≤ other.0)) → IsRefusedIn o (history after) lines first → IsRefusedIn o (history after) lines other → IsLower (Some first) other result → IsRefusedIn o (history after) lines result
  lower_refused first other result (inl higher) one two is = subst (IsRefusedIn o (history after) lines) (sym (is.1 higher)) two
  lower_refused first other result (inr lower) one two is = subst (IsRefusedIn o (history after) lines) (sym (is.0 lower)) one

  next_refused : (lowest : Option NumberedError) (other result : NumberedError) → IfSome lowest (IsRefusedIn o (history before) lines) → IsRefusedBy o (history known) lines worker workers other → IsLower lowest other result → IsRefusedIn o (history after) lines result
  next_refused None other result one two is = subst (IsRefusedIn o (history after) lines) (sym is) (refused_by o known after lines worker workers other knows two)
  next_refused (Some first) other result one two is =
      lower_refused first other result (cases_lt other.0 first.0) (refused_past o before after lines first begins one) (refused_by o known after lines worker workers other knows two) is

  some_refused : (lowest next : Option NumberedError) (other : NumberedError) → IfSome lowest (IsRefusedIn o (history before) lines) → IsRefusedBy o (history known) lines worker workers other → IsSomeAnd next (IsLower lowest other) → IfSome next (IsRefusedIn o (history after) lines)
  some_refused lowest None other one two is = tt
  some_refused lowest (Some result) other one two is = next_refused lowest other result one two is

  -- the lowest refused line, after one more worker
  pub refused_of_worker : {A : Type 0} (P : Vec ℕ A → Type 0) (lowest next : Option NumberedError) (outcome : Result (Vec ℕ A) NumberedError) → IfSome lowest (IsRefusedIn o (history before) lines) → MatchResult outcome P (IsRefusedBy o (history known) lines worker workers) → MatchResult outcome (λ _. next ≡ lowest) (λ refusal. IsSomeAnd next (IsLower lowest refusal)) → IfSome next (IsRefusedIn o (history after) lines)
  refused_of_worker P lowest next (Ok codes) one has is = subst (λ (r : Option NumberedError). IfSome r (IsRefusedIn o (history after) lines)) (sym is) (kept_lowest lowest one)
  refused_of_worker P lowest next (Err other) one two is = some_refused lowest next other one two is
