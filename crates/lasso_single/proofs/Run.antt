-- Runs of commands: one command more at the end, and what runs keep.
--
-- The definition goes through the list from its first command, and a loop adds one at the end. No command
-- touches the first bucket's size. None but a clear and a copy of another interner touches the mark of a clear,
-- so no run without these does.
use Rattle.std.proofs.Common.{◌≡◌, ℕ, List, [], ◌∷◌, ◌++◌, Option, Result, Ok, Err, MatchResult, refl, subst, ap, ◌∙◌}
use Rattle.std.specs.Prelude.{All}
use Rattle.std.proofs.lemmas.List.Elements.{All-head, All-tail}
use Rattle.lasso_parts.specs.Texts.{Text}
use Rattle.lasso_parts.specs.declared.util.LassoError.{LassoError}
use Rattle.lasso_single.specs.Command.{replies_to, run_of, IsUncleared}
use Rattle.lasso_single.specs.Filling.{extend}
use Rattle.lasso_single.specs.Interner.{InternerView, KeepsOrigin}
use Rattle.lasso_single.specs.declared.commands.Command.{Command}
use Rattle.lasso_single.specs.declared.commands.Command.TheVariants.{Intern, InternStatic, Get, Contains, ContainsKey, TryResolve, Len, Usage, MaxUsage, SetLimit, Clear, Extend, CloneFrom}
use Rattle.lasso_single.specs.declared.commands.Reply.{Reply}

-- one command more
pub run_push : {K S A H : Type 0} (key_at : ℕ → Option K) (number : K → ℕ) (old mid new : InternerView) (commands : List (Command K S A H)) (replies : List (Reply K)) (command : Command K S A H) (reply : Reply K) → run_of key_at number old commands replies mid → replies_to key_at number mid command reply new → run_of key_at number old (commands ++ command ∷ []) (replies ++ reply ∷ []) new
run_push key_at number old mid new [] replies command reply ran last =
    (reply, [], new, ap (λ rs. rs ++ reply ∷ []) ran.0, subst (λ (i : InternerView). replies_to key_at number i command reply new) ran.1 last, (refl, refl))
run_push key_at number old mid new (c ∷ cs) replies command reply ran last =
    (ran.0, ran.1 ++ reply ∷ [], ran.2, ap (λ rs. rs ++ reply ∷ []) ran.3, ran.4, run_push key_at number ran.2 mid new cs ran.1 command reply ran.5 last)

-- ---- what is kept where nothing is cleared

keeps_both : (a b c : InternerView) → KeepsOrigin a b → KeepsOrigin b c → KeepsOrigin a c
keeps_both a b c first second = (second.0 ∙ first.0, second.1 ∙ first.1, second.2 ∙ first.2)

keeps_same : (a b : InternerView) → b ≡ a → KeepsOrigin a b
keeps_same a b e = (ap (λ (i : InternerView). i.first) e, ap (λ (i : InternerView). i.is_cleared) e, ap (λ (i : InternerView). i.most) e)

after_one : {K : Type 0} {A : Type 0} (mid new : InternerView) (reply : Result (Unit {0}) LassoError) (one : Result K LassoError) → MatchResult one (λ _. A) (λ error. (reply ≡ Err error) × (new ≡ mid)) → (A → KeepsOrigin mid new) → KeepsOrigin mid new
after_one mid new reply (Ok k) rest keeps = keeps rest
after_one mid new reply (Err error) last keeps = keeps_same mid new last.1

extend_keeps : {K : Type 0} (key_at : ℕ → Option K) (old new : InternerView) (texts : List Text) (reply : Result (Unit {0}) LassoError) → extend key_at old texts reply new → KeepsOrigin old new
extend_keeps key_at old new [] reply h = keeps_same old new h.1
extend_keeps key_at old new (t ∷ ts) reply h =
    keeps_both old h.1 new h.2.2 (after_one h.1 new reply h.0 h.3 (λ rest. extend_keeps key_at h.1 new ts reply rest))

command_keeps : {K S A H : Type 0} (key_at : ℕ → Option K) (number : K → ℕ) (old new : InternerView) (command : Command K S A H) (reply : Reply K) → IsUncleared command → replies_to key_at number old command reply new → KeepsOrigin old new
command_keeps key_at number old new (Intern text) reply uncleared h = h.1.2
command_keeps key_at number old new (InternStatic text) reply uncleared h = h.1.2
command_keeps key_at number old new (Get text) reply uncleared h = keeps_same old new h.1
command_keeps key_at number old new (Contains text) reply uncleared h = keeps_same old new h.1
command_keeps key_at number old new (ContainsKey key) reply uncleared h = keeps_same old new h.1
command_keeps key_at number old new (TryResolve key) reply uncleared h = keeps_same old new h.1
command_keeps key_at number old new Len reply uncleared h = keeps_same old new h.1
command_keeps key_at number old new Usage reply uncleared h = keeps_same old new h.1
command_keeps key_at number old new MaxUsage reply uncleared h = keeps_same old new h.1
command_keeps key_at number old new (SetLimit limits) reply uncleared h = (ap (λ (i : InternerView). i.first) h.1, ap (λ (i : InternerView). i.is_cleared) h.1, ap (λ (i : InternerView). i.most) h.1)
command_keeps key_at number old new Clear reply uncleared h = absurd uncleared
command_keeps key_at number old new (Extend texts) reply uncleared h = extend_keeps key_at old new _ h.0 h.1
command_keeps key_at number old new (CloneFrom source) reply uncleared h = absurd uncleared

-- a run of commands that clear nothing
pub run_keeps : {K S A H : Type 0} (key_at : ℕ → Option K) (number : K → ℕ) (old new : InternerView) (commands : List (Command K S A H)) (replies : List (Reply K)) → All IsUncleared commands → run_of key_at number old commands replies new → KeepsOrigin old new
run_keeps key_at number old new [] replies uncleared ran = keeps_same old new ran.1
run_keeps key_at number old new (c ∷ cs) replies uncleared ran =
    keeps_both old ran.2 new (command_keeps key_at number old ran.2 c ran.0 (All-head IsUncleared c cs uncleared) ran.4) (run_keeps key_at number ran.2 new cs ran.1 (All-tail IsUncleared c cs uncleared) ran.5)

-- ---- the first bucket, which each command keeps

extend_first : {K : Type 0} (key_at : ℕ → Option K) (old new : InternerView) (texts : List Text) (reply : Result (Unit {0}) LassoError) → extend key_at old texts reply new → new.first ≡ old.first
extend_first key_at old new texts reply h = (extend_keeps key_at old new texts reply h).0

command_first : {K S A H : Type 0} (key_at : ℕ → Option K) (number : K → ℕ) (old new : InternerView) (command : Command K S A H) (reply : Reply K) → replies_to key_at number old command reply new → new.first ≡ old.first
command_first key_at number old new (Intern text) reply h = h.1.2.0
command_first key_at number old new (InternStatic text) reply h = h.1.2.0
command_first key_at number old new (Get text) reply h = ap (λ (i : InternerView). i.first) h.1
command_first key_at number old new (Contains text) reply h = ap (λ (i : InternerView). i.first) h.1
command_first key_at number old new (ContainsKey key) reply h = ap (λ (i : InternerView). i.first) h.1
command_first key_at number old new (TryResolve key) reply h = ap (λ (i : InternerView). i.first) h.1
command_first key_at number old new Len reply h = ap (λ (i : InternerView). i.first) h.1
command_first key_at number old new Usage reply h = ap (λ (i : InternerView). i.first) h.1
command_first key_at number old new MaxUsage reply h = ap (λ (i : InternerView). i.first) h.1
command_first key_at number old new (SetLimit limits) reply h = ap (λ (i : InternerView). i.first) h.1
command_first key_at number old new Clear reply h = ap (λ (i : InternerView). i.first) h.1
command_first key_at number old new (Extend texts) reply h = extend_first key_at old new _ h.0 h.1
command_first key_at number old new (CloneFrom source) reply h = h.1.1

-- any run
pub run_first : {K S A H : Type 0} (key_at : ℕ → Option K) (number : K → ℕ) (old new : InternerView) (commands : List (Command K S A H)) (replies : List (Reply K)) → run_of key_at number old commands replies new → new.first ≡ old.first
run_first key_at number old new [] replies ran = ap (λ (i : InternerView). i.first) ran.1
run_first key_at number old new (c ∷ cs) replies ran =
    run_first key_at number ran.2 new cs ran.1 ran.5 ∙ command_first key_at number old ran.2 c ran.0 ran.4
