-- What a pass does with the texts of a list: one call after another.
use Rattle.std.specs.Prelude.{◌≡◌, ℕ, List, [], ◌∷◌, ◌++◌, map, Option, Ok, Err}
use Rattle.lasso_parts.specs.Texts.{Text}
use Rattle.lasso_parts.specs.declared.util.LassoErrorKind.{LassoErrorKind}
use Rattle.lasso_log.specs.History.{History, Totals}
use Rattle.lasso_log.specs.Replies.{Copied, Question, Intern, Get, Reply, Interned, Found}
use Rattle.lasso_log.specs.Calls.{IsCall}

-- the pass asked these questions in order, each by a call of its own, and these are the replies. A call begins
-- where the one before it ended
abbrev pub CallsEach : {K : Type 0} → (ℕ → Option K) → Totals → (before after : History) → (pass : ℕ) → List Question → List (Reply K) → Type 0
CallsEach key_at opening before after pass [] [] = after ≡ before
CallsEach key_at opening before after pass (question ∷ questions) (reply ∷ replies) =
    (mid : History) × IsCall key_at opening before mid pass question reply × CallsEach key_at opening mid after pass questions replies
CallsEach key_at opening before after pass questions replies = ⊥

-- the texts were interned in order, each by a call that returned a key, and the keys were put after the
-- earlier ones
abbrev pub AddsInterned : {K : Type 0} → (ℕ → Option K) → Totals → (before after : History) → (pass : ℕ) → List Text → List K → List K → Type 0
AddsInterned {K} key_at opening before after pass texts old new =
    (keys : List K) × (new ≡ old ++ keys) × CallsEach key_at opening before after pass (map (Intern Copied) texts) (map (λ k. Interned (Ok k)) keys)

-- so were the first texts, and the call of the next one was refused with this error. No later text was interned
abbrev pub StopsAtText : {K : Type 0} → (ℕ → Option K) → Totals → (before after : History) → (pass : ℕ) → List Text → List K → List K → LassoErrorKind → Type 0
StopsAtText {K} key_at opening before after pass texts old new error =
    (done : List Text) × (text : Text) × (rest : List Text) × (mid : History) × (texts ≡ done ++ text ∷ rest)
    × AddsInterned key_at opening before mid pass done old new
    × IsCall {K = K} key_at opening mid after pass (Intern Copied text) (Interned (Err error))

-- the texts were looked up in order, each by a call, and what the calls returned was put after the earlier
-- ones
abbrev pub AddsGot : {K : Type 0} → (ℕ → Option K) → Totals → (before after : History) → (pass : ℕ) → List Text → List (Option K) → List (Option K) → Type 0
AddsGot {K} key_at opening before after pass texts old new =
    (found : List (Option K)) × (new ≡ old ++ found) × CallsEach key_at opening before after pass (map Get texts) (map Found found)
