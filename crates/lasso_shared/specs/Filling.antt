-- Interning one text after another by calls of one pass.
use Rattle.std.specs.Prelude.{◌≡◌, ℕ, List, [], ◌∷◌, ◌++◌, Option, Result, Ok, Err}
use Rattle.lasso_parts.specs.Texts.{Text}
use Rattle.lasso_parts.specs.declared.util.LassoErrorKind.{LassoErrorKind}
use Rattle.lasso_log.specs.History.{History, Totals, IsLegal}
use Rattle.lasso_log.specs.Replies.{Copied, Intern, Interned}
use Rattle.lasso_log.specs.Calls.{IsCall}

-- the texts were interned in order, each by a call of the pass that returned a key
abbrev pub InternsEach : {K : Type 0} → (ℕ → Option K) → Totals → (before after : History) → (pass : ℕ) → List Text → Type 0
InternsEach key_at opening before after pass [] = after ≡ before
InternsEach {K} key_at opening before after pass (text ∷ texts) =
    (k : K) × (mid : History) × IsCall key_at opening before mid pass (Intern Copied text) (Interned (Ok k)) × InternsEach key_at opening mid after pass texts

-- so were all texts but the last, whose call was refused
abbrev pub FillingEndsRefused : {K : Type 0} → (ℕ → Option K) → Totals → (before after : History) → (pass : ℕ) → List Text → LassoErrorKind → Type 0
FillingEndsRefused {K} key_at opening before after pass texts error =
    (interned : List Text) × (last : Text) × (mid : History) × (texts ≡ interned ++ last ∷ []) × InternsEach key_at opening before mid pass interned
    × IsCall {K = K} key_at opening mid after pass (Intern Copied last) (Interned (Err error))

-- all texts were interned; or the last of them was refused, with this error
abbrev pub Fills : {K : Type 0} → (ℕ → Option K) → Totals → (before after : History) → (pass : ℕ) → List Text → Result (Unit {0}) LassoErrorKind → Type 0
Fills key_at opening before after pass texts (Ok done) = InternsEach key_at opening before after pass texts
Fills key_at opening before after pass texts (Err error) = FillingEndsRefused key_at opening before after pass texts error

-- a plain filling: by calls of a pass that had seen nothing before the first, and has seen a legal history
-- after the last
pub record IsPlainFilling {K : Type 0} (key_at : ℕ → Option K) (opening : Totals) (texts : List Text) (reply : Result (Unit {0}) LassoErrorKind) : Type 0 where
  pub pass : ℕ
  pub seen : History
  pub calls : Fills key_at opening [] seen pass texts reply
  pub legal : IsLegal key_at opening seen
