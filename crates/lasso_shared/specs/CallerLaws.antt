-- What callers can rely on, from the calls that they made and what their passes have seen: for every key
-- type, opening, pass and history. These laws are contracts of functions of `laws`. They rest on the
-- definition of a call, on legality only if that is said, and on the laws of keys.
use Rattle.std.specs.Prelude.{◌≡◌, ◌↔◌, ◌⊎◌, ℕ, Bool, true, [], Option, Some, Result, Ok}
use mathlib.Core.List.{IsPrefix}
use Rattle.lasso_parts.specs.Texts.{Text, key_of}
use Rattle.lasso_parts.specs.declared.util.LassoErrorKind.{LassoErrorKind}
use Rattle.lasso_log.specs.History.{History, Totals, IsOpening, totals, IsLegal}
use Rattle.lasso_log.specs.Replies.{Keeping, Intern, Get, Contains, ContainsKey, Resolve, Interned, Found, Flag, Resolved}
use Rattle.lasso_log.specs.Calls.{IsCall, events_of}
use Rattle.lasso_log.specs.Views.{PassView, seen}

-- after the history, the text is in the list and this is its key
abbrev pub HasKey : {K : Type 0} → (ℕ → Option K) → Totals → History → Text → K → Type 0
HasKey key_at opening h text k = key_of key_at (totals opening h).texts text ≡ Some k

-- the two histories are one: one of them is a beginning of the other
abbrev pub IsOneHistory : History → History → Type 0
IsOneHistory h g = IsPrefix h g ⊎ IsPrefix g h

-- what one call shows its caller, at its end: a key that `Intern` or `Get` returned for a text is the text's;
-- and a text that `Resolve` returned has the key that was asked, if the opening is one and the history legal
pub record TellsKeys {K : Type 0} (key_at : ℕ → Option K) (opening : Totals) (before after : History) (pass : ℕ) : Type 0 where
  pub interned : (keeping : Keeping) (text : Text) (k : K) → IsCall key_at opening before after pass (Intern keeping text) (Interned (Ok k)) → HasKey key_at opening after text k
  pub found : (text : Text) (k : K) → IsCall key_at opening before after pass (Get text) (Found (Some k)) → HasKey key_at opening after text k
  pub resolved :
      (number : ℕ) (text : Text) → IsOpening key_at opening → IsLegal key_at opening after
      → IsCall {K = K} key_at opening before after pass (Resolve number) (Resolved (Some text))
      → (k : K) × (key_at number ≡ Some k) × HasKey key_at opening after text k

-- each call shows so: the contract of `calls_tell_keys`
abbrev pub CallsTellKeys : {K : Type 0} → (ℕ → Option K) → Type 0
CallsTellKeys key_at = (opening : Totals) (before after : History) (pass : ℕ) → TellsKeys key_at opening before after pass

-- what a call returns about a text that had this key at its beginning: `Get` finds the key, `Contains` and
-- `ContainsKey` say yes, `Resolve` gives the text
pub record AnswersByKey {K : Type 0} (key_at : ℕ → Option K) (number : K → ℕ) (opening : Totals) (before after : History) (pass : ℕ) (text : Text) (k : K) : Type 0 where
  -- `Intern` returns the same key, and is never refused
  pub interned : (keeping : Keeping) (reply : Result K LassoErrorKind) → IsCall key_at opening before after pass (Intern keeping text) (Interned reply) → reply ≡ Ok k
  -- and if the history is legal, it made no event
  pub idle :
      (keeping : Keeping) (reply : Result K LassoErrorKind) (call : IsCall key_at opening before after pass (Intern keeping text) (Interned reply))
      → IsLegal key_at opening after → events_of pass call.past ≡ []
  pub found : (reply : Option K) → IsCall key_at opening before after pass (Get text) (Found reply) → reply ≡ Some k
  pub contained : (reply : Bool) → IsCall {K = K} key_at opening before after pass (Contains text) (Flag reply) → reply ≡ true
  pub key_contained : (reply : Bool) → IsCall {K = K} key_at opening before after pass (ContainsKey (number k)) (Flag reply) → reply ≡ true
  pub resolved : (reply : Option Text) → IsCall {K = K} key_at opening before after pass (Resolve (number k)) (Resolved reply) → reply ≡ Some text

-- so it is with each text that the pass had seen: the contract of `seen_texts_keep_keys`
abbrev pub SeenTextsKeepKeys : {K : Type 0} → (ℕ → Option K) → (K → ℕ) → Type 0
SeenTextsKeepKeys {K} key_at number =
    (opening : Totals) (h before after : History) (pass : ℕ) (text : Text) (k : K)
    → HasKey key_at opening h text k → IsPrefix h before → AnswersByKey key_at number opening before after pass text k

-- a key that an intern returned resolves to its text, in each call of any pass that has seen the intern's
-- end: the contract of `answered_keys_resolve`
abbrev pub AnsweredKeysResolve : {K : Type 0} → (ℕ → Option K) → (K → ℕ) → Type 0
AnsweredKeysResolve {K} key_at number =
    (opening : Totals) (before after later end : History) (pass other : ℕ) (keeping : Keeping) (text : Text) (k : K) (reply : Option Text)
    → IsCall key_at opening before after pass (Intern keeping text) (Interned (Ok k)) → IsPrefix after later
    → IsCall {K = K} key_at opening later end other (Resolve (number k)) (Resolved reply) → reply ≡ Some text

-- what a key resolved to once it resolves to in each later call: the contract of `resolved_texts_stay`
abbrev pub ResolvedTextsStay : {K : Type 0} → (ℕ → Option K) → Type 0
ResolvedTextsStay {K} key_at =
    (opening : Totals) (before after later end : History) (pass other number : ℕ) (text : Text) (reply : Option Text)
    → IsCall {K = K} key_at opening before after pass (Resolve number) (Resolved (Some text)) → IsPrefix after later
    → IsCall {K = K} key_at opening later end other (Resolve number) (Resolved reply) → reply ≡ Some text

-- keys that two texts have in one history are equal exactly if the texts are: the contract of
-- `keys_are_equal_where_texts_are`
abbrev pub KeysAreEqualWhereTextsAre : {K : Type 0} → (ℕ → Option K) → Type 0
KeysAreEqualWhereTextsAre {K} key_at =
    (opening : Totals) (h g : History) (one other : Text) (k l : K)
    → IsOneHistory h g → HasKey key_at opening h one k → HasKey key_at opening g other l → (k ≡ l) ↔ (one ≡ other)

-- two passes of one interner
pub record PassesShareKeys {K : Type 0} (key_at : ℕ → Option K) (one other : PassView) : Type 0 where
  -- a pass that has seen what the other has, as it has after `meet`, has the other's keys
  pub met : (text : Text) (k : K) → IsPrefix other.notes one.notes → HasKey key_at other.of.opening (seen other) text k → HasKey key_at one.of.opening (seen one) text k
  -- what `prove_comparable` says of their notes holds of their histories
  pub compared : IsPrefix one.notes other.notes ⊎ IsPrefix other.notes one.notes → IsOneHistory (seen one) (seen other)

-- so it is with two passes of one interner: the contract of `passes_share_keys`
abbrev pub PassesShare : {K : Type 0} → (ℕ → Option K) → Type 0
PassesShare key_at = (one other : PassView) → one.of ≡ other.of → PassesShareKeys key_at one other
