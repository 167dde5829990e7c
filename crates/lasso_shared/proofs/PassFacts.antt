-- What a call with a pass says of the texts that the pass had seen, and of the key that it returns.
--
-- What the pass had seen begins what it has then seen. So these are the laws of `CallerLaws`, for a text that was seen right before the call.
use Rattle.std.proofs.Common.{◌≡◌, ℕ, Option, Some, None, Result, Ok, Err, IfOk, IfSome}
use Rattle.std.specs.Prelude.{Bool, IsTrue}
use mathlib.Core.List.{IsPrefix}
use Rattle.lasso_parts.specs.Texts.{Text}
use Rattle.lasso_parts.specs.declared.util.LassoErrorKind.{LassoErrorKind}
use Rattle.lasso_log.specs.History.{History, Totals}
use Rattle.lasso_log.specs.Replies.{Keeping, Question, Intern, Get, ContainsKey, Resolve, Reply, Interned, Found, Flag, Resolved}
use Rattle.lasso_log.specs.Calls.{IsCall}
use Rattle.lasso_log.proofs.Histories.{prefix_self}
use Rattle.lasso_shared.specs.CallerLaws.{HasKey}
use Rattle.lasso_shared.proofs.CallerLaws.{tells_keys, seen_texts_keep_keys}

module _ {K : Type 0} (key_at : ℕ → Option K) where
  pub call_grows : (opening : Totals) (before after : History) (pass : ℕ) (question : Question) (reply : Reply K) → IsCall key_at opening before after pass question reply → IsPrefix before after
  call_grows opening before after pass question reply call = (call.past, call.begins)

  pub interned_key : (opening : Totals) (before after : History) (pass : ℕ) (keeping : Keeping) (text : Text) (reply : Result K LassoErrorKind) → IsCall key_at opening before after pass (Intern keeping text) (Interned reply) → IfOk reply (λ k. HasKey key_at opening after text k)
  interned_key opening before after pass keeping text (Ok k) call = (tells_keys key_at opening before after pass).interned keeping text k call
  interned_key opening before after pass keeping text (Err error) call = tt

  pub found_key : (opening : Totals) (before after : History) (pass : ℕ) (text : Text) (reply : Option K) → IsCall key_at opening before after pass (Get text) (Found reply) → IfSome reply (λ k. HasKey key_at opening after text k)
  found_key opening before after pass text (Some k) call = (tells_keys key_at opening before after pass).found text k call
  found_key opening before after pass text None call = tt

  module _ (number : K → ℕ) (made : (n : ℕ) (k : K) → key_at n ≡ Some k → number k ≡ n) where
    pub seen_interned : (opening : Totals) (before after : History) (pass : ℕ) (keeping : Keeping) (text : Text) (reply : Result K LassoErrorKind) → IsCall key_at opening before after pass (Intern keeping text) (Interned reply) → (k : K) → HasKey key_at opening before text k → reply ≡ Ok k
    seen_interned opening before after pass keeping text reply call k has =
        (seen_texts_keep_keys key_at number made opening before before after pass text k has (prefix_self before)).interned keeping reply call

    pub seen_found : (opening : Totals) (before after : History) (pass : ℕ) (text : Text) (reply : Option K) → IsCall key_at opening before after pass (Get text) (Found reply) → (k : K) → HasKey key_at opening before text k → reply ≡ Some k
    seen_found opening before after pass text reply call k has =
        (seen_texts_keep_keys key_at number made opening before before after pass text k has (prefix_self before)).found reply call

    pub seen_contained : (opening : Totals) (before after : History) (pass : ℕ) (k : K) (reply : Bool) → IsCall {K = K} key_at opening before after pass (ContainsKey (number k)) (Flag reply) → (text : Text) → HasKey key_at opening before text k → IsTrue reply
    seen_contained opening before after pass k reply call text has =
        (seen_texts_keep_keys key_at number made opening before before after pass text k has (prefix_self before)).key_contained reply call

    pub seen_resolved : (opening : Totals) (before after : History) (pass : ℕ) (k : K) (reply : Option Text) → IsCall {K = K} key_at opening before after pass (Resolve (number k)) (Resolved reply) → (text : Text) → HasKey key_at opening before text k → reply ≡ Some text
    seen_resolved opening before after pass k reply call text has =
        (seen_texts_keep_keys key_at number made opening before before after pass text k has (prefix_self before)).resolved reply call
