-- Replies that no plain call may give, worked by hand: so its clause refutes a body that gives them, whatever
-- history explains the call. The contract of `laws::wrong_plain_calls_are_none`.
--
-- Every list begins with the texts of the opening, and no usage is smaller than the opening's. So a plain
-- call's clause refutes a smaller list or usage, and a text of the opening that is not found, gets another
-- key or is refused.
use Rattle.std.specs.Prelude.{◌≡◌, ◌≤◌, ℕ, true, false, List, [], ◌∷◌, None, Ok, Err}
use Rattle.serde_json.specs.Data.{null}
use Rattle.lasso_parts.specs.JsonObjects.{json_object}
use Rattle.lasso_parts.specs.Texts.{Text}
use Rattle.lasso_parts.specs.declared.util.LassoErrorKind.TheVariants.{MemoryLimitReached, KeySpaceExhaustion, FailedAllocation}
use Rattle.lasso_log.specs.Calls.{IsPlainCall}
use Rattle.lasso_log.specs.History.{Totals, opened}
use Rattle.lasso_log.specs.Replies.{Static, Keeping, Question, Intern, Get, Contains, ContainsKey, Resolve, Len, IsEmpty, Usage, Iterate, Strings, Serialize, Freeze, Reply, Interned, Found, Flag, Resolved, Number, Pairs, Listed}
use Rattle.lasso_shared.specs.Example.{three_keys, a, bc, ddd}
use Rattle.lasso_shared.specs.ExampleCalls.{opening, opening_with_texts}
use Rattle.lasso_shared.specs.Filling.{IsPlainFilling}

-- no plain call of the interner that opens with two texts
abbrev pub IsNone : Question → Reply ℕ → Type 0
IsNone question reply = IsPlainCall three_keys opening_with_texts question reply → ⊥

-- one text
abbrev pub opening_with_one : Totals
opening_with_one = opened (a ∷ []) 4 1 6

-- the same two texts in the other order
abbrev pub opening_turned : Totals
opening_turned = opened (a ∷ bc ∷ []) 4 3 6

-- no plain call has these replies
pub record AreNoPlainCalls : Type 0 where
  -- fewer texts than the opening's, or none
  pub length_halved : IsNone Len (Number 1)
  pub too_small_for_the_texts : (n : ℕ) → n ≤ 1 → IsNone Len (Number n)
  pub two_are_none : IsNone IsEmpty (Flag true)
  pub one_is_none : IsPlainCall three_keys opening_with_one IsEmpty (Flag true) → ⊥
  -- less than the first bucket
  pub usage_halved : IsNone Usage (Number 2)
  -- a text of the opening is not found, or its key has no text
  pub not_found : IsNone (Get bc) (Found None)
  pub not_contained : IsNone (Contains bc) (Flag false)
  pub key_not_contained : IsNone (ContainsKey 1) (Flag false)
  pub not_resolved : IsNone (Resolve 0) (Resolved None)
  -- a text of the opening gets another key, or is refused
  pub other_key : (keeping : Keeping) → IsNone (Intern keeping bc) (Interned (Ok 2))
  pub present_past_limit : (keeping : Keeping) → IsNone (Intern keeping bc) (Interned (Err MemoryLimitReached))
  pub present_without_key : (keeping : Keeping) → IsNone (Intern keeping bc) (Interned (Err KeySpaceExhaustion))
  pub present_without_memory : (keeping : Keeping) → IsNone (Intern keeping bc) (Interned (Err FailedAllocation))
  -- a static text refused by the limit
  pub static_past_limit : IsNone (Intern Static ddd) (Interned (Err MemoryLimitReached))
  -- a walk or a list that lacks a text of the opening, or has another in its place
  pub walk_without_first : IsNone Iterate (Pairs ((1, a) ∷ []))
  pub list_without_first : IsNone Strings (Listed (Ok (a ∷ [])))
  pub other_list : IsNone Strings (Listed (Ok (ddd ∷ a ∷ [])))
  pub two_openings : (list : List Text) → IsPlainCall {K = ℕ} three_keys opening_turned Strings (Listed (Ok list)) → IsNone Strings (Listed (Ok list))
  pub written_empty : IsNone Serialize (Listed (Ok []))
  pub written_as_null : (list : List Text) → null ≡ json_object list → ⊥
  pub frozen_empty : IsNone Freeze (Listed (Ok []))
  -- freezing refused, but not out of memory
  pub frozen_past_limit : IsNone Freeze (Listed (Err MemoryLimitReached))
  pub frozen_without_key : IsNone Freeze (Listed (Err KeySpaceExhaustion))
  -- a filling that ends well without a key for its text
  pub filled_without_key : IsPlainFilling {K = ℕ} (λ n. None) opening (a ∷ []) (Ok tt) → ⊥
