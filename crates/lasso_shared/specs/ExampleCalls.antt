-- Calls that were worked by hand, and wrong ones that are no calls: the contracts of
-- `laws::worked_calls_are_calls` and `laws::wrong_calls_are_none`.
use Rattle.std.specs.Prelude.{ℕ, [], ◌∷◌, ◌++◌, Some, None, Ok, Err}
use Rattle.lasso_parts.specs.declared.util.LassoErrorKind.TheVariants.{MemoryLimitReached, KeySpaceExhaustion, FailedAllocation}
use Rattle.lasso_log.specs.History.{Reserve, Charge, Append, Limit, History, Totals, IsOpening, opened, IsLegal}
use Rattle.lasso_log.specs.Replies.{Copied, Static, Question, Intern, Get, Resolve, Iterate, Strings, Serialize, Freeze, SetLimit, Reply, Interned, Found, Resolved, Done, Pairs, Listed}
use Rattle.lasso_log.specs.Calls.{IsCall}
use Rattle.lasso_shared.specs.Example.{three_keys, a, bc, ddd, e}

-- no texts, one bucket of 2 bytes, and a limit of 6
abbrev pub opening : Totals
opening = opened [] 2 0 6

-- two passes at once: the later one doubles the bucket and comes first in the list
abbrev pub two : History
two = (7, Reserve 0 1) ∷ (8, Charge 4 2) ∷ (8, Append bc) ∷ (7, Append a) ∷ []

-- then the keys are used up
abbrev pub three : History
three = two ++ (9, Append ddd) ∷ []

-- then the limit is replaced
abbrev pub wider : History
wider = two ++ (9, Limit 100) ∷ []

-- two texts, one bucket of 4 bytes of which 3 are taken, and a limit of 6
abbrev pub opening_with_texts : Totals
opening_with_texts = opened (bc ∷ a ∷ []) 4 3 6

-- the last key is used up, and the last byte
abbrev pub last : History
last = (5, Reserve 0 1) ∷ (5, Append e) ∷ []

-- a call in this interner
abbrev pub Calls : (before after : History) (pass : ℕ) → Question → Reply ℕ → Type 0
Calls before after pass question reply = IsCall three_keys opening before after pass question reply

-- these are calls, in an interner that opens with no text and in one that opens with two
pub record AreCalls : Type 0 where
  pub legal : IsLegal three_keys opening three
  -- each of the two passes has its own events among the other's
  pub later : Calls [] two 7 (Intern Copied a) (Interned (Ok 1))
  pub first : Calls [] two 8 (Intern Copied bc) (Interned (Ok 0))
  pub found : Calls two two 9 (Intern Copied a) (Interned (Ok 1))
  pub static_text : Calls two three 9 (Intern Static ddd) (Interned (Ok 2))
  pub past_limit : Calls two two 9 (Intern Copied ddd) (Interned (Err MemoryLimitReached))
  pub no_key : Calls three (three ++ (9, Reserve 0 1) ∷ []) 9 (Intern Copied e) (Interned (Err KeySpaceExhaustion))
  pub limit : Calls two wider 9 (SetLimit 100) Done
  -- what was asked at the beginning may get its reply from what came meanwhile, or not
  pub missed : Calls [] two 9 (Get bc) (Found None)
  pub seen : Calls [] two 9 (Get bc) (Found (Some 0))
  pub walk : Calls [] two 9 Iterate (Pairs ((0, bc) ∷ (1, a) ∷ []))
  -- the list is the one at the end, or memory ran out
  pub frozen : Calls [] two 9 Freeze (Listed (Ok (bc ∷ a ∷ [])))
  pub not_written : Calls [] two 9 Serialize (Listed (Err FailedAllocation))
  -- an interner that opens with texts: they have the first keys, and a new one comes after them
  pub opens : IsOpening three_keys opening_with_texts
  pub legal_there : IsLegal three_keys opening_with_texts last
  pub opened_found : IsCall three_keys opening_with_texts [] [] 9 (Intern Copied a) (Interned (Ok 1))
  pub opened_resolved : IsCall three_keys opening_with_texts [] last 9 (Resolve 0) (Resolved (Some bc))
  pub opened_added : IsCall three_keys opening_with_texts [] last 5 (Intern Copied e) (Interned (Ok 2))

-- these are none
pub record AreNoCalls : Type 0 where
  -- a key for a text that was not appended, or was twice
  pub dropped : Calls [] [] 7 (Intern Static a) (Interned (Ok 0)) → ⊥
  pub doubled : Calls [] ((7, Append a) ∷ (7, Append a) ∷ []) 7 (Intern Static a) (Interned (Ok 0)) → ⊥
  -- a refusal that takes a position
  pub refusal_appends : Calls two three 9 (Intern Copied ddd) (Interned (Err MemoryLimitReached)) → ⊥
  -- a static text refused by the limit
  pub static_refused : Calls two two 9 (Intern Static ddd) (Interned (Err MemoryLimitReached)) → ⊥
  -- a copied text refused without a key left, before its bytes are stored
  pub keys_before_limit : Calls three three 9 (Intern Copied e) (Interned (Err KeySpaceExhaustion)) → ⊥
  -- a text that the pass had seen is not found
  pub opening_read : Calls two two 9 (Get bc) (Found None) → ⊥
  -- a list that is older than the end
  pub old_list : Calls [] two 9 Strings (Listed (Ok [])) → ⊥
  pub old_walk : Calls [] two 9 Iterate (Pairs []) → ⊥
  pub old_json : Calls [] two 9 Serialize (Listed (Ok [])) → ⊥
  pub old_frozen : Calls [] two 9 Freeze (Listed (Ok [])) → ⊥
  -- a limit that is not set, or twice, or another one
  pub limit_dropped : Calls two two 9 (SetLimit 100) Done → ⊥
  pub limit_doubled : Calls two (wider ++ (9, Limit 100) ∷ []) 9 (SetLimit 100) Done → ⊥
  pub limit_other : Calls two wider 9 (SetLimit 7) Done → ⊥
  -- a refusal by the limit while a bucket has room, or while the limit leaves room for a bucket
  pub bucket_has_room : Calls two two 9 (Intern Copied e) (Interned (Err MemoryLimitReached)) → ⊥
  pub limit_leaves_room : Calls wider wider 9 (Intern Copied ddd) (Interned (Err MemoryLimitReached)) → ⊥
  -- the empty text refused by the limit
  pub empty_refused : Calls two two 9 (Intern Copied []) (Interned (Err MemoryLimitReached)) → ⊥
  -- no key, no memory or no room for a present text; and no key if the length has one
  pub there_without_key : Calls three three 9 (Intern Static a) (Interned (Err KeySpaceExhaustion)) → ⊥
  pub there_without_memory : Calls two two 9 (Intern Copied a) (Interned (Err FailedAllocation)) → ⊥
  pub there_past_limit : Calls two two 9 (Intern Copied a) (Interned (Err MemoryLimitReached)) → ⊥
  pub key_is_left : Calls two two 9 (Intern Static ddd) (Interned (Err KeySpaceExhaustion)) → ⊥
  -- a pass that forgets what it had seen
  pub forgotten : Calls two [] 9 (Get bc) (Found None) → ⊥
  -- a history in which a bucket comes while another has room, or a text occurs twice
  pub charged_early : IsLegal three_keys opening ((7, Charge 4 1) ∷ []) → ⊥
  pub appended_twice : IsLegal three_keys opening ((7, Append a) ∷ (8, Append a) ∷ []) → ⊥
  -- an opening in which a text occurs twice, or that lacks a key, or whose bucket holds more than it has, or
  -- has no bytes
  pub opened_twice : IsOpening three_keys (opened (a ∷ a ∷ []) 4 2 6) → ⊥
  pub opened_keyless : IsOpening three_keys (opened (a ∷ bc ∷ ddd ∷ e ∷ []) 8 7 8) → ⊥
  pub opened_overfull : IsOpening three_keys (opened [] 2 3 6) → ⊥
  pub opened_without_bucket : IsOpening three_keys (opened [] 0 0 6) → ⊥
