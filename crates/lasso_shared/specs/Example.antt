-- A run of the machine, worked by hand, in which every kind of step is taken: so the law of runs speaks of
-- something. The contract of `machine::some_run`.
use Rattle.std.specs.Prelude.{◌≡◌, ℕ, ◌%◌, List, [], ◌∷◌, Option, Some, None, Ok, Err, nat_lt, slice_index, if◌then◌else◌, codes}
use Rattle.lasso_parts.specs.Texts.{Text}
use Rattle.lasso_parts.specs.declared.util.LassoErrorKind.TheVariants.{MemoryLimitReached, KeySpaceExhaustion, FailedAllocation}
use Rattle.lasso_log.specs.History.{Event}
use Rattle.lasso_log.specs.Replies.{Keeping, Copied, Static, Intern, Get, Resolve, Usage, MaxUsage, Iterate, Interned, Found, Resolved, Number, Pairs}
use Rattle.lasso_shared.specs.Machine.{State, Call, Phase, Missing, Stored, Appended, Step, Take, Reserve, Charge, Append, Release, Refuse, Read, SetLimit}
use Rattle.lasso_shared.specs.MachineCalls.{IsMachineCall}
use Rattle.lasso_shared.specs.Runs.{IsStart, IsRun, run, run_history, replies}

-- keys for three positions
abbrev pub three_keys : ℕ → Option ℕ
three_keys n = if nat_lt n 3 then Some n else None

-- sixteen shards, by the first byte
abbrev pub first_byte_shard : Text → ℕ
first_byte_shard text = slice_index text 0 % 16

-- no texts, one bucket of 2 bytes, and a limit of 6
abbrev pub empty : State
empty =
    record {
      texts = [];
      buckets = record { bucket = record { size = 2; used = 0 }; ranges = [] } ∷ [];
      doubling = 2;
      usage = 2;
      limit = 6;
      index = λ k text. None;
      calls = λ number. None;
    }

abbrev pub call : ℕ → Keeping → Text → Phase → Call
call number keeping text phase =
    record {
      number = number;
      keeping = keeping;
      text = text;
      shard = first_byte_shard text;
      phase = phase;
    }

abbrev pub a : Text
a = codes "a"

abbrev pub bc : Text
bc = codes "bc"

abbrev pub ddd : Text
ddd = codes "ddd"

abbrev pub e : Text
e = codes "e"

-- two calls at once, of which the later one doubles and comes first in the list
abbrev pub two_calls : List Step → List Step
two_calls more =
    Take 7 Copied a
    ∷ Take 8 Copied bc
    ∷ Reserve (call 7 Copied a Missing) 0
    ∷ Charge (call 8 Copied bc Missing) 4
    ∷ Append (call 8 Copied bc Stored)
    ∷ Append (call 7 Copied a Stored)
    ∷ Release (call 8 Copied bc (Appended 0)) 0
    ∷ Release (call 7 Copied a (Appended 1)) 1
    ∷ more

-- a present text, and one for which the limit leaves no room
abbrev pub one_refused : List Step → List Step
one_refused more =
    Take 9 Copied a
    ∷ Read (Get bc)
    ∷ Read (Resolve 1)
    ∷ Take 9 Copied ddd
    ∷ Refuse (call 9 Copied ddd Missing) MemoryLimitReached
    ∷ more

-- a static text takes the last key; so another one is refused, and a copied one fails out of memory
abbrev pub keys_used_up : List Step → List Step
keys_used_up more =
    SetLimit 9 100
    ∷ Take 9 Static ddd
    ∷ Append (call 9 Static ddd Missing)
    ∷ Release (call 9 Static ddd (Appended 2)) 2
    ∷ Take 5 Static e
    ∷ Refuse (call 5 Static e Missing) KeySpaceExhaustion
    ∷ Take 5 Copied e
    ∷ Refuse (call 5 Copied e Missing) FailedAllocation
    ∷ more

abbrev pub readings : List Step
readings = Read Iterate ∷ Read Usage ∷ Read MaxUsage ∷ []

abbrev pub steps : List Step
steps = two_calls (one_refused (keys_used_up readings))

-- the later of the two calls, from its first step to its last, with steps of the other among its own
abbrev pub later_call : List Step
later_call =
    Take 8 Copied bc
    ∷ Reserve (call 7 Copied a Missing) 0
    ∷ Charge (call 8 Copied bc Missing) 4
    ∷ Append (call 8 Copied bc Stored)
    ∷ Append (call 7 Copied a Stored)
    ∷ Release (call 8 Copied bc (Appended 0)) 0
    ∷ []

-- the call that the limit refuses
abbrev pub refused_call : List Step
refused_call = Take 9 Copied ddd ∷ Refuse (call 9 Copied ddd Missing) MemoryLimitReached ∷ []

-- the run and what it gives
pub record IsWorked : Type 0 where
  pub starts : IsStart three_keys first_byte_shard empty
  pub runs : IsRun three_keys first_byte_shard empty steps
  pub texts : (run first_byte_shard empty steps).texts ≡ bc ∷ a ∷ ddd ∷ []
  pub later : IsMachineCall three_keys first_byte_shard (run first_byte_shard empty (Take 7 Copied a ∷ [])) later_call 8 (Intern Copied bc) (Interned (Ok 0))
  pub refused : IsMachineCall three_keys first_byte_shard (run first_byte_shard empty (two_calls [])) refused_call 9 (Intern Copied ddd) (Interned (Err MemoryLimitReached))
  pub doubling : (run first_byte_shard empty steps).doubling ≡ 4
  pub events : run_history steps ≡ (7, Event.Reserve 0 1) ∷ (8, Event.Charge 4 2) ∷ (8, Event.Append bc) ∷ (7, Event.Append a) ∷ (9, Event.Limit 100) ∷ (9, Event.Append ddd) ∷ []
  pub replies : replies three_keys first_byte_shard empty steps
      ≡ (Intern Copied bc, Interned (Ok 0))
      ∷ (Intern Copied a, Interned (Ok 1))
      ∷ (Intern Copied a, Interned (Ok 1))
      ∷ (Get bc, Found (Some 0))
      ∷ (Resolve 1, Resolved (Some a))
      ∷ (Intern Copied ddd, Interned (Err MemoryLimitReached))
      ∷ (Intern Static ddd, Interned (Ok 2))
      ∷ (Intern Static e, Interned (Err KeySpaceExhaustion))
      ∷ (Intern Copied e, Interned (Err FailedAllocation))
      ∷ (Iterate, Pairs ((0, bc) ∷ (1, a) ∷ (2, ddd) ∷ []))
      ∷ (Usage, Number 6)
      ∷ (MaxUsage, Number 100)
      ∷ []
