-- What a command returns and leaves, and whole runs of commands.
use Rattle.std.specs.Prelude.{◌≡◌, ◌⊎◌, ◌≤◌, ◌+◌, ◌*◌, ℕ, List, [], ◌∷◌, length, map, Option, IsSome, is_some, option_map, slice_get, nat_lt, true, false, All, Result, Ok, Err}
use Rattle.std.specs.Prelude.{String, string_bytes}
use Rattle.std.specs.declared.alloc.Global.{Global}
use Rattle.lasso_parts.specs.Account.{clear, with_limit}
use Rattle.lasso_parts.specs.Texts.{Text, position_of, key_of}
use Rattle.lasso_parts.specs.declared.util.LassoError.{LassoError}
use Rattle.lasso_parts.specs.declared.util.LassoErrorKind.TheVariants.{FailedAllocation}
use Rattle.lasso_single.specs.Copies.{ClonesInto}
use Rattle.lasso_single.specs.Filling.{extend}
use Rattle.lasso_single.specs.Intern.{InternsIn, InternsStaticIn}
use Rattle.lasso_single.specs.Interner.{InternerView, most_copied}
use Rattle.lasso_single.specs.declared.commands.Command.{Command}
use Rattle.lasso_single.specs.declared.commands.Command.TheVariants.{Intern, InternStatic, Get, Contains, ContainsKey, TryResolve, Len, Usage, MaxUsage, SetLimit, Clear, Extend, CloneFrom}
use Rattle.lasso_single.specs.declared.commands.Reply.{Reply}
use Rattle.lasso_single.specs.declared.commands.Reply.TheVariants.{Key, Refused, Found, Flag, Number, Done}

-- the reply to a call that interns one text
abbrev pub intern_reply : {K : Type 0} → Result K LassoError → Reply K
intern_reply (Ok k) = Key k
intern_reply (Err error) = Refused error

-- the reply to a call that returns only whether it was refused
abbrev pub done_reply : {K : Type 0} → Result (Unit {0}) LassoError → Reply K
done_reply (Ok _) = Done
done_reply (Err error) = Refused error

-- the reply to a look-up of a key's text: a copy of it, or a refusal if there is no memory for that
abbrev pub resolves_to : {K : Type 0} → Option Text → Reply K → Type 0
resolves_to found reply =
    ((copy : Option (String Global)) × (reply ≡ Reply.Text copy) × (option_map string_bytes copy ≡ found))
    ⊎ ((reply ≡ Refused FailedAllocation) × IsSome found)

-- what a command returns, and what it leaves of the interner; H is the type of the hashers that S makes. A
-- refused command other than `Extend` and `CloneFrom` changes nothing
abbrev pub replies_to : {K S A H : Type 0} → (ℕ → Option K) → (K → ℕ) → InternerView → Command K S A H → Reply K → InternerView → Type 0
replies_to {K} key_at number old (Intern text) reply new = (outcome : Result K LassoError) × InternsIn key_at old text.now outcome new × (reply ≡ intern_reply outcome)
replies_to {K} key_at number old (InternStatic text) reply new = (outcome : Result K LassoError) × InternsStaticIn key_at old text.now outcome new × (reply ≡ intern_reply outcome)
replies_to key_at number old (Get text) reply new = (reply ≡ Found (key_of key_at old.texts text.now)) × (new ≡ old)
replies_to key_at number old (Contains text) reply new = (reply ≡ Flag (is_some (position_of old.texts text.now))) × (new ≡ old)
replies_to key_at number old (ContainsKey key) reply new = (reply ≡ Flag (nat_lt (number key) (length old.texts))) × (new ≡ old)
replies_to key_at number old (TryResolve key) reply new = resolves_to (slice_get old.texts (number key)) reply × (new ≡ old)
replies_to key_at number old Len reply new = (reply ≡ Number (length old.texts)) × (new ≡ old)
replies_to key_at number old Usage reply new = (reply ≡ Number old.account.usage) × (new ≡ old)
replies_to key_at number old MaxUsage reply new = (reply ≡ Number old.account.limit) × (new ≡ old)
replies_to key_at number old (SetLimit limits) reply new = (reply ≡ Done) × (new ≡ record old { account = with_limit old.account limits })
replies_to key_at number old Clear reply new = (reply ≡ Done) × (new ≡ record old { texts = []; account = clear old.first old.account; copied = 0; most = most_copied old; is_cleared = true })
replies_to key_at number old (Extend texts) reply new = (outcome : Result (Unit {0}) LassoError) × extend key_at old (map (λ t. t.now) texts.now) outcome new × (reply ≡ done_reply outcome)
replies_to key_at number old (CloneFrom source) reply new = (outcome : Result (Unit {0}) LassoError) × ClonesInto old source.now.texts outcome new × (reply ≡ done_reply outcome)

-- the definitions folded over a list of commands: one reply each, in order, each from what the one before left
abbrev pub run_of : {K S A H : Type 0} → (ℕ → Option K) → (K → ℕ) → InternerView → List (Command K S A H) → List (Reply K) → InternerView → Type 0
run_of key_at number old [] replies new = (replies ≡ []) × (new ≡ old)
run_of {K} key_at number old (command ∷ commands) replies new =
    (reply : Reply K) × (others : List (Reply K)) × (mid : InternerView)
    × (replies ≡ reply ∷ others) × replies_to key_at number old command reply mid × run_of key_at number mid commands others new

-- a command that clears nothing
abbrev pub IsUncleared : {K S A H : Type 0} → Command K S A H → Type 0
IsUncleared Clear = ⊥
IsUncleared (CloneFrom source) = ⊥
IsUncleared _ = Unit {0}

-- if nothing was cleared before, and none of the commands clears, the buckets take at most the first bucket and
-- four times the bytes copied in
abbrev pub StaysThrifty : {K S A H : Type 0} → List (Command K S A H) → (before after : InternerView) → Type 0
StaysThrifty commands before after = All IsUncleared commands → before.is_cleared ≡ false → after.account.usage ≤ before.first + 4 * after.copied
