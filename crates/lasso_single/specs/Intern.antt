-- What interning a text returns and leaves.
use Rattle.std.specs.Prelude.{ℕ, ◌≡◌, ◌+◌, ◌⊎◌, List, [], ◌∷◌, ◌++◌, length, Option, Result, MatchResult, IsOk, IsSome, Some, None, Ok, Err, unwrap_or}
use Rattle.lasso_parts.specs.Account.{Account, store}
use Rattle.lasso_parts.specs.Texts.{Text, position_of}
use Rattle.lasso_parts.specs.Held.{Held}
use Rattle.lasso_parts.specs.declared.util.LassoError.{LassoError}
use Rattle.lasso_parts.specs.declared.util.LassoErrorKind.TheVariants.{MemoryLimitReached, KeySpaceExhaustion, FailedAllocation}
use Rattle.lasso_single.specs.Interner.{InternerView, KeepsOrigin, bytes_added}

-- the text is in the list
abbrev pub IsPresent : InternerView → Text → Type 0
IsPresent now text = IsSome (position_of now.texts text)

-- the text is not in the list
abbrev pub IsAbsent : InternerView → Text → Type 0
IsAbsent now text = position_of now.texts text ≡ None

-- the key of the next new text, or none if the key type has none for its position
abbrev pub next_key : {K : Type 0} → (ℕ → Option K) → InternerView → Option K
next_key key_at now = key_at (length now.texts)

-- the account once the text's bytes are stored too, or none if the limit refuses them
abbrev pub account_with : InternerView → Text → Option Account
account_with now text = store now.first now.account (length text)

-- the text goes last, and the account is the new one
abbrev pub with_text : Held → Text → Account → Held
with_text held text account = record { texts = held.texts ++ text ∷ []; account = account }

-- a new text that has a key is stored, unless the limit refuses it
abbrev pub stored_or_refused : Held → Text → Option Account → Result Held LassoError
stored_or_refused held text None = Err MemoryLimitReached
stored_or_refused held text (Some account) = Ok (with_text held text account)

-- a new text is refused if its position has no key; the account is asked only after that. `first` is the
-- first bucket's size
abbrev pub keyed_or_refused : {K : Type 0} → ℕ → Held → Text → Option K → Result Held LassoError
keyed_or_refused first held text None = Err KeySpaceExhaustion
keyed_or_refused first held text (Some _) = stored_or_refused held text (store first held.account (length text))

-- a present text changes nothing
abbrev pub found_or_new : {K : Type 0} → (ℕ → Option K) → ℕ → Held → Text → Option ℕ → Result Held LassoError
found_or_new key_at first held text (Some _) = Ok held
found_or_new key_at first held text None = keyed_or_refused first held text (key_at (length held.texts))

-- what interning the text leaves if memory is found, or why it is refused; the first case that fits. A
-- present text changes nothing. If the list's length has no key, `KeySpaceExhaustion`. If the account refuses
-- the text, `MemoryLimitReached`. Else the text goes last, and the account is the stored one
abbrev pub interned : {K : Type 0} → (ℕ → Option K) → ℕ → Held → Text → Result Held LassoError
interned key_at first held text = found_or_new key_at first held text (position_of held.texts text)

-- the text's position once it is interned: where it is, or else the list's length
abbrev pub interned_position : List Text → Text → ℕ
interned_position texts text = unwrap_or (position_of texts text) (length texts)

-- interning the text returns the key of its position and leaves what `interned` says. Or it is refused, and
-- leaves list and account as they were: as `interned` says, or by `FailedAllocation`, but only if the text
-- would go last
abbrev pub Interns : {K : Type 0} → (ℕ → Option K) → ℕ → List Text → Account → Text → Result K LassoError → List Text → Account → Type 0
Interns key_at first texts account text reply texts' account' =
    let before : Held = record { texts = texts; account = account } in
    MatchResult reply
    (λ k. (interned key_at first before text ≡ Ok (record { texts = texts'; account = account' })) × (key_at (interned_position texts text) ≡ Some k))
    (λ error. (texts' ≡ texts) × (account' ≡ account) × ((interned key_at first before text ≡ Err error)
    ⊎ ((error ≡ FailedAllocation) × (position_of texts text ≡ None) × IsOk (interned key_at first before text))))

-- a new text that has a key is kept as it is, and the account is not asked
abbrev pub kept_or_refused : {K : Type 0} → Held → Text → Option K → Result Held LassoError
kept_or_refused held text None = Err KeySpaceExhaustion
kept_or_refused held text (Some _) = Ok (with_text held text held.account)

-- a present text changes nothing
abbrev pub found_or_kept : {K : Type 0} → (ℕ → Option K) → Held → Text → Option ℕ → Result Held LassoError
found_or_kept key_at held text (Some _) = Ok held
found_or_kept key_at held text None = kept_or_refused held text (key_at (length held.texts))

-- the same as `interned` of a text that lives as long as the program and is kept as it is: the account is not
-- asked, and stays
abbrev pub interned_static : {K : Type 0} → (ℕ → Option K) → Held → Text → Result Held LassoError
interned_static key_at held text = found_or_kept key_at held text (position_of held.texts text)

-- the same as `Interns` for a text that is kept as it is
abbrev pub InternsStatic : {K : Type 0} → (ℕ → Option K) → List Text → Account → Text → Result K LassoError → List Text → Account → Type 0
InternsStatic key_at texts account text reply texts' account' =
    let before : Held = record { texts = texts; account = account } in
    MatchResult reply
    (λ k. (interned_static key_at before text ≡ Ok (record { texts = texts'; account = account' })) × (key_at (interned_position texts text) ≡ Some k))
    (λ error. (texts' ≡ texts) × (account' ≡ account) × ((interned_static key_at before text ≡ Err error)
    ⊎ ((error ≡ FailedAllocation) × (position_of texts text ≡ None) × IsOk (interned_static key_at before text))))

-- interning a copied text: its reply, and all that contracts see of the interner. `Interns` holds of its list
-- and its account, by its own first bucket; the copied bytes grow by `bytes_added` if a key is returned, and
-- else stay; and `KeepsOrigin` holds
abbrev pub InternsIn : {K : Type 0} → (ℕ → Option K) → InternerView → Text → Result K LassoError → InternerView → Type 0
InternsIn key_at old text reply new =
    Interns key_at old.first old.texts old.account text reply new.texts new.account
    × MatchResult reply (λ _. new.copied ≡ old.copied + bytes_added old.texts text) (λ _. new.copied ≡ old.copied)
    × KeepsOrigin old new

-- the same of a text that is kept as it is; the copied bytes stay
abbrev pub InternsStaticIn : {K : Type 0} → (ℕ → Option K) → InternerView → Text → Result K LassoError → InternerView → Type 0
InternsStaticIn key_at old text reply new =
    InternsStatic key_at old.texts old.account text reply new.texts new.account × (new.copied ≡ old.copied) × KeepsOrigin old new
