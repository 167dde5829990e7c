-- What interning a text returns and leaves of a list of texts, if nothing is known of its memory.
--
-- The meaning of a value of an interface is a list of texts, or none: an interner for one thread and a frozen
-- form have their own list, a reference and a box have that of what they hold, and an interner that other
-- threads fill has none.
use Rattle.std.specs.Prelude.{ℕ, ◌≡◌, ◌↔◌, ◌⊎◌, List, [], ◌∷◌, ◌++◌, length, Option, Some, None, is_some, if◌then◌else◌, Result, MatchResult, IfErr, IfSome, IsOkAnd}
use Rattle.lasso_parts.specs.Texts.{Text, position_of}
use Rattle.lasso_parts.specs.declared.util.LassoError.{LassoError}
use Rattle.lasso_parts.specs.declared.util.LassoErrorKind.TheVariants.{KeySpaceExhaustion, FailedAllocation}
use Rattle.lasso_single.specs.Intern.{interned_position}

-- the list once the text is in it: the same if it is present, else the text goes last
abbrev pub with_last : List Text → Text → List Text
with_last texts text = if is_some (position_of texts text) then texts else texts ++ text ∷ []

-- interning the text returns the key of its position and leaves `with_last`; or it is refused, which no
-- present text is, and leaves the list as it was. It is refused for lack of a key exactly if the list's
-- length has none
abbrev pub InternsAmong : {K : Type 0} → (ℕ → Option K) → List Text → Text → Result K LassoError → Option (List Text) → Type 0
InternsAmong key_at texts text reply after =
    MatchResult reply
    (λ k. (key_at (interned_position texts text) ≡ Some k) × (after ≡ Some (with_last texts text)))
    (λ error. (position_of texts text ≡ None) × (after ≡ Some texts) × ((error ≡ KeySpaceExhaustion) ↔ (key_at (length texts) ≡ None)))

-- the same of a text that is kept as it is: it is refused for lack of a key or out of memory, never by a
-- limit
abbrev pub InternsStaticAmong : {K : Type 0} → (ℕ → Option K) → List Text → Text → Result K LassoError → Option (List Text) → Type 0
InternsStaticAmong key_at texts text reply after =
    InternsAmong key_at texts text reply after
    × IfErr reply (λ error. (error ≡ KeySpaceExhaustion) ⊎ (error ≡ FailedAllocation))

-- a value with a list of its own is frozen, to a form with the same list; `meaning_of` is the form's meaning
abbrev pub FreezesTo : {R E : Type 0} → (meaning : Option (List Text)) → (meaning_of : R → Option (List Text)) → Result R E → Type 0
FreezesTo meaning meaning_of result = IfSome meaning (λ texts. IsOkAnd result (λ frozen. meaning_of frozen ≡ Some texts))
