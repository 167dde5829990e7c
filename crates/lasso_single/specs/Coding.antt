-- What encoding texts returns and leaves.
use Rattle.std.specs.Prelude.{ℕ, ◌≡◌, ◌+◌, ◌-◌, ◌≤◌, ◌⊎◌, List, [], ◌∷◌, ◌++◌, length, take, Option, None, Some, Result, Ok, Err, MatchResult, IsOk, IsSomeAnd, Vec, slice_get, vec_capacity, vec_len}
use Rattle.lasso_parts.specs.Kept.{kept_at}
use Rattle.lasso_parts.specs.Held.{Held}
use Rattle.lasso_parts.specs.Texts.{Text, position_of}
use Rattle.lasso_parts.specs.declared.util.LassoError.{LassoError}
use Rattle.lasso_parts.specs.declared.util.LassoErrorKind.TheVariants.{FailedAllocation}
use Rattle.lasso_single.specs.Intern.{InternsIn, interned}
use Rattle.lasso_single.specs.Interner.{InternerView}

-- the key of a position, which is the position plus one
abbrev pub spur_at : ℕ → Option ℕ
spur_at = kept_at 4294967295

-- interning the text returns its code, whose key is one more, or refuses it, as `InternsIn` says
abbrev pub InternsCode : InternerView → Text → Result ℕ LassoError → InternerView → Type 0
InternsCode old text reply new =
    MatchResult reply
    (λ code. InternsIn {K = ℕ} spur_at old text (Ok (code + 1)) new)
    (λ error. InternsIn {K = ℕ} spur_at old text (Err error) new)

-- those of the texts that were encoded: the first ones, as many as codes were added
abbrev pub encoded_texts : List ℕ → List ℕ → List Text → List Text
encoded_texts before after texts = take (length after - length before) texts

-- interning the text is refused with this error, by the limit or for lack of a key; or memory ran out, for
-- the text or for its code
abbrev pub IsRefused : InternerView → Text → LassoError → Type 0
IsRefused now text error =
    let held : Held = record { texts = now.texts; account = now.account } in
    (interned spur_at now.first held text ≡ Err error) ⊎ (error ≡ FailedAllocation)

-- the text after those that were encoded was refused
abbrev pub IsNextRefused : InternerView → List ℕ → List ℕ → List Text → LassoError → Type 0
IsNextRefused now before after texts error =
    IsSomeAnd (slice_get texts (length after - length before)) (λ text. IsRefused now text error)

-- the text is absent, and neither the keys nor the limit refuse it
abbrev pub IsAdmitted : InternerView → Text → Type 0
IsAdmitted now text =
    (position_of now.texts text ≡ None) × IsOk (interned spur_at now.first (record { texts = now.texts; account = now.account }) text)

-- When memory may run out, once these codes are there: they have no room for one more, or the text is absent
-- and admitted. So a limit or a lack of keys is reported as such if there is room for a code, and a present
-- text is not refused then.
abbrev pub MayLackMemory : {A : Type 0} → InternerView → Vec ℕ A → Text → LassoError → Type 0
MayLackMemory now codes text error = error ≡ FailedAllocation → (vec_capacity codes ≤ vec_len codes) ⊎ IsAdmitted now text

-- the same of the text after those that were encoded
abbrev pub MayLackMemoryNext : {A : Type 0} → InternerView → List ℕ → Vec ℕ A → List Text → LassoError → Type 0
MayLackMemoryNext now before codes texts error =
    IsSomeAnd (slice_get texts (length codes.items - length before)) (λ text. MayLackMemory now codes text error)

-- the text is interned, and its code goes last; or it is refused, and nothing changes. The codes lose no room
abbrev pub EncodesText : {A : Type 0} → (old : InternerView) → Text → (codes : Vec ℕ A) → Result (Unit {0}) LassoError → (new : InternerView) → (codes' : Vec ℕ A) → Type 0
EncodesText old text codes reply new codes' =
    MatchResult reply
    (λ _. ((key : ℕ) × InternsIn {K = ℕ} spur_at old text (Ok key) new)
    × ((code : ℕ) × (position_of new.texts text ≡ Some code) × (codes'.items ≡ codes.items ++ code ∷ []))
    × (vec_capacity codes ≤ vec_capacity codes'))
    (λ error. (new ≡ old) × (codes'.items ≡ codes.items) × IsRefused old text error
    × MayLackMemory old codes' text error × (vec_capacity codes ≤ vec_capacity codes'))
