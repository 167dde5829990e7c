-- What interning the texts of one list in another returns and leaves.
use Rattle.std.specs.Prelude.{ℕ, ◌≡◌, ◌⊎◌, List, length, take, Ok, IsSomeAnd, slice_get}
use Rattle.lasso_parts.specs.Texts.{Text}
use Rattle.lasso_parts.specs.declared.util.LassoError.{LassoError}
use Rattle.lasso_parts.specs.declared.util.LassoErrorKind.TheVariants.{FailedAllocation}
use Rattle.lasso_single.specs.Filling.{extend, with_all_new}
use Rattle.lasso_single.specs.Interner.{InternerView}
use Rattle.lasso_single.specs.Coding.{spur_at, IsAdmitted, IsRefused}

-- When memory may run out for a list's next text, if there is room for its code: the text is absent and
-- admitted.
abbrev pub MayLackMemoryWithRoom : InternerView → List ℕ → List Text → LassoError → Type 0
MayLackMemoryWithRoom now codes list error =
    IsSomeAnd (slice_get list (length codes)) (λ text. error ≡ FailedAllocation → IsAdmitted now text)

-- the texts before one of the list are in the interner, and P holds of that one
abbrev pub MergesUpTo : (old now : InternerView) → List Text → (Text → Type 0) → Type 0
MergesUpTo old now list P = (n : ℕ) × (now.texts ≡ with_all_new old.texts (take n list)) × IsSomeAnd (slice_get list n) P

-- the texts before one of the list were interned, and that one was refused with this error
abbrev pub StopsMerging : (old now : InternerView) → List Text → LassoError → Type 0
StopsMerging old now list error =
    (n : ℕ) × extend spur_at old (take n list) (Ok tt) now × IsSomeAnd (slice_get list n) (λ text. IsRefused now text error)

-- When memory may run out while a list is interned in another: before its first text; or for an absent and
-- admitted text, after all texts before it were interned.
abbrev pub MayLackMemoryMerging : InternerView → InternerView → List Text → LassoError → Type 0
MayLackMemoryMerging old now list error =
    error ≡ FailedAllocation
    → (now ≡ old) ⊎ ((n : ℕ) × extend spur_at old (take n list) (Ok tt) now × IsSomeAnd (slice_get list n) (λ text. IsAdmitted now text))
