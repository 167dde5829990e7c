-- Buckets with their ranges: taking bytes at the used end keeps the ranges one after the other and inside.
use Rattle.std.proofs.Common.{◌≡◌, ℕ, zero, suc, ◌+◌, ◌≤◌, List, [], ◌∷◌, ◌++◌, map, All, slice_get, refl, sym, ap, arith}
use Rattle.std.specs.Prelude.{IsSomeAnd}
use Rattle.std.specs.List.{AllByRecursion}
use Rattle.std.proofs.lemmas.List.Elements.{All-from_recursion, recursion_from_All}
use Rattle.lasso_log.specs.Buckets.{CountedBucket, changed_at}
use Rattle.lasso_shared.specs.Machine.{Range, RangedBucket, reserved, charged}
use Rattle.lasso_shared.specs.Runs.{Follow, IsFilled}

-- a change at a position, seen through a map
pub map_changed : {A B : Type 0} (f : A → B) (g : A → A) (h : B → B) → ((x : A) → f (g x) ≡ h (f x)) → (position : ℕ) (xs : List A) → map f (changed_at position g xs) ≡ changed_at position h (map f xs)
map_changed f g h same position [] = refl
map_changed f g h same zero (x ∷ xs) = ap (λ y. y ∷ map f xs) (same x)
map_changed f g h same (suc position) (x ∷ xs) = ap (λ ys. f x ∷ ys) (map_changed f g h same position xs)

follow_push : (start end n : ℕ) (rs : List Range) → Follow start end rs → Follow start (end + n) (rs ++ record { start = end; bytes = n } ∷ [])
follow_push start end n [] e = (sym e, ap (λ k. k + n) e)
follow_push start end n (r ∷ rs) f = (f.0, follow_push (start + r.bytes) end n rs f.1)

reserved_at : (n position : ℕ) (bs : List RangedBucket) → AllByRecursion IsFilled bs → IsSomeAnd (slice_get (map (λ (b : RangedBucket). b.bucket) bs) position) (λ (b : CountedBucket). b.used + n ≤ b.size) → AllByRecursion IsFilled (changed_at position (reserved n) bs)
reserved_at n position [] filled room = filled
reserved_at n zero (b ∷ bs) filled room = ((follow_push 0 b.bucket.used n b.ranges filled.0.0, room), filled.1)
reserved_at n (suc position) (b ∷ bs) filled room = (filled.0, reserved_at n position bs filled.1 room)

-- bytes are taken in a bucket that has room
pub reserved_filled : (n position : ℕ) (bs : List RangedBucket) → All IsFilled bs → IsSomeAnd (slice_get (map (λ (b : RangedBucket). b.bucket) bs) position) (λ (b : CountedBucket). b.used + n ≤ b.size) → All IsFilled (changed_at position (reserved n) bs)
reserved_filled n position bs filled room = All-from_recursion IsFilled (changed_at position (reserved n) bs) (reserved_at n position bs (recursion_from_All IsFilled bs filled) room)

-- a new bucket
pub charged_filled : (size n : ℕ) → n ≤ size → IsFilled (charged size n)
charged_filled size n room = ((refl, omega arith), room)
