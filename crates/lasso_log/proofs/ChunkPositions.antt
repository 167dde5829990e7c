-- The chunk and the offset of a position.
use Rattle.std.proofs.Common.{◌≡◌, ℕ, zero, suc, ◌+◌, ◌-◌, ◌*◌, ◌^◌, ◌<◌, ◌≤◌, ◌%◌, ◌⊎◌, inl, inr, Bool, refl, sym, ap, subst, ◌∙◌, arith, if◌then◌else◌, pow_mono, pow-suc}
use Rattle.std.proofs.Math.Nat.{lt_of_not-le}
use Rattle.std.proofs.lemmas.Bool.{cases_lt, lt-ltb, le-ltb}
use Rattle.std.proofs.lemmas.Nat.{pow-add, shl_whole}
use Rattle.lasso_log.specs.Chunks.{chunk_start, chunk_length, chunk_from, chunk_of, offset_of}

below_power : (k : ℕ) → k < 2 ^ k
below_power zero = omega arith
below_power (suc k) = let e : 2 ^ suc k ≡ 2 ^ k * 2 = pow-suc 2 k in let low = below_power k in omega arith

-- a chunk's number is at most the position of its first cell
number_low : (k : ℕ) → k ≤ chunk_start k
number_low zero = omega arith
number_low (suc k) = let low = below_power k in omega arith

-- chunks lie in their order
start_mono : (i k : ℕ) → i ≤ k → chunk_start i ≤ chunk_start k
start_mono zero k le = omega arith
start_mono (suc i) zero le = absurd (omega arith)
start_mono (suc i) (suc k) le = let p : 2 ^ i ≤ 2 ^ k = pow_mono (let less : i ≤ k = omega arith in less) in omega arith

-- a chunk begins where the one before it ends
pub chunk_end : (k : ℕ) → chunk_start (suc k) ≡ chunk_start k + chunk_length k
chunk_end zero = refl
chunk_end (suc k) = let e : 2 ^ suc k ≡ 2 ^ k * 2 = pow-suc 2 k in omega arith

found_from : (more i k n : ℕ) → i ≤ k → k ≤ i + more → chunk_start k ≤ n → n < chunk_start (suc k) → chunk_from more i n ≡ k
found_from zero i k n low high from below = omega arith
found_from (suc more) i k n low high from below = by_cases (cases_lt i k) (λ le. found_from more (suc i) k n le (omega arith) from below)
  where
    by_cases : (i < k) ⊎ (k ≤ i) → (suc i ≤ k → chunk_from more (suc i) n ≡ k) → chunk_from (suc more) i n ≡ k
    by_cases (inl lt) later = let past : chunk_start (suc i) ≤ chunk_start k = start_mono (suc i) k (omega arith) in
        subst (λ (b : Bool). (if b then i else chunk_from more (suc i) n) ≡ k) (sym (le-ltb n (chunk_start (suc i)) (omega arith))) (later (omega arith))
    by_cases (inr ge) later = let here : i ≡ k = omega arith in
        subst (λ (b : Bool). (if b then i else chunk_from more (suc i) n) ≡ k) (sym (lt-ltb n (chunk_start (suc i)) (subst (λ (j : ℕ). n < chunk_start (suc j)) (sym here) below))) here

-- the position's chunk is the one in which it lies
pub chunk_is : (k n : ℕ) → chunk_start k ≤ n → n < chunk_start (suc k) → chunk_of n ≡ k
chunk_is k n from below = let low = number_low k in found_from n 0 k n (omega arith) (omega arith) from below

-- Where a position lies: that chunk and offset are its own, there are 60 chunks, and the offset is inside the chunk.
pub record Lies (n chunk offset : ℕ) : Type 0 where
  pub chunk_is : chunk ≡ chunk_of n
  pub offset_is : offset ≡ offset_of n
  pub few : chunk < 60
  pub inside : offset < chunk_length chunk

pub lies_in : (k n : ℕ) → k < 60 → chunk_start k ≤ n → n < chunk_start (suc k) → Lies n k (n - chunk_start k)
lies_in k n few from below = let e = chunk_is k n from below in let end = chunk_end k in record { chunk_is = sym e; offset_is = ap (λ (j : ℕ). n - chunk_start j) (sym e); few = few; inside = omega arith }

-- 2 ^ top is the greatest power of two that a position past the first chunk reaches
module _ (n top : ℕ) (low : 32 ≤ n) (high : n < 2 ^ 64) (at : 2 ^ top ≤ n) (next : n < 2 * 2 ^ top) where
  pub top_low : 5 ≤ top
  top_low = lt_of_not-le (λ (le : top ≤ 4). let p : 2 ^ top ≤ 2 ^ 4 = pow_mono le in omega arith)

  pub top_high : top < 64
  top_high = lt_of_not-le (λ (le : 64 ≤ top). let p : 2 ^ 64 ≤ 2 ^ top = pow_mono le in omega arith)

  pub top_lies : Lies n (top - 4) (n - 2 ^ top)
  top_lies = let five = top_low in let few = top_high in let split : 5 + (top - 5) ≡ top = omega arith in let number : suc (top - 5) ≡ top - 4 = omega arith in
      let start : 32 * 2 ^ (top - 5) ≡ 2 ^ top = sym (pow-add 2 5 (top - 5)) ∙ ap (λ (k : ℕ). 2 ^ k) split in
      let end : chunk_start (suc (suc (top - 5))) ≡ chunk_start (suc (top - 5)) + chunk_length (suc (top - 5)) = chunk_end (suc (top - 5)) in
      subst (λ (k : ℕ × ℕ). Lies n k.0 (n - k.1)) (λ i. (number i, start i)) (lies_in (suc (top - 5)) n (omega arith) (omega arith) (omega arith))

-- the shift that `length_of` takes loses no bit
pub shifted : (chunk : ℕ) → (chunk ≡ 0 → ⊥) → chunk < 60 → (32 * 2 ^ (chunk - 1)) % 2 ^ 64 ≡ chunk_length chunk
shifted zero not_first few = absurd (not_first refl)
shifted (suc k) not_first few = let less : k ≡ suc k - 1 = omega arith in
    subst (λ (j : ℕ). (32 * 2 ^ j) % 2 ^ 64 ≡ 32 * 2 ^ k) less (shl_whole 32 6 k 64 (omega arith) (omega arith))
