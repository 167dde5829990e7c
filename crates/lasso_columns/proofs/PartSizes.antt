-- How many parts of a size a slice has.
use Rattle.std.proofs.Common.{ℕ, zero, suc, one-mul, ◌≡◌, ◌+◌, ◌*◌, ◌<◌, ◌≤◌, ◌/◌, ◌%◌, min, ap, ◌∙◌, arith}
use Rattle.std.proofs.Math.Nat.{mul-le-mul_right}

last_part : (r size : ℕ) → r < size → r ≤ min 1 r * size
last_part zero size small = omega arith
last_part (suc r) size small = let one : min 1 (suc r) ≡ 1 = omega arith in let whole : min 1 (suc r) * size ≡ size = ap (λ n. n * size) one ∙ one-mul size in omega (arith, whole)

reach : (q r length size n : ℕ) → size * q + r ≡ length → r < size → q + min 1 r ≤ n → length ≤ n * size
reach q r length size n is small many =
    let enough : (q + min 1 r) * size ≤ n * size = mul-le-mul_right size many in
    let last : r ≤ min 1 r * size = last_part r size small in
    omega (arith, enough, last, is)

-- parts of this size reach the end if there are at least `length / size` of them, rounded up
pub parts_reach : (length size n : ℕ) → 0 < size → length / size + min 1 (length % size) ≤ n → length ≤ n * size
parts_reach length size n some many = reach (length / size) (length % size) length size n (omega arith) (omega arith) many
