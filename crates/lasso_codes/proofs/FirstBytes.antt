-- A search for a byte finds the first one.
use Rattle.std.proofs.Common.{ℕ, ◌≡◌, ◌<◌, ◌==◌, List, length, Option, Some, None, arith}
use Rattle.std.specs.Prelude.{position}
use Rattle.std.specs.List.{position_or_len}
use Rattle.std.proofs.lemmas.Bool.{false_from_ne_true}
use Rattle.std.proofs.lemmas.Bool.Decides.{nat_tests}
use Rattle.std.proofs.lemmas.List.Sums.{position_or_len_is}
use Rattle.memchr.specs.Find.{IsFirstByte, is_byte}

found_at : (byte : ℕ) (word : List ℕ) (at : ℕ) → IsFirstByte (is_byte byte) word (Some at) → position (λ b. b == byte) word ≡ Some at
found_at byte word at found =
    let small : at < length word = found.0.high in
    let here : position_or_len (λ b. b == byte) word ≡ at = position_or_len_is (λ b. b == byte) word at 0 (omega (arith, small)) (λ k below. false_from_ne_true _ (found.0.before k (omega arith) below)) (λ _. found.1) in
    rw (here) (grind (arith, nat_tests))

found_none : (byte : ℕ) (word : List ℕ) → IsFirstByte (is_byte byte) word None → position (λ b. b == byte) word ≡ None
found_none byte word found =
    let here : position_or_len (λ b. b == byte) word ≡ length word = position_or_len_is (λ b. b == byte) word (length word) 0 (omega arith) (λ k below. false_from_ne_true _ (found k (omega arith) below)) (λ small. absurd (omega (arith, small))) in
    rw (here) (grind (arith, nat_tests))

pub first_byte_at : (byte : ℕ) (word : List ℕ) (o : Option ℕ) → IsFirstByte (is_byte byte) word o → position (λ b. b == byte) word ≡ o
first_byte_at byte word None found = found_none byte word found
first_byte_at byte word (Some at) found = found_at byte word at found
