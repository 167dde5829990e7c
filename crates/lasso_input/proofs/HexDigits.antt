-- Steps of the loop that reads hexadecimal digits back, and what is read.
use Rattle.std.proofs.Common.{ℕ, ◌≡◌, ◌+◌, ◌*◌, ◌%◌, ◌≤◌, ◌++◌, false, List, [], drop, length, take, Result, Ok, Err, Some, is_ok, ap, refl, sym, ◌∙◌, arith}
use Rattle.std.specs.List.{list_all}
use Rattle.std.specs.Result.{result_unwrap_or}
use Rattle.std.proofs.lemmas.Bool.{false≢true}
use Rattle.std.proofs.lemmas.List.{append-nil, length-append, take_all}
use Rattle.std.proofs.lemmas.List.Sums.{list_all-from_AllPass}
use Rattle.hex.specs.declared.error.FromHexError.{FromHexError}
use Rattle.hex.specs.Hex.{decode_of, digit_or_error, hex_digit_value, is_hex_digit, pair_value, value_at}
use Rattle.hex.proofs.HexLemmas.{decode_of-odd, decode_of-ok}
use Rattle.lasso_input.proofs.Ends.{end_written}

-- two digits are a byte
pub pair_read : (a b i high low : ℕ) → hex_digit_value a ≡ Some high → hex_digit_value b ≡ Some low → pair_value a b i ≡ Ok (high * 16 + low)
pair_read a b i high low first second =
    let one : value_at a i ≡ Ok high = ap (digit_or_error a i) first in
    let two : value_at b (i + 1) ≡ Ok low = ap (digit_or_error b (i + 1)) second in
    rw (one, two) refl

-- ---- whether digits are read

ok_by : (s : List ℕ) (r : Result (List ℕ) FromHexError) → list_all is_hex_digit s ≡ false → decode_of s ≡ r → is_ok r ≡ false
ok_by s (Ok bytes) bad is = absurd (false≢true (sym bad ∙ list_all-from_AllPass is_hex_digit s (decode_of-ok s bytes is).1))
ok_by s (Err error) bad is = refl

-- what has another byte than digits is not read
pub bad_is_unread : (s : List ℕ) → list_all is_hex_digit s ≡ false → is_ok (decode_of s) ≡ false
bad_is_unread s bad = ok_by s (decode_of s) bad refl

-- nor what has a digit left over
pub odd_is_unread : (s : List ℕ) → length s % 2 ≡ 1 → is_ok (decode_of s) ≡ false
odd_is_unread s odd = ap is_ok (decode_of-odd s odd)

nothing_by : (old : List ℕ) (r : Result (List ℕ) FromHexError) → is_ok r ≡ false → old ≡ old ++ result_unwrap_or r []
nothing_by old (Ok bytes) unread = absurd (cc)
nothing_by old (Err error) unread = sym (append-nil old)

-- and nothing is appended
pub nothing_is_read : (s old : List ℕ) → is_ok (decode_of s) ≡ false → old ≡ old ++ result_unwrap_or (decode_of s) []
nothing_is_read s old unread = nothing_by old (decode_of s) unread

-- bytes that are read at the end of others
pub read_at_end : (s before zeros written mid : List ℕ) (m k n : ℕ) → m ≡ length before → mid ≡ take k before ++ zeros → m ≤ k → n ≡ length mid → length written + m ≡ n → decode_of s ≡ Ok written
    → take n ((take m mid ++ (written ++ drop (length written) (drop m mid))) ++ drop (length (take m mid ++ (written ++ drop (length written) (drop m mid)))) mid) ≡ before ++ result_unwrap_or (decode_of s) []
read_at_end s before zeros written mid m k n start mid_is more long fits read =
    let is : mid ≡ before ++ zeros = mid_is ∙ ap (λ (xs : List ℕ). xs ++ zeros) (take_all k before (omega (arith, start, more))) in
    let same : length written ≡ length zeros = omega (arith, length-append before zeros, ap length is, start, long, fits) in
    end_written before zeros written mid m n start is long same ∙ ap (λ (r : Result (List ℕ) FromHexError). before ++ result_unwrap_or r []) (sym read)
