-- A stretch of bytes that is tested once, for all its lines.
--
-- The bytes before the untested ones are UTF-8 without the first byte of the mark. A line feed is ASCII, so UTF-8
-- can be cut before and after it. So a line that ends in the tested bytes is UTF-8, and so are the tested bytes
-- after it. Any part of bytes without the first byte of the mark is without it too, and doesn't begin with the mark.
use Rattle.std.proofs.Common.{ℕ, suc, zero, ◌≡◌, ◌+◌, ◌-◌, ◌<◌, ◌≤◌, ◌==◌, true, false, List, [], ◌∷◌, length, take, drop, get_or, Some, None, ap, subst, ◌∙◌, refl, arith, nat_eq, length-drop, length-take}
use Rattle.std.specs.Prelude.{All}
use Rattle.std.specs.List.{slice_index}
use Rattle.std.specs.Str.{IsAscii}
use Rattle.std.proofs.lemmas.Bool.{false_from_ne_true}
use Rattle.std.proofs.lemmas.List.{drop-take}
use Rattle.std.proofs.lemmas.List.Elements.{All-cons, All-drop, All-head, All-nil, All-take}
use Rattle.std.proofs.lemmas.Str.{IsUtf8-nil, IsUtf8-take, IsUtf8-drop, IsUtf8-from_ascii, IsCharBoundary-before_ascii, IsCharBoundary-after_ascii}
use Rattle.std.proofs.lemmas.Bool.Decides.{nat_tests}
use Rattle.memchr.specs.Find.{IsFirstByte, is_byte}
use Rattle.lasso_input.specs.Texts.{is_marked, IsPlain}
use Rattle.lasso_input.proofs.FirstLines.{Cut, cut_at, take_all}

-- ---- without the first byte of the mark

-- bytes that don't have it don't begin with the mark
pub plain_unmarked : (bytes : List ℕ) → All (λ b. nat_eq b 244 ≡ false) bytes → is_marked bytes ≡ false
unfolding is_marked
plain_unmarked [] none = refl
plain_unmarked (b ∷ bytes) none = let other = All-head (λ b. nat_eq b 244 ≡ false) b bytes none in grind (arith, other, nat_tests)

-- a search that finds none
none_by : (bytes : List ℕ) → ((k : ℕ) → k < length bytes → ¬ (slice_index bytes k == 244 ≡ true)) → All (λ b. nat_eq b 244 ≡ false) bytes
none_by [] none = All-nil (λ b. nat_eq b 244 ≡ false)
none_by (b ∷ bytes) none = All-cons (λ b. nat_eq b 244 ≡ false) b bytes (false_from_ne_true _ (none 0 (omega arith))) (none_by bytes (λ k small. none (suc k) (omega arith)))

pub none_found : (bytes : List ℕ) → IsFirstByte (is_byte 244) bytes None → All (λ b. nat_eq b 244 ≡ false) bytes
none_found bytes found = none_by bytes (λ k below. found k (omega arith) below)

-- ASCII
none_in_ascii : (bytes : List ℕ) → IsAscii bytes → All (λ b. nat_eq b 244 ≡ false) bytes
none_in_ascii bytes ascii = none_by bytes (λ k below is. let small = ascii k in grind (arith, small, is, nat_tests))

pub ascii_is_plain : (bytes : List ℕ) → IsAscii bytes → IsPlain bytes
ascii_is_plain bytes ascii = (IsUtf8-from_ascii bytes ascii, none_in_ascii bytes ascii)

pub nothing_is_plain : IsPlain []
nothing_is_plain = (IsUtf8-nil, All-nil (λ b. nat_eq b 244 ≡ false))

-- ---- UTF-8

-- a line feed in the first n bytes is ASCII
byte_of_front : (bytes : List ℕ) (n at : ℕ) → at < n → at < length bytes → slice_index bytes at == 10 ≡ true → get_or (take n bytes) at 0 < 128
byte_of_front bytes zero at below inside feed = absurd (omega arith)
byte_of_front [] (suc n) at below inside feed = absurd (omega arith)
byte_of_front (b ∷ bytes) (suc n) zero below inside feed = grind (arith, nat_tests)
byte_of_front (b ∷ bytes) (suc n) (suc at) below inside feed = byte_of_front bytes n at (omega arith) (omega arith) feed

take_less : (at n : ℕ) (bytes : List ℕ) → at ≤ n → take at (take n bytes) ≡ take at bytes
take_less zero n bytes small = refl
take_less (suc at) zero bytes small = absurd (omega arith)
take_less (suc at) (suc n) [] small = refl
take_less (suc at) (suc n) (b ∷ bytes) small = ap (λ bs. b ∷ bs) (take_less at n bytes (omega arith))

-- the front of the bytes after a position
front_past : (at n k : ℕ) (bytes : List ℕ) → n ≡ at + k → drop at (take n bytes) ≡ take k (drop at bytes)
front_past at n k bytes is = ap (λ m. drop at (take m bytes)) is ∙ drop-take at k bytes

module _ (bytes : List ℕ) (at n : ℕ) (plain : IsPlain (take n bytes)) (low : at + 1 ≤ n) (high : n ≤ length bytes) (feed : slice_index bytes at == 10 ≡ true) where
  front_len : length (take n bytes) ≡ n
  front_len = omega (arith, length-take n bytes)

  ascii : get_or (take n bytes) at 0 < 128
  ascii = byte_of_front bytes n at (omega arith) (omega arith) feed

  line_of_front : IsPlain (take at bytes)
  line_of_front = subst IsPlain (take_less at n bytes (omega arith)) (
    IsUtf8-take (take n bytes) at plain.0 (IsCharBoundary-before_ascii (take n bytes) at (omega (arith, front_len)) ascii),
    All-take (λ b. nat_eq b 244 ≡ false) at (take n bytes) plain.1,
  )

  after_in_front : IsPlain (take (n - (at + 1)) (drop (at + 1) bytes))
  after_in_front = subst IsPlain (front_past (at + 1) n (n - (at + 1)) bytes (omega arith)) (
    IsUtf8-drop (take n bytes) (at + 1) plain.0 (IsCharBoundary-after_ascii (take n bytes) at plain.0 (omega (arith, front_len)) ascii),
    All-drop (λ b. nat_eq b 244 ≡ false) (at + 1) (take n bytes) plain.1,
  )

module _ (bytes : List ℕ) (at untested : ℕ) (plain : IsPlain (take (length bytes - untested) bytes)) (found : IsFirstByte (is_byte 10) bytes (Some at)) where
  cut : Cut bytes at
  cut = cut_at bytes at found

  -- a line that ends in the tested bytes is plain
  pub line_is_tested : untested < length bytes - at → IsPlain (take at bytes)
  line_is_tested small = line_of_front bytes at (length bytes - untested) plain (omega (arith, cut.inside)) (omega arith) cut.feed

  after_by : (n : ℕ) → length (drop (at + 1) bytes) - untested ≡ n → IsPlain (take n (drop (at + 1) bytes))
  after_by zero is = nothing_is_plain
  after_by (suc n) is =
      let same : length bytes - untested - (at + 1) ≡ suc n = omega (arith, length-drop (at + 1) bytes, cut.inside, is) in
      subst (λ k. IsPlain (take k (drop (at + 1) bytes))) same (after_in_front bytes at (length bytes - untested) plain (omega (arith, length-drop (at + 1) bytes, cut.inside, is)) (omega arith) cut.feed)

  -- and so are the tested bytes after it
  pub after_is_tested : IsPlain (take (length (drop (at + 1) bytes) - untested) (drop (at + 1) bytes))
  after_is_tested = after_by (length (drop (at + 1) bytes) - untested) refl

-- the tested bytes after any line feed are plain
module _ (bytes : List ℕ) (at untested : ℕ) (plain : IsPlain (take (length bytes - untested) bytes)) (inside : at + 1 ≤ length bytes) (feed : slice_index bytes at == 10 ≡ true) where
  after_feed_by : (n : ℕ) → length (drop (at + 1) bytes) - untested ≡ n → IsPlain (take n (drop (at + 1) bytes))
  after_feed_by zero is = nothing_is_plain
  after_feed_by (suc n) is =
      let same : length bytes - untested - (at + 1) ≡ suc n = omega (arith, length-drop (at + 1) bytes, inside, is) in
      subst (λ k. IsPlain (take k (drop (at + 1) bytes))) same (after_in_front bytes at (length bytes - untested) plain (omega (arith, length-drop (at + 1) bytes, inside, is)) (omega arith) feed)

  pub after_feed_is_tested : IsPlain (take (length (drop (at + 1) bytes) - untested) (drop (at + 1) bytes))
  after_feed_is_tested = after_feed_by (length (drop (at + 1) bytes) - untested) refl

-- all bytes
pub all_are_plain : (bytes : List ℕ) → IsPlain bytes → IsPlain (take (length bytes) bytes)
all_are_plain bytes plain = rw (take_all bytes) plain
