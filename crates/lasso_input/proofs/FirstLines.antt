-- The first line of bytes, and those behind it.
--
-- Bytes without a line feed begin the first line. A line feed behind them ends it; where nothing is behind them
-- they are the last line. Where the search finds a line feed, the bytes are a line, the feed, and what is behind it.
use Rattle.std.proofs.Common.{ℕ, suc, zero, ◌≡◌, ◌+◌, ◌-◌, ◌<◌, ◌≤◌, ◌==◌, true, false, cond, inl, inr, List, [], ◌∷◌, ◌++◌, length, take, drop, Some, None, ap, sym, subst, ◌∙◌, refl, arith, add-one, append_assoc, length-drop}
use Rattle.std.specs.List.{onto_first, slice_index}
use Rattle.std.proofs.lemmas.Bool.{false_from_ne_true}
use Rattle.std.proofs.lemmas.Bool.Decides.{nat_tests}
use Rattle.memchr.specs.Find.{IsFirstByte, is_byte}
use Rattle.lasso_input.specs.Lines.{is_line_feed, lines_of, IsFirstLine, NoFeed}

pub no_feed_both : (front back : List ℕ) → NoFeed front → NoFeed back → NoFeed (front ++ back)
no_feed_both [] back none none' = none'
no_feed_both (x ∷ front) back none none' = (none.0, no_feed_both front back none.1 none')

-- where no byte below n is a line feed, the first n bytes have none
pub no_feed_take : (bytes : List ℕ) (n : ℕ) → ((k : ℕ) → k < n → ¬ (slice_index bytes k == 10 ≡ true)) → NoFeed (take n bytes)
no_feed_take bytes zero none = tt
no_feed_take [] (suc n) none = tt
no_feed_take (b ∷ bytes) (suc n) none = (false_from_ne_true _ (none 0 (omega arith)), no_feed_take bytes n (λ k small. none (suc k) (omega arith)))

cut_step : (x : ℕ) (bytes line : List ℕ) (lines : List (List ℕ)) → is_line_feed x ≡ false → lines_of bytes ≡ line ∷ lines → lines_of (x ∷ bytes) ≡ (x ∷ line) ∷ lines
cut_step x bytes line lines e rest = ap (λ t. cond t ([] ∷ lines_of bytes) (onto_first x (lines_of bytes))) e ∙ ap (λ ls. onto_first x ls) rest

-- a line feed ends the line
pub lines_cut : (line rest : List ℕ) → NoFeed line → lines_of (line ++ 10 ∷ rest) ≡ line ∷ lines_of rest
lines_cut [] rest none = refl
lines_cut (x ∷ line) rest none = cut_step x (line ++ 10 ∷ rest) line (lines_of rest) none.0 (lines_cut line rest none.1)

-- and bytes without one are the last line
pub lines_end : (b : ℕ) (line : List ℕ) → NoFeed (b ∷ line) → lines_of (b ∷ line) ≡ (b ∷ line) ∷ []
lines_end b [] none = ap (λ t. cond t ([] ∷ []) (onto_first b [])) none.0
lines_end b (x ∷ line) none = cut_step b (x ∷ line) (x ∷ line) [] none.0 (lines_end x line none.1)

split_at_feed : (bytes : List ℕ) (at : ℕ) → at < length bytes → slice_index bytes at == 10 ≡ true → bytes ≡ take at bytes ++ 10 ∷ drop (suc at) bytes
split_at_feed [] at small feed = absurd (omega arith)
split_at_feed (b ∷ bytes) zero small feed = let is : b ≡ 10 = grind (arith, nat_tests) in ap (λ x. x ∷ bytes) is
split_at_feed (b ∷ bytes) (suc at) small feed = ap (λ bs. b ∷ bs) (split_at_feed bytes at (omega arith) feed)

-- what a search that found a line feed says of the bytes
pub record Cut (bytes : List ℕ) (at : ℕ) : Type 0 where
  pub inside : at + 1 ≤ length bytes
  pub feed : slice_index bytes at == 10 ≡ true
  pub no_feed : NoFeed (take at bytes)
  pub bytes_are : bytes ≡ take at bytes ++ 10 ∷ drop (at + 1) bytes

pub cut_at : (bytes : List ℕ) (at : ℕ) → IsFirstByte (is_byte 10) bytes (Some at) → Cut bytes at
cut_at bytes at found =
    let small : at < length bytes = found.0.high in
    record {
      inside = omega arith;
      feed = found.1;
      no_feed = no_feed_take bytes at (λ k below. found.0.before k (omega arith) below);
      bytes_are = split_at_feed bytes at small found.1 ∙ ap (λ n. take at bytes ++ 10 ∷ drop n bytes) (sym (add-one at));
    }

pub take_all : (bytes : List ℕ) → take (length bytes) bytes ≡ bytes
take_all [] = refl
take_all (b ∷ bytes) = ap (λ bs. b ∷ bs) (take_all bytes)

pub rest_behind : (n : ℕ) (bytes : List ℕ) → take (length bytes - n) (drop n bytes) ≡ drop n bytes
rest_behind n bytes = let same : length bytes - n ≡ length (drop n bytes) = omega (arith, length-drop n bytes) in ap (λ k. take k (drop n bytes)) same ∙ take_all (drop n bytes)

-- and bytes without a line feed are one line
pub lines_alone : (bytes : List ℕ) → 0 < length bytes → NoFeed bytes → lines_of bytes ≡ bytes ∷ []
lines_alone [] some none = absurd (omega arith)
lines_alone (b ∷ bytes) some none = lines_end b bytes none

-- where the search finds none, no byte is a line feed
pub none_no_feed : (bytes : List ℕ) → IsFirstByte (is_byte 10) bytes None → NoFeed bytes
none_no_feed bytes found = subst NoFeed (take_all bytes) (no_feed_take bytes (length bytes) (λ k below. found k (omega arith) below))

-- the lines of bytes that the search has cut
pub lines_first : (bytes line rest : List ℕ) (at : ℕ) → IsFirstByte (is_byte 10) bytes (Some at) → line ≡ take at bytes → rest ≡ drop (at + 1) bytes → lines_of bytes ≡ line ∷ lines_of rest
lines_first bytes line rest at found line_is rest_is =
    let cut = cut_at bytes at found in
    let whole : lines_of bytes ≡ take at bytes ∷ lines_of (drop (at + 1) bytes) = ap lines_of cut.bytes_are ∙ lines_cut (take at bytes) (drop (at + 1) bytes) cut.no_feed in
    rw (line_is, rest_is) whole

-- and of those where it finds no line feed
pub lines_last : (bytes : List ℕ) → 0 < length bytes → IsFirstByte (is_byte 10) bytes None → lines_of bytes ≡ bytes ∷ []
lines_last bytes some none = lines_alone bytes some (none_no_feed bytes none)

-- a line that a line feed ends is also the first of the bytes and those after them
pub lines_fed : (bytes line rest later : List ℕ) → NoFeed line × (bytes ≡ line ++ 10 ∷ rest) → lines_of (bytes ++ later) ≡ line ∷ lines_of (rest ++ later)
lines_fed bytes line rest later cut = ap (λ bs. lines_of (bs ++ later)) cut.1 ∙ ap lines_of (append_assoc line (10 ∷ rest) later) ∙ lines_cut line (rest ++ later) cut.0

-- what it has cut off, and the rest
pub first_line_is : (bytes line rest : List ℕ) (at : ℕ) → IsFirstByte (is_byte 10) bytes (Some at) → line ≡ take at bytes → rest ≡ drop (at + 1) bytes → IsFirstLine bytes line rest
first_line_is bytes line rest at found line_is rest_is = let cut = cut_at bytes at found in rw (line_is, rest_is) (cut.no_feed, inl cut.bytes_are)

-- and where it finds no line feed, the line is all
pub last_line_is : (bytes : List ℕ) → IsFirstByte (is_byte 10) bytes None → IsFirstLine bytes bytes []
last_line_is bytes none = (none_no_feed bytes none, inr (refl, refl))
