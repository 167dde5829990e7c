-- The texts of lines.
--
-- A line that is its own text doesn't begin with the mark, so it is read back as itself. Another line's text begins
-- with the mark, and its digits are read back as the bytes. The mark is a character and digits are ASCII, so both
-- are UTF-8.
use Rattle.std.proofs.Common.{ℕ, ◌≡◌, ◌+◌, ◌≤◌, ◌&&◌, ◌++◌, Bool, true, false, not, List, [], ◌∷◌, drop, length, take, Result, Err, Ok, is_ok, inl, inr, nat_lt, refl, sym, ap, subst, ◌∙◌, arith}
use Rattle.std.proofs.lemmas.Bool.{and_parts, cases_Bool, cond-true, cond-false, false≢true, not-true}
use Rattle.std.proofs.lemmas.Str.{IsUtf8-append, IsUtf8-from_ascii, IsUtf8-from_is_utf8, is_utf8-from_IsUtf8}
use Rattle.std.proofs.lemmas.List.{length-append, take_all}
use borrow.Author.Tests.{ltb-true}
use lib.Utf8.{encode}
use Rattle.std.proofs.lemmas.Str.Ascii.{IsAscii-cons, IsAscii-nil}
use Rattle.std.specs.Result.{result_unwrap_or}
use Rattle.std.specs.Str.{is_utf8, IsAscii, IsUtf8}
use Rattle.hex.specs.declared.error.FromHexError.{FromHexError}
use Rattle.hex.specs.Hex.{IsBytes, decode_of, encode_lower, lower_digits}
use Rattle.hex.proofs.HexLemmas.{IsAscii-encode_with, decode_of-encode_lower}
use Rattle.lasso_input.proofs.Ends.{end_written}
use Rattle.lasso_input.specs.Texts.{escaped, is_marked, is_own_text, line_of, mark, text_of}

-- ---- the two cases of a text

pub own_is_text : (line : List ℕ) → is_own_text line ≡ true → text_of line ≡ line
unfolding text_of
own_is_text line own = cond-true _ _ _ own

pub other_is_escaped : (line : List ℕ) → is_own_text line ≡ false → text_of line ≡ escaped line
unfolding text_of
other_is_escaped line other = cond-false _ _ _ other

-- what is its own text is UTF-8, without the mark
pub own_parts : (line : List ℕ) → is_own_text line ≡ true → (is_utf8 line ≡ true) × (is_marked line ≡ false)
unfolding is_own_text
own_parts line own = let parts = and_parts (is_utf8 line) (not (is_marked line)) own in (parts.0, not-true (is_marked line) parts.1)

pub own_by_parts : (line : List ℕ) → IsUtf8 line → is_marked line ≡ false → is_own_text line ≡ true
unfolding is_own_text
own_by_parts line utf8 unmarked = rw (is_utf8-from_IsUtf8 line utf8, unmarked) refl

pub other_by_bytes : (line : List ℕ) → ¬ (IsUtf8 line) → is_own_text line ≡ false
other_by_bytes line bad = elim (cases_Bool (is_own_text line)) [
  | inl own ↦ absurd (bad (IsUtf8-from_is_utf8 line (own_parts line own).0))
  | inr other ↦ other
]

pub other_by_mark : (line : List ℕ) → is_marked line ≡ true → is_own_text line ≡ false
other_by_mark line marked = elim (cases_Bool (is_own_text line)) [
  | inl own ↦ absurd (false≢true (sym (own_parts line own).1 ∙ marked))
  | inr other ↦ other
]

-- ---- lines of texts

pub unmarked_is_line : (text : List ℕ) → is_marked text ≡ false → line_of text ≡ text
unfolding line_of
unmarked_is_line text unmarked = cond-false _ _ _ unmarked

escaped_is_marked : (line : List ℕ) → is_marked (escaped line) ≡ true
unfolding escaped is_marked
escaped_is_marked line = refl

pub marked_line : (text : List ℕ) → is_marked text ≡ true → line_of text ≡ result_unwrap_or (decode_of (drop 4 text)) text
unfolding line_of
marked_line text marked = cond-true _ _ _ marked

digits_behind : (line : List ℕ) → drop 4 (escaped line) ≡ encode_lower line
unfolding escaped
digits_behind line = refl

-- digits are read
good_digits : (text line : List ℕ) → is_marked text ≡ true → decode_of (drop 4 text) ≡ Ok line → line_of text ≡ line
good_digits text line marked good = marked_line text marked ∙ ap (λ r. result_unwrap_or r text) good

unwrapped : (r : Result (List ℕ) FromHexError) (one other : List ℕ) → is_ok r ≡ true → result_unwrap_or r one ≡ result_unwrap_or r other
unwrapped (Ok bytes) one other read = refl
unwrapped (Err error) one other read = absurd (cc)

default_by : (r : Result (List ℕ) FromHexError) (text : List ℕ) → is_ok r ≡ false → result_unwrap_or r text ≡ text
default_by (Ok bytes) text unread = absurd (cc)
default_by (Err error) text unread = refl

-- the line of a marked text whose digits are read
pub read_is_line : (text : List ℕ) → is_marked text ≡ true → is_ok (decode_of (drop 4 text)) ≡ true → result_unwrap_or (decode_of (drop 4 text)) [] ≡ line_of text
read_is_line text marked read = unwrapped (decode_of (drop 4 text)) [] text read ∙ sym (marked_line text marked)

-- and of one whose digits are not
pub unread_is_line : (text : List ℕ) → is_marked text ≡ true → is_ok (decode_of (drop 4 text)) ≡ false → text ≡ line_of text
unread_is_line text marked unread = sym (marked_line text marked ∙ default_by (decode_of (drop 4 text)) text unread)

pub escaped_gives_line : (line : List ℕ) → IsBytes line → line_of (escaped line) ≡ line
escaped_gives_line line bytes =
    good_digits (escaped line) line (escaped_is_marked line) (ap decode_of (digits_behind line) ∙ decode_of-encode_lower line bytes)

-- ---- the laws

-- the line of a line's text is the line
pub text_gives_line : (line : List ℕ) → IsBytes line → line_of (text_of line) ≡ line
text_gives_line line bytes = elim (cases_Bool (is_own_text line)) [
  | inl own ↦ ap line_of (own_is_text line own) ∙ unmarked_is_line line (own_parts line own).1
  | inr other ↦ ap line_of (other_is_escaped line other) ∙ escaped_gives_line line bytes
]

pub equal_texts : (one other : List ℕ) → IsBytes one → IsBytes other → text_of one ≡ text_of other → one ≡ other
equal_texts one other bytes bytes' same = sym (text_gives_line one bytes) ∙ ap line_of same ∙ text_gives_line other bytes'

mark_is_utf8 : IsUtf8 mark
unfolding encode
mark_is_utf8 = (1114111 ∷ [], (refl, refl))

-- whether each byte is ASCII
all_ascii : List ℕ → Bool
all_ascii [] = true
all_ascii (b ∷ bytes) = nat_lt b 128 && all_ascii bytes

ascii_by_test : (bytes : List ℕ) → all_ascii bytes ≡ true → IsAscii bytes
unfolding all_ascii
ascii_by_test [] test = IsAscii-nil
ascii_by_test (b ∷ bytes) test =
    let parts = and_parts (nat_lt b 128) (all_ascii bytes) test in
    IsAscii-cons b bytes (ltb-true b 128 parts.0) (ascii_by_test bytes parts.1)

digits_are_ascii : IsAscii lower_digits
unfolding all_ascii
digits_are_ascii = ascii_by_test lower_digits refl

pub escaped_is_utf8 : (line : List ℕ) → IsUtf8 (escaped line)
unfolding escaped
escaped_is_utf8 line = IsUtf8-append mark (encode_lower line) mark_is_utf8 (IsUtf8-from_ascii (encode_lower line) (IsAscii-encode_with lower_digits line digits_are_ascii))

-- the text of a line is UTF-8
pub text_is_utf8 : (line : List ℕ) → IsUtf8 (text_of line)
text_is_utf8 line = elim (cases_Bool (is_own_text line)) [
  | inl own ↦ subst IsUtf8 (sym (own_is_text line own)) (IsUtf8-from_is_utf8 line (own_parts line own).0)
  | inr other ↦ subst IsUtf8 (sym (other_is_escaped line other)) (escaped_is_utf8 line)
]

-- the mark and the digits at the end of other bytes
pub escaped_written : (old mid zeros written bytes : List ℕ) (m k n : ℕ) → m ≡ length old → mid ≡ take k old ++ zeros → m ≤ k → n ≡ length mid → length written + m ≡ n → written ≡ escaped bytes
    → take n ((take m mid ++ (written ++ drop (length written) (drop m mid))) ++ drop (length (take m mid ++ (written ++ drop (length written) (drop m mid)))) mid) ≡ old ++ escaped bytes
escaped_written old mid zeros written bytes m k n start mid_is more long fits text =
    let is : mid ≡ old ++ zeros = mid_is ∙ ap (λ (xs : List ℕ). xs ++ zeros) (take_all k old (omega (arith, start, more))) in
    let same : length written ≡ length zeros = omega (arith, length-append old zeros, ap length is, start, long, fits) in
    end_written old zeros written mid m n start is long same ∙ ap (λ (xs : List ℕ). old ++ xs) text

-- the mark, and then the digits
pub escaped_parts : (bytes : List ℕ) → escaped bytes ≡ mark ++ encode_lower bytes
unfolding escaped
escaped_parts bytes = refl
