-- Numbers as decimal digits, written and read.
--
-- The digits of a number are read back as the number: there are at most 20, and the value after each digit is
-- at most that of all, which is below 2 ^ 64. None of them is a space, a line feed or a minus sign.
use Rattle.std.proofs.Common.{ℕ, ◌≡◌, ◌+◌, ◌-◌, ◌*◌, ◌^◌, ◌<◌, ◌≤◌, ◌==◌, true, false, cond, ◌&&◌, List, [], ◌∷◌, length, Option, Some, None, refl, ap, ◌∙◌, arith}
use Rattle.std.specs.Prelude.{decimal, nat_le, nat_lt, bytes_eq}
use Rattle.std.specs.Char.{digit_value}
use Rattle.std.specs.Str.Parse.{AllDigits, digits_value_after}
use Rattle.std.proofs.lemmas.Bool.Decides.{nat_tests}
use Rattle.std.proofs.lemmas.Fmt.{decimal_is_IsNumeral, length-decimal-le}
use Rattle.std.proofs.lemmas.Str.{digit_value_digit}
use Rattle.std.proofs.lemmas.Str.Parse.{digit_from_value}
use Rattle.lasso_input.specs.Lines.{NoFeed}
use Rattle.lasso_input.specs.Numbers.{is_digit, digits_after, digits_value}

value_grows : (n : ℕ) (ds : List ℕ) → n ≤ digits_value_after 10 n ds
value_grows n [] = omega arith
value_grows n (c ∷ cs) = omega (arith, value_grows (n * 10 + digit_value c) cs)

digits_are : (v : ℕ) (ds : List ℕ) → AllDigits 10 ds → digits_value_after 10 v ds < 2 ^ 64 → digits_after v ds ≡ Some (digits_value_after 10 v ds)
digits_are v [] all small = refl
digits_are v (c ∷ cs) all small =
    let digit = digit_from_value c all.0 in
    let next : v * 10 + (c - 48) ≡ v * 10 + digit_value c = omega (arith, digit_value_digit c digit) in
    let fits : v * 10 + (c - 48) < 2 ^ 64 = omega (arith, next, value_grows (v * 10 + digit_value c) cs, small) in
    let test : is_digit c && nat_lt (v * 10 + (c - 48)) (2 ^ 64) ≡ true = grind (arith, nat_tests, digit, fits) in
    let none : Option ℕ = None in
    ap (λ b. cond b (digits_after (v * 10 + (c - 48)) cs) none) test ∙ ap (λ w. digits_after w cs) next ∙ digits_are (v * 10 + digit_value c) cs all.1 small

-- a number is read back
pub number_read : (n : ℕ) → n < 2 ^ 64 → digits_value (decimal n) ≡ Some n
number_read n small =
    let numeral = decimal_is_IsNumeral n small in
    let some : 0 < length (decimal n) = numeral.0.0 in
    let few : length (decimal n) ≤ 20 = length-decimal-le 20 n (omega arith) (omega (arith, small)) small in
    let test : nat_le 1 (length (decimal n)) && nat_le (length (decimal n)) 20 ≡ true = grind (arith, nat_tests, some, few) in
    let none : Option ℕ = None in
    let value : digits_value_after 10 0 (decimal n) ≡ n = numeral.1 in
    ap (λ b. cond b (digits_after 0 (decimal n)) none) test ∙ digits_are 0 (decimal n) numeral.0.1 (omega (arith, value, small)) ∙ ap (λ m. Some m) value

-- ---- bytes that no digit is

-- no byte of the list is this one
abbrev pub Lacks : ℕ → List ℕ → Type 0
Lacks byte [] = Unit {0}
Lacks byte (c ∷ cs) = (c == byte ≡ false) × Lacks byte cs

digits_lack : (byte : ℕ) → byte < 48 → (ds : List ℕ) → AllDigits 10 ds → Lacks byte ds
digits_lack byte small [] all = tt
digits_lack byte small (c ∷ cs) all =
    let digit = digit_from_value c all.0 in
    (grind (arith, nat_tests, digit, small), digits_lack byte small cs all.1)

pub decimal_lacks : (byte n : ℕ) → byte < 48 → n < 2 ^ 64 → Lacks byte (decimal n)
decimal_lacks byte n low small = digits_lack byte low (decimal n) (decimal_is_IsNumeral n small).0.1

pub lacks_feed : (bytes : List ℕ) → Lacks 10 bytes → NoFeed bytes
lacks_feed [] lacks = tt
lacks_feed (b ∷ bytes) lacks = (lacks.0, lacks_feed bytes lacks.1)

-- the digits are not a minus sign
pub no_minus : (ds : List ℕ) → Lacks 45 ds → bytes_eq ds (45 ∷ []) ≡ false
no_minus [] lacks = refl
no_minus (c ∷ cs) lacks = ap (λ b. b && bytes_eq cs []) lacks.0
