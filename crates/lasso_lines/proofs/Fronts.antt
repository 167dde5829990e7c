-- A text with a lower front comes first.
--
-- Each byte is a digit of base 256. So of two numbers that differ, the lower one stays lower whatever
-- digits follow both. If one front is lower than another, then at the first byte where the texts differ,
-- its text has the lower byte or has ended.
use Rattle.std.proofs.Common.{ℕ, zero, suc, ◌≡◌, ◌+◌, ◌-◌, ◌*◌, ◌^◌, ◌<◌, ◌≤◌, List, [], ◌∷◌, get_or, drop, add-zero, refl, sym, ap, subst, ◌∙◌, arith}
use Rattle.std.specs.Prelude.{nat_lt, ◌==◌, Bool, true, false}
use Rattle.std.specs.Ordering.{ordering_then, nat_cmp}
use Rattle.std.specs.declared.cmp.Ordering.TheVariants.{Less, Equal}
use Rattle.std.proofs.lemmas.Bool.Decides.{nat_tests}
use Rattle.std.proofs.Math.Pow.{pow_mono}
use Rattle.std.proofs.lemmas.Nat.{pow-add}
use Rattle.std.proofs.lemmas.List.{drop-drop, get_or-drop}
use Rattle.std.proofs.lemmas.List.Elements.{All-head, All-tail}
use Rattle.lasso_parts.specs.Texts.{Text}
use Rattle.lasso_lines.specs.Fronts.{front_from, AreBytes, text_cmp}

byte_first : (b : ℕ) (bytes : List ℕ) → AreBytes (b ∷ bytes) → b < 256
byte_first b bytes are = All-head (λ x. x < 256) b bytes are

bytes_after : (b : ℕ) (bytes : List ℕ) → AreBytes (b ∷ bytes) → AreBytes bytes
bytes_after b bytes are = All-tail (λ x. x < 256) b bytes are

-- the lower number stays lower
front_below : (n a b : ℕ) (one other : Text) → AreBytes one → AreBytes other → a < b → front_from a n one < front_from b n other
front_below zero a b one other bytes bytes' low = low
front_below (suc n) a b [] [] bytes bytes' low = front_below n (a * 256) (b * 256) [] [] bytes bytes' (omega arith)
front_below (suc n) a b [] (y ∷ other) bytes bytes' low = front_below n (a * 256) (b * 256 + y) [] other bytes (bytes_after y other bytes') (omega arith)
front_below (suc n) a b (x ∷ one) [] bytes bytes' low =
    let small : x < 256 = byte_first x one bytes in front_below n (a * 256 + x) (b * 256) one [] (bytes_after x one bytes) bytes' (omega arith)
front_below (suc n) a b (x ∷ one) (y ∷ other) bytes bytes' low =
    let small : x < 256 = byte_first x one bytes in front_below n (a * 256 + x) (b * 256 + y) one other (bytes_after x one bytes) (bytes_after y other bytes') (omega arith)

cmp_less : (x y : ℕ) → x < y → nat_cmp x y ≡ Less
cmp_less x y low = grind (arith, nat_tests)

cmp_equal : (x y : ℕ) → x ≡ y → nat_cmp x y ≡ Equal
cmp_equal x y same = grind (arith, nat_tests)

-- which of two numbers is lower
pub data Compared (x y : ℕ) : Type 0 where
  lower : x < y → Compared x y
  same : x ≡ y → Compared x y
  higher : y < x → Compared x y

compared_by : (x y : ℕ) (b c : Bool) → nat_lt x y ≡ b → (x == y) ≡ c → Compared x y
compared_by x y true c e f = lower (grind (arith, nat_tests))
compared_by x y false true e f = same (grind (arith, nat_tests))
compared_by x y false false e f = higher (grind (arith, nat_tests))

pub compared : (x y : ℕ) → Compared x y
compared x y = compared_by x y (nat_lt x y) (x == y) refl refl

-- if n digits after the same number give a lower number, their text is less
abbrev Orders : ℕ → Type 0
Orders n = (a : ℕ) (one other : Text) → AreBytes one → AreBytes other → front_from a n one < front_from a n other → text_cmp one other ≡ Less

not_before : (text : Text) → text_cmp text [] ≡ Less → ⊥
not_before [] e = cc
not_before (z ∷ text) e = cc

-- a text that goes on does not have a lower front than one that has ended
ended : (n a x : ℕ) (one : Text) → Orders n → AreBytes (x ∷ one) → AreBytes [] → front_from (a * 256 + x) n one < front_from (a * 256) n [] → Compared x 0 → ⊥
ended n a x one orders bytes none low (lower below) = omega arith
ended n a x one orders bytes none low (same is) =
    let zero_digit : a * 256 + x ≡ a * 256 = omega arith in
    not_before one (orders (a * 256) one [] (bytes_after x one bytes) none (subst (λ d. front_from d n one < front_from (a * 256) n []) zero_digit low))
ended n a x one orders bytes none low (higher above) =
    let there = front_below n (a * 256) (a * 256 + x) [] one none (bytes_after x one bytes) (omega arith) in omega arith

-- two texts that both go on
digits : (n a x y : ℕ) (one other : Text) → Orders n → AreBytes (x ∷ one) → AreBytes (y ∷ other) → front_from (a * 256 + x) n one < front_from (a * 256 + y) n other → Compared x y → text_cmp (x ∷ one) (y ∷ other) ≡ Less
digits n a x y one other orders bytes bytes' low (lower below) = ap (λ o. ordering_then o (text_cmp one other)) (cmp_less x y below)
digits n a x y one other orders bytes bytes' low (same is) =
    let here = subst (λ d. front_from (a * 256 + d) n one < front_from (a * 256 + y) n other) is low in
    ap (λ o. ordering_then o (text_cmp one other)) (cmp_equal x y is) ∙ orders (a * 256 + y) one other (bytes_after x one bytes) (bytes_after y other bytes') here
digits n a x y one other orders bytes bytes' low (higher above) =
    let there = front_below n (a * 256 + y) (a * 256 + x) other one (bytes_after y other bytes') (bytes_after x one bytes) (omega arith) in absurd (omega arith)

-- a text with a lower front comes first
pub front_orders : (n : ℕ) → Orders n
front_orders zero a one other bytes bytes' low = absurd (omega arith)
front_orders (suc n) a [] [] bytes bytes' low = absurd (omega arith)
front_orders (suc n) a [] (y ∷ other) bytes bytes' low = refl
front_orders (suc n) a (x ∷ one) [] bytes bytes' low = absurd (ended n a x one (front_orders n) bytes bytes' low (compared x 0))
front_orders (suc n) a (x ∷ one) (y ∷ other) bytes bytes' low = digits n a x y one other (front_orders n) bytes bytes' low (compared x y)

-- ---- the digits one after another

pub front_step : (number n : ℕ) (text : Text) → front_from number (suc n) text ≡ front_from (number * 256 + get_or text 0 0) n (drop 1 text)
front_step number n [] = ap (λ k. front_from k n []) (sym (add-zero (number * 256)))
front_step number n (b ∷ text) = refl

-- the digit at a position, and the digits after it
pub front_next : (number at left : ℕ) (text : Text) → left ≡ 8 - at → at < 8 → front_from (number * 256 + get_or text at 0) (8 - (at + 1)) (drop (at + 1) text) ≡ front_from number (8 - at) (drop at text)
front_next number at left text is small =
    let n = 8 - (at + 1) in
    let more : 8 - at ≡ suc n = omega arith in
    let here : get_or (drop at text) 0 0 ≡ get_or text at 0 = get_or-drop at text 0 0 ∙ ap (λ k. get_or text k 0) (add-zero at) in
    let past : drop 1 (drop at text) ≡ drop (at + 1) text = drop-drop 1 at text in
    sym (ap (λ k. front_from number k (drop at text)) more ∙ front_step number n (drop at text) ∙ ap (λ d. front_from (number * 256 + d) n (drop 1 (drop at text))) here ∙ ap (front_from (number * 256 + get_or text at 0) n) past)

-- a number with one more digit still fits in 64 bits
pub one_more_digit : (number at digit : ℕ) → at < 8 → number < 2 ^ (8 * at) → digit < 256 → (number * 256 + digit < 2 ^ (8 * (at + 1))) × (number * 256 + digit < 2 ^ 64)
one_more_digit number at digit few small byte =
    let sum : 8 * (at + 1) ≡ 8 * at + 8 = omega arith in
    let next : 2 ^ (8 * (at + 1)) ≡ 2 ^ (8 * at) * 256 = ap (λ k. 2 ^ k) sum ∙ pow-add 2 (8 * at) 8 in
    let top : 2 ^ (8 * (at + 1)) ≤ 2 ^ 64 = pow_mono {i = 8 * (at + 1)} {j = 64} (omega arith) in (omega arith, omega arith)
