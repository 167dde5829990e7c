-- Digits of sixteen bytes at a time.
--
-- An operation on vectors is a function of each lane, so a vector that is computed from another is a `map` of it. What
-- the function makes of a byte is tried for each of the 256. Digits in pairs are two vectors in turn, `weave`.
use Rattle.std.proofs.Common.{ℕ, zero, ◌≡◌, ◌+◌, ◌*◌, ◌/◌, ◌%◌, ◌^◌, ◌<◌, ◌≤◌, ◌&&◌, ◌||◌, Bool, true, false, not, cond, eqb, eqb-true, leb, leb-true, List, [], ◌∷◌, ◌++◌, Result, Ok, Err, Option, Some, None, is_some, map, length, take, drop, get_or, replicate, slice_index, unwrap_or, refl, sym, ap, ap₂, subst, ◌∙◌, inl, inr, arith}
use Rattle.std.specs.List.{AllPass, list_all, range_with_len}
use Rattle.std.proofs.lemmas.Bool.{agree_below, agree_below_at, and_parts, cases_eq, eq-eqb, ne_eqb}
use Rattle.std.proofs.lemmas.List.{append_assoc, drop-drop, drop-take, drop_at, length-append, length-map, map-append, take-append-drop, take-take, take_all, take_at}
use Rattle.std.proofs.lemmas.List.Folds.{list_all-append}
use Rattle.std.proofs.lemmas.Simd.{Each1-from_get_or, Each1-get_or, chunk-drop, length-chunk, map-map, mask_l-mod, pick_l-range_with_len, pick_l_whole, splat_is_map, zip2_splat}
use lib.Lanes.{Each1, chunk, mask_l, pick_l, sel_l, top, zip2}
use Rattle.hex.specs.declared.error.FromHexError.{FromHexError}
use Rattle.std.specs.Result.{result_unwrap_or}
use Rattle.hex.specs.Hex.{decode_pairs, encode_lower, encode_with, hex_digit_value, is_hex_digit, lower_digits, pair_value, ◌>>=◌}
use Rattle.hex.proofs.Pairs.{cons_byte, decode_pairs-ok_pair, prepend}
use Rattle.lasso_input.specs.Lanes.{digit_lane, number_lane}
use Rattle.lasso_input.proofs.HexDigits.{pair_read}

-- ---- two lists in turn

abbrev pub weave : List ℕ → List ℕ → List ℕ
weave [] ys = []
weave (x ∷ xs) [] = []
weave (x ∷ xs) (y ∷ ys) = x ∷ y ∷ weave xs ys

weave_map : (f : ℕ → ℕ) (xs ys : List ℕ) → map f (weave xs ys) ≡ weave (map f xs) (map f ys)
weave_map f [] ys = refl
weave_map f (x ∷ xs) [] = refl
weave_map f (x ∷ xs) (y ∷ ys) = ap (λ (zs : List ℕ). f x ∷ f y ∷ zs) (weave_map f xs ys)

each_woven : (P : ℕ → Type 0) (xs ys : List ℕ) → length xs ≡ length ys → Each1 P (weave xs ys) → Each1 P xs × Each1 P ys
each_woven P [] [] long each = (tt, tt)
each_woven P [] (y ∷ ys) long each = absurd (omega (arith, long))
each_woven P (x ∷ xs) [] long each = absurd (omega (arith, long))
each_woven P (x ∷ xs) (y ∷ ys) long each =
    let rest = each_woven P xs ys (omega (arith, long)) each.1.1 in
    ((each.0, rest.0), (each.1.0, rest.1))

abbrev firsts : List ℕ
firsts = 0 ∷ 2 ∷ 4 ∷ 6 ∷ 8 ∷ 10 ∷ 12 ∷ 14 ∷ 16 ∷ 18 ∷ 20 ∷ 22 ∷ 24 ∷ 26 ∷ 28 ∷ 30 ∷ []

abbrev seconds : List ℕ
seconds = 1 ∷ 3 ∷ 5 ∷ 7 ∷ 9 ∷ 11 ∷ 13 ∷ 15 ∷ 17 ∷ 19 ∷ 21 ∷ 23 ∷ 25 ∷ 27 ∷ 29 ∷ 31 ∷ []

-- 32 elements are their firsts and seconds in turn
pub taken_apart : (zs : List ℕ) → length zs ≡ 32 → weave (pick_l 0 zs firsts) (pick_l 0 zs seconds) ≡ zs
taken_apart zs long =
    let all : weave firsts seconds ≡ range_with_len 0 32 = refl in
    sym (weave_map (λ k. get_or zs k 0) firsts seconds) ∙ ap (pick_l 0 zs) all ∙ pick_l_whole 0 zs 32 long

abbrev low_turns : List ℕ
low_turns = 0 ∷ 16 ∷ 1 ∷ 17 ∷ 2 ∷ 18 ∷ 3 ∷ 19 ∷ 4 ∷ 20 ∷ 5 ∷ 21 ∷ 6 ∷ 22 ∷ 7 ∷ 23 ∷ []

abbrev high_turns : List ℕ
high_turns = 8 ∷ 24 ∷ 9 ∷ 25 ∷ 10 ∷ 26 ∷ 11 ∷ 27 ∷ 12 ∷ 28 ∷ 13 ∷ 29 ∷ 14 ∷ 30 ∷ 15 ∷ 31 ∷ []

-- two vectors in turn, in two parts
pub put_together : (xs ys : List ℕ) → length xs ≡ 16 → length ys ≡ 16 → pick_l 0 (xs ++ ys) low_turns ++ pick_l 0 (xs ++ ys) high_turns ≡ weave xs ys
put_together xs ys long long' =
    let zs = xs ++ ys in
    let f : ℕ → ℕ = λ k. get_or zs k 0 in
    let all : low_turns ++ high_turns ≡ weave (range_with_len 0 16) (range_with_len 16 16) = refl in
    let total : length zs ≡ 32 = length-append xs ys ∙ omega (arith, long, long') in
    let front : map f (range_with_len 0 16) ≡ xs = pick_l-range_with_len 0 zs 0 16 (omega (arith, total)) ∙ take_at xs ys 16 long in
    let back : map f (range_with_len 16 16) ≡ ys = pick_l-range_with_len 0 zs 16 16 (omega (arith, total)) ∙ ap (take 16) (drop_at xs ys 16 long) ∙ take_all 16 ys (omega (arith, long')) in
    sym (map-append f low_turns high_turns) ∙ ap (map f) all ∙ weave_map f (range_with_len 0 16) (range_with_len 16 16) ∙ ap₂ weave front back

-- ---- lanes

both_mapped : (h : ℕ → ℕ → ℕ) (f g : ℕ → ℕ) (v : List ℕ) → zip2 h (map f v) (map g v) ≡ map (λ x. h (f x) (g x)) v
both_mapped h f g [] = refl
both_mapped h f g (x ∷ v) = ap (λ (r : List ℕ). h (f x) (g x) ∷ r) (both_mapped h f g v)

pub joined : (h : ℕ → ℕ → ℕ) (f g : ℕ → ℕ) (v : List ℕ) {a b : List ℕ} → a ≡ map f v → b ≡ map g v → zip2 h a b ≡ map (λ x. h (f x) (g x)) v
joined h f g v p q = ap₂ (zip2 h) p q ∙ both_mapped h f g v

pub itself : (v : List ℕ) → v ≡ map (λ x. x) v
itself [] = refl
itself (x ∷ v) = ap (λ r. x ∷ r) (itself v)

-- a lane's choice between two numbers
pub chosen : (p : ℕ → Bool) (v : List ℕ) (n y z : ℕ) → length v ≡ n → sel_l (map p v) (replicate n y) (replicate n z) ≡ map (λ x. cond (p x) y z) v
chosen p [] n y z long = refl
chosen p (x ∷ v) n y z long =
    ap (λ k. sel_l (map p (x ∷ v)) (replicate k y) (replicate k z)) (sym long) ∙ ap (λ r. cond (p x) y z ∷ r) (chosen p v (length v) y z refl)

splat_is : (v : List ℕ) (n y : ℕ) → length v ≡ n → replicate n y ≡ map (λ _. y) v
splat_is v n y long = splat_is_map v n y long

pub map_same : (f g : ℕ → ℕ) (P : ℕ → Type 0) → ((x : ℕ) → P x → f x ≡ g x) → (v : List ℕ) → Each1 P v → map f v ≡ map g v
map_same f g P same [] each = refl
map_same f g P same (x ∷ v) each = ap₂ (λ y (r : List ℕ). y ∷ r) (same x each.0) (map_same f g P same v each.1)

-- a vector that is computed lane by lane, by a function that is another one at each byte
pub lanes_are : (z v : List ℕ) (f g : ℕ → ℕ) → z ≡ map f v → Each1 (λ x. x < 256) v → agree_below (λ x. eqb (f x) (g x)) (λ _. true) 256 ≡ true → z ≡ map g v
lanes_are z v f g is small same =
    is ∙ map_same f g (λ x. x < 256) (λ x below. eqb-true (f x) (g x) (agree_below_at (λ y. eqb (f y) (g y)) (λ _. true) 256 x same below)) v small

-- the comparison of two lanes: the first is at most the second
abbrev at_most : ℕ → ℕ → ℕ
at_most a b = cond (leb a b) 255 0

-- a choice between two numbers, by whether a lane is at least a third one
pub choice_is : (v : List ℕ) (k y z : ℕ) → length v ≡ 16 → sel_l (map (top 7) (zip2 at_most (replicate 16 k) v)) (replicate 16 y) (replicate 16 z) ≡ map (λ x. cond (top 7 (at_most k x)) y z) v
choice_is v k y z long =
    let tests : map (top 7) (zip2 at_most (replicate 16 k) v) ≡ map (λ x. top 7 (at_most k x)) v =
    ap (map (top 7)) (joined at_most (λ _. k) (λ x. x) v (splat_is v 16 k long) (itself v)) ∙ map-map (top 7) (at_most k) v in
    ap (λ (ms : List Bool). sel_l ms (replicate 16 y) (replicate 16 z)) tests ∙ chosen (λ x. top 7 (at_most k x)) v 16 y z long

none_by : (b : Bool) (m : ℕ) (all : Bool) → eqb m 0 ≡ all → eqb (cond b 1 zero + 2 * m) 0 ≡ (not b && all)
none_by true m all is = ne_eqb _ _ (omega arith)
none_by false m all is = elim (cases_eq m 0) [
  | inl none ↦ eq-eqb _ _ (omega arith) ∙ sym (eq-eqb m 0 none) ∙ is
  | inr some ↦ ne_eqb _ _ (omega arith) ∙ sym (ne_eqb m 0 some) ∙ is
]

-- whether no bit is set
pub none_set : (p : ℕ → Bool) (v : List ℕ) → eqb (mask_l (map p v)) 0 ≡ list_all (λ x. not (p x)) v
none_set p [] = refl
none_set p (x ∷ v) = none_by (p x) (mask_l (map p v)) (list_all (λ x. not (p x)) v) (none_set p v)

all_same : (p q : ℕ → Bool) → agree_below p q 256 ≡ true → (v : List ℕ) → Each1 (λ x. x < 256) v → list_all p v ≡ list_all q v
all_same p q same [] small = refl
all_same p q same (x ∷ v) small = ap₂ (λ b c. b && c) (agree_below_at p q 256 x same small.0) (all_same p q same v small.1)

-- whether no lane is set, if those are set that fail a test
pub test_is : (z v : List ℕ) (f : ℕ → ℕ) (q : ℕ → Bool) → z ≡ map f v → length v ≡ 16 → Each1 (λ x. x < 256) v → agree_below (λ x. not (top 7 (f x))) q 256 ≡ true
    → eqb (mask_l (map (top 7) z) % 2 ^ 64) 0 ≡ list_all q v
test_is z v f q is long small same =
    let lanes : map (top 7) z ≡ map (λ x. top 7 (f x)) v = ap (map (top 7)) is ∙ map-map (top 7) f v in
    let few : length (map (λ x. top 7 (f x)) v) ≤ 64 = omega (arith, length-map v (λ x. top 7 (f x)), long) in
    ap (λ (ms : List Bool). eqb (mask_l ms % 2 ^ 64) 0) lanes ∙ ap (λ k. eqb k 0) (mask_l-mod (map (λ x. top 7 (f x)) v) 64 few)
    ∙ none_set (λ x. top 7 (f x)) v ∙ all_same (λ x. not (top 7 (f x))) q same v small

-- ---- the digits of bytes

pub woven_digits : (v : List ℕ) → weave (map (λ b. slice_index lower_digits (b / 16)) v) (map (λ b. slice_index lower_digits (b % 16)) v) ≡ encode_lower v
unfolding encode_with
woven_digits [] = refl
woven_digits (b ∷ v) = ap (λ (ds : List ℕ). slice_index lower_digits (b / 16) ∷ slice_index lower_digits (b % 16) ∷ ds) (woven_digits v)

pub encode-append : (xs ys : List ℕ) → encode_lower (xs ++ ys) ≡ encode_lower xs ++ encode_lower ys
unfolding encode_with
encode-append [] ys = refl
encode-append (b ∷ xs) ys = ap (λ (ds : List ℕ). slice_index lower_digits (b / 16) ∷ slice_index lower_digits (b % 16) ∷ ds) (encode-append xs ys)

pub digit_is : (n : ℕ) → n < 16 → digit_lane n ≡ slice_index lower_digits n
digit_is n small = eqb-true _ _ (agree_below_at (λ x. eqb (digit_lane x) (slice_index lower_digits x)) (λ _. true) 16 n refl small)

-- ---- the bytes of digits

abbrev pub IsDigitByte : ℕ → Type 0
IsDigitByte d = (d < 256) × (is_hex_digit d ≡ true)

abbrev number_test : ℕ → Bool
number_test d = not (is_hex_digit d) || (eqb (unwrap_or (hex_digit_value d) 0) (number_lane d) && leb (number_lane d) 15)

some_by : (o : Option ℕ) → is_some o ≡ true → o ≡ Some (unwrap_or o 0)
some_by None is = absurd (cc)
some_by (Some x) is = refl

pub number_is : (d : ℕ) → IsDigitByte d → (hex_digit_value d ≡ Some (number_lane d)) × (number_lane d < 16)
number_is d digit =
    let rest : Bool = eqb (unwrap_or (hex_digit_value d) 0) (number_lane d) && leb (number_lane d) 15 in
    let test = agree_below_at number_test (λ _. true) 256 d refl digit.0 in
    let holds : rest ≡ true = sym (ap (λ b. not b || rest) digit.1) ∙ test in
    let parts = and_parts (eqb (unwrap_or (hex_digit_value d) 0) (number_lane d)) (leb (number_lane d) 15) holds in (
      some_by (hex_digit_value d) digit.1 ∙ ap Some (eqb-true _ _ parts.0),
      omega (arith, leb-true _ _ parts.1),
    )

-- the byte of two digits
abbrev pub byte_lane : ℕ → ℕ → ℕ
byte_lane high low = number_lane high * 16 + number_lane low

pub woven_bytes : (i : ℕ) (hs ls : List ℕ) → length hs ≡ length ls → Each1 IsDigitByte hs → Each1 IsDigitByte ls → decode_pairs i (weave hs ls) ≡ Ok (zip2 byte_lane hs ls)
unfolding decode_pairs
woven_bytes i [] [] long high low = refl
woven_bytes i [] (l ∷ ls) long high low = absurd (omega (arith, long))
woven_bytes i (h ∷ hs) [] long high low = absurd (omega (arith, long))
woven_bytes i (h ∷ hs) (l ∷ ls) long high low =
    let pair = pair_read h l i (number_lane h) (number_lane l) (number_is h high.0).0 (number_is l low.0).0 in
    decode_pairs-ok_pair i h l (byte_lane h l) (weave hs ls) pair ∙ ap (cons_byte (byte_lane h l)) (woven_bytes (i + 2) hs ls (omega (arith, long)) high.1 low.1)

-- as lanes compute it
pub bytes_are : (hs ls : List ℕ) → Each1 IsDigitByte hs → Each1 IsDigitByte ls
    → zip2 (λ a b. (a + b) % 256) (map (λ x. x * 16 % 256) (map number_lane hs)) (map number_lane ls) ≡ zip2 byte_lane hs ls
bytes_are [] ls high low = refl
bytes_are (h ∷ hs) [] high low = refl
bytes_are (h ∷ hs) (l ∷ ls) high low =
    let one = (number_is h high.0).1 in
    let two = (number_is l low.0).1 in
    ap₂ (λ x (r : List ℕ). x ∷ r) (omega (arith, one, two)) (bytes_are hs ls high.1 low.1)

nothing_before : (r : Result (List ℕ) FromHexError) → r ≡ prepend [] r
nothing_before (Ok rest) = refl
nothing_before (Err e) = refl

one_before : (b : ℕ) (front : List ℕ) (r : Result (List ℕ) FromHexError) → cons_byte b (prepend front r) ≡ prepend (b ∷ front) r
one_before b front (Ok rest) = refl
one_before b front (Err e) = refl

both_before : (one two : List ℕ) (r : Result (List ℕ) FromHexError) → prepend one (prepend two r) ≡ prepend (one ++ two) r
both_before one two (Ok rest) = ap Ok (sym (append_assoc one two rest))
both_before one two (Err e) = refl

pair_parts : (r : Result ℕ FromHexError) (q : Result (List ℕ) FromHexError) (out : List ℕ) → (r >>= (λ byte. q >>= (λ bytes. Ok (byte ∷ bytes)))) ≡ Ok out
    → (byte : ℕ) × (bytes : List ℕ) × (r ≡ Ok byte) × (q ≡ Ok bytes) × (byte ∷ bytes ≡ out)
pair_parts (Ok byte) (Ok bytes) out is = (byte, bytes, refl, refl, ap (λ (r : Result (List ℕ) FromHexError). result_unwrap_or r []) is)
pair_parts (Ok byte) (Err e) out is = absurd (cc)
pair_parts (Err e) q out is = absurd (cc)

front_more : (at n : ℕ) (xs : List ℕ) → take at xs ++ chunk at n xs ≡ take (at + n) xs
front_more at n xs =
    ap₂ (λ (f g : List ℕ). f ++ g) (sym (take-take at (at + n) xs (omega arith))) (sym (drop-take at n xs)) ∙ take-append-drop at (take (at + n) xs)

pub each_both : (P : ℕ → Type 0) (xs ys : List ℕ) → Each1 P xs → Each1 P ys → Each1 P (xs ++ ys)
each_both P [] ys each each' = each'
each_both P (x ∷ xs) ys each each' = (each.0, each_both P xs ys each.1 each')

-- the bytes of two vectors of digits
pub block_bytes : (zs one two : List ℕ) → length zs ≡ 32 → Each1 (λ x. x < 256) zs → AllPass is_hex_digit zs → one ≡ map number_lane (pick_l 0 zs firsts) → two ≡ map number_lane (pick_l 0 zs seconds)
    → (i : ℕ) → decode_pairs i zs ≡ Ok (zip2 (λ a b. (a + b) % 256) (zip2 (λ a b. a * 2 ^ b % 256) one (replicate 16 4)) two)
block_bytes zs one two long small proper one_is two_is i =
    let hs = pick_l 0 zs firsts in
    let ls = pick_l 0 zs seconds in
    let apart = taken_apart zs long in
    let each : Each1 IsDigitByte zs = Each1-from_get_or IsDigitByte zs 0 (λ k inside. (Each1-get_or (λ x. x < 256) zs k 0 inside small, proper k 0 inside)) in
    let parts = each_woven IsDigitByte hs ls refl (subst (Each1 IsDigitByte) (sym apart) each) in
    let shifted = zip2_splat (λ a b. a * 2 ^ b % 256) (map number_lane hs) 16 4 refl in
    let value : zip2 (λ a b. (a + b) % 256) (zip2 (λ a b. a * 2 ^ b % 256) one (replicate 16 4)) two ≡ zip2 byte_lane hs ls =
    ap₂ (λ (xs ys : List ℕ). zip2 (λ a b. (a + b) % 256) (zip2 (λ a b. a * 2 ^ b % 256) xs (replicate 16 4)) ys) one_is two_is
    ∙ ap (λ (xs : List ℕ). zip2 (λ a b. (a + b) % 256) xs (map number_lane ls)) shifted ∙ bytes_are hs ls parts.0 parts.1 in
    ap (decode_pairs i) (sym apart) ∙ woven_bytes i hs ls refl parts.0 parts.1 ∙ ap Ok (sym value)

-- what is read before more digits
pub read_both : (i : ℕ) (s t out : List ℕ) → decode_pairs i s ≡ Ok out → decode_pairs i (s ++ t) ≡ prepend out (decode_pairs (i + length s) t)
unfolding decode_pairs
read_both i [] t out read =
    let none : [] ≡ out = ap (λ (r : Result (List ℕ) FromHexError). result_unwrap_or r []) read in
    ap (λ k. decode_pairs k t) (omega arith) ∙ nothing_before (decode_pairs (i + 0) t) ∙ ap (λ (f : List ℕ). prepend f (decode_pairs (i + 0) t)) none
read_both i (a ∷ []) t out read = absurd (cc)
read_both i (a ∷ b ∷ s) t out read =
    let parts = pair_parts (pair_value a b i) (decode_pairs (i + 2) s) out read in
    let more : i + 2 + length s ≡ i + length (a ∷ b ∷ s) = omega arith in
    decode_pairs-ok_pair i a b parts.0 (s ++ t) parts.2
    ∙ ap (cons_byte parts.0) (read_both (i + 2) s t parts.1 parts.3 ∙ ap (λ k. prepend parts.1 (decode_pairs k t)) more)
    ∙ one_before parts.0 parts.1 (decode_pairs (i + length (a ∷ b ∷ s)) t) ∙ ap (λ (f : List ℕ). prepend f (decode_pairs (i + length (a ∷ b ∷ s)) t)) parts.4

-- two vectors that follow each other
pub two_chunks : (at : ℕ) (s : List ℕ) → chunk at 16 s ++ chunk (at + 16) 16 s ≡ chunk at 32 s
two_chunks at s = ap (λ (d : List ℕ). take 16 (drop at s) ++ take 16 d) (sym (drop-drop 16 at s)) ∙ front_more 16 16 (drop at s)

-- a block is read
pub block_read : (s old new out : List ℕ) (at : ℕ) → 2 * at + 32 ≤ length s → take (at + 16) new ≡ take at old ++ out
    → ((i : ℕ) → decode_pairs i (chunk (2 * at) 16 s ++ chunk (2 * at + 16) 16 s) ≡ Ok out)
    → decode_pairs 0 s ≡ prepend (take at old) (decode_pairs (2 * at) (drop (2 * at) s))
    → decode_pairs 0 s ≡ prepend (take (at + 16) new) (decode_pairs (2 * (at + 16)) (drop (2 * (at + 16)) s))
block_read s old new out at inside put read so_far =
    let next : 2 * at + 32 ≡ 2 * (at + 16) = omega arith in
    let long : length (chunk (2 * at) 32 s) ≡ 32 = length-chunk (2 * at) 32 s inside in
    let both = read_both (2 * at) (chunk (2 * at) 32 s) (drop (2 * at + 32) s) out (ap (decode_pairs (2 * at)) (sym (two_chunks (2 * at) s)) ∙ read (2 * at)) in
    so_far ∙ ap (λ (d : List ℕ). prepend (take at old) (decode_pairs (2 * at) d)) (chunk-drop (2 * at) 32 s) ∙ ap (prepend (take at old)) both
    ∙ both_before (take at old) out _ ∙ ap (λ (f : List ℕ). prepend f (decode_pairs (2 * at + length (chunk (2 * at) 32 s)) (drop (2 * at + 32) s))) (sym put)
    ∙ ap (λ k. prepend (take (at + 16) new) (decode_pairs (2 * at + k) (drop (2 * at + 32) s))) long ∙ ap (λ k. prepend (take (at + 16) new) (decode_pairs k (drop k s))) next

-- a block is written
pub block_written : (bytes old new : List ℕ) (at : ℕ) → take (2 * (at + 16)) new ≡ take (2 * at) old ++ encode_lower (chunk at 16 bytes)
    → take (2 * at) old ++ encode_lower (drop at bytes) ≡ encode_lower bytes
    → take (2 * (at + 16)) new ++ encode_lower (drop (at + 16) bytes) ≡ encode_lower bytes
block_written bytes old new at put so_far =
    ap (λ (f : List ℕ). f ++ encode_lower (drop (at + 16) bytes)) put ∙ append_assoc (take (2 * at) old) (encode_lower (chunk at 16 bytes)) (encode_lower (drop (at + 16) bytes))
    ∙ ap (λ (f : List ℕ). take (2 * at) old ++ f) (sym (encode-append (chunk at 16 bytes) (drop (at + 16) bytes)) ∙ ap encode_lower (sym (chunk-drop at 16 bytes))) ∙ so_far

-- a block is tested
pub block_tested : (bytes : List ℕ) (at : ℕ) → list_all is_hex_digit (drop at bytes) ≡ (list_all is_hex_digit (chunk at 16 bytes) && list_all is_hex_digit (drop (at + 16) bytes))
block_tested bytes at = ap (list_all is_hex_digit) (chunk-drop at 16 bytes) ∙ list_all-append is_hex_digit (chunk at 16 bytes) (drop (at + 16) bytes)
