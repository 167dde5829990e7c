-- Decoding gives nulls back.
--
-- The code of nulls is none of the dictionary's, so a code is that of nulls just where its row is a null. The bits of the codes are
-- packed eight to a byte, and dividing a byte by a power of two moves one of them to the front (`bit_of_byte`).
use Rattle.std.proofs.Common.{ℕ, zero, suc, ◌≡◌, ◌+◌, ◌*◌, ◌/◌, ◌%◌, ◌^◌, ◌<◌, ◌≤◌, Bool, true, false, not, nat_eq, if◌then◌else◌, List, [], ◌∷◌, length, map, get_or, slice_get, take, drop, is_some, unwrap_or, Option, Some, None, refl, ap, sym, ◌∙◌, arith, add-one, length-drop}
use Rattle.std.specs.Int.{div_ceil}
use Rattle.std.proofs.Math.Nat.{div-div-eq-div-mul}
use Rattle.std.proofs.lemmas.Bool.Decides.{nat_tests}
use Rattle.std.proofs.lemmas.Grind.{div_ceil_times, pow_more}
use Rattle.std.proofs.lemmas.List.{get_or-drop, get_or-map, get_or-take, length-map, length-take}
use Rattle.std.proofs.lemmas.Option.{get_or_from_slice_get, slice_get_within}
use Rattle.lasso_parts.specs.Texts.{Text, position_of}
use Rattle.lasso_c.specs.Bitmap.{bitmap_of, byte_of, code_bits, present_at}
use Rattle.lasso_c.specs.Layout.{present_texts}
use Rattle.lasso_c.specs.Encoding.{dictionary_of, row_codes}
use Rattle.lasso_c.specs.Decoding.{rows_named}
use Rattle.lasso_c.specs.Laws.{DecodingGivesNullsBack}
use Rattle.lasso_c.proofs.Bits.{bit_small, byte_at, length-bytes_of}
use Rattle.lasso_c.proofs.RoundTrip.{Each, HasCode, all_stand, at_code}

same_code : (n : ℕ) → nat_eq n n ≡ true
same_code n = grind (arith, nat_tests)

other_code : (n null : ℕ) → n < null → nat_eq n null ≡ false
other_code n null below = grind (arith, nat_tests)

-- the code of a present text is below that of nulls
code_below : (null : ℕ) (dictionary : List Text) (text : Text) → length dictionary ≤ null → HasCode dictionary text → unwrap_or (position_of dictionary text) 0 < null
code_below null dictionary text small stands = omega (arith, slice_get_within dictionary (unwrap_or (position_of dictionary text) 0) text (at_code dictionary text stands), small)

named_rows : (null : ℕ) (dictionary : List Text) (rows : List (Option Text)) → length dictionary ≤ null → Each (HasCode dictionary) (present_texts rows) → rows_named (Some null) dictionary (row_codes null dictionary rows) ≡ map (λ (row : Option Text). unwrap_or row []) rows
named_rows null dictionary [] small all = refl
named_rows null dictionary (None ∷ rows) small all =
    ap (λ b. unwrap_or (if b then Some [] else slice_get dictionary null) [] ∷ rows_named (Some null) dictionary (row_codes null dictionary rows)) (same_code null)
    ∙ ap (λ (ts : List Text). [] ∷ ts) (named_rows null dictionary rows small all)
named_rows null dictionary (Some text ∷ rows) small all =
    let code = unwrap_or (position_of dictionary text) 0 in
    let other = other_code code null (code_below null dictionary text small all.0) in
    ap (λ b. unwrap_or (if b then Some [] else slice_get dictionary code) [] ∷ rows_named (Some null) dictionary (row_codes null dictionary rows)) other
    ∙ ap (λ o. unwrap_or o [] ∷ rows_named (Some null) dictionary (row_codes null dictionary rows)) (at_code dictionary text all.0)
    ∙ ap (λ (ts : List Text). text ∷ ts) (named_rows null dictionary rows small all.1)

row_bits : (null : ℕ) (dictionary : List Text) (rows : List (Option Text)) → length dictionary ≤ null → Each (HasCode dictionary) (present_texts rows) → code_bits null (row_codes null dictionary rows) ≡ map (λ (row : Option Text). is_some row) rows
row_bits null dictionary [] small all = refl
row_bits null dictionary (None ∷ rows) small all =
    ap (λ b. not b ∷ code_bits null (row_codes null dictionary rows)) (same_code null) ∙ ap (λ (bs : List Bool). false ∷ bs) (row_bits null dictionary rows small all)
row_bits null dictionary (Some text ∷ rows) small all =
    ap (λ b. not b ∷ code_bits null (row_codes null dictionary rows)) (other_code (unwrap_or (position_of dictionary text) 0) null (code_below null dictionary text small all.0))
    ∙ ap (λ (bs : List Bool). true ∷ bs) (row_bits null dictionary rows small all.1)

-- the number of a bit
abbrev bit_number : Bool → ℕ
bit_number bit = if bit then 1 else 0

twice : (n : ℕ) → n * 2 ≡ 2 * n
twice n = omega arith

first_bit : (v r : ℕ) → v ≤ 1 → (v + 2 * r) / 1 % 2 ≡ v
first_bit v r small = omega arith

other_bits : (v r : ℕ) → v ≤ 1 → (v + 2 * r) / 2 ≡ r
other_bits v r small = omega arith

bit_of_byte : (bits : List Bool) (at : ℕ) → at < length bits → byte_of bits / 2 ^ at % 2 ≡ bit_number (get_or bits at true)
bit_of_byte [] at small = absurd (omega arith)
bit_of_byte (bit ∷ bits) zero small = first_bit (bit_number bit) (byte_of bits) (bit_small bit)
bit_of_byte (bit ∷ bits) (suc at) small =
    let byte = bit_number bit + 2 * byte_of bits in
    let power : 2 ^ suc at ≡ 2 * 2 ^ at = ap (λ n. 2 ^ n) (sym (add-one at)) ∙ pow_more 2 at ∙ twice (2 ^ at) in
    ap (λ n. byte / n % 2) power ∙ ap (λ n. n % 2) (sym (div-div-eq-div-mul byte 2 (2 ^ at))) ∙ ap (λ n. n / 2 ^ at % 2) (other_bits (bit_number bit) (byte_of bits) (bit_small bit)) ∙ bit_of_byte bits at (omega arith)

is_bit : (bit : Bool) → nat_eq (bit_number bit) 1 ≡ bit
is_bit true = refl
is_bit false = refl

-- a bitmap that has bytes
present_is : (bitmap : List ℕ) (at : ℕ) → 0 < length bitmap → present_at bitmap at ≡ nat_eq (get_or bitmap (at / 8) 0 / 2 ^ (at % 8) % 2) 1
present_is [] at there = absurd (omega arith)
present_is (byte ∷ more) at there = refl

-- each bit is read back from the bitmap of the bits
read_back : (bits : List Bool) (at : ℕ) → at < length bits → present_at (bitmap_of bits) at ≡ get_or bits at true
read_back bits at small =
    let count = div_ceil (length bits) 8 in
    let few : length bits ≤ count * 8 = (div_ceil_times (length bits) 8 (omega arith)).0 in
    let byte : at / 8 < count = omega arith in
    let chunk = take 8 (drop (8 * (at / 8)) bits) in
    let found = get_or_from_slice_get (bitmap_of bits) (at / 8) (byte_of chunk) 0 (byte_at count bits (at / 8) byte) in
    let within : at % 8 < length chunk = omega (arith, length-take 8 (drop (8 * (at / 8)) bits), length-drop (8 * (at / 8)) bits) in
    let here : 8 * (at / 8) + at % 8 ≡ at = omega arith in
    let is : get_or chunk (at % 8) true ≡ get_or bits at true = get_or-take 8 (drop (8 * (at / 8)) bits) (at % 8) true (omega arith) ∙ get_or-drop (8 * (at / 8)) bits (at % 8) true ∙ ap (λ n. get_or bits n true) here in
    present_is (bitmap_of bits) at (omega (arith, length-bytes_of count bits, byte))
    ∙ ap (λ n. nat_eq (n / 2 ^ (at % 8) % 2) 1) found
    ∙ ap (λ n. nat_eq n 1) (bit_of_byte chunk (at % 8) within)
    ∙ is_bit (get_or chunk (at % 8) true)
    ∙ is

pub gives_nulls_back : DecodingGivesNullsBack
gives_nulls_back null rows small =
    let dictionary = dictionary_of (present_texts rows) in
    let all = all_stand [] (present_texts rows) in
    let bits = row_bits null dictionary rows small all in
    let shown : List Bool = map (λ (row : Option Text). is_some row) rows in
    record {
      named = named_rows null dictionary rows small all;
      present = λ at within.
          ap (λ (bs : List Bool). present_at (bitmap_of bs) at) bits
          ∙ read_back shown at (omega (arith, within, length-map rows (λ (row : Option Text). is_some row)))
          ∙ get_or-map (λ (row : Option Text). is_some row) rows at None true within;
    }
