-- Bits in a byte, and bytes in a bitmap.
--
-- A byte is made from its last bit to its first: what was made of the later bits is doubled, and the next bit is added. So after as
-- many steps it is below that power of two (`byte_small`).
use mir.Val.{bool_byte}
use Rattle.std.proofs.Common.{ℕ, zero, suc, ◌≡◌, ◌+◌, ◌-◌, ◌*◌, ◌^◌, ◌<◌, ◌≤◌, inl, inr, Bool, true, false, not, min, nat_eq, if◌then◌else◌, List, [], ◌∷◌, ◌++◌, length, map, get_or, set, slice_get, take, drop, Some, refl, ap, sym, subst, ◌∙◌, lit<, lit≤, add-one, arith, length-drop}
use Rattle.std.specs.Int.{div_ceil}
use Rattle.std.specs.List.{slice_range}
use Rattle.std.proofs.Math.Nat.{pow-le-pow_right}
use Rattle.std.proofs.lemmas.Bool.{cases_lt}
use Rattle.std.proofs.lemmas.Grind.{pow_more}
use Rattle.std.proofs.lemmas.List.{drop-drop, drop-map, length-map, length-take-le, take_all, take_more, take-map}
use Rattle.std.proofs.lemmas.Option.{get_or_from_slice_get, slice_get_within}
use Rattle.lasso_c.specs.Bitmap.{bitmap_of, byte_of, bytes_of, code_bits}
use Rattle.lasso_c.specs.Layout.{over}
use Rattle.lasso_c.proofs.Writing.{over_push}

-- the number of a bit
pub bit_is : (bit : Bool) → bool_byte bit ≡ (if bit then 1 else 0)
bit_is true = refl
bit_is false = refl

pub bit_small : (bit : Bool) → (if bit then 1 else 0) ≤ 1
bit_small true = lit≤ tt
bit_small false = lit≤ tt

pub byte_small : (bits : List Bool) → byte_of bits < 2 ^ length bits
byte_small [] = lit< tt
byte_small (bit ∷ bits) =
    let power : 2 ^ suc (length bits) ≡ 2 ^ length bits * 2 = ap (λ n. 2 ^ n) (sym (add-one (length bits))) ∙ pow_more 2 (length bits) in
    omega (arith, power, byte_small bits, bit_small bit)

-- the bit of a code before those after it
pub byte_step : (null : ℕ) (codes : List ℕ) (at : ℕ) → at < length codes → byte_of (drop at (code_bits null codes)) ≡ (if not (nat_eq (get_or codes at 0) null) then 1 else 0) + 2 * byte_of (drop (suc at) (code_bits null codes))
byte_step null [] at small = absurd (omega arith)
byte_step null (code ∷ codes) zero small = refl
byte_step null (code ∷ codes) (suc at) small = byte_step null codes at (omega arith)

-- the bytes of at most seven codes can be doubled
pub byte_room : (null : ℕ) (codes : List ℕ) (at : ℕ) → length codes ≤ at + 7 → byte_of (drop at (code_bits null codes)) < 128
byte_room null codes at few =
    let bits = drop at (code_bits null codes) in
    let count : length bits ≤ 7 = omega (arith, length-drop at (code_bits null codes), length-map codes (λ code. not (nat_eq code null))) in
    omega (arith, byte_small bits, pow-le-pow_right {n = 2} (lit< tt) count)

pub length-bytes_of : (count : ℕ) (bits : List Bool) → length (bytes_of count bits) ≡ count
length-bytes_of zero bits = refl
length-bytes_of (suc count) bits = ap suc (length-bytes_of count (drop 8 bits))

-- a byte has the eight bits from its own on
pub byte_at : (count : ℕ) (bits : List Bool) (at : ℕ) → at < count → slice_get (bytes_of count bits) at ≡ Some (byte_of (take 8 (drop (8 * at) bits)))
byte_at zero bits at small = absurd (omega arith)
byte_at (suc count) bits zero small = refl
byte_at (suc count) bits (suc at) small =
    let further : 8 + 8 * at ≡ 8 * suc at = omega arith in
    byte_at count (drop 8 bits) at (omega arith) ∙ ap (λ (bs : List Bool). Some (byte_of (take 8 bs))) (drop-drop (8 * at) 8 bits) ∙ ap (λ n. Some (byte_of (take 8 (drop n bits)))) further

take_either : (bits : List Bool) (first count : ℕ) → count ≡ min (first + 8) (length bits) - first → take count (drop first bits) ≡ take 8 (drop first bits)
take_either bits first count is =
    elim (cases_lt (length bits) (first + 8)) [
      | inl w ↦ take_all count (drop first bits) (omega (arith, length-drop first bits)) ∙ sym (take_all 8 (drop first bits) (omega (arith, length-drop first bits)))
      | inr w ↦ let same : count ≡ 8 = omega arith in ap (λ n. take n (drop first bits)) same
    ]

-- the bits of at most eight codes from one on
pub bits_chunk : (null : ℕ) (codes : List ℕ) (first last : ℕ) → last ≡ min (first + 8) (length codes) → code_bits null (slice_range codes first last) ≡ take 8 (drop first (code_bits null codes))
bits_chunk null codes first last is =
    let bit : ℕ → Bool = λ code. not (nat_eq code null) in
    let same : length (map bit codes) ≡ length codes = length-map codes bit in
    sym (take-map bit (last - first) (drop first codes)) ∙ ap (λ (bs : List Bool). take (last - first) bs) (sym (drop-map bit first codes))
    ∙ take_either (map bit codes) first (last - first) (omega (arith, is, same))

-- the next byte is written after those before it
pub byte_put : (bits : List Bool) (buffer now : List ℕ) (at byte : ℕ) → now ≡ over (take at (bitmap_of bits)) buffer → at < div_ceil (length bits) 8 → at < length buffer → length now ≡ length buffer → byte ≡ byte_of (take 8 (drop (8 * at) bits)) → set now at byte ≡ over (take (at + 1) (bitmap_of bits)) buffer
byte_put bits buffer now at byte written small room same is =
    let whole = bitmap_of bits in
    let count : length whole ≡ div_ceil (length bits) 8 = length-bytes_of (div_ceil (length bits) 8) bits in
    let here : slice_get whole at ≡ Some byte = byte_at (div_ceil (length bits) 8) bits at small ∙ ap (λ n. Some n) (sym is) in
    let many : at ≡ length (take at whole) = sym (length-take-le at whole (omega (arith, count, small))) in
    let more : take (at + 1) whole ≡ take at whole ++ byte ∷ [] = take_more whole at 0 (slice_get_within whole at byte here) ∙ ap (λ n. take at whole ++ n ∷ []) (get_or_from_slice_get whole at byte 0 here) in
    ap (λ (bs : List ℕ). set bs at byte) written
    ∙ over_push (take at whole) buffer at byte many room (subst (λ (bs : List ℕ). at < length bs) written (omega (arith, same)))
    ∙ ap (λ (bs : List ℕ). over bs buffer) (sym more)

-- all bytes are written
pub bytes_whole : (bits : List Bool) (at : ℕ) → div_ceil (length bits) 8 ≤ at → take at (bitmap_of bits) ≡ bitmap_of bits
bytes_whole bits at past = take_all at (bitmap_of bits) (omega (arith, length-bytes_of (div_ceil (length bits) 8) bits, past))
