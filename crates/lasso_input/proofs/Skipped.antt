-- Why a walk over line feeds passes over lines.
--
-- The walk goes from the end of one line to the next line feed. Between them there is none, so the bytes between
-- are a line.
use Rattle.std.proofs.Common.{ℕ, ◌≡◌, ◌≢◌, ◌+◌, ◌-◌, ◌%◌, ◌^◌, ◌<◌, ◌≤◌, ◌==◌, ◌⊎◌, Bool, true, false, cond, eqb, List, [], ◌∷◌, ◌++◌, length, map, take, drop, get_or, Some, refl, sym, ap, subst, ◌∙◌, arith, append_assoc, length-drop, ⊎_elim}
use Rattle.std.specs.Int.{bit_at}
use Rattle.std.specs.List.{slice_index}
use Rattle.std.proofs.lemmas.Bool.{cases_lt}
use Rattle.std.proofs.lemmas.Bool.{true≢false}
use Rattle.std.proofs.lemmas.List.{length_push, get_or-drop, drop-drop, get_or_past}
use Rattle.std.proofs.lemmas.Simd.{bit_mask_l, get_or-chunk, length-chunk}
use Rattle.std.proofs.Math.ListN.{get_or-map}
use Rattle.std.proofs.Math.Nat.{zero-div}
use Rattle.std.specs.Simd.Lanes.{chunk, mask_l}
use Rattle.memchr.specs.Find.{IsFirstByte, Nowhere, Passes, is_byte}
use Rattle.lasso_input.specs.Lines.{lines_of}
use Rattle.lasso_input.specs.Skipping.{AreSkipped, FeedBits}
use Rattle.lasso_input.proofs.FirstLines.{lines_first}

abbrev pub IsFeed : List ℕ → ℕ → Type 0
IsFeed bytes k = Passes (is_byte 10) bytes k

-- so many lines end before `end`, and from there up to `at` is no line feed
pub record Passing (bytes : List ℕ) (count end at : ℕ) : Type 0 where
  pub skipped : AreSkipped bytes count (drop end bytes)
  pub inside : end ≤ length bytes
  pub feed : 0 < count → (0 < end) × (slice_index bytes (end - 1) == 10 ≡ true)
  pub none : Nowhere (IsFeed bytes) end at

pub passing_none : (bytes : List ℕ) → Passing bytes 0 0 0
passing_none bytes = record {
  skipped = ([], refl, refl);
  inside = omega arith;
  feed = λ some. absurd (omega (arith, some));
  none = λ k low high. absurd (omega (arith, high));
}

one_more : (bytes rest after : List ℕ) (line : List ℕ) (count : ℕ) → AreSkipped bytes count rest → lines_of rest ≡ line ∷ lines_of after → AreSkipped bytes (count + 1) after
one_more bytes rest after line count (lines, long, are) cut =
    (lines ++ line ∷ [], length_push lines line ∙ ap (λ n. n + 1) long, are ∙ ap (λ ls. lines ++ ls) cut ∙ sym (append_assoc lines (line ∷ []) (lines_of after)))

-- one or the other
before_or : (j at : ℕ) → (j < at) ⊎ (at ≤ j)
before_or j at = cases_lt j at

no_bit : (k : ℕ) → bit_at 0 k ≡ 0
no_bit k = ap (λ n. n % 2) (zero-div (2 ^ k))

bit_tells : (b : Bool) → cond {A = ℕ} b 1 0 ≡ 1 → b ≡ true
bit_tells true e = refl
bit_tells false e = absurd (omega arith)

-- the bits of a vector's comparison with a line feed
pub feed_bits : (bytes : List ℕ) (at : ℕ) → at + 32 ≤ length bytes → FeedBits bytes at at (mask_l (map (λ x. eqb x 10) (chunk at 32 bytes)))
feed_bits bytes at room =
    let lanes = chunk at 32 bytes in
    let test : ℕ → Bool = λ x. eqb x 10 in
    let long : length lanes ≡ 32 = length-chunk at 32 bytes room in
    let told : (k : ℕ) → bit_at (mask_l (map test lanes)) k ≡ cond (test (get_or lanes k 0)) 1 0 = λ k. bit_mask_l (map test lanes) k ∙ ap (λ b. cond b 1 0) (get_or-map test lanes k 0) in
    let read : (k : ℕ) → k < 32 → get_or lanes k 0 ≡ get_or bytes (at + k) 0 = λ k small. get_or-chunk at 32 bytes k 0 small in
    let inside : (k : ℕ) → bit_at (mask_l (map test lanes)) k ≡ 1 → (k < 32) ⊎ (32 ≤ k) → k < 32 = λ k one which. ⊎_elim (λ low. low) (λ high. let past = bit_tells (test (get_or lanes k 0)) (sym (told k) ∙ one) in absurd (true≢false (sym past ∙ ap test (get_or_past lanes k 0 (omega (arith, long, high)))))) which in
    record {
      set = λ k small _ is. told k ∙ ap (λ b. cond {A = ℕ} b 1 0) (ap test (read k small) ∙ is);
      only = λ k one.
          let small = inside k one (cases_lt k 32) in
          (small, omega arith, sym (ap test (read k small)) ∙ bit_tells (test (get_or lanes k 0)) (sym (told k) ∙ one));
    }

module _ (bytes : List ℕ) (count end at bits : ℕ) (now : Passing bytes count end at) (marks : FeedBits bytes at end bits) (room : at + 32 ≤ length bytes) where
  -- where no bit is set below this place
  none_below : (top : ℕ) → top ≤ 32 → ((k : ℕ) → k < top → bit_at bits k ≡ 0) → Nowhere (IsFeed bytes) end (at + top)
  none_below top few clear = λ j low high is. ⊎_elim
      (λ before. now.none j low before is)
      (λ after.
      let k = j - at in
      let same : at + k ≡ j = omega (arith, after) in
      let small : k < top = omega (arith, after, high) in
      let set = marks.set k (omega (arith, small, few)) (omega (arith, same, low)) (subst (IsFeed bytes) (sym same) is) in
      let none = clear k small in
      absurd (omega (arith, sym none ∙ set)))
      (before_or j at)

  -- the lowest bit that is set is where the next line ends
  pub passing_more : (bit : ℕ) → bit_at bits bit ≡ 1 → ((k : ℕ) → k < bit → bit_at bits k ≡ 0) → Passing bytes (count + 1) (at + bit + 1) at
  passing_more bit set below =
      let only = marks.only bit set in
      let rest = drop end bytes in
      let p = at + bit - end in
      let same : end + p ≡ at + bit = omega (arith, only.1) in
      let nowhere = none_below bit (omega (arith, only.0)) below in
      let read : (k : ℕ) → slice_index rest k ≡ slice_index bytes (end + k) = λ k. get_or-drop end bytes k 0 in
      let found : IsFirstByte (is_byte 10) rest (Some p) = (
        record {
          low = omega arith;
          high = omega (arith, length-drop end bytes, same, room, only.0);
          before = λ k low high is. nowhere (end + k) (omega arith) (omega (arith, high, same)) (subst (λ b. b == 10 ≡ true) (read k) is);
        },
        subst (λ b. b == 10 ≡ true) (sym (read p ∙ ap (λ n. slice_index bytes n) same)) only.2,
      ) in
      let after : drop (p + 1) rest ≡ drop (at + bit + 1) bytes = drop-drop (p + 1) end bytes ∙ ap (λ n. drop n bytes) (omega (arith, same)) in
      let cut = lines_first rest (take p rest) (drop (p + 1) rest) p found refl refl in
      let last : at + bit ≡ at + bit + 1 - 1 = omega arith in
      record {
        skipped = subst (AreSkipped bytes (count + 1)) after (one_more bytes rest (drop (p + 1) rest) (take p rest) count now.skipped cut);
        inside = omega (arith, room, only.0);
        feed = λ _. (omega arith, subst (λ n. slice_index bytes n == 10 ≡ true) last only.2);
        none = λ k low high. absurd (omega (arith, low, high));
      }

  -- and its bit is taken away
  pub bits_less : (bit bits' : ℕ) → bit_at bits bit ≡ 1 → ((k : ℕ) → k < bit → bit_at bits k ≡ 0) → ((k : ℕ) → k < 64 → k ≢ bit → bit_at bits' k ≡ bit_at bits k) → ((k : ℕ) → bit_at bits' k ≡ 1 → bit_at bits k ≡ 1) → bit_at bits' bit ≡ 0 → FeedBits bytes at (at + bit + 1) bits'
  bits_less bit bits' set below kept no_more gone = record {
    set = λ k small low is. kept k (omega (arith, small)) (λ same. omega (arith, low, same)) ∙ marks.set k small (omega (arith, low, (marks.only bit set).1)) is;
    only = λ k one.
        let was = no_more k one in
        let had = marks.only k was in
        let past : ((k < bit) ⊎ (bit ≤ k)) → ((bit < k) ⊎ (k ≤ bit)) → bit < k = λ low high. ⊎_elim
        (λ less. absurd (omega (arith, sym (below k less) ∙ was)))
        (λ from. ⊎_elim (λ more. more) (λ to. let is : bit ≡ k = omega (arith, from, to) in absurd (omega (arith, sym (subst (λ n. bit_at bits' n ≡ 0) is gone) ∙ one))) high)
        low in
        let above = past (cases_lt k bit) (cases_lt bit k) in
        (had.0, omega (arith, above), had.2);
  }

  -- no bit is left
  pub passing_block : bits ≡ 0 → Passing bytes count end (at + 32)
  passing_block empty = record {
    skipped = now.skipped;
    inside = now.inside;
    feed = now.feed;
    none = none_below 32 (omega arith) (λ k _. subst (λ n. bit_at n k ≡ 0) (sym empty) (no_bit k));
  }
