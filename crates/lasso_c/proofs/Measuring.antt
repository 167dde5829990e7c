-- The sizes of the texts that codes name.
--
-- Each code is asked in turn, and the sizes go on with its text. Where none is refused, each names a text, and the sizes are
-- those of all these texts.
use Rattle.std.proofs.Common.{ℕ, zero, suc, ◌≡◌, ◌+◌, ◌<◌, ◌≤◌, List, [], ◌∷◌, length, get_or, IsOkAnd, slice_get, Option, Some, None, Result, Ok, Err, refl, ap, ◌∙◌, lit≤, arith, length-append}
use Rattle.std.specs.List.{concat}
use Rattle.std.specs.Option.{option_map, unwrap_or}
use Rattle.std.proofs.lemmas.Bool.Decides.{nat_tests}
use Rattle.std.proofs.lemmas.List.{length-map}
use Rattle.std.proofs.lemmas.Option.{slice_get-get_or, slice_get-map}
use Rattle.lasso_parts.specs.Texts.{Text}
use Rattle.lasso_parts.specs.Layout.{greatest_offset}
use Rattle.lasso_c.specs.Decoding.{nothing, rows_named, text_of_code, with_next, unless_refused, measured}
use Rattle.lasso_c.specs.declared.error.Sizes.{Sizes}
use Rattle.lasso_c.specs.declared.error.CallError.TheVariants.{NoSuchCode}

-- the sizes with one text more, which is there
pub record Next (sizes : Sizes) (found : Option Text) (text : Text) (more : Sizes) : Type 0 where
  pub is : found ≡ Some text
  pub texts : more.texts ≡ sizes.texts + 1
  pub bytes : more.bytes ≡ sizes.bytes + length text
  pub small : more.bytes ≤ greatest_offset

next_known : (sizes more : Sizes) (found : Option Text) → with_next sizes found ≡ Ok more → (text : Text) × Next sizes found text more
next_known sizes more None is = let no : Err (NoSuchCode sizes.texts) ≡ Ok more = is in absurd cc
next_known sizes more (Some text) is = (text, record { is = refl; texts = grind (arith, nat_tests); bytes = grind (arith, nat_tests); small = grind (arith, nat_tests) })

both_known : {X Y E : Type 0} (one : Result X E) (next : X → Result Y E) (last : Y) → unless_refused one next ≡ Ok last → (mid : X) × (one ≡ Ok mid) × (next mid ≡ Ok last)
both_known (Ok mid) next last is = (mid, refl, is)
both_known {X} {Y} {E} (Err error) next last is = let no : ◌≡◌ {A = Result Y E} (Err error) (Ok last) = is in absurd cc

-- each code names a text, and `whole` is `sizes` with the sizes of all of these texts added
pub record Measured (null : Option ℕ) (dictionary : List Text) (sizes : Sizes) (codes : List ℕ) (whole : Sizes) : Type 0 where
  pub named : (k : ℕ) → k < length codes → (text : Text) × (text_of_code null dictionary (get_or codes k 0) ≡ Some text)
  pub texts : whole.texts ≡ sizes.texts + length codes
  pub bytes : whole.bytes ≡ sizes.bytes + length (concat (rows_named null dictionary codes))
  pub small : sizes.bytes ≤ greatest_offset → whole.bytes ≤ greatest_offset

named_first : (null : Option ℕ) (dictionary : List Text) (code : ℕ) (codes : List ℕ) (text : Text) → text_of_code null dictionary code ≡ Some text → ((k : ℕ) → k < length codes → (text : Text) × (text_of_code null dictionary (get_or codes k 0) ≡ Some text)) → (k : ℕ) → k < length (code ∷ codes) → (text : Text) × (text_of_code null dictionary (get_or (code ∷ codes) k 0) ≡ Some text)
named_first null dictionary code codes text is others zero small = (text, is)
named_first null dictionary code codes text is others (suc k) small = others k (omega arith)

pub measured_known : (null : Option ℕ) (dictionary : List Text) (sizes : Sizes) (codes : List ℕ) (whole : Sizes) → measured null dictionary sizes codes ≡ Ok whole → Measured null dictionary sizes codes whole
measured_known null dictionary sizes [] whole is =
    let same : sizes ≡ whole = cc in
    record { named = λ k small. absurd (omega arith); texts = omega (arith, ap (λ (s : Sizes). s.texts) same); bytes = omega (arith, ap (λ (s : Sizes). s.bytes) same); small = λ small. omega (arith, ap (λ (s : Sizes). s.bytes) same) }
measured_known null dictionary sizes (code ∷ codes) whole is =
    let found = text_of_code null dictionary code in
    let both = both_known (with_next sizes found) (λ more. measured null dictionary more codes) whole is in
    let mid = both.0 in
    let next = next_known sizes mid found both.1 in
    let text = next.0 in
    let rest = measured_known null dictionary mid codes whole both.2 in
    let one : length (unwrap_or found []) ≡ length text = ap (λ o. length (unwrap_or o [])) next.1.is in
    record {
      named = named_first null dictionary code codes text next.1.is rest.named;
      texts = omega (arith, rest.texts, next.1.texts);
      bytes = omega (arith, rest.bytes, next.1.bytes, one, length-append (unwrap_or found []) (concat (rows_named null dictionary codes)));
      small = λ small. rest.small next.1.small;
    }

-- the text that a code names is that of its position
pub named_at : (null : Option ℕ) (dictionary : List Text) (codes : List ℕ) (at : ℕ) (text : Text) → at < length codes → text_of_code null dictionary (get_or codes at 0) ≡ Some text → slice_get (rows_named null dictionary codes) at ≡ Some text
named_at null dictionary codes at text small is =
    let named : ℕ → Text = λ code. unwrap_or (text_of_code null dictionary code) [] in
    slice_get-map named codes at ∙ ap (λ o. option_map named o) (slice_get-get_or codes at 0 small) ∙ ap (λ o. Some (unwrap_or o [])) is

ok_and_known : {X E : Type 0} (result : Result X E) (P : X → Type 0) → IsOkAnd result P → (x : X) × (result ≡ Ok x) × P x
ok_and_known (Ok x) P holds = (x, refl, holds)
ok_and_known (Err error) P holds = absurd holds

-- each code names a text, and there is room for all of them
pub record HasRoom (null : Option ℕ) (dictionary : List Text) (codes : List ℕ) (offsets bytes : ℕ) : Type 0 where
  pub named : (k : ℕ) → k < length codes → (text : Text) × (text_of_code null dictionary (get_or codes k 0) ≡ Some text)
  pub offsets_room : length (rows_named null dictionary codes) < offsets
  pub bytes_room : length (concat (rows_named null dictionary codes)) ≤ bytes
  pub small : length (concat (rows_named null dictionary codes)) ≤ greatest_offset

pub room_known : (null : Option ℕ) (dictionary : List Text) (codes : List ℕ) (offsets bytes : ℕ) → IsOkAnd (measured null dictionary nothing codes) (λ sizes. (sizes.texts < offsets) × (sizes.bytes ≤ bytes)) → HasRoom null dictionary codes offsets bytes
room_known null dictionary codes offsets bytes fits =
    let ok = ok_and_known (measured null dictionary nothing codes) (λ sizes. (sizes.texts < offsets) × (sizes.bytes ≤ bytes)) fits in
    let m = measured_known null dictionary nothing codes ok.0 ok.1 in
    let n = length-map codes (λ code. unwrap_or (text_of_code null dictionary code) []) in
    record {
      named = m.named;
      offsets_room = omega (arith, m.texts, ok.2.0, n);
      bytes_room = omega (arith, m.bytes, ok.2.1);
      small = omega (arith, m.bytes, m.small (lit≤ tt));
    }
