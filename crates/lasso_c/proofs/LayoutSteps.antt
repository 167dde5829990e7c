-- Interning the rows of a column one after another, and what ends it.
--
-- Up to the row that comes next nothing is wrong with the column. So a fault of this row is the first of the whole column
-- (`first_wrong`), and where it has none nothing is wrong up to the one after it (`good_more`). A text that is refused leaves the
-- interner as it was (`unchanged`), so the interner is that of the texts before it.
use Rattle.std.proofs.Common.{◌*◌, append-nil, if◌then◌else◌, ℕ, zero, nat_lt, suc, ◌≡◌, ◌+◌, ◌-◌, ◌<◌, ◌≤◌, ◌⊎◌, inl, inr, List, [], ◌∷◌, ◌++◌, length, get_or, take, Bool, true, false, Option, Some, None, Result, Ok, Err, refl, ap, sym, subst, ◌∙◌, add-one, arith}
use Rattle.std.specs.List.{slice_range}
use Rattle.std.specs.Option.{option_or}
use Rattle.std.proofs.lemmas.Bool.Decides.{nat_tests}
use Rattle.std.proofs.lemmas.Grind.{common_steps}
use Rattle.std.proofs.lemmas.List.{take_all}
use Rattle.lasso_parts.specs.Account.{Account}
use Rattle.lasso_parts.specs.Texts.{Text, position_of}
use Rattle.lasso_parts.specs.declared.util.LassoError.{LassoError}
use Rattle.lasso_single.specs.Filling.{extend}
use Rattle.lasso_single.specs.Intern.{InternsIn}
use Rattle.lasso_single.specs.Interner.{InternerView}
use Rattle.lasso_single.proofs.Filled.{extend_push}
use Rattle.lasso_c.specs.Bitmap.{bits_fit, present_at}
use Rattle.lasso_parts.specs.Layout.{layout_texts}
use Rattle.lasso_c.specs.Layout.{start_fault, text_fault, null_fault, row_fault, rows_fault, column_fault, column_rows, present_texts}
use Rattle.lasso_c.specs.Encoding.{with_new}
use Rattle.lasso_c.specs.Interning.{key_of_code, InternsCode, InternsUnless, InternsRow, InternsNext, InternsColumn, InternsRoomed, InternsPart, batch_start_fault, null_outcome}
use Rattle.lasso_c.specs.Decoding.{nothing}
use Rattle.lasso_c.specs.declared.error.CallError.TheVariants.{CodesTooShort, BitmapTooShort}
use Rattle.lasso_c.specs.Status.{outcome_report}
use Rattle.lasso_c.specs.declared.error.CallError.{CallError}
use Rattle.lasso_c.proofs.BatchSteps.{text_is, RowDone}
use Rattle.lasso_c.proofs.Interning.{position_interned}
use Rattle.lasso_c.proofs.Layouts.{length-layout_texts, or_none}
use Rattle.lasso_c.proofs.Rows.{present_push, row_at, row_of, take_row}

-- a refused text leaves the interner as it was
view_of : List Text → Account → ℕ → ℕ → ℕ → Bool → InternerView
view_of texts account first copied most is_cleared = record { texts = texts; account = account; first = first; copied = copied; most = most; is_cleared = is_cleared }

pub unchanged : (old new : InternerView) (text : Text) (error : LassoError) → InternsIn {K = ℕ} key_of_code old text (Err error) new → new ≡ old
unfolding view_of
unchanged old new text error h =
    let same : view_of new.texts new.account new.first new.copied new.most new.is_cleared ≡ view_of old.texts old.account old.first old.copied old.most old.is_cleared =
    rw (h.0.0, h.0.1, h.2.0, h.1, h.2.2, h.2.1) refl in
    same

pub unchanged_code : (at : ℕ) (old new : InternerView) (text : Text) (refusal : CallError) → InternsCode at old text (Err refusal) new → new ≡ old
unchanged_code at old new text refusal h = unchanged old new text h.0 h.1

-- the list with a text, and its code
pub grown : (at : ℕ) (old new : InternerView) (text : Text) (code : ℕ) → InternsCode at old text (Ok code) new → new.texts ≡ with_new old.texts text
grown at old new text code h = grind (arith, common_steps, h)

pub code_found : (at : ℕ) (old new : InternerView) (text : Text) (code : ℕ) → InternsCode at old text (Ok code) new → position_of (with_new old.texts text) text ≡ Some code
code_found at old new text code h = position_interned old.texts text (code + 1) h.0.1 ∙ ap (λ n. Some n) (let n : (code + 1) - 1 ≡ code = omega arith in n)

-- which of both an interned text, and a refused one, comes of
pub unless_ok : (fault : Option CallError) (at : ℕ) (old new : InternerView) (text : Text) (code : ℕ) → InternsUnless fault at old text (Ok code) new → (fault ≡ None) × InternsCode at old text (Ok code) new
unless_ok None at old new text code h = (refl, h)
unless_ok (Some refusal) at old new text code h = let no = h.0 in absurd cc

pub unless_refused : (fault : Option CallError) (at : ℕ) (old new : InternerView) (text : Text) (refusal : CallError) → InternsUnless fault at old text (Err refusal) new → ((fault ≡ Some refusal) × (new ≡ old)) ⊎ ((fault ≡ None) × InternsCode at old text (Err refusal) new)
unless_refused None at old new text refusal h = inr (refl, h)
unless_refused (Some other) at old new text refusal h = let is = h.0 in let same : Some other ≡ Some refusal = cc in inl (same, h.1)

-- what comes of a null
null_ok : (fault : Option CallError) (null code : ℕ) → Ok code ≡ null_outcome fault null → (fault ≡ None) × (code ≡ null)
null_ok None null code is = (refl, cc)
null_ok (Some refusal) null code is = let no : ◌≡◌ {A = Result ℕ CallError} (Ok code) (Err refusal) = is in absurd cc

null_refused : (fault : Option CallError) (null : ℕ) (refusal : CallError) → Err refusal ≡ null_outcome fault null → fault ≡ Some refusal
null_refused None null refusal is = let no : ◌≡◌ {A = Result ℕ CallError} (Err refusal) (Ok null) = is in absurd cc
null_refused (Some other) null refusal is = let same : ◌≡◌ {A = Result ℕ CallError} (Err refusal) (Err other) = is in cc

-- a row that is done: nothing is wrong with it, and a text is interned
abbrev pub RowGood : Bool → ℕ → ℕ → InternerView → Text → ℕ → InternerView → Type 0
RowGood true null at old text code new = InternsCode at old text (Ok code) new
RowGood false null at old text code new = (new ≡ old) × (code ≡ null)

row_done_of : (there : Bool) (null at : ℕ) (old new : InternerView) (text : Text) (code : ℕ) → RowGood there null at old text code new → RowDone there null old.texts text code new.texts
row_done_of true null at old new text code h = (grown at old new text code h, code_found at old new text code h)
row_done_of false null at old new text code h = (ap (λ (i : InternerView). i.texts) h.0, h.1)

-- one row more at the end of those that were interned
extend_row : (there : Bool) (null at : ℕ) (old mid new : InternerView) (rows : List (Option Text)) (text : Text) (code : ℕ) → extend {K = ℕ} key_of_code old (present_texts rows) (Ok tt) mid → RowGood there null at mid text code new → extend {K = ℕ} key_of_code old (present_texts (rows ++ row_of there text ∷ [])) (Ok tt) new
extend_row true null at old mid new rows text code h good =
    subst (λ (ts : List Text). extend {K = ℕ} key_of_code old ts (Ok tt) new) (sym (present_push rows (Some text)))
    (extend_push {K = ℕ} key_of_code old mid new (present_texts rows) text (Ok (code + 1)) (Ok tt) h good refl)
extend_row false null at old mid new rows text code h good =
    subst (λ (ts : List Text). extend {K = ℕ} key_of_code old ts (Ok tt) new) (sym (present_push rows None ∙ append-nil (present_texts rows)))
    (subst (λ (i : InternerView). extend {K = ℕ} key_of_code old (present_texts rows) (Ok tt) i) (sym good.0) h)

some_text : (there : Bool) (text : Text) → there ≡ true → Some (row_of there text) ≡ Some (Some text)
some_text true text is = refl
some_text false text is = absurd cc

module _ (greatest : ℕ) where
  -- nothing is wrong with one row more, numbered from `first`
  more_from : (bits bytes : List ℕ) (first from : ℕ) (offsets : List ℕ) (k at : ℕ) → at ≡ first + k → rows_fault greatest bits bytes first from (take k offsets) ≡ None → k < length offsets → row_fault greatest bits bytes at (get_or (from ∷ offsets) k 0) (get_or offsets k 0) ≡ None → rows_fault greatest bits bytes first from (take (suc k) offsets) ≡ None
  more_from bits bytes first from [] k at same good small is = absurd (omega arith)
  more_from bits bytes first from (to ∷ offsets) zero at same good small is =
      let here : first ≡ at = omega arith in
      ap (λ o. option_or o None) (ap (λ n. row_fault greatest bits bytes n from to) here ∙ is)
  more_from bits bytes first from (to ∷ offsets) (suc k) at same good small is =
      let both = or_none (row_fault greatest bits bytes first from to) (rows_fault greatest bits bytes (first + 1) to (take k offsets)) good in
      ap (λ o. option_or o (rows_fault greatest bits bytes (first + 1) to (take (suc k) offsets))) both.0 ∙ more_from bits bytes (first + 1) to offsets k at (omega arith) both.1 (omega arith) is

  -- the row after some good ones is the first wrong one
  wrong_from : (bits bytes : List ℕ) (first from : ℕ) (offsets : List ℕ) (k at : ℕ) (refusal : CallError) → at ≡ first + k → rows_fault greatest bits bytes first from (take k offsets) ≡ None → k < length offsets → row_fault greatest bits bytes at (get_or (from ∷ offsets) k 0) (get_or offsets k 0) ≡ Some refusal → rows_fault greatest bits bytes first from offsets ≡ Some refusal
  wrong_from bits bytes first from [] k at refusal same good small is = absurd (omega arith)
  wrong_from bits bytes first from (to ∷ offsets) zero at refusal same good small is =
      let here : first ≡ at = omega arith in
      ap (λ o. option_or o (rows_fault greatest bits bytes (first + 1) to offsets)) (ap (λ n. row_fault greatest bits bytes n from to) here ∙ is)
  wrong_from bits bytes first from (to ∷ offsets) (suc k) at refusal same good small is =
      let both = or_none (row_fault greatest bits bytes first from to) (rows_fault greatest bits bytes (first + 1) to (take k offsets)) good in
      ap (λ o. option_or o (rows_fault greatest bits bytes (first + 1) to offsets)) both.0 ∙ wrong_from bits bytes (first + 1) to offsets k at refusal (omega arith) both.1 (omega arith) is

  -- both, of a whole column whose offsets up to this one are good
  known_at : (bits bytes : List ℕ) (from : ℕ) (offsets : List ℕ) (at : ℕ) → column_fault greatest bits bytes (take (at + 1) (from ∷ offsets)) ≡ None → (start_fault greatest bytes from ≡ None) × (rows_fault greatest bits bytes 0 from (take at offsets) ≡ None)
  known_at bits bytes from offsets at good = or_none (start_fault greatest bytes from) (rows_fault greatest bits bytes 0 from (take at offsets)) (subst (λ n. column_fault greatest bits bytes (take n (from ∷ offsets)) ≡ None) (add-one at) good)

  fault_at : (bits bytes : List ℕ) (from : ℕ) (offsets : List ℕ) (at : ℕ) → row_fault greatest bits bytes at (get_or (from ∷ offsets) at 0) (get_or (from ∷ offsets) (at + 1) 0) ≡ row_fault greatest bits bytes at (get_or (from ∷ offsets) at 0) (get_or offsets at 0)
  fault_at bits bytes from offsets at = ap (λ n. row_fault greatest bits bytes at (get_or (from ∷ offsets) at 0) (get_or (from ∷ offsets) n 0)) (add-one at)

  pub good_more : (bits bytes offsets : List ℕ) (at : ℕ) → column_fault greatest bits bytes (take (at + 1) offsets) ≡ None → at + 1 < length offsets → row_fault greatest bits bytes at (get_or offsets at 0) (get_or offsets (at + 1) 0) ≡ None → column_fault greatest bits bytes (take (at + 2) offsets) ≡ None
  good_more bits bytes [] at good small is = absurd (omega arith)
  good_more bits bytes (from ∷ offsets) at good small is =
      let known = known_at bits bytes from offsets at good in
      let more = more_from bits bytes 0 from offsets at at (omega arith) known.1 (omega arith) (sym (fault_at bits bytes from offsets at) ∙ is) in
      let two : at + 2 ≡ suc (suc at) = omega arith in
      subst (λ n. column_fault greatest bits bytes (take n (from ∷ offsets)) ≡ None) (sym two) (ap (λ o. option_or o (rows_fault greatest bits bytes 0 from (take (suc at) offsets))) known.0 ∙ more)

  pub first_wrong : (bits bytes offsets : List ℕ) (at : ℕ) (refusal : CallError) → column_fault greatest bits bytes (take (at + 1) offsets) ≡ None → at + 1 < length offsets → row_fault greatest bits bytes at (get_or offsets at 0) (get_or offsets (at + 1) 0) ≡ Some refusal → column_fault greatest bits bytes offsets ≡ Some refusal
  first_wrong bits bytes [] at refusal good small is = absurd (omega arith)
  first_wrong bits bytes (from ∷ offsets) at refusal good small is =
      let known = known_at bits bytes from offsets at good in
      let wrong = wrong_from bits bytes 0 from offsets at at refusal (omega arith) known.1 (omega arith) (sym (fault_at bits bytes from offsets at) ∙ is) in
      ap (λ o. option_or o (rows_fault greatest bits bytes 0 from offsets)) known.0 ∙ wrong

  -- a refusal of a layout reports the number of the text, and a refusal of a first offset that of the first
  -- text
  pub told_at : (bytes : List ℕ) (at from to : ℕ) (refusal : CallError) → text_fault greatest bytes at from to ≡ Some refusal → (outcome_report (Err refusal)).at ≡ at
  told_at bytes at from to refusal is = grind (arith, nat_tests)

  told_null : (bytes : List ℕ) (at from to : ℕ) (refusal : CallError) → null_fault greatest bytes at from to ≡ Some refusal → (outcome_report (Err refusal)).at ≡ at
  told_null bytes at from to refusal is = grind (arith, nat_tests)

  pub told_first : (bytes : List ℕ) (from : ℕ) (refusal : CallError) → start_fault greatest bytes from ≡ Some refusal → (outcome_report (Err refusal)).at ≡ 0
  told_first bytes from refusal is = grind (arith, nat_tests)

  row_good : (there : Bool) (null : ℕ) (bytes : List ℕ) (at from to : ℕ) (old new : InternerView) (code : ℕ) → InternsRow greatest there null bytes at from to old (Ok code) new → ((if there then text_fault greatest bytes at from to else null_fault greatest bytes at from to) ≡ None) × RowGood there null at old (slice_range bytes from to) code new
  row_good true null bytes at from to old new code h = unless_ok (text_fault greatest bytes at from to) at old new (slice_range bytes from to) code h
  row_good false null bytes at from to old new code h = let known = null_ok (null_fault greatest bytes at from to) null code h.0 in (known.0, (h.1, known.1))

  -- a row that is refused: something is wrong with it, or it is a text that the interner refuses
  row_refused : (there : Bool) (null : ℕ) (bytes : List ℕ) (at from to : ℕ) (old new : InternerView) (refusal : CallError) → InternsRow greatest there null bytes at from to old (Err refusal) new
      → (new ≡ old) × ((((if there then text_fault greatest bytes at from to else null_fault greatest bytes at from to) ≡ Some refusal) × ((outcome_report (Err refusal)).at ≡ at))
      ⊎ (((if there then text_fault greatest bytes at from to else null_fault greatest bytes at from to) ≡ None) × (there ≡ true) × InternsCode at old (slice_range bytes from to) (Err refusal) new))
  row_refused true null bytes at from to old new refusal h =
      elim (unless_refused (text_fault greatest bytes at from to) at old new (slice_range bytes from to) refusal h) [
        | inl w ↦ (w.1, inl (w.0, told_at bytes at from to refusal w.0))
        | inr w ↦ (unchanged_code at old new (slice_range bytes from to) refusal w.1, inr (w.0, refl, w.1))
      ]
  row_refused false null bytes at from to old new refusal h = let wrong = null_refused (null_fault greatest bytes at from to) null refusal h.0 in (h.1, inl (wrong, told_null bytes at from to refusal wrong))

  -- the first rows of a column are interned, and nothing is wrong up to the next
  pub record Begun (bits bytes offsets : List ℕ) (done : ℕ) (old new : InternerView) : Type 0 where
    pub good : column_fault greatest bits bytes (take (done + 1) offsets) ≡ None
    pub before : extend {K = ℕ} key_of_code old (present_texts (take done (column_rows bits bytes offsets))) (Ok tt) new

  pub none_begun : (bits bytes : List ℕ) (from : ℕ) (offsets : List ℕ) (old : InternerView) → start_fault greatest bytes from ≡ None → Begun bits bytes (from ∷ offsets) 0 old old
  none_begun bits bytes from offsets old good = record { good = ap (λ o. option_or o None) good; before = (refl, refl) }

  module _ (bits : List ℕ) (null : ℕ) (bytes offsets : List ℕ) (at : ℕ) (old mid new : InternerView) (begun : Begun bits bytes offsets at old mid) (small : at + 1 < length offsets) where
    from : ℕ
    from = get_or offsets at 0

    to : ℕ
    to = get_or offsets (at + 1) 0

    -- the next row is done
    pub next_begun : (code : ℕ) → InternsNext greatest bits null bytes offsets at mid (Ok code) new → Begun bits bytes offsets (at + 1) old new × RowDone (present_at bits at) null mid.texts (slice_range bytes (get_or offsets at 0) (get_or offsets (at + 1) 0)) code new.texts
    unfolding from to
    next_begun code h =
        let text : Text = slice_range bytes from to in
        let both = row_good (present_at bits at) null bytes at from to mid new code h in
        let two : (at + 1) + 1 ≡ at + 2 = omega arith in
        let rows = column_rows bits bytes offsets in
        let row = row_at bits bytes offsets at text (text_is bytes offsets at small) in (
          record {
            good = ap (λ n. column_fault greatest bits bytes (take n offsets)) two ∙ good_more bits bytes offsets at begun.good small both.0;
            before = subst (λ (rs : List (Option Text)). extend {K = ℕ} key_of_code old (present_texts rs) (Ok tt) new) (sym (take_row rows at (row_of (present_at bits at) text) row))
                (extend_row (present_at bits at) null at old mid new (take at rows) text code begun.before both.1);
          },
          row_done_of (present_at bits at) null at mid new text code both.1,
        )

    -- the next row is refused
    pub next_ends : (refusal : CallError) → InternsNext greatest bits null bytes offsets at mid (Err refusal) new → InternsColumn greatest bits bytes offsets at old (Err refusal) new
    unfolding from to
    next_ends refusal h =
        let text : Text = slice_range bytes from to in
        let known = row_refused (present_at bits at) null bytes at from to mid new refusal h in
        let before = subst (λ (i : InternerView). extend {K = ℕ} key_of_code old (present_texts (take at (column_rows bits bytes offsets))) (Ok tt) i) (sym known.0) begun.before in
        elim known.1 [
          | inl w ↦ record { before = before; ends = inl (first_wrong bits bytes offsets at refusal begun.good small w.0, w.1) }
          | inr w ↦ record {
            before = before;
            ends = inr (good_more bits bytes offsets at begun.good small w.0, (text, row_at bits bytes offsets at text (text_is bytes offsets at small) ∙ some_text (present_at bits at) text w.1, subst (λ (i : InternerView). InternsCode at i text (Err refusal) new) (sym known.0) w.2));
          }
        ]

  -- all rows are done
  pub all_done : (bits bytes offsets : List ℕ) (done : ℕ) (old new : InternerView) → Begun bits bytes offsets done old new → length offsets ≡ done + 1 → done ≡ length (layout_texts bytes offsets) → InternsColumn greatest bits bytes offsets done old (Ok tt) new
  all_done bits bytes offsets done old new begun whole count = record {
    before = begun.before;
    ends = (ap (λ (os : List ℕ). column_fault greatest bits bytes os) (sym (take_all (done + 1) offsets (omega arith))) ∙ begun.good, count);
  }

  -- there is room for the codes, and a bit for each row
  pub roomed : (room : ℕ) (bits bytes offsets : List ℕ) (done : ℕ) (old : InternerView) (outcome : Result (Unit {0}) CallError) (new : InternerView) → length offsets ≤ room + 1 → bits_fit bits (length offsets - 1) ≡ true → InternsColumn greatest bits bytes offsets done old outcome new → InternsPart greatest room bits bytes offsets done old outcome new
  roomed room bits bytes offsets done old outcome new enough fits h =
      let count = length-layout_texts bytes offsets in
      let within : length (layout_texts bytes offsets) ≤ room = omega arith in
      let is : nat_lt room (length (layout_texts bytes offsets)) ≡ false = grind (arith, nat_tests) in
      let bit : bits_fit bits (length (layout_texts bytes offsets)) ≡ true = ap (λ n. bits_fit bits n) count ∙ fits in
      subst (λ b. InternsRoomed greatest b (bits_fit bits (length (layout_texts bytes offsets))) bits bytes offsets done old outcome new) (sym is)
      (subst (λ b. InternsRoomed greatest false b bits bytes offsets done old outcome new) (sym bit) h)

  -- a refused row changes nothing
  pub next_unchanged : (bits : List ℕ) (null : ℕ) (bytes offsets : List ℕ) (at : ℕ) (old new : InternerView) (refusal : CallError) → InternsNext greatest bits null bytes offsets at old (Err refusal) new → new ≡ old
  next_unchanged bits null bytes offsets at old new refusal h = (row_refused (present_at bits at) null bytes at (get_or offsets at 0) (get_or offsets (at + 1) 0) old new refusal h).0

  -- no row is done: there is no room for the codes, no bit for a row, or the first offset is wrong
  not_begun_by : (short fits : Bool) (bits bytes : List ℕ) (first : ℕ) (rest : List ℕ) (old : InternerView) (refusal : CallError) → (if short then Some (CodesTooShort nothing) else if fits then start_fault greatest bytes first else Some (BitmapTooShort (8 * length bits))) ≡ Some refusal → InternsRoomed greatest short fits bits bytes (first ∷ rest) 0 old (Err refusal) old
  not_begun_by true fits bits bytes first rest old refusal is = let same : CodesTooShort nothing ≡ refusal = cc in (refl, ap (λ r. Err r) (sym same), refl)
  not_begun_by false false bits bytes first rest old refusal is = let same : BitmapTooShort (8 * length bits) ≡ refusal = cc in (refl, ap (λ r. Err r) (sym same), refl)
  not_begun_by false true bits bytes first rest old refusal is = record { before = (refl, refl); ends = inl (ap (λ o. option_or o (rows_fault greatest bits bytes 0 first rest)) is, told_first bytes first refusal is) }

  pub not_begun : (room : ℕ) (bits bytes : List ℕ) (first : ℕ) (rest : List ℕ) (old : InternerView) (refusal : CallError) → batch_start_fault greatest bits bytes first (length rest) room ≡ Some refusal → InternsPart greatest room bits bytes (first ∷ rest) 0 old (Err refusal) old
  not_begun room bits bytes first rest old refusal is =
      let count : length (layout_texts bytes (first ∷ rest)) ≡ length rest = omega (arith, length-layout_texts bytes (first ∷ rest)) in
      subst (λ n. InternsRoomed greatest (nat_lt room n) (bits_fit bits n) bits bytes (first ∷ rest) 0 old (Err refusal) old) (sym count)
      (not_begun_by (nat_lt room (length rest)) (bits_fit bits (length rest)) bits bytes first rest old refusal is)

  -- the same, by the offsets as they are
  pub not_begun_at : (room : ℕ) (bits bytes offsets : List ℕ) (old : InternerView) (refusal : CallError) → 0 < length offsets → batch_start_fault greatest bits bytes (get_or offsets 0 0) (length offsets - 1) room ≡ Some refusal → InternsPart greatest room bits bytes offsets 0 old (Err refusal) old
  not_begun_at room bits bytes [] old refusal there is = absurd (omega arith)
  not_begun_at room bits bytes (first ∷ rest) old refusal there is =
      let count : length (first ∷ rest) - 1 ≡ length rest = omega arith in
      not_begun room bits bytes first rest old refusal (ap (λ n. batch_start_fault greatest bits bytes first n room) (sym count) ∙ is)

  pub none_begun_at : (bits bytes offsets : List ℕ) (old : InternerView) → 0 < length offsets → start_fault greatest bytes (get_or offsets 0 0) ≡ None → Begun bits bytes offsets 0 old old
  none_begun_at bits bytes [] old there good = absurd (omega arith)
  none_begun_at bits bytes (from ∷ offsets) old there good = none_begun bits bytes from offsets old good
