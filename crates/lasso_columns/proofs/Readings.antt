-- Appending the texts of a layout to an interner one after another, and what ends it.
--
-- Up to the next text the layout has no fault. So the first fault of the layout is the first one from
-- there on, and a fault of the next text is the layout's first. A refused text leaves the interner as it
-- was, so the interner has the texts before it. Their number is how many texts the list has gained.
use Rattle.std.proofs.Common.{ℕ, ◌≡◌, ◌+◌, ◌<◌, ◌≤◌, ◌⊎◌, inl, inr, List, [], ◌∷◌, ◌++◌, length, map, get_or, take, drop, slice_get, Option, Some, None, Ok, Err, IfSome, IsSome, IsSomeAnd, refl, sym, ap, subst, ◌∙◌, arith, append_assoc, append-nil, length-append}
use Rattle.std.specs.List.{slice_range}
use Rattle.std.specs.Option.{option_or}
use Rattle.std.proofs.Math.ListN.{drop_of_length-le}
use Rattle.std.proofs.Math.Seq.{take-append_seam}
use Rattle.std.proofs.lemmas.Bool.Decides.{nat_tests}
use Rattle.std.proofs.lemmas.List.{length_push, length-map, get_or-map, drop_more}
use Rattle.lasso_parts.specs.Texts.{Text, position_of}
use Rattle.lasso_parts.specs.declared.util.LassoErrorKind.{LassoErrorKind}
use Rattle.lasso_single.specs.Filling.{extend}
use Rattle.lasso_single.specs.Intern.{InternsIn}
use Rattle.lasso_single.specs.Interner.{InternerView}
use Rattle.lasso_single.proofs.Filled.{accepted, extend_push}
use Rattle.lasso_columns.specs.Dictionaries.{AppendsNew, AppendsUnless, IsFaultAfter, IsGoodAnd, IsRefusedReading, appended, fault_position}
use Rattle.lasso_parts.specs.Layout.{texts_from, layout_texts}
use Rattle.lasso_columns.specs.Layout.{start_fault, text_fault, texts_fault, layout_fault}
use Rattle.lasso_columns.specs.declared.faults.ReadError.{ReadError}
use Rattle.lasso_columns.specs.declared.faults.ReadError.TheVariants.{OffsetsFall, OffsetPastBytes, NotText, Doubled, Refused}

-- the fault of a text has the text's number
told_at : (most : ℕ) (bytes : List ℕ) (at from to : ℕ) (error : ReadError) → text_fault most bytes at from to ≡ Some error → fault_position error ≡ at
told_at most bytes at from to error is = grind (arith, nat_tests)

if_later : (o : Option ReadError) (n m : ℕ) → m ≤ n → IfSome o (λ error. n ≤ fault_position error) → IfSome o (λ error. m ≤ fault_position error)
if_later None n m less h = tt
if_later (Some error) n m less h = omega arith

if_behind : (o : Option ReadError) (n : ℕ) → IfSome o (λ error. n + 1 ≤ fault_position error) → IfSome o (λ error. n < fault_position error)
if_behind None n h = tt
if_behind (Some error) n h = omega arith

later : (most : ℕ) (bytes : List ℕ) (at from to : ℕ) (offsets : List ℕ) (fault : Option ReadError) → text_fault most bytes at from to ≡ fault → IfSome (texts_fault most bytes (at + 1) to offsets) (λ error. at + 1 ≤ fault_position error) → IfSome (option_or fault (texts_fault most bytes (at + 1) to offsets)) (λ error. at ≤ fault_position error)
later most bytes at from to offsets None is h = if_later (texts_fault most bytes (at + 1) to offsets) (at + 1) at (omega arith) h
later most bytes at from to offsets (Some error) is h = omega (arith, told_at most bytes at from to error is)

-- the first fault from a text on is not one of an earlier text
not_before : (most : ℕ) (bytes : List ℕ) (at from : ℕ) (offsets : List ℕ) → IfSome (texts_fault most bytes at from offsets) (λ error. at ≤ fault_position error)
not_before most bytes at from [] = tt
not_before most bytes at from (to ∷ offsets) = later most bytes at from to offsets (text_fault most bytes at from to) refl (not_before most bytes (at + 1) to offsets)

seam_at : (done : List Text) (text : Text) (rest : List Text) → slice_get (done ++ text ∷ rest) (length done) ≡ Some text
seam_at [] text rest = refl
seam_at (t ∷ done) text rest = seam_at done text rest

-- the fault of a text, as the reason why reading ended
text_ends : {K : Type 0} (key_at : ℕ → Option K) (most : ℕ) (bytes offsets : List ℕ) (at from to : ℕ) (now : InternerView) (error : ReadError) → text_fault most bytes at from to ≡ Some error → layout_fault most bytes offsets ≡ Some error → IsFaultAfter key_at most bytes offsets at now error
text_ends key_at most bytes offsets at from to now (OffsetsFall n) is first = (told_at most bytes at from to (OffsetsFall n) is, first)
text_ends key_at most bytes offsets at from to now (OffsetPastBytes n) is first = (told_at most bytes at from to (OffsetPastBytes n) is, first)
text_ends key_at most bytes offsets at from to now (NotText n) is first = (told_at most bytes at from to (NotText n) is, first)
text_ends key_at most bytes offsets at from to now (Doubled n) is first = absurd (grind (arith, nat_tests))
text_ends key_at most bytes offsets at from to now (Refused n kind) is first = absurd (grind (arith, nat_tests))

module _ {K : Type 0} (key_at : ℕ → Option K) (most : ℕ) (bytes offsets : List ℕ) (old : InternerView) where
  -- the first `at` texts were appended, and the offsets `left` remain
  pub record Reading (at from : ℕ) (left : List ℕ) (new : InternerView) : Type 0 where
    pub done : List Text
    pub split : layout_texts bytes offsets ≡ done ++ texts_from bytes from left
    pub first : layout_fault most bytes offsets ≡ texts_fault most bytes at from left
    pub counted : length done ≡ at
    pub list : extend key_at old done accepted new
    pub texts : new.texts ≡ old.texts ++ done

  -- the same, with the number of appended texts read off the list
  pub record Told (new : InternerView) : Type 0 where
    pub list : extend key_at old (take (appended old.texts new.texts) (layout_texts bytes offsets)) accepted new
    pub texts : new.texts ≡ old.texts ++ take (appended old.texts new.texts) (layout_texts bytes offsets)

  pub gained : (at from : ℕ) (left : List ℕ) (new : InternerView) → Reading at from left new → appended old.texts new.texts ≡ at
  gained at from left new r = omega (arith, ap length r.texts, length-append old.texts r.done, r.counted)

  taken : (at from : ℕ) (left : List ℕ) (new : InternerView) (r : Reading at from left new) → take (appended old.texts new.texts) (layout_texts bytes offsets) ≡ r.done
  taken at from left new r =
      let many : appended old.texts new.texts ≡ length r.done = gained at from left new r ∙ sym r.counted in
      ap (λ n. take n (layout_texts bytes offsets)) many ∙ ap (λ (ts : List Text). take (length r.done) ts) r.split ∙ take-append_seam r.done (texts_from bytes from left)

  pub told : (at from : ℕ) (left : List ℕ) (new : InternerView) → Reading at from left new → Told new
  told at from left new r = record {
    list = subst (λ (ts : List Text). extend key_at old ts accepted new) (sym (taken at from left new r)) r.list;
    texts = subst (λ (ts : List Text). new.texts ≡ old.texts ++ ts) (sym (taken at from left new r)) r.texts;
  }

  unless_ok : (fault : Option ReadError) (at : ℕ) (mid new : InternerView) (text : Text) → AppendsUnless fault key_at at mid text (Ok tt) new → (fault ≡ None) × AppendsNew key_at at mid text (Ok tt) new
  unless_ok None at mid new text h = (refl, h)
  unless_ok (Some error) at mid new text h = let no = h.0 in absurd cc

  -- one more text
  pub next_read : (at from to : ℕ) (left : List ℕ) (mid new : InternerView) → Reading at from (to ∷ left) mid → AppendsUnless (text_fault most bytes at from to) key_at at mid (slice_range bytes from to) (Ok tt) new → Reading (at + 1) to left new
  next_read at from to left mid new r h =
      let both = unless_ok (text_fault most bytes at from to) at mid new (slice_range bytes from to) h in
      let text = slice_range bytes from to in
      record {
        done = r.done ++ text ∷ [];
        split = r.split ∙ sym (append_assoc r.done (text ∷ []) (texts_from bytes to left));
        first = r.first ∙ ap (λ o. option_or o (texts_fault most bytes (at + 1) to left)) both.0;
        counted = length_push r.done text ∙ ap (λ n. n + 1) r.counted;
        list = extend_push key_at old mid new r.done text (Ok both.1.0.0) accepted r.list both.1.0.1 refl;
        texts = both.1.1 ∙ ap (λ (ts : List Text). ts ++ text ∷ []) r.texts ∙ append_assoc old.texts r.done (text ∷ []);
      }

  unless_err : (fault : Option ReadError) (at : ℕ) (mid new : InternerView) (text : Text) (error : ReadError) → AppendsUnless fault key_at at mid text (Err error) new → ((fault ≡ Some error) × (new ≡ mid)) ⊎ ((fault ≡ None) × AppendsNew key_at at mid text (Err error) new)
  unless_err None at mid new text error h = inr (refl, h)
  unless_err (Some other) at mid new text error h = let is = h.0 in let same : Some other ≡ Some error = cc in inl (same, h.1)

  module _ (at from to : ℕ) (left : List ℕ) (mid new : InternerView) (r : Reading at from (to ∷ left) mid) (error : ReadError) (h : AppendsUnless (text_fault most bytes at from to) key_at at mid (slice_range bytes from to) (Err error) new) where
    unchanged : new ≡ mid
    unchanged = elim (unless_err (text_fault most bytes at from to) at mid new (slice_range bytes from to) error h) [
      | inl w ↦ w.1
      | inr w ↦ w.1.0
    ]

    -- a refused text changes nothing
    pub still : Reading at from (to ∷ left) new
    still = subst (λ (i : InternerView). Reading at from (to ∷ left) i) (sym unchanged) r

    -- a text without a fault
    good : text_fault most bytes at from to ≡ None → (P : Text → Type 0) → P (slice_range bytes from to) → IsGoodAnd most bytes offsets at P
    good none P holds =
        let first : layout_fault most bytes offsets ≡ texts_fault most bytes (at + 1) to left = r.first ∙ ap (λ o. option_or o (texts_fault most bytes (at + 1) to left)) none in
        let behind : IfSome (texts_fault most bytes (at + 1) to left) (λ e. at < fault_position e) = if_behind (texts_fault most bytes (at + 1) to left) at (not_before most bytes (at + 1) to left) in
        let here : slice_get (layout_texts bytes offsets) at ≡ Some (slice_range bytes from to) = ap (λ n. slice_get (layout_texts bytes offsets) n) (sym r.counted) ∙ ap (λ (ts : List Text). slice_get ts (length r.done)) r.split ∙ seam_at r.done (slice_range bytes from to) (texts_from bytes to left) in
        (subst (λ o. IfSome o (λ e. at < fault_position e)) (sym first) behind, subst (λ o. IsSomeAnd o P) (sym here) holds)

    refused : (fault : ReadError) → text_fault most bytes at from to ≡ None → (((fault ≡ Doubled at) × IsSome (position_of mid.texts (slice_range bytes from to))) ⊎ ((kind : LassoErrorKind) × (fault ≡ Refused at kind) × InternsIn {K = K} key_at mid (slice_range bytes from to) (Err kind) mid)) → IsFaultAfter key_at most bytes offsets at mid fault
    refused fault none why = elim why [
      | inl w ↦ subst (λ (e : ReadError). IsFaultAfter key_at most bytes offsets at mid e) (sym w.0) (refl, good none (λ text. IsSome (position_of mid.texts text)) w.1)
      | inr w ↦ subst (λ (e : ReadError). IsFaultAfter key_at most bytes offsets at mid e) (sym w.1) (refl, good none (λ text. InternsIn {K = K} key_at mid text (Err w.0) mid) w.2)
    ]

    -- why reading ended
    pub ends : IsFaultAfter key_at most bytes offsets (appended old.texts new.texts) new error
    ends =
        let why : IsFaultAfter key_at most bytes offsets at mid error = elim (unless_err (text_fault most bytes at from to) at mid new (slice_range bytes from to) error h) [
          | inl w ↦ text_ends key_at most bytes offsets at from to mid error w.0 (r.first ∙ ap (λ o. option_or o (texts_fault most bytes (at + 1) to left)) w.0)
          | inr w ↦ refused error w.0 w.1.1
        ] in
        subst (λ n. IsFaultAfter key_at most bytes offsets n new error) (sym (gained at from (to ∷ left) new still)) (subst (λ (i : InternerView). IsFaultAfter key_at most bytes offsets at i error) (sym unchanged) why)

-- before the first text
pub none_read : {K : Type 0} (key_at : ℕ → Option K) (most : ℕ) (bytes : List ℕ) (from : ℕ) (offsets : List ℕ) (old : InternerView) → start_fault most bytes from ≡ None → Reading key_at most bytes (from ∷ offsets) old 0 from offsets old
none_read key_at most bytes from offsets old good = record {
  done = [];
  split = refl;
  first = ap (λ o. option_or o (texts_fault most bytes 0 from offsets)) good;
  counted = refl;
  list = (refl, refl);
  texts = sym (append-nil old.texts);
}

-- the offset at a position, followed by those after it
pub left_is : {O : Type 0} (number : O → ℕ) (rest : List O) (at : ℕ) (d : O) → at < length rest → drop at (map number rest) ≡ number (get_or rest at d) ∷ drop (at + 1) (map number rest)
left_is number rest at d small =
    let inside : at < length (map number rest) = omega (arith, length-map rest number) in
    drop_more (map number rest) at 0 inside ∙ ap (λ n. n ∷ drop (at + 1) (map number rest)) (get_or-map number rest at d 0 small)

-- ---- what the loop over the offsets keeps, and what it leaves when a text is refused

module _ {K O : Type 0} (key_at : ℕ → Option K) (number : O → ℕ) (most : ℕ) (bytes offsets : List ℕ) (old : InternerView) (rest : List O) (at from to reach : ℕ) (item : O) (mid new : InternerView) (r : Reading key_at most bytes offsets old at from (drop at (map number rest)) mid) (small : at < length rest) (is : item ≡ get_or rest at item) (ends_at : to ≡ number item) (known : reach ≡ most) where
  left_from : drop at (map number rest) ≡ to ∷ drop (at + 1) (map number rest)
  left_from = left_is number rest at item small ∙ ap (λ x. number x ∷ drop (at + 1) (map number rest)) (sym is) ∙ ap (λ n. n ∷ drop (at + 1) (map number rest)) (sym ends_at)

  here : Reading key_at most bytes offsets old at from (to ∷ drop (at + 1) (map number rest)) mid
  here = subst (λ (os : List ℕ). Reading key_at most bytes offsets old at from os mid) left_from r

  pub moved : AppendsUnless (text_fault reach bytes at from to) key_at at mid (slice_range bytes from to) (Ok tt) new → Reading key_at most bytes offsets old (at + 1) to (drop (at + 1) (map number rest)) new
  moved h = next_read key_at most bytes offsets old at from to (drop (at + 1) (map number rest)) mid new here (subst (λ n. AppendsUnless (text_fault n bytes at from to) key_at at mid (slice_range bytes from to) (Ok tt) new) known h)

  pub ended : (error : ReadError) → AppendsUnless (text_fault reach bytes at from to) key_at at mid (slice_range bytes from to) (Err error) new → Told key_at most bytes offsets old new × IsFaultAfter key_at most bytes offsets (appended old.texts new.texts) new error
  ended error h =
      let refusal : AppendsUnless (text_fault most bytes at from to) key_at at mid (slice_range bytes from to) (Err error) new = subst (λ n. AppendsUnless (text_fault n bytes at from to) key_at at mid (slice_range bytes from to) (Err error) new) known h in (
        told key_at most bytes offsets old at from (to ∷ drop (at + 1) (map number rest)) new (still key_at most bytes offsets old at from to (drop (at + 1) (map number rest)) mid new here error refusal),
        ends key_at most bytes offsets old at from to (drop (at + 1) (map number rest)) mid new here error refusal,
      )

-- ---- what the loop leaves when no offset is left

module _ {K O : Type 0} (key_at : ℕ → Option K) (number : O → ℕ) (most : ℕ) (bytes offsets : List ℕ) (old : InternerView) (rest : List O) (at from : ℕ) (new : InternerView) (r : Reading key_at most bytes offsets old at from (drop at (map number rest)) new) (all : length rest ≤ at) where
  none_left : drop at (map number rest) ≡ []
  none_left = drop_of_length-le (map number rest) (omega (arith, all, length-map rest number))

  finished : Reading key_at most bytes offsets old at from [] new
  finished = subst (λ (os : List ℕ). Reading key_at most bytes offsets old at from os new) none_left r

  pub all_told : Told key_at most bytes offsets old new
  all_told = told key_at most bytes offsets old at from [] new finished

  pub all_texts : new.texts ≡ old.texts ++ layout_texts bytes offsets
  all_texts = finished.texts ∙ ap (λ (ts : List Text). old.texts ++ ts) (sym (finished.split ∙ append-nil finished.done))

  pub no_fault : layout_fault most bytes offsets ≡ None
  no_fault = finished.first

-- a new interner that was not filled
pub not_filled : {K : Type 0} (key_at : ℕ → Option K) (most : ℕ) (bytes offsets : List ℕ) (made old new : InternerView) (error : ReadError) → old ≡ made → old.texts ≡ [] → extend key_at old (take (appended old.texts new.texts) (layout_texts bytes offsets)) accepted new → new.texts ≡ old.texts ++ take (appended old.texts new.texts) (layout_texts bytes offsets) → IsFaultAfter key_at most bytes offsets (appended old.texts new.texts) new error → IsRefusedReading key_at most bytes offsets made error
not_filled key_at most bytes offsets made old new error same none list texts fault =
    let count : appended old.texts new.texts ≡ length new.texts = omega (arith, ap length none) in
    let first : new.texts ≡ take (appended old.texts new.texts) (layout_texts bytes offsets) = texts ∙ ap (λ (ts : List Text). ts ++ take (appended old.texts new.texts) (layout_texts bytes offsets)) none in
    let interned : extend key_at old new.texts accepted new = subst (λ (ts : List Text). extend key_at old ts accepted new) (sym first) list in
    inr (new, subst (λ (i : InternerView). extend key_at i new.texts accepted new) same interned, first ∙ ap (λ n. take n (layout_texts bytes offsets)) count, subst (λ n. IsFaultAfter key_at most bytes offsets n new error) count fault)
