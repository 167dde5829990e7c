-- Lists of regions while texts are copied in, and while they are cleared.
--
-- Where one region gets more bytes, each region of the earlier list begins the one at its position in the
-- later list, and both lie at the same address. A span that is stored lies within the bytes of its region, so
-- the bytes that it names stay the same; so it does where a region is appended. A text in a new region is the
-- same as an appended region that holds the text. Neither bytes nor clearing change a region's address or
-- capacity, so the list of blocks stays the same.
use Rattle.std.proofs.Common.{◌≡◌, ℕ, zero, suc, ◌+◌, ◌-◌, ◌<◌, ◌≤◌, List, [], ◌∷◌, ◌++◌, length, get_or, set, take, drop, map, sym, ap, subst, refl, ◌∙◌, arith, inl, inr, append_assoc}
use Rattle.std.specs.Prelude.{slice_range, IsUtf8}
use Rattle.std.proofs.lemmas.List.{take-append-le, drop-append-le, length-append, length-drop, get_or_append_left, get_or_at, get_or-set_same, get_or-set_other, length-set, set_at, append-nil, drop_more, take_more, length-map, length-take-le, map-append, take_all}
use Rattle.std.proofs.lemmas.Bool.{cases_eq}
use Rattle.std.proofs.lemmas.Grind.{common_steps}
use denote.RawPtr.{Ptr, ◌+ₚ◌}
use Rattle.lasso_parts.specs.Bucket.{Extent, Block, block_of}
use Rattle.lasso_parts.specs.Arena.{no_region, region_at, emptied, with_bytes, copied_in, text_at, IsStored, KeepsTexts}
use Rattle.lasso_parts.specs.declared.arena.Span.{Span}

-- a region that was just opened
abbrev pub opened : Ptr → ℕ → Extent
opened at capacity = record { at = at; bytes = []; capacity = capacity }

-- a region of just these bytes
abbrev pub filled : Ptr → List ℕ → ℕ → Extent
filled at bytes capacity = record { at = at; bytes = bytes; capacity = capacity }

-- a part of a list stays when the list grows after it
range-append : (xs more : List ℕ) (i n : ℕ) → i + n ≤ length xs → slice_range (xs ++ more) i (i + n) ≡ slice_range xs i (i + n)
range-append xs more i n fits =
    let low : i ≤ length xs = omega arith in
    let e : drop i (xs ++ more) ≡ drop i xs ++ more = drop-append-le i xs more low in
    let room : i + n - i ≤ length (drop i xs) = omega (arith, length-drop i xs) in
    ap (take (i + n - i)) e ∙ take-append-le (i + n - i) (drop i xs) more room

-- each region of the earlier list begins that of the later one
record Grows (xs ys : List Extent) : Type 0 where
  count : length xs ≤ length ys
  address : (k : ℕ) → k < length xs → (region_at ys k).at ≡ (region_at xs k).at
  more : (k : ℕ) → k < length xs → (m : List ℕ) × ((region_at ys k).bytes ≡ (region_at xs k).bytes ++ m)

kept : (xs ys : List Extent) → Grows xs ys → KeepsTexts xs ys
kept xs ys grows span had =
    let m = grows.more span.region had.region in
    let fits : span.start + span.len ≤ length (region_at xs span.region).bytes = had.bytes in
    let same : text_at ys span ≡ text_at xs span = ap (λ (bs : List ℕ). slice_range bs span.start (span.start + span.len)) m.1 ∙ range-append (region_at xs span.region).bytes m.0 span.start span.len fits in
    let longer : length (region_at ys span.region).bytes ≡ length (region_at xs span.region).bytes + length m.0 = ap length m.1 ∙ length-append (region_at xs span.region).bytes m.0 in
    let inside : span.region < length ys = omega (arith, had.region, grows.count) in
    record {
      stored = record { region = inside; bytes = omega (arith, fits, longer); text = subst IsUtf8 (sym same) had.text };
      text = same;
      address = ap (λ (p : Ptr). p +ₚ span.start) (grows.address span.region had.region);
    }

Grows-set : (xs : List Extent) (at : ℕ) (t : List ℕ) → at < length xs → Grows xs (set xs at (with_bytes (region_at xs at) t))
Grows-set xs at t inside =
    let new = with_bytes (region_at xs at) t in
    record {
      count = omega (arith, length-set xs at new);
      address = λ k h. elim (cases_eq k at) [
        | inl e ↦ ap (λ (b : Extent). b.at) (ap (λ (i : ℕ). region_at (set xs at new) i) e ∙ get_or-set_same xs at new no_region inside) ∙ ap (λ (i : ℕ). (region_at xs i).at) (sym e)
        | inr ne ↦ ap (λ (b : Extent). b.at) (get_or-set_other xs at k new no_region ne)
      ];
      more = λ k h. elim (cases_eq k at) [
        | inl e ↦ (t, ap (λ (b : Extent). b.bytes) (ap (λ (i : ℕ). region_at (set xs at new) i) e ∙ get_or-set_same xs at new no_region inside) ∙ ap (λ (i : ℕ). (region_at xs i).bytes ++ t) (sym e))
        | inr ne ↦ ([], ap (λ (b : Extent). b.bytes) (get_or-set_other xs at k new no_region ne) ∙ sym (append-nil (region_at xs k).bytes))
      ];
    }

-- texts stay where one region gets more bytes
pub kept_set : (xs ys : List Extent) (at : ℕ) (t : List ℕ) → at < length xs → ys ≡ set xs at (with_bytes (region_at xs at) t) → KeepsTexts xs ys
kept_set xs ys at t inside e = kept xs ys (subst (Grows xs) (sym e) (Grows-set xs at t inside))

Grows-push : (xs : List Extent) (r : Extent) → Grows xs (xs ++ r ∷ [])
Grows-push xs r =
    record {
      count = omega (arith, length-append xs (r ∷ []));
      address = λ k h. ap (λ (b : Extent). b.at) (get_or_append_left xs (r ∷ []) no_region k h);
      more = λ k h. ([], ap (λ (b : Extent). b.bytes) (get_or_append_left xs (r ∷ []) no_region k h) ∙ sym (append-nil (region_at xs k).bytes));
    }

-- texts stay where a region more comes
pub kept_push : (xs ys : List Extent) (r : Extent) → ys ≡ xs ++ r ∷ [] → KeepsTexts xs ys
kept_push xs ys r e = kept xs ys (subst (Grows xs) (sym e) (Grows-push xs r))

-- the text that fills the region more
pub stored_push : (xs ys : List Extent) (r : Extent) (span : Span) → ys ≡ xs ++ r ∷ [] → IsUtf8 r.bytes → span ≡ record { region = length xs; start = 0; len = length r.bytes } → IsStored ys span × (text_at ys span ≡ r.bytes)
stored_push xs ys r span e utf8 is =
    let whole_span : Span = record { region = length xs; start = 0; len = length r.bytes } in
    let found : region_at ys (length xs) ≡ r = ap (λ (l : List Extent). region_at l (length xs)) e ∙ get_or_at xs r [] no_region (length xs) refl in
    let whole : text_at ys whole_span ≡ r.bytes = ap (λ (b : Extent). slice_range b.bytes 0 (0 + length r.bytes)) found ∙ take_all (0 + length r.bytes - 0) r.bytes (omega arith) in
    let count : length ys ≡ length xs + 1 = ap length e ∙ length-append xs (r ∷ []) in
    subst (λ (s : Span). IsStored ys s × (text_at ys s ≡ r.bytes)) (sym is)
    (record { region = omega (arith, count); bytes = omega (arith, ap (λ (b : Extent). length b.bytes) found); text = subst IsUtf8 (sym whole) utf8 }, whole)

-- texts stay where nothing changes
pub kept_same : (regions : List Extent) → KeepsTexts regions regions
kept_same regions span had = record { stored = had; text = refl; address = refl }

-- a region that was just opened, and then a text in it
pub set_last : (xs ys zs : List Extent) (p : Ptr) (t : List ℕ) (z at : ℕ) → at ≡ length xs → ys ≡ xs ++ opened p z ∷ []
    → zs ≡ set ys at (with_bytes (region_at ys at) t) → zs ≡ xs ++ filled p t z ∷ []
set_last xs ys zs p t z at here made pushed =
    let last : length xs ≡ at = sym here in
    let found : region_at ys at ≡ opened p z = ap (λ (l : List Extent). region_at l at) made ∙ get_or_at xs (opened p z) [] no_region at last in
    pushed ∙ ap (λ (b : Extent). set ys at (with_bytes b t)) found ∙ ap (λ (l : List Extent). set l at (filled p t z)) made ∙ set_at xs (opened p z) [] (filled p t z) at last

-- more bytes in a region change no block
pub blocks_set : (xs : List Extent) (at : ℕ) (old new : Extent) (more : List ℕ) → at < length xs → old ≡ get_or xs at old → new ≡ with_bytes old more → map block_of (set xs at new) ≡ map block_of xs
blocks_set [] at old new more h is grown = refl
blocks_set (x ∷ xs) zero old new more h is grown = ap (λ (b : Block). b ∷ map block_of xs) (ap block_of grown ∙ ap block_of is)
blocks_set (x ∷ xs) (suc at) old new more h is grown = ap (λ (l : List Block). block_of x ∷ l) (blocks_set xs at old new more (omega arith) is grown)

-- the first i regions emptied
abbrev pub emptied_to : ℕ → List Extent → List Extent
emptied_to i xs = map emptied (take i xs) ++ drop i xs

-- clearing changes no block
pub blocks_emptied : (xs : List Extent) → map block_of (map emptied xs) ≡ map block_of xs
blocks_emptied [] = refl
blocks_emptied (x ∷ xs) = ap (λ (l : List Block). block_of x ∷ l) (blocks_emptied xs)

-- regions that were emptied hold no bytes
pub copied_emptied : (xs : List Extent) → copied_in (map emptied xs) ≡ 0
copied_emptied [] = refl
copied_emptied (x ∷ xs) = grind (arith, common_steps, copied_emptied xs)

-- one region more is emptied
pub emptied_more : (xs ys : List Extent) (i : ℕ) (old new : Extent) → i < length xs → ys ≡ emptied_to i xs → new ≡ emptied (get_or ys i old) → set ys i new ≡ emptied_to (i + 1) xs
emptied_more xs ys i old new inside so_far is =
    let x = get_or xs i old in
    let split : ys ≡ map emptied (take i xs) ++ x ∷ drop (i + 1) xs = so_far ∙ ap (λ (l : List Extent). map emptied (take i xs) ++ l) (drop_more xs i old inside) in
    let count : length (map emptied (take i xs)) ≡ i = length-map (take i xs) emptied ∙ length-take-le i xs (omega arith) in
    let at : get_or ys i old ≡ x = ap (λ (l : List Extent). get_or l i old) split ∙ get_or_at (map emptied (take i xs)) x (drop (i + 1) xs) old i count in
    let now : new ≡ emptied x = is ∙ ap emptied at in
    let more : map emptied (take (i + 1) xs) ≡ map emptied (take i xs) ++ emptied x ∷ [] = ap (map emptied) (take_more xs i old inside) ∙ map-append emptied (take i xs) (x ∷ []) in
    ap (λ (l : List Extent). set l i new) split ∙ set_at (map emptied (take i xs)) x (drop (i + 1) xs) new i count ∙ ap (λ (b : Extent). map emptied (take i xs) ++ b ∷ drop (i + 1) xs) now ∙ step (map emptied (take i xs)) (emptied x) (drop (i + 1) xs) (map emptied (take (i + 1) xs)) (sym more)
  where
    step : (p : List Extent) (b : Extent) (r q : List Extent) → p ++ b ∷ [] ≡ q → p ++ b ∷ r ≡ q ++ r
    step p b r q h = sym (append_assoc p (b ∷ []) r) ∙ ap (λ (l : List Extent). l ++ r) h
