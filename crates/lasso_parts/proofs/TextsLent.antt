-- What an entry's loan and the regions lend of its text.
--
-- Of a text that lives as long as the program the loan is a `&` to each byte, for ever, and so for any
-- shorter time. Of a text that an arena copied the regions lend each byte: a `&` to a slice of regions is a
-- `&` to each, the other regions are dropped, and the one region is its places, which hold its bytes, and
-- their number. The places lend a `&` to each byte of a run of them (`PlacesLent`). The bytes of the span are
-- such a run, since it lies within the bytes of the region.
use Rattle.std.proofs.Common.{◌≡◌, ℕ, zero, suc, ◌+◌, ◌-◌, ◌^◌, ◌<◌, ◌≤◌, List, [], ◌∷◌, length, take, drop, refl, sym, ap, subst, ◌∙◌, arith}
use Rattle.std.proofs.lemmas.List.{drop-take, take-take, length-take, length-drop}
use Rattle.std.specs.Prelude.{slice_range}
use seplogic.Ra.Ura.{Ura}
use base.Fml.{Lft, Fml, fsep, flt}
use base.Logic.{ent, via, fst∗, snd∗}
use contract.BorrowLft.{⊑_static}
use types.Logic.{Logic, sem}
use types.Kit.{‵, ◌$◌, ◌∵◌, !, qed, move, keep, fsplit, fjoin, fpick, flt_l, flt_i, rewrite, use1, done}
use mir.Syntax.{w8}
use denote.Builtin.{u8}
use denote.Memory.{shared_of, mem}
use denote.Plain.{uint_row_laws}
use denote.RawPtr.{Ptr, block_ptr, null_ptr, block_of, count_of, ◌+ₚ◌}
use denote.Sharing.{ShrLaws}
use denote.SharingLaws.{nothing_shr_laws, shortens}
use denote.Slice.{elements_shared, elements_shr_laws}
use Rattle.core.specs.Mem.Slots.{slots_ptr}
use Rattle.core.specs.Mem.Slots.Ownership.{slots_lent}
use Rattle.core.specs.declared.slots.Slots.{Slots}
use Rattle.lasso_parts.specs.Arena.{region_at, text_at}
use Rattle.lasso_parts.specs.Bucket.{Extent}
use Rattle.lasso_parts.specs.Block.{AreFilled, LeadsToBlock}
use Rattle.lasso_parts.specs.Loans.{lent}
use Rattle.lasso_parts.specs.Entries.{Source, LentText, Copied, Static, AreWordsOf, IsLent, IsWhole, LiesAt, source_len, source_text, lent_bytes}
use Rattle.lasso_parts.specs.contracts.bucket.region.Region.{the_row as Part}
use Rattle.lasso_parts.proofs.PlacesLent.{run_lent}

-- a loan may be had twice, and for a shorter time
pub lent_laws : (source : Source) (p : Ptr) → ShrLaws (lent source p)
lent_laws (Copied span) p = nothing_shr_laws
lent_laws (Static text) p = elements_shr_laws u8 (uint_row_laws w8) text (block_of p) (count_of p)

-- a run of the first bytes is a run of all
range_within : (used start len : ℕ) (xs : List ℕ) → start + len ≤ used → slice_range (take used xs) start (start + len) ≡ take len (drop start xs)
range_within used start len xs fits =
    let rest : ℕ = used - start in
    let split : used ≡ start + rest = omega (arith, fits) in
    let part : start + len - start ≡ len = omega arith in
    let long : len ≤ rest = omega (arith, fits) in
    ap (λ (n : ℕ). take n (drop start (take used xs))) part ∙ ap (λ (n : ℕ). take len (drop start (take n xs))) split ∙ ap (take len) (drop-take start rest xs) ∙ take-take len rest (drop start xs) long

abbrev IsBlock : Ptr → Type 0
IsBlock (block_ptr b o) = Unit {0}
IsBlock null_ptr = ⊥

-- an address that leads to a block, moved on
moved : (p at : Ptr) (start : ℕ) → p ≡ at +ₚ start → LeadsToBlock p → (block_of p ≡ block_of at) × (count_of p ≡ count_of at + start)
moved p (block_ptr b o) start is block = (ap block_of is, ap count_of is)
moved p null_ptr start is block = absurd (subst IsBlock (sym block ∙ is) tt)

module _ {M : Type 1} {𝓤 : Ura M} (𝓛 : Logic 𝓤) (κ : Lft) where
  -- this number of bytes from there on, and room for them
  abbrev Run : List ℕ → ℕ → Ptr → ℕ → Fml
  Run bytes len p start = fsep (flt len (2 ^ 63)) (elements_shared u8 bytes (block_of p) (count_of p + start) κ)

  -- a region lends each run of its bytes
  region_lent : (r : Extent) (rb ro start len : ℕ) → start + len ≤ length r.bytes
      → ent 𝓤 (sem 𝓛 (shared_of Part r rb ro κ)) (sem 𝓛 (Run (slice_range r.bytes start (start + len)) len r.at start))
  region_lent r rb ro start len fits =
      qed 𝓛 (‵ (shared_of Part r rb ro κ) ∷ []) ∵ fpick ! (λ x. fsplit ! $ fsplit ! $ fsplit ! $ fpick ! (λ y. let d = y.0 in
      fsplit ! $ fsplit ! $ fsplit ! $ fsplit ! $ move ! (1 ∷ []) $ fsplit ! $ fsplit ! $ move ! (1 ∷ []) $ fsplit ! $ flt_l ! (λ small.
      -- [what the row lends; ..]
      let block : Slots ℕ = x.0.block in let used : ℕ = x.0.used in let xs : List ℕ = d.slots.items in
      let b : ℕ = block_of d.ptr in let o : ℕ = count_of d.ptr in
      let begins : d.slots.ptr ≡ block_ptr b o = sym y.1.1.0 ∙ y.1.1.1 in
      let lies : block_ptr b o ≡ r.at = sym begins ∙ ap slots_ptr y.1.0 ∙ ap (λ (e : Extent). e.at) x.1.0 in
      let held : AreFilled d.slots 0 used = subst (λ (s : Slots ℕ). AreFilled s 0 used) (sym y.1.0) x.1.1 in
      let bytes : take used xs ≡ r.bytes = ap (λ (s : Slots ℕ). take used s.items) y.1.0 ∙ ap (λ (e : Extent). e.bytes) x.1.0 in
      let some : start + len ≤ used = omega (arith, fits, ap length bytes, length-take used xs) in
      let inside : start + len ≤ length xs = omega (arith, some, held.within, d.slots.ok.0) in
      let run : List ℕ = take len (drop start xs) in
      let same : run ≡ slice_range r.bytes start (start + len) = sym (range_within used start len xs some) ∙ ap (λ (l : List ℕ). slice_range l start (start + len)) bytes in
      rewrite ! 0 (λ (p : Ptr). ‵ (slots_lent u8 p xs d.slots.filled κ)) begins refl $
      use1 𝓛 (‵ (elements_shared u8 run b (o + start) κ)) (run_lent 𝓛 κ b start len o (o + start) xs d.slots.filled (omega arith) (sym d.slots.ok.1 ∙ d.slots.ok.0) inside (λ k low high. held.full k (omega arith) (omega (arith, high, some)))) $
      rewrite ! 0 (λ (p : Ptr). ‵ (elements_shared u8 run (block_of p) (count_of p + start) κ)) lies refl $
      rewrite ! 0 (λ (l : List ℕ). ‵ (elements_shared u8 l (block_of r.at) (count_of r.at + start) κ)) same refl $
      flt_i ! len (2 ^ 63) (omega (arith, small, inside, d.slots.ok.0)) $ fjoin ! $ keep ! (0 ∷ []) $ done !)))

  -- a slice of regions lends each run of the bytes of one of them
  one_lent : (n : ℕ) (rs : List Extent) (rb ro start len : ℕ) → n < length rs → start + len ≤ length (region_at rs n).bytes
      → ent 𝓤 (sem 𝓛 (elements_shared Part rs rb ro κ)) (sem 𝓛 (Run (slice_range (region_at rs n).bytes start (start + len)) len (region_at rs n).at start))
  one_lent n [] rb ro start len inside fits = absurd (omega arith)
  one_lent zero (r ∷ rs) rb ro start len inside fits =
      via 𝓤 (sem 𝓛 (shared_of Part r rb ro κ)) (fst∗ 𝓤 (sem 𝓛 (shared_of Part r rb ro κ)) (sem 𝓛 (elements_shared Part rs rb (ro + (mem Part).size) κ))) (region_lent r rb ro start len fits)
  one_lent (suc n) (r ∷ rs) rb ro start len inside fits =
      via 𝓤 (sem 𝓛 (elements_shared Part rs rb (ro + (mem Part).size) κ)) (snd∗ 𝓤 (sem 𝓛 (shared_of Part r rb ro κ)) (sem 𝓛 (elements_shared Part rs rb (ro + (mem Part).size) κ)))
      (one_lent n rs rb (ro + (mem Part).size) start len (omega arith) fits)

  -- what the loan and the regions lend of the bytes of an entry's text
  pub text_lent : (regions : List Extent) (e : LentText) (ptr : Ptr) (len rb ro : ℕ) → IsLent regions e → AreWordsOf e ptr len
      → ent 𝓤 (sem 𝓛 (fsep (lent e.source e.at []) (elements_shared Part regions rb ro κ))) (sem 𝓛 (fsep (flt len (2 ^ 63)) (elements_shared u8 (lent_bytes regions e) (block_of e.at) (count_of e.at) κ)))
  text_lent regions e ptr len rb ro there kept = by_source e.source e.at there kept.block kept.count kept.whole
    where
      by_source : (s : Source) (at : Ptr) → LiesAt regions at s → LeadsToBlock at → len ≡ source_len s → IsWhole s
          → ent 𝓤 (sem 𝓛 (fsep (lent s at []) (elements_shared Part regions rb ro κ))) (sem 𝓛 (fsep (flt len (2 ^ 63)) (elements_shared u8 (source_text regions s) (block_of at) (count_of at) κ)))
      by_source (Static text) at lies block count whole =
          qed 𝓛 (‵ (elements_shared u8 text (block_of at) (count_of at) []) ∷ ‵ (elements_shared Part regions rb ro κ) ∷ []) ∵
          keep ! (0 ∷ []) $ use1 𝓛 (‵ (elements_shared u8 text (block_of at) (count_of at) κ))
          (shortens 𝓛 (elements_shared u8 text (block_of at) (count_of at)) (elements_shr_laws u8 (uint_row_laws w8) text (block_of at) (count_of at)) [] κ (⊑_static κ)) $
          flt_i ! len (2 ^ 63) (subst (λ (n : ℕ). n < 2 ^ 63) (sym count) whole.0) $ fjoin ! $ done !
      by_source (Copied span) at lies block count whole =
          let r : Extent = region_at regions span.region in
          let on = moved at r.at span.start lies.1 block in
          qed 𝓛 (‵ (lent (Copied span) at []) ∷ ‵ (elements_shared Part regions rb ro κ) ∷ []) ∵
          keep ! (1 ∷ []) $ use1 𝓛 (‵ (Run (text_at regions span) span.len r.at span.start)) (one_lent span.region regions rb ro span.start span.len lies.0.region lies.0.bytes) $
          rewrite ! 0 (λ (n : ℕ). ‵ (fsep (flt n (2 ^ 63)) (elements_shared u8 (text_at regions span) (block_of r.at) (count_of r.at + span.start) κ))) (sym count) refl $
          rewrite ! 0 (λ (b : ℕ). ‵ (fsep (flt len (2 ^ 63)) (elements_shared u8 (text_at regions span) b (count_of r.at + span.start) κ))) (sym on.0) refl $
          rewrite ! 0 (λ (o : ℕ). ‵ (fsep (flt len (2 ^ 63)) (elements_shared u8 (text_at regions span) (block_of at) o κ))) (sym on.1) refl $ done !

-- the number of bytes of an entry's text
pub text_len : (regions : List Extent) (e : LentText) (ptr : Ptr) (len : ℕ) → IsLent regions e → AreWordsOf e ptr len → length (lent_bytes regions e) ≡ len
text_len regions e ptr len there kept = by_source e.source e.at there kept.count
  where
    by_source : (s : Source) (at : Ptr) → LiesAt regions at s → len ≡ source_len s → length (source_text regions s) ≡ len
    by_source (Static text) at lies count = sym count
    by_source (Copied span) at lies count =
        let bytes : List ℕ = (region_at regions span.region).bytes in
        let part : span.start + span.len - span.start ≡ span.len = omega arith in
        let long : length (take span.len (drop span.start bytes)) ≡ span.len = omega (arith, length-take span.len (drop span.start bytes), length-drop span.start bytes, lies.0.bytes) in
        ap (λ (n : ℕ). length (take n (drop span.start bytes))) part ∙ long ∙ sym count
