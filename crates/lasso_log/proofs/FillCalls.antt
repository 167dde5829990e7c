-- The call of `filled`, as a walk makes it.
use Rattle.std.proofs.Common.{◌≡◌, ℕ, ◌*◌, ◌^◌, ◌<◌, List, [], ◌∷◌, length, refl, sym, ap, ◌∙◌}
use seplogic.Ra.Ura.{Ura}
use base.Fml.{Lft, Share, ftrue, fsep, flft, fhide}
use base.Logic.{SProp, ent, sep, ex, emp, guard, id⊢}
use mir.Val.{Val}
use prog.Memory.{Memory}
use prog.Routine.{Routine}
use contract.Monad.{Fun, fact, fact_i}
use types.Logic.{Logic, sem}
use types.Kit.{‵, raw, ◌⊛◌, some, later, ◌$◌, ◌∵◌, !, qed, move, keep, drop as let_go, use0, use1, split, split3, join, pick, rewrite, fjoin, feq_i, flt_i, check, show, await, updating, now, done}
use denote.Builtin.{u8}
use denote.Ref.{Bor}
use denote.RawPtr.{block_ptr}
use denote.Slice.{elements_shared, shr_slice_vals}
use denote.Steps.{only, heard, nothing}
use denote.Triple.Spec.{triple_of}
use denote.Triple.Statement.{Contract}
use Rattle.core.specs.Mem.Slots.{IsFull, SamePlaces}
use Rattle.core.specs.declared.slots.Slots.{Slots}
use Rattle.core.proofs.slots.Opens.{row_val, words_val, row_had, row_made}
use Rattle.lasso_parts.proofs.RowCalls.{byte, Row}
use Rattle.lasso_log.specs.contracts.shared_memory.rights.filled as filled

module _ {M : Type 1} {𝓤 : Ura M} (𝓛 : Logic 𝓤) (at_mem : Memory → SProp 𝓤) (run : Routine → Fun 𝓤) where
  open 𝓛 use {H}

  abbrev pub Fills : Contract 𝓤
  Fills = triple_of 𝓛 filled.signature (filled.spec 𝓛 at_mem run)

  module _ (κ : Lft) (q : Share) (r : Slots ℕ) (b o : ℕ) (x : Bor (List ℕ)) where
    abbrev pub filling_of : Fills.Ghost
    filling_of = (((κ, tt), (q, tt), tt, (r, (x, tt)), (row_val b o r.len ∷ [], (shr_slice_vals x, tt))), tt)

    pub record IsFilled (d : Slots ℕ) : Type 0 where
      pub at : d.ptr ≡ block_ptr b o
      pub len : d.len ≡ r.len
      pub items : d.items ≡ x.now
      pub full : IsFull d

    pub fills_goes : length x.now ≡ r.len → length x.now < 2 ^ 64 → length x.now * 1 < 2 ^ 63
        → ent 𝓤 (sep 𝓤 (sem 𝓛 (Row.own_val r (row_val b o r.len ∷ []))) (sep 𝓤 (sem 𝓛 (fhide (elements_shared u8 x.now x.ref_ptr.0 x.ref_ptr.1 κ))) (sem 𝓛 (flft κ q)))) (Fills.pre filling_of)
    fills_goes same fits small = let Asked : Type 0 = length x.now ≡ r.len in
        qed 𝓛 (‵ (Row.own_val r (row_val b o r.len ∷ [])) ∷ ‵ (fhide (elements_shared u8 x.now x.ref_ptr.0 x.ref_ptr.1 κ)) ∷ ‵ (flft κ q) ∷ []) ∵
        move ! (1 ∷ []) $ flt_i ! (length x.now * 1) (2 ^ 63) small $ flt_i ! (length x.now) (2 ^ 64) fits $ fjoin ! $
        feq_i ! (List Val) (shr_slice_vals x) (shr_slice_vals x) refl $ fjoin ! $ fjoin ! $
        -- [the slice; the row; the token]
        nothing ! $ move ! (1 ∷ 0 ∷ []) $ fjoin ! $ move ! (1 ∷ 0 ∷ []) $ fjoin ! $
        nothing ! $ move ! (2 ∷ 0 ∷ []) $ join ! $ join ! $
        use0 𝓛 (raw (fact 𝓤 Asked)) (fact_i 𝓤 Asked (emp 𝓤) same) $ move ! (1 ∷ 0 ∷ []) $ done !

    pub fills_gives : r.ptr ≡ block_ptr b o → (v : Val)
        → ent 𝓤 (Fills.post filling_of v) (H.⇛ (ex 𝓤 (λ (d : Slots ℕ). guard 𝓤 ((v ≡ row_val b o d.len) × IsFilled d) (sep 𝓤 (sem 𝓛 (Row.own_val d (row_val b o d.len ∷ []))) (sem 𝓛 (flft κ q))))))
    fills_gives at v =
        qed 𝓛 (raw (Fills.post filling_of v) ∷ []) ∵ updating ! $
        use1 𝓛 (later (some (λ (d : Slots ℕ). ((‵ (flft κ q) ⊛ ‵ ftrue) ⊛ ‵ (Row.own_val d (v ∷ [])))
        ⊛ some (λ (ws : Unit {0} × (Unit {0} × Unit {0})). ‵ (fsep ftrue (fsep ftrue ftrue)) ⊛ raw (fact 𝓤 (SamePlaces r d)) ⊛ raw (fact 𝓤 (d.items ≡ x.now)) ⊛ raw (fact 𝓤 (IsFull d)))))) (id⊢ 𝓤 _) $ await ! tt $ pick ! (λ d.
        split ! $ move ! (1 ∷ []) $ pick ! (λ ws. split ! $ let_go ! $ split3 ! $ heard ! (SamePlaces r d) (λ places. heard ! (d.items ≡ x.now) (λ items. heard ! (IsFull d) (λ full.
        split ! $ split ! $ move ! (2 ∷ []) $
        row_had byte ! d (v ∷ []) (λ b' o' at' words fits small. row_made byte ! d b' o' at' fits small $
        let start : d.ptr ≡ block_ptr b o = places.start ∙ at in
        let same : row_val b' o' d.len ≡ row_val b o d.len = ap (λ p. words_val p d.len) (sym at' ∙ start) in
        rewrite ! 0 (λ (u : Val). ‵ (Row.own_val d (u ∷ []))) same refl $ now ! $
        show ! (λ (e : Slots ℕ). guard 𝓤 ((v ≡ row_val b o e.len) × IsFilled e) (sep 𝓤 (sem 𝓛 (Row.own_val e (row_val b o e.len ∷ []))) (sem 𝓛 (flft κ q)))) d $
        check ! (ap only words ∙ same, record { at = start; len = places.count; items = items; full = full }) $ keep ! (0 ∷ 1 ∷ []) $ done !))))))
