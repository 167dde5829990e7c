-- `take` cuts the places in two.
use Rattle.lasso_log.proofs.WalkWords.{◌≡◌, ◌≤◌, ◌+◌, ℕ, arith, List, [], ◌∷◌, refl, w64, named, Val, vptr, vint, SProp, emp, ftrue, flft, ‵, raw, ◌⊛◌, given, ◌$◌, ◌∵◌, !, qed, by, move, keep, let_go, split, join, fsplit, fsplit3, fjoin, fjoin3, learn, use0, use1, rewrite, feq_i, no_more, and_then, returns, enter, alloc_all, pass_all, free_all, look_at, get, sets, agg, tables, yes, Stays, stay_dropped, stay_ref, Goes-dropped, Goes-ref, walk_of, proved, token, Token, token_made, owns, types_at, plain, RattleType, unit, usize, mut_vals, mut_Tells, uint_vals, uint_Tells, nothing, opens, closes, fact, fact_i}
use Prim.Native.Nat.{◌-◌}
use Rattle.lasso_log.proofs.LentBytes.{splits}
use Rattle.lasso_log.specs.Eras.{free}
use Rattle.lasso_log.specs.contracts.shared_memory.rights.Free as Free
use Rattle.lasso_log.specs.contracts.shared_memory.rights.Free.take.{ended, clauses}
use Rattle.lasso_log.specs.contracts.shared_memory.rights.Free.take.Key.{name as #self}
use Rattle.lasso_log.proofs.shared_memory.rights.Free.take.Statement.{statement}
use Rattle.lasso_log.proofs.shared_memory.rights.Free.take.Code as code
use Rattle.std.proofs.raw_atomic.Walks.{leaves}

pub take_spec : {M : Type 1} → statement M
take_spec 𝓤 𝓛 𝓜 𝓡 wired =
    let H = 𝓛.H in let 𝓣 = tables 𝓤 H 𝓜 𝓡 𝓡.env in let fn = code.function in let c = clauses 𝓛 𝓜.mem 𝓡.returns in let Fs : RattleType = Free.the_row in
    let hs : Stays ended.signature.params ended.kept = (stay_ref (0 ∷ []) tt (plain (λ _. Fs)), (stay_dropped (plain (λ _. usize)) yes, tt)) in
    proved 𝓛 ended hs c 𝓜 𝓡 (Goes-ref 𝓛 1 0 tt (plain (λ _. Fs)), (Goes-dropped 𝓛 1 (plain (λ _. usize)) yes (λ κs x f. refl), tt)) #self fn (code.unfolded 𝓤 H 𝓜 𝓡 wired)
    (λ κs. (mut_vals, (uint_vals w64, tt))) (λ κs. (mut_Tells (named 0) κs.0 Fs, (uint_Tells w64, tt))) (λ κs qs bounds a gh are.
    let b : ℕ = a.0.ref_ptr.0 in let o : ℕ = a.0.ref_ptr.1 in let h : Fs.Denot = a.0.now in let n : ℕ = a.1.0 in
    let h' : Fs.Denot = record { marker = h.marker; era = h.era; block = h.block; start = h.start + n; len = h.len - n } in
    let r : Fs.Denot = record { marker = record {}; era = h.era; block = h.block; start = h.start; len = n } in
    let A₁ : Type 0 = (r.era ≡ h.era) × (r.block ≡ h.block) × (r.start ≡ h.start) × (r.len ≡ n) in let A₂ : Type 0 = (h'.era ≡ h.era) × (h'.block ≡ h.block) × (h'.start ≡ h.start + n) × (h'.len + n ≡ h.len) in
    let y : (walk_of 𝓛 ended hs c).Ghost = ((κs, qs, bounds, a, (vptr b o ∷ [], (vint w64 n ∷ [], tt))), gh) in let Post : Val → SProp 𝓤 = (walk_of 𝓛 ended hs c).post y in
    qed 𝓛 (((‵ (flft κs.0 qs.0) ⊛ ‵ ftrue) ⊛ ‵ (owns (types_at ended.signature.params κs) a y.0.4)) ∷ given (n ≤ h.len) (‵ ftrue) ∷ []) ∵ move ! (1 ∷ []) $ learn ! (λ asked. let_go ! $
    let all : h.len ≡ n + h'.len = omega (arith, asked) in
    split ! $ split ! $ move ! (2 ∷ []) $ fsplit ! $ fsplit3 ! $ keep ! (1 ∷ 2 ∷ 4 ∷ []) $
    enter ! 𝓣.C 𝓣.Λ fn (vptr b o ∷ vint w64 n ∷ []) Post $ alloc_all ! (λ l. pass_all ! refl ((tt, tt), ((tt, record { fits = are.1.0.1 }), tt)) $ opens ! tt Fs b o (λ ts. move ! (1 ∷ []) $ fsplit ! $ move ! (1 ∷ []) $
    rewrite ! 0 (λ (k : ℕ). ‵ (free h.era h.block h.start k)) all refl $
    use1 𝓛 (‵ (free h.era h.block h.start n) ⊛ ‵ (free h.era h.block (h.start + n) h'.len)) (splits 𝓛 h.era h.block n h'.len h.start) $ split ! $ move ! (2 ∷ 1 ∷ []) $ fjoin ! $ move ! (2 ∷ 0 ∷ 3 ∷ 4 ∷ 5 ∷ []) $
    closes ! tt Fs h' ts b o $ feq_i ! (List Val) (vptr b o ∷ []) (vptr b o ∷ []) refl $ fjoin3 ! $ nothing ! $ nothing ! $ fjoin ! $ move ! (1 ∷ 0 ∷ []) $ fjoin ! $ nothing ! $ move ! (2 ∷ 0 ∷ []) $ join ! $ move ! (2 ∷ []) $
    use0 𝓛 (‵ ((Token unit).own_val (record {}, tt) (token ∷ []))) (token_made unit 𝓛) $ fjoin ! $ sets ! (agg ! (no_more !)) refl (tt, tt) $ sets ! (agg ! (and_then ! (get ! refl) (no_more !))) refl (tt, (tt, tt)) $
    use0 𝓛 (raw (fact 𝓤 A₂)) (fact_i 𝓤 A₂ (emp 𝓤) (refl, refl, refl, omega (arith, asked))) $ use0 𝓛 (raw (fact 𝓤 A₁)) (fact_i 𝓤 A₁ (emp 𝓤) (refl, refl, refl, refl)) $ join ! $
    returns ! (look_at ! 0 refl) $ free_all ! refl $ keep ! (2 ∷ 3 ∷ 1 ∷ 0 ∷ []) $ by ! (leaves 𝓛 ended hs c y token r (h', (tt, tt)) (tt, (tt, tt)))))))
