-- `new`: the word 0 and the value, side by side. Assumes `Logic`.
-- A latch that nobody shares owns any word and a value that fits, and the caller gives both: so the struct of the two is one, for the caller's tag.
use Rattle.lasso_lock.proofs.Walks.{◌≡◌, ℕ, ◌^◌, ◌&&◌, T, List, [], ◌∷◌, ◌++◌, sym, refl, subst, lit<, w64, and_tt, dcons, dnil, a_type, Val, vint, vptr, vstruct, vcons, vnil, has_ty, WT, inst_fn, SProp, ent, emp, id⊢, Fml, ftrue, fsep, fex, WpFn, ‵, raw, ◌⊛◌, ◌$◌, ◌∵◌, !, qed, by, move, keep, split, fsplit, fjoin, fjoin3, fpack, use0, rewrite, feq_i, flt_i, suffices, lit, of_opd, no_more, and_then, returns, enter, alloc_all, pass_all, free_all, look_at, get, sets, agg, tables, fact, fact_i, yes, no, RattleType, Valss, owns, types_at, plain, nothing, heard, Typed, param, layout, bounded, RefOf, u64, within, alive, Stays, stay_dropped, walk_of, Goes-dropped, El, lawful, Good, one, proved_at, leaves}
use Rattle.std.proofs.Common.{true}
use Rattle.lasso_lock.specs.contracts.latch.Latch.TheInside as inside
use Rattle.lasso_lock.specs.contracts.latch.Latch.new as f
use Rattle.lasso_lock.proofs.latch.Latch.new.Statement.{statement}
use Rattle.lasso_lock.proofs.latch.Latch.new.Code as code

pub new_spec : {M : Type 1} → statement M
new_spec 𝓤 𝓛 𝓜 𝓡 wired X Y L _ g d _ =
    let H = 𝓛.H in let 𝓣 = tables 𝓤 H 𝓜 𝓡 𝓡.env in let R : RattleType = param 0 X in let G : RattleType = param 1 Y in let E : El = record { row = X; laws = L } in let ended = f.ended X Y g d in let c = f.clauses X Y g d 𝓛 𝓜.mem 𝓡.returns in
    let inst = bounded (a_type ∷ a_type ∷ []) (X, (Y, tt)) (dcons d dnil) in let fn = inst_fn inst code.function in let F : RattleType = inside.the_row R G g in let D = denote.Struct.Declared.shape (inside.the_type R G g) in
    let item = plain (λ _. R) in let about = RefOf (0 ∷ []) tt (plain (λ _. G)) (λ _. tt) in let stays : Stays ended.signature.params ended.kept = (stay_dropped item no, (stay_dropped about yes, tt)) in
    proved_at 𝓛 ended stays c 𝓜 𝓡 (Goes-dropped 𝓛 3 item no (λ κs x w. refl), (Goes-dropped 𝓛 3 about yes (λ κs x w. refl), tt)) (f.Key.name inst) fn (code.unfolded 𝓤 H 𝓜 𝓡 wired (X, (Y, tt)) d) (λ z are.
    let x : X.Denot = z.0.3.0 in let tag : Y.Denot = z.0.3.1.0.now in let fits = g.fits tag in let place : Val = vptr z.0.3.1.0.ref_ptr.0 z.0.3.1.0.ref_ptr.1 in
    let got = one E z.0.4.0 ((lawful E 𝓛).typed x z.0.4.0 are.0) in let vx : Val = got.0 in let fx : Good E vx = got.2 in let v : Val = vstruct (vcons (vint w64 0) (vcons vx vnil)) in
    let typed : T (has_ty (layout X) vx && true) × WT v = (and_tt (has_ty (layout X) vx) fx.0, (record { fits = lit< tt }, (fx.1, tt))) in
    let Post : Val → SProp 𝓤 = (walk_of 𝓛 ended stays c).post z in let Run : List Val → SProp 𝓤 = λ ws. WpFn 𝓤 H 𝓣.C 𝓣.Λ fn ws Post in
    qed 𝓛 ((raw (alive 𝓛 ended.signature z.0.0 z.0.1) ⊛ ‵ (owns (types_at ended.signature.params z.0.0) z.0.3 z.0.4)) ∷ raw (fact 𝓤 _) ∷ raw (fact 𝓤 _) ∷ raw (fact 𝓤 (fits x)) ∷ []) ∵
    keep ! (3 ∷ 0 ∷ []) $ heard ! (fits x) (λ fit. split ! $ move ! (1 ∷ []) $ fsplit ! $ keep ! (0 ∷ 2 ∷ []) $
    -- [the value; the tokens]: the struct of the word and the value, and that it fits
    let Fields_at : ℕ → X.Denot → Fml = λ w u. F.own_val (record { state = w; content = u }) (v ∷ []) in let Of : ℕ → X.Denot → Fml = λ w u. fsep (fex (fits u) (λ _. ftrue)) (Fields_at w u) in
    rewrite ! 0 (λ (ws : List Val). ‵ (R.own_val x ws)) got.1 refl $ nothing ! $ move ! (1 ∷ 0 ∷ []) $ flt_i ! 0 (2 ^ 64) (lit< tt) $ feq_i ! (List Val) (vint w64 0 ∷ []) (vint w64 0 ∷ []) refl $ fjoin ! $ fjoin3 ! $
    feq_i ! (List Val) (v ∷ []) (v ∷ []) refl $ fjoin ! $ fpack ! (Valss (u64 ∷ R ∷ [])) (within D (0, (x, tt)) (v ∷ [])) (vint w64 0 ∷ [], (vx ∷ [], tt)) $
    nothing ! $ fpack ! (fits x) (λ _. ftrue) fit $ fjoin ! $ fpack ! X.Denot (Of 0) x $ fpack ! ℕ (λ w. fex X.Denot (Of w)) 0 $ nothing ! $ fpack ! (Typed F.mir (v ∷ [])) (λ _. ftrue) (typed, tt) $ fjoin ! $
    suffices ! (Run (vx ∷ place ∷ [])) (subst (λ (ws : List Val). ent 𝓤 (Run (vx ∷ place ∷ [])) (Run ws)) (sym (λ i. got.1 i ++ (are.1.0.0 i ++ []))) (id⊢ 𝓤 (Run (vx ∷ place ∷ [])))) $
    let Same : Type 0 = tag ≡ tag in use0 𝓛 (raw (fact 𝓤 Same)) (fact_i 𝓤 Same (emp 𝓤) refl) $ move ! (1 ∷ []) $
    -- [the latch; that it has the caller's tag; the tokens]
    enter ! 𝓣.C 𝓣.Λ fn (vx ∷ place ∷ []) Post $ alloc_all ! (λ l. pass_all ! refl (fx, ((tt, tt), tt)) $ sets ! (of_opd ! (get ! refl)) refl fx $
    sets ! (agg ! (and_then ! (lit ! tt) (and_then ! (get ! refl) (no_more !)))) refl typed $ nothing ! $ nothing ! $ fjoin ! $ nothing ! $ fjoin ! $
    returns ! (look_at ! 0 refl) $ free_all ! refl $ keep ! (3 ∷ 0 ∷ 1 ∷ 2 ∷ []) $ by ! (leaves 𝓛 ended stays c z v tag (tt, (tt, tt)) (tt, (tt, tt))))))
