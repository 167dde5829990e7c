-- `learn_if_same` looks at the book's log, which is past what was seen, and past what the other has seen if that is of this book.
use Rattle.lasso_log.proofs.WalkWords.{List, [], ◌∷◌, refl, a_type, dcons, dnil, named, inst_fn, Val, vunit, vptr, SProp, emp, Fml, ftrue, fsep, flft, ‵, raw, ◌⊛◌, some, given, later, ◌$◌, ◌∵◌, !, qed, by, move, keep, let_go, split, fsplit, fsplit3, fjoin, fjoin3, pick, learn, use1, use2, await, feq_i, of_opd, unit_lit, returns, enter, alloc_all, pass_all, free_all, look_at, sets, fact_i, tables, yes, RattleType, owns, types_at, plain, RefOf, mut_vals, mut_Tells, shr_vals, shr_Tells, param, bounded, unhide, nothing, opens, closes, Tuple, Stays, stay_dropped, stay_ref, walk_of, Goes-dropped, Goes-ref, proved, Token, ends}
use base.Fml.{fhide}
use denote.Memory.{hidden_shr}
use denote.Struct.Lending.{lent_out}
use Rattle.core.specs.contracts.marker.PhantomData as marker
use Rattle.logbook.specs.Kept.{rules, seen_owns, reached}
use Rattle.logbook.specs.contracts.tokens.Seen as Seen
use Rattle.logbook.proofs.Steps as steps
use Rattle.lasso_log.proofs.Meeting.{Met, meets}
use Rattle.lasso_log.specs.contracts.log.book.looks.learn_if_same.{ended, clauses}
use Rattle.lasso_log.specs.contracts.log.book.looks.learn_if_same.Key.{name as #self}
use Rattle.lasso_log.proofs.log.book.looks.learn_if_same.Statement.{statement}
use Rattle.lasso_log.proofs.log.book.looks.learn_if_same.Code as code

pub learn_if_same_spec : {M : Type 1} → statement M
learn_if_same_spec 𝓤 𝓛 𝓜 𝓡 wired E A P _ _ _ g d _ =
    let H = 𝓛.H in let 𝓣 = tables 𝓤 H 𝓜 𝓡 𝓡.env in let E' : RattleType = param 0 E in let A' : RattleType = param 1 A in let P' : RattleType = param 2 P in let En = ended E A P g d in
    let inst = bounded (a_type ∷ a_type ∷ a_type ∷ []) (E, (A, (P, tt))) (dcons d dnil) in let fn = inst_fn inst code.function in let c = clauses E A P g d 𝓛 𝓜.mem 𝓡.returns in
    let rule = rules g.holds g.shows g.keeps in let cv = E'.coded in let All : RattleType = Tuple (E' ∷ A' ∷ P' ∷ []) in let S : RattleType = Seen.the_row E' A' P' g in
    let hs : Stays En.signature.params En.kept = (stay_ref (0 ∷ []) tt (plain (λ _. S)), (stay_dropped (RefOf (1 ∷ []) tt (plain (λ _. S)) (λ _. tt)) yes, tt)) in
    proved 𝓛 En hs c 𝓜 𝓡 (Goes-ref 𝓛 5 0 tt (plain (λ _. S)), (Goes-dropped 𝓛 5 (RefOf (1 ∷ []) tt (plain (λ _. S)) (λ _. tt)) yes (λ κs x f. refl), tt)) (#self inst) fn (code.unfolded 𝓤 H 𝓜 𝓡 wired (E, (A, (P, tt))) d)
    (λ κs. (mut_vals, (shr_vals, tt))) (λ κs. (mut_Tells (named 0) κs.0 S, (shr_Tells (named 1) κs.1.0 S, tt))) (λ κs qs bounds a gh are.
    let me = a.0.now in let other = a.1.0.now in let b = a.0.ref_ptr.0 in let o = a.0.ref_ptr.1 in let b' = a.1.0.ref_ptr.0 in let o' = a.1.0.ref_ptr.1 in
    let y : (walk_of 𝓛 En hs c).Ghost = ((κs, qs, bounds, a, (vptr b o ∷ [], (vptr b' o' ∷ [], tt))), gh) in let Post : Val → SProp 𝓤 = (walk_of 𝓛 En hs c).post y in
    let toks : Fml = fsep (flft κs.0 qs.0) (fsep (flft κs.1.0 qs.1.0) (fsep (flft κs.1.1.0 qs.1.1.0) (fsep (flft κs.1.1.1.0 qs.1.1.1.0) (fsep (flft κs.1.1.1.1.0 qs.1.1.1.1.0) ftrue)))) in
    qed 𝓛 ((‵ toks ⊛ ‵ (owns (types_at En.signature.params κs) a y.0.4)) ∷ raw ((c κs a).requires gh) ∷ []) ∵ keep ! (0 ∷ []) $ split ! $
    fsplit ! $ move ! (1 ∷ []) $ fsplit ! $ move ! (3 ∷ []) $ fsplit ! $ fsplit3 ! $ move ! (3 ∷ []) $ fsplit ! $ fsplit ! $ keep ! (1 ∷ 4 ∷ 5 ∷ 6 ∷ 7 ∷ 8 ∷ []) $
    enter ! 𝓣.C 𝓣.Λ fn (vptr b o ∷ vptr b' o' ∷ []) Post $ alloc_all ! (λ l. pass_all ! refl ((tt, tt), ((tt, tt), tt)) $
    use1 𝓛 (‵ (hidden_shr (Token All) κs.1.0 (record {}, tt) b' o') ⊛ ‵ (fhide (seen_owns cv.code rule other.book other.names other.log))) (lent_out 𝓛 (Seen.struct E' A' P' g) (Seen.the_codes E.Denot A.Denot P.Denot E'.coded A'.coded P'.coded (marker.the_row All).coded) (Seen.the_heap E' A' P' g) (Seen.the_lent E' A' P' g) κs.1.0 other b' o') $ split ! $ let_go ! $ unhide ! $
    use1 𝓛 (‵ (reached cv.code other.book.log_name other.log)) (steps.seen_log 𝓛 cv rule other.book other.names other.log) $
    move ! (1 ∷ 2 ∷ 5 ∷ []) $ opens ! tt S b o (λ vs. move ! (1 ∷ []) $ fsplit ! $
    move ! (1 ∷ 6 ∷ []) $ use2 𝓛 (later (some (λ (log : List E.Denot). given (Met 𝓛 cv rule me.book me.names other.book me.log other.log log) (‵ (seen_owns cv.code rule me.book me.names log))))) (meets 𝓛 cv rule me.book me.names other.book me.log other.log) $
    await ! tt $ pick ! (λ log. learn ! (λ so. let after : S.Denot = record { marker = record {}; book = me.book; names = me.names; log = log } in
    move ! (1 ∷ 0 ∷ []) $ fjoin ! $ move ! (1 ∷ 0 ∷ 2 ∷ 3 ∷ 4 ∷ []) $ closes ! tt S after vs b o $ sets ! (of_opd ! (unit_lit !)) refl (tt, tt) $ feq_i ! (List Val) (vunit ∷ []) (vunit ∷ []) refl $
    move ! (4 ∷ 5 ∷ []) $ fjoin ! $ move ! (4 ∷ 0 ∷ []) $ fjoin ! $ nothing ! $ nothing ! $ fjoin ! $ feq_i ! (List Val) (vptr b o ∷ []) (vptr b o ∷ []) refl $ move ! (0 ∷ 4 ∷ 5 ∷ []) $ fjoin3 ! $ fjoin ! $
    returns ! (look_at ! 0 refl) $ free_all ! refl $ keep ! (1 ∷ 0 ∷ 2 ∷ []) $ by ! (ends 𝓛 En hs c y vunit tt (after, (tt, tt)) (tt, (tt, tt)) (fact_i 𝓤 _ (emp 𝓤) (refl, refl, so.0, so.1, so.2))))))))
