-- `look` opens the book, whose log is past what was seen, and in which the pen's word isn't at home.
use Rattle.std.proofs.Common.{List, [], ◌∷◌, sym, refl}
use mir.Syntax.{a_type, dcons, dnil, named}
use mir.Val.{Val, vunit, vptr}
use mir.MapTy.{inst_fn}
use base.Logic.{SProp, emp}
use base.Fml.{Fml, ftrue, fsep, flft}
use types.Kit.{‵, raw, ◌⊛◌, some, given, later, ◌$◌, ◌∵◌, !, qed, by, move, keep, drop, split, fsplit, fsplit3, fjoin, fjoin3, pick, learn, use2, await, rewrite, feq_i}
use types.Run.{of_opd, unit_lit, returns, enter}
use types.ByLocal.{alloc_all, pass_all, free_all, look_at, sets}
use contract.Monad.{fact, fact_i}
use contract.Running.{tables}
use denote.RattleType.{RattleType, owns}
use denote.Signature.{types_at, plain}
use denote.Ref.{mut_vals, mut_Tells}
use denote.Steps.{nothing, opens, closes}
use denote.Param.{param, bounded}
use denote.Triple.Walked.{Stays, stay_ref, walk_of, Goes-ref}
use Rattle.std.proofs.raw_atomic.Walks.{proved}
use Rattle.logbook.specs.Pages.{Book}
use Rattle.logbook.specs.Kept.{rules, seen_owns, pen_owns}
use Rattle.logbook.specs.contracts.tokens.Seen as Seen
use Rattle.logbook.specs.contracts.tokens.Pen as Pen
use Rattle.logbook.proofs.Fields.{ends}
use Rattle.lasso_log.proofs.PenOut.{WasOut, finds_out}
use Rattle.lasso_log.specs.contracts.log.book.looks.look.{ended, clauses}
use Rattle.lasso_log.specs.contracts.log.book.looks.look.Key.{name as #self}
use Rattle.lasso_log.proofs.log.book.looks.look.Statement.{statement}
use Rattle.lasso_log.proofs.log.book.looks.look.Code as code

pub look_spec : {M : Type 1} → statement M
look_spec 𝓤 𝓛 𝓜 𝓡 wired E A P _ _ _ g d _ =
    let H = 𝓛.H in let 𝓣 = tables 𝓤 H 𝓜 𝓡 𝓡.env in let E' : RattleType = param 0 E in let A' : RattleType = param 1 A in let P' : RattleType = param 2 P in let En = ended E A P g d in
    let inst = bounded (a_type ∷ a_type ∷ a_type ∷ []) (E, (A, (P, tt))) (dcons d dnil) in let fn = inst_fn inst code.function in let c = clauses E A P g d 𝓛 𝓜.mem 𝓡.returns in
    let rule = rules g.holds g.shows g.keeps in let cv = E'.coded in let S : RattleType = Seen.the_row E' A' P' g in
    let hs : Stays En.signature.params En.kept = (stay_ref (0 ∷ []) tt (plain (λ _. S)), (stay_ref (1 ∷ []) tt (plain (λ _. Pen.the_row)), tt)) in
    proved 𝓛 En hs c 𝓜 𝓡 (Goes-ref 𝓛 5 0 tt (plain (λ _. S)), (Goes-ref 𝓛 5 1 tt (plain (λ _. Pen.the_row)), tt)) (#self inst) fn (code.unfolded 𝓤 H 𝓜 𝓡 wired (E, (A, (P, tt))) d)
    (λ κs. (mut_vals, (mut_vals, tt))) (λ κs. (mut_Tells (named 0) κs.0 S, (mut_Tells (named 1) κs.1.0 Pen.the_row, tt))) (λ κs qs bounds a gh are.
    let me = a.0.now in let pen = a.1.0.now in let b = a.0.ref_ptr.0 in let o = a.0.ref_ptr.1 in let b' = a.1.0.ref_ptr.0 in let o' = a.1.0.ref_ptr.1 in
    let y : (walk_of 𝓛 En hs c).Ghost = ((κs, qs, bounds, a, (vptr b o ∷ [], (vptr b' o' ∷ [], tt))), gh) in let Post : Val → SProp 𝓤 = (walk_of 𝓛 En hs c).post y in
    let toks : Fml = fsep (flft κs.0 qs.0) (fsep (flft κs.1.0 qs.1.0) (fsep (flft κs.1.1.0 qs.1.1.0) (fsep (flft κs.1.1.1.0 qs.1.1.1.0) (fsep (flft κs.1.1.1.1.0 qs.1.1.1.1.0) ftrue)))) in
    qed 𝓛 ((‵ toks ⊛ ‵ (owns (types_at En.signature.params κs) a y.0.4)) ∷ raw (fact 𝓤 _) ∷ raw (fact 𝓤 _) ∷ raw (fact 𝓤 _) ∷ given _ (‵ ftrue) ∷ []) ∵ keep ! (4 ∷ 0 ∷ []) $ learn ! (λ asked. drop ! $ split ! $
    fsplit ! $ move ! (1 ∷ []) $ fsplit ! $ move ! (3 ∷ []) $ fsplit ! $ fsplit3 ! $ move ! (3 ∷ []) $ fsplit ! $ fsplit3 ! $ keep ! (1 ∷ 2 ∷ 5 ∷ 6 ∷ 7 ∷ 8 ∷ 9 ∷ []) $
    enter ! 𝓣.C 𝓣.Λ fn (vptr b o ∷ vptr b' o' ∷ []) Post $ alloc_all ! (λ l. pass_all ! refl ((tt, tt), ((tt, tt), tt)) $
    -- [the pen's loan, 2; the seen's loan, 2; the pen's token; other tokens; the seen's token]
    move ! (2 ∷ 3 ∷ 6 ∷ []) $ opens ! tt S b o (λ vs. move ! (5 ∷ 6 ∷ 7 ∷ []) $ opens ! tt Pen.the_row b' o' (λ vs'.
    move ! (1 ∷ []) $ fsplit ! $ move ! (7 ∷ []) $ fsplit ! $ move ! (1 ∷ 3 ∷ []) $ rewrite ! 1 (λ (z : Book). ‵ (pen_owns z pen.nib)) asked.0 refl $
    use2 𝓛 (later (some (λ (log : List E.Denot). given (WasOut 𝓛 cv rule me.book me.names pen.nib me.log log) (‵ (seen_owns cv.code rule me.book me.names log) ⊛ ‵ (pen_owns me.book pen.nib))))) (finds_out 𝓛 cv rule me.book me.names pen.nib me.log asked.1) $
    await ! tt $ pick ! (λ log. learn ! (λ so. split ! $ rewrite ! 1 (λ (z : Book). ‵ (pen_owns z pen.nib)) (sym asked.0) refl $
    let me' : S.Denot = record { marker = record {}; book = me.book; names = me.names; log = log } in
    move ! (3 ∷ 1 ∷ []) $ fjoin ! $ move ! (3 ∷ 0 ∷ 4 ∷ 5 ∷ 6 ∷ []) $ closes ! tt Pen.the_row pen vs' b' o' $
    move ! (4 ∷ 3 ∷ []) $ fjoin ! $ move ! (4 ∷ 0 ∷ 5 ∷ 6 ∷ 7 ∷ []) $ closes ! tt S me' vs b o $
    sets ! (of_opd ! (unit_lit !)) refl (tt, tt) $ feq_i ! (List Val) (vunit ∷ []) (vunit ∷ []) refl $
    move ! (6 ∷ 7 ∷ []) $ fjoin ! $ move ! (4 ∷ 0 ∷ []) $ fjoin ! $ nothing ! $ feq_i ! (List Val) (vptr b' o' ∷ []) (vptr b' o' ∷ []) refl $ move ! (0 ∷ 6 ∷ 7 ∷ []) $ fjoin3 ! $ fjoin ! $
    feq_i ! (List Val) (vptr b o ∷ []) (vptr b o ∷ []) refl $ move ! (0 ∷ 4 ∷ 5 ∷ []) $ fjoin3 ! $ fjoin ! $
    returns ! (look_at ! 0 refl) $ free_all ! refl $ keep ! (1 ∷ 0 ∷ 2 ∷ []) $ by ! (ends 𝓛 En hs c y vunit tt (me', (pen, tt)) (tt, (tt, tt)) (fact_i 𝓤 _ (emp 𝓤) (refl, refl, refl, refl, so.0, so.1))))))))))
