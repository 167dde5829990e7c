-- The two pens hold three quarters of their words' cells each, and of one cell that can't be had twice.
use Rattle.std.proofs.Common.{List, [], ◌∷◌, sym, refl}
use mir.Syntax.{named}
use mir.Val.{Val, vunit, vptr}
use base.Logic.{SProp, emp}
use base.Fml.{Fml, ftrue, fsep, flft}
use types.Kit.{‵, ◌⊛◌, given, ◌$◌, ◌∵◌, !, qed, by, move, keep, drop, split, fsplit, fsplit3, fjoin, fjoin3, learn, use2, rewrite, feq_i}
use types.Run.{of_opd, unit_lit, returns, enter}
use types.ByLocal.{alloc_all, pass_all, free_all, look_at, sets}
use contract.Monad.{fact_i}
use contract.Running.{tables}
use denote.RattleType.{owns}
use denote.Signature.{types_at, plain}
use denote.Ref.{mut_vals, mut_Tells}
use denote.Steps.{nothing, opens, closes}
use denote.Triple.Walked.{Stays, stay_ref, walk_of, Goes-ref}
use Rattle.std.proofs.raw_atomic.Walks.{proved}
use Rattle.logbook.specs.Pages.{Book}
use Rattle.logbook.specs.Kept.{pen_owns}
use Rattle.logbook.specs.contracts.tokens.Pen as Pen
use Rattle.logbook.proofs.Fields.{ends}
use Rattle.lasso_log.proofs.PensApart.{DifferInKey, keys_apart}
use Rattle.lasso_log.specs.contracts.log.book.looks.prove_pens_differ as f
use Rattle.lasso_log.proofs.log.book.looks.prove_pens_differ.Statement.{statement}
use Rattle.lasso_log.proofs.log.book.looks.prove_pens_differ.Code as code

pub prove_pens_differ_spec : {M : Type 1} → statement M
prove_pens_differ_spec 𝓤 𝓛 𝓜 𝓡 wired =
    let 𝓣 = tables 𝓤 𝓛.H 𝓜 𝓡 𝓡.env in let En = f.ended in let c = f.clauses 𝓛 𝓜.mem 𝓡.returns in
    let hs : Stays En.signature.params En.kept = (stay_ref (0 ∷ []) tt (plain (λ _. Pen.the_row)), (stay_ref (1 ∷ []) tt (plain (λ _. Pen.the_row)), tt)) in
    proved 𝓛 En hs c 𝓜 𝓡 (Goes-ref 𝓛 2 0 tt (plain (λ _. Pen.the_row)), (Goes-ref 𝓛 2 1 tt (plain (λ _. Pen.the_row)), tt)) f.Key.name code.function (code.unfolded 𝓤 𝓛.H 𝓜 𝓡 wired)
    (λ κs. (mut_vals, (mut_vals, tt))) (λ κs. (mut_Tells (named 0) κs.0 Pen.the_row, (mut_Tells (named 1) κs.1.0 Pen.the_row, tt))) (λ κs qs bounds a gh are.
    let one = a.0.now in let other = a.1.0.now in let b = a.0.ref_ptr.0 in let o = a.0.ref_ptr.1 in let b' = a.1.0.ref_ptr.0 in let o' = a.1.0.ref_ptr.1 in
    let y : (walk_of 𝓛 En hs c).Ghost = ((κs, qs, bounds, a, (vptr b o ∷ [], (vptr b' o' ∷ [], tt))), gh) in let Post : Val → SProp 𝓤 = (walk_of 𝓛 En hs c).post y in
    let toks : Fml = fsep (flft κs.0 qs.0) (fsep (flft κs.1.0 qs.1.0) ftrue) in
    qed 𝓛 ((‵ toks ⊛ ‵ (owns (types_at En.signature.params κs) a y.0.4)) ∷ given _ (‵ ftrue) ∷ []) ∵ keep ! (1 ∷ 0 ∷ []) $ learn ! (λ asked. drop ! $ split ! $
    fsplit ! $ move ! (1 ∷ []) $ fsplit ! $ move ! (3 ∷ []) $ fsplit ! $ fsplit3 ! $ move ! (3 ∷ []) $ fsplit ! $ fsplit3 ! $ keep ! (1 ∷ 2 ∷ 5 ∷ 6 ∷ 7 ∷ 8 ∷ 9 ∷ []) $
    enter ! 𝓣.C 𝓣.Λ code.function (vptr b o ∷ vptr b' o' ∷ []) Post $ alloc_all ! (λ l. pass_all ! refl ((tt, tt), ((tt, tt), tt)) $
    -- [the other's loan, 2; the one's loan, 2; the other's token; nothing; the one's token]
    move ! (2 ∷ 3 ∷ 6 ∷ []) $ opens ! tt Pen.the_row b o (λ vs. move ! (5 ∷ 6 ∷ 7 ∷ []) $ opens ! tt Pen.the_row b' o' (λ vs'.
    move ! (1 ∷ []) $ fsplit ! $ move ! (7 ∷ []) $ fsplit ! $ move ! (1 ∷ 3 ∷ []) $ rewrite ! 0 (λ (z : Book). ‵ (pen_owns z one.nib)) asked.0 refl $
    use2 𝓛 (given (DifferInKey one.nib other.nib) (‵ (pen_owns other.book one.nib) ⊛ ‵ (pen_owns other.book other.nib))) (keys_apart 𝓛 other.book one.nib other.nib asked.1 asked.2) $
    learn ! (λ apart. split ! $ rewrite ! 0 (λ (z : Book). ‵ (pen_owns z one.nib)) (sym asked.0) refl $
    move ! (3 ∷ 1 ∷ []) $ fjoin ! $ move ! (3 ∷ 0 ∷ 4 ∷ 5 ∷ 6 ∷ []) $ closes ! tt Pen.the_row other vs' b' o' $
    move ! (4 ∷ 3 ∷ []) $ fjoin ! $ move ! (4 ∷ 0 ∷ 5 ∷ 6 ∷ 7 ∷ []) $ closes ! tt Pen.the_row one vs b o $
    sets ! (of_opd ! (unit_lit !)) refl (tt, tt) $ feq_i ! (List Val) (vunit ∷ []) (vunit ∷ []) refl $
    move ! (6 ∷ 7 ∷ []) $ fjoin ! $ move ! (4 ∷ 0 ∷ []) $ fjoin ! $ nothing ! $ feq_i ! (List Val) (vptr b' o' ∷ []) (vptr b' o' ∷ []) refl $ move ! (0 ∷ 6 ∷ 7 ∷ []) $ fjoin3 ! $ fjoin ! $
    feq_i ! (List Val) (vptr b o ∷ []) (vptr b o ∷ []) refl $ move ! (0 ∷ 4 ∷ 5 ∷ []) $ fjoin3 ! $ fjoin ! $
    returns ! (look_at ! 0 refl) $ free_all ! refl $ keep ! (1 ∷ 0 ∷ 2 ∷ []) $ by ! (ends 𝓛 En hs c y vunit tt (one, (other, tt)) (tt, (tt, tt)) (fact_i 𝓤 _ (emp 𝓤) (refl, refl, refl, refl, apart)))))))))
