-- A loan of a copied text owns nothing, so `among_regions` makes one of any span from nothing.
use Rattle.std.proofs.Common.{ℕ, [], ◌∷◌, refl, w64}
use base.Fml.{ftrue}
use types.Kit.{‵, ◌⊛◌, ◌$◌, ◌∵◌, !, qed, keep as only, fjoin, use0, suffices, done}
use types.Part.{agg}
use types.Run.{enter, returns, no_more}
use types.ByLocal.{alloc_all, pass_all, free_all, look_at, sets}
use contract.Running.{tables}
use denote.Builtin.{usize, RawPtr}
use denote.Exit.{yes}
use denote.Plain.{uint_vals, uint_Tells}
use denote.RattleType.{owns}
use denote.RawPtr.{Ptr, ptr_val}
use denote.Signature.{plain, types_at}
use denote.Steps.{nothing}
use denote.Triple.Walked.{Stays, stay_dropped, Goes-dropped, walk_of, says, ends_at}
use Rattle.std.proofs.raw_atomic.Walks.{proved}
use Rattle.std_alloc.proofs.RcSteps.{Ptr-Good}
use Rattle.lasso_parts.specs.Entries.{Copied}
use Rattle.lasso_parts.proofs.EmptyStructs.{plainly, none, unit_made}
use Rattle.lasso_parts.specs.contracts.entries.loan.Loan.{the_row as Kept}
use Rattle.lasso_parts.specs.contracts.entries.loan.Loan.among_regions as f
use Rattle.lasso_parts.proofs.entries.loan.Loan.among_regions.Statement.{statement}
use Rattle.lasso_parts.proofs.entries.loan.Loan.among_regions.Code as code

abbrev stayed : Stays f.ended.signature.params f.ended.kept
stayed = (stay_dropped (plain (λ _. RawPtr)) yes, (stay_dropped (plain (λ _. usize)) yes, (stay_dropped (plain (λ _. usize)) yes, (stay_dropped (plain (λ _. usize)) yes, tt))))

pub among_regions_spec : {M : Type 1} → statement M
among_regions_spec 𝓤 𝓛 𝓜 𝓡 wired =
    let c = f.clauses 𝓛 𝓜.mem 𝓡.returns in let W = walk_of 𝓛 f.ended stayed c in let 𝓣 = tables 𝓤 𝓛.H 𝓜 𝓡 𝓡.env in
    let number = Goes-dropped 𝓛 0 (plain (λ _. usize)) yes (λ κs x w. refl) in
    proved 𝓛 f.ended stayed c 𝓜 𝓡 (Goes-dropped 𝓛 0 (plain (λ _. RawPtr)) yes (λ κs x w. refl), (number, (number, (number, tt))))
    f.Key.name code.function (code.unfolded 𝓤 𝓛.H 𝓜 𝓡 wired)
    (λ κs. ((λ p. ptr_val p ∷ []), (uint_vals w64, (uint_vals w64, (uint_vals w64, tt))))) (λ κs. ((λ p vs told. told), (uint_Tells w64, (uint_Tells w64, (uint_Tells w64, tt))))) (λ κs qs bounds a _ are.
    let at : Ptr = a.0 in let region : ℕ = a.1.0 in let start : ℕ = a.1.1.0 in let len : ℕ = a.1.1.1.0 in
    let y : W.Ghost = ((κs, qs, bounds, a, (ptr_val at ∷ [], (uint_vals w64 region, (uint_vals w64 start, (uint_vals w64 len, tt))))), tt) in
    let loan : Kept.Denot = record { text = record { at = at; source = Copied (record { region = region; start = start; len = len }) } } in
    qed 𝓛 ((‵ ftrue ⊛ ‵ (owns (types_at f.ended.signature.params κs) a y.0.4)) ∷ ‵ ftrue ∷ []) ∵
    only ! [] $
    enter ! _ _ _ _ _ $ alloc_all ! (λ l. pass_all ! refl (Ptr-Good at, ((tt, record { fits = are.1.0.1 }), ((tt, record { fits = are.1.1.0.1 }), ((tt, record { fits = are.1.1.1.0.1 }), tt)))) $
    sets ! (agg ! (no_more !)) refl (tt, tt) $
    nothing ! $ use0 𝓛 (‵ ((plainly []).own_val tt (none ∷ []))) (unit_made 𝓛) $ fjoin ! $
    returns ! (look_at ! 0 refl) $ free_all ! refl $
    suffices ! _ (ends_at 𝓛 f.ended stayed c y none loan (tt, (tt, (tt, (tt, tt)))) (tt, (tt, (tt, (tt, tt))))) $ says ! refl $
    nothing ! $ nothing ! $ fjoin ! $ nothing ! $ fjoin ! $ nothing ! $ fjoin ! $ nothing ! $ fjoin ! $ nothing ! $ only ! (0 ∷ 1 ∷ 2 ∷ []) $ done !))
