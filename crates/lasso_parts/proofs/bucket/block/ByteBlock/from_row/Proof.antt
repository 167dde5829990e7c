-- `from_row` makes the places of a row and of the pointer to its first place.
--
-- The row owns its bytes and the room between them, whatever block it lies in. The pointer is the row's own, so the two
-- words of the result are those of the row with one more in front, and nothing has to be had or given up.
use Rattle.std.proofs.Common.{◌≡◌, ℕ, List, [], ◌∷◌, ◌++◌, refl, sym, ◌∙◌}
use base.Fml.{ftrue, fsep}
use mir.Val.{Val, WT, vptr}
use prog.Wp.{WpFn}
use contract.Monad.{fact}
use contract.Running.{tables}
use types.Kit.{Goal, ‵, raw, ◌⊛◌, prop, ◌$◌, ◌∵◌, !, qed, move, keep, use2, split, regoal, fsplit, fjoin, fpack, feq_l, feq_i, suffices, done}
use types.Part.{agg}
use types.Run.{of_opd, no_more, and_then, returns, enter}
use types.ByLocal.{alloc_all, pass_all, free_all, look_at, get, sets}
use denote.Builtin.{RawPtr}
use denote.Exit.{yes}
use denote.RattleType.{owns}
use denote.RawPtr.{Ptr, block_ptr, ptr_val}
use denote.Signature.{plain, types_at}
use denote.Steps.{heard, nothing}
use denote.Struct.Tuple.{Tuple}
use denote.Triple.Walked.{Stays, stay_dropped, walk_of, says, ends_at}
use Rattle.std.proofs.raw_atomic.Walks.{proved_at}
use Rattle.core.specs.Mem.Slots.{slots_ptr}
use Rattle.core.specs.declared.slots.Slots.{Slots}
use Rattle.core.proofs.alloc.Calls.{Goes-blank}
use Rattle.core.proofs.slots.Opens.{row_val, row_had, row_made}
use Rattle.std_alloc.proofs.Pairs.{pair_val, pair_of}
use Rattle.lasso_parts.specs.Block.{LeadsToBlock}
use Rattle.lasso_parts.specs.contracts.bucket.block.ByteBlock.TheInside as inside
use Rattle.lasso_parts.specs.contracts.bucket.block.ByteBlock.from_row as f
use Rattle.lasso_parts.proofs.RowCalls.{byte, Row}
use Rattle.lasso_parts.proofs.bucket.block.ByteBlock.from_row.Statement.{statement}
use Rattle.lasso_parts.proofs.bucket.block.ByteBlock.from_row.Code as code

abbrev stayed : Stays f.ended.signature.params f.ended.kept
stayed = (stay_dropped (plain (λ _. RawPtr)) yes, (stay_dropped (plain (λ _. Row)) yes, tt))

pub from_row_spec : {M : Type 1} → statement M
from_row_spec 𝓤 𝓛 𝓜 𝓡 wired =
    let H = 𝓛.H in let c = f.clauses 𝓛 𝓜.mem 𝓡.returns in let W = walk_of 𝓛 f.ended stayed c in let 𝓣 = tables 𝓤 H 𝓜 𝓡 𝓡.env in
    proved_at 𝓛 f.ended stayed c 𝓜 𝓡 (Goes-blank 𝓛 0 (plain (λ _. RawPtr)) yes (λ κs x w. tt), (Goes-blank 𝓛 0 (plain (λ _. Row)) yes (λ κs x w. tt), tt))
    f.Key.name code.function (code.unfolded 𝓤 H 𝓜 𝓡 wired) (λ y _.
    let a = y.0.3 in let vss = y.0.4 in let first : Ptr = a.0 in let d : Slots ℕ = a.1.0 in
    let Leads : Type 0 = (first ≡ slots_ptr d) × LeadsToBlock first in
    let Run : List Val → Goal 𝓤 H = λ us. prop (WpFn 𝓤 H 𝓣.C 𝓣.Λ code.function us (W.post y)) in
    qed 𝓛 ((‵ ftrue ⊛ ‵ (owns (types_at f.ended.signature.params y.0.0) a vss)) ∷ raw (fact 𝓤 Leads) ∷ []) ∵
    move ! (1 ∷ []) $ heard ! Leads (λ leads. split ! $ move ! (1 ∷ []) $ fsplit ! $ feq_l ! (λ word. fsplit ! $
    row_had byte ! d vss.1.0 (λ b o at words fits small. row_made byte ! d b o at fits small $
    let start : first ≡ block_ptr b o = leads.0 ∙ at in let ok : WT (row_val b o d.len) = (tt, (record { fits = fits }, tt)) in
    let both : Val = pair_val (vptr b o) (row_val b o d.len) in let made : (inside.the_row).Denot = record { ptr = block_ptr b o; slots = d } in
    keep ! (0 ∷ 2 ∷ []) $ regoal ! Run (λ i. (word ∙ (λ j. ptr_val (start j) ∷ [])) i ++ (words i ++ [])) refl $
    -- [the row; no token]
    enter ! _ _ _ _ _ $ alloc_all ! (λ l. pass_all ! refl ((tt, tt), ((tt, ok), tt)) $
    sets ! (of_opd ! (get ! refl)) refl (tt, ok) $
    sets ! (agg ! (and_then ! (get ! refl) (and_then ! (get ! refl) (no_more !)))) refl (tt, (tt, (ok, tt))) $
    returns ! (look_at ! 0 refl) $ free_all ! refl $
    feq_i ! (List Val) (vptr b o ∷ []) (vptr b o ∷ []) refl $
    use2 𝓛 (‵ ((Tuple (RawPtr ∷ Row ∷ [])).own_val (block_ptr b o, d) (both ∷ []))) (pair_of 𝓛 RawPtr Row (block_ptr b o) d (vptr b o) (row_val b o d.len)) $
    nothing ! $ move ! (1 ∷ 0 ∷ []) $ fjoin ! $ nothing ! $ move ! (1 ∷ 0 ∷ []) $ fjoin ! $
    fpack ! ((v : (inside.the_row).Denot) × ((v.slots ≡ d) × ((v.ptr ≡ v.slots.ptr) × LeadsToBlock v.ptr))) (λ v. fsep ((inside.the_row).own_val v.0 (both ∷ [])) ftrue) (made, (refl, (sym at, refl))) $
    suffices ! _ (ends_at 𝓛 f.ended stayed c y both d (tt, (tt, tt)) (tt, (tt, tt))) $ says ! refl $
    move ! (1 ∷ []) $ nothing ! $ nothing ! $ fjoin ! $ nothing ! $ fjoin ! $ move ! (1 ∷ 0 ∷ []) $ done !)))))
