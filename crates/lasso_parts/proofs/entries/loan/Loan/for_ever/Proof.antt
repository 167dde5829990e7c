-- `for_ever` leaves the two words of a `&` that never ends, and keeps what it holds.
--
-- A `&` to bytes is their address and their number, and a `&` to each byte. The second is all that a loan
-- owns, so the loan, which is no word, is made from it, and the address is the first word.
use Rattle.std.proofs.Common.{ℕ, ◌*◌, ◌^◌, ◌<◌, List, [], ◌∷◌, length, refl, arith}
use base.Fml.{ftrue}
use mir.Val.{Val, vptr}
use types.Kit.{‵, raw, ◌⊛◌, ◌$◌, ◌∵◌, !, qed, move, keep as only, drop as let_go, split, fsplit, fjoin, feq_i, use0, use2, suffices, done}
use types.Part.{agg, sub, whole}
use types.Run.{enter, returns, and_then, no_more, fld, stop, addr, from, hop}
use types.ByLocal.{alloc_all, pass_all, free_all, look_at, look_in_at, get, sets}
use contract.Monad.{fact}
use contract.Running.{tables}
use denote.Builtin.{u8, RawPtr, SliceRefOf}
use denote.Exit.{yes}
use denote.Opens.{unhide}
use denote.RattleType.{owns}
use denote.RawPtr.{block_ptr}
use denote.Signature.{plain, types_at}
use denote.Slice.{shr_slice_vals}
use denote.Steps.{heard, nothing}
use denote.Struct.Tuple.{Tuple}
use denote.Triple.Walked.{Stays, stay_dropped, Goes-dropped, walk_of, says, ends_at}
use Rattle.std.proofs.raw_atomic.Walks.{proved}
use Rattle.std_alloc.proofs.Pairs.{pair_val, pair_of}
use Rattle.std.specs.Prelude.{IsUtf8}
use Rattle.lasso_parts.specs.Entries.{Static}
use Rattle.lasso_parts.proofs.EmptyStructs.{plainly, none, unit_made}
use Rattle.lasso_parts.specs.contracts.entries.loan.Loan.{the_row as Kept}
use Rattle.lasso_parts.specs.contracts.entries.loan.Loan.for_ever as f
use Rattle.lasso_parts.proofs.entries.loan.Loan.for_ever.Statement.{statement}
use Rattle.lasso_parts.proofs.entries.loan.Loan.for_ever.Code as code

abbrev stayed : Stays f.ended.signature.params f.ended.kept
stayed = (stay_dropped (SliceRefOf [] tt (plain (λ _. u8)) (λ _. tt)) yes, tt)

-- a number of bytes that a block has room for
counted : (n : ℕ) → n * 1 < 2 ^ 63 → n < 2 ^ 63
counted n h = omega (arith, h)

pub for_ever_spec : {M : Type 1} → statement M
for_ever_spec 𝓤 𝓛 𝓜 𝓡 wired =
    let c = f.clauses 𝓛 𝓜.mem 𝓡.returns in let W = walk_of 𝓛 f.ended stayed c in let 𝓣 = tables 𝓤 𝓛.H 𝓜 𝓡 𝓡.env in
    proved 𝓛 f.ended stayed c 𝓜 𝓡 (Goes-dropped 𝓛 0 (SliceRefOf [] tt (plain (λ _. u8)) (λ _. tt)) yes (λ κs x w. refl), tt)
    f.Key.name code.function (code.unfolded 𝓤 𝓛.H 𝓜 𝓡 wired) (λ κs. (shr_slice_vals, tt)) (λ κs. ((λ x vs told. told.0.0), tt)) (λ κs qs bounds a _ are.
    let bytes : List ℕ = a.0.now in let b : ℕ = a.0.ref_ptr.0 in let o : ℕ = a.0.ref_ptr.1 in
    let y : W.Ghost = ((κs, qs, bounds, a, (shr_slice_vals a.0, tt)), tt) in
    let loan : Kept.Denot = record { text = record { at = block_ptr b o; source = Static bytes } } in
    qed 𝓛 ((‵ ftrue ⊛ ‵ (owns (types_at f.ended.signature.params κs) a y.0.4)) ∷ raw (fact 𝓤 (IsUtf8 bytes)) ∷ []) ∵
    move ! (1 ∷ []) $ heard ! (IsUtf8 bytes) (λ is_text.
    only ! (0 ∷ []) $ split ! $ move ! (1 ∷ []) $ fsplit ! $ fsplit ! $ let_go ! $ unhide ! $
    -- [a `&` to each byte; nothing; nothing]
    enter ! _ _ _ _ _ $ alloc_all ! (λ l. pass_all ! refl ((tt, (tt, (record { fits = are.0.0.1.0 }, tt))), tt) $
    sets ! (addr ! (from ! (fld ! refl (hop ! (look_in_at ! 1 (sub ! 0 refl (whole !))) (stop !))))) refl (tt, tt) $
    sets ! (agg ! (no_more !)) refl (tt, tt) $
    sets ! (agg ! (and_then ! (get ! refl) (and_then ! (get ! refl) (no_more !)))) refl (tt, (tt, (tt, tt))) $
    use0 𝓛 (‵ ((plainly []).own_val tt (none ∷ []))) (unit_made 𝓛) $ fjoin ! $ feq_i ! (List Val) (vptr b o ∷ []) (vptr b o ∷ []) refl $
    use2 𝓛 (‵ ((Tuple (RawPtr ∷ Kept ∷ [])).own_val (block_ptr b o, loan) (pair_val (vptr b o) none ∷ []))) (pair_of 𝓛 RawPtr Kept (block_ptr b o) loan (vptr b o) none) $
    returns ! (look_at ! 0 refl) $ free_all ! refl $
    suffices ! _ (ends_at 𝓛 f.ended stayed c y (pair_val (vptr b o) none) (block_ptr b o, loan) (tt, tt) (tt, tt)) $
    says ! (refl, record { address = refl; block = refl; count = refl; whole = (counted (length bytes) are.0.0.1.1, is_text) }) $
    nothing ! $ nothing ! $ fjoin ! $ only ! (2 ∷ 0 ∷ 1 ∷ []) $ done !)))
