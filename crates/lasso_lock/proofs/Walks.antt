-- The names that the walks cite, passed on from one place, and how each walk reaches a latch's invariant. Assumes `Logic`.
-- Whoever holds a `&` to the latch, or a claim, knows that the latch's lifetime α ends no earlier than its own. So a token of its own buys one of α,
-- and gets it back for that one. `knowing` does this about one call: the call needs the invariant and a token of α, and the caller only sees that it
-- knows the latch and has its own token, before the call and after it.
pub use Rattle.std.proofs.Common.{◌≡◌, ◌≢◌, ℕ, ◌+◌, ◌^◌, ◌<◌, ◌&&◌, T, List, [], ◌∷◌, ◌++◌, sym, refl, ap, ◌∙◌, subst, lit<, w64, Option, Some}
pub use Rattle.std.proofs.ResultValues.{and_tt}
pub use mir.Syntax.{dcons, dnil, a_type, named}
pub use mir.Val.{Val, vunit, vint, vptr, vstruct, vcons, vnil, of_list, has_ty, WT}
pub use mir.MapTy.{inst_fn}
pub use base.Fraction.{full_share}
pub use base.Share
pub use base.Logic.{SProp, ent, sep, wand, emp, ex, id⊢, via, apply∗, guard_i}
pub use base.Fml.{Lft, Share, Fml, ftrue, fsep, fex, feq, flft, fbor, finv, Incl-refl}
pub use base.Before.{before}
pub use prog.Wp.{WpFn}
pub use types.Logic.{sem}
pub use types.Kit.{‵, raw, ◌⊛◌, some, given, later, mean, at_ret, ◌$◌, ◌∵◌, !, qed, by, move, keep, drop, split, split3, join, fsplit, fsplit3, fjoin, fjoin3, fpick, fpack, pick, learn, use0, use1, use2, use3, await, updating, now, done, rewrite, feq_i, feq_l, flt_i, flt_l, suffices}
pub use types.Run.{stop, fld, hop, load, addr, lit, unit_lit, of_opd, no_more, and_then, first, blocks, exec, assigns, look_raw, store_raw, Calls-last, returns, enter}
pub use types.ByLocal.{alloc_all, pass_all, free_all, look_at, get, get_in, through, sets, sets_last, lands_last, is, env}
pub use types.Part.{agg, sub, whole, look_in}
pub use types.Tokens.{bor_open, obor_close}
pub use contract.Running.{Running, tables}
pub use contract.Monad.{fact, fact_i, fact_use}
pub use contract.BorrowLft.{◌⊑◌, ⊑_meet}
pub use denote.Exit.{yes, no}
pub use denote.RattleType.{RattleType, Valss, owns}
pub use denote.Signature.{types_at, plain, named_lft}
pub use denote.RawPtr.{Ptr, InBlock, block_ptr, ptr_val, block_of, count_of, at_block}
pub use denote.Steps.{nothing, peeks, heard, looks, shuts}
pub use denote.Opens.{unhide}
pub use denote.Laws.{Is, shows, Typed}
pub use denote.Memory.{cell_at, hidden_shr, shared_of}
pub use denote.Param.{param, layout, bounded}
pub use denote.Param.Laws.{param_laws}
pub use denote.Builtin.{RefOf, u64}
pub use denote.Ref.{shr_vals, shr_Tells}
pub use denote.Plain.{uint_vals, uint_Tells}
pub use denote.SharingLaws.{shortens}
pub use denote.Struct.Lending.{lent_out}
pub use denote.Struct.Struct.{within}
pub use denote.Triple.Entry.{alive}
pub use denote.Triple.Walked.{Stays, stay_dropped, walk_of, Goes-dropped}
pub use Rattle.core.proofs.atomic.Steps.{tail}
pub use Rattle.core.proofs.mem.Param.{El, lawful, Good, one}
pub use Rattle.atomic_table.proofs.Walks.{proved, proved_at, leaves}
pub use Rattle.atomic_table.proofs.Calls.{fm, seq_cst, found, finds, loads, subs, exchanges}
use Rattle.lasso_lock.specs.Latches.{Keeping, kept_word, known}
use contract.Shared.{Lends-one}
use prog.Model.{Model}
use seplogic.Ra.Ura.{Ura}
use types.Logic.{Logic}
use types.Na.{before_dup}
use types.Kit.{show, check}
use mir.Syntax.{Callee}
use base.Logic.{guard}

module _ {M : Type 1} {𝓤 : Ura M} (𝓛 : Logic 𝓤) (𝓜 : Model 𝓤 𝓛.H) (𝓡 : Running 𝓤 𝓛.H 𝓜) (R : RattleType) (fits : R.Denot → Type 0) (b o : ℕ) (t : Keeping) (κ : Lft) (q : Share) where
  open 𝓛 use {H, A}

  abbrev Known : Fml
  Known = known R fits b o t κ

  -- the way back from a token of α to that of κ
  abbrev pub Returned : Share → SProp 𝓤
  Returned s = wand 𝓤 (A.lft t.0 s) (H.⇛ (A.lft κ q))

  abbrev pub Reached : Share → SProp 𝓤
  Reached s = sep 𝓤 (sep 𝓤 (A.inv (fbor t.0 (kept_word R fits b o t))) (A.lft t.0 s)) (sep 𝓤 (Returned s) (sem 𝓛 Known))

  pub reaches : ent 𝓤 (sep 𝓤 (sem 𝓛 Known) (A.lft κ q)) (H.⇛ (ex 𝓤 Reached))
  reaches = let I : Fml = fbor t.0 (kept_word R fits b o t) in
      qed 𝓛 (‵ Known ∷ ‵ (flft κ q) ∷ []) ∵ updating ! $ fsplit ! $ use1 𝓛 (‵ (before κ t.0) ⊛ ‵ (before κ t.0)) (before_dup 𝓛 κ t.0) $ split ! $ move ! (0 ∷ 3 ∷ []) $
      use2 𝓛 (later (some (λ (s : Share). ‵ (flft t.0 s) ⊛ raw (Returned s)))) (Lends-one 𝓛 𝓜 𝓡 κ t.0 q) $ await ! tt $ pick ! (λ s. split ! $ move ! (3 ∷ []) $
      use1 𝓛 (‵ (finv I) ⊛ ‵ (finv I)) (𝓛.invs.inv_dup I) $ split ! $ move ! (4 ∷ 1 ∷ []) $ fjoin ! $ move ! (3 ∷ 0 ∷ []) $ join ! $ move ! (1 ∷ 2 ∷ []) $ join ! $
      now ! $ show ! Reached s $ done !)

  -- what stands after a call, where `left` is what the step leaves
  abbrev pub After : (ℕ → Fml) → ℕ → Fml
  After left n = fsep Known (fsep (flft κ q) (left n))

  module _ (f : Callee) (vs : List Val) (P : SProp 𝓤) (won left : ℕ → Fml) (gains : (n : ℕ) → ent 𝓤 (sem 𝓛 (won n)) (H.⇛ (sem 𝓛 (left n)))) where
    abbrev C : (Val → SProp 𝓤) → SProp 𝓤
    C = (tables 𝓤 H 𝓜 𝓡 𝓡.env).C f vs

    abbrev Kept : SProp 𝓤
    Kept = sem 𝓛 Known

    -- what the step promises of its result, and what the caller is told of it
    abbrev Stepped : Share → Val → SProp 𝓤
    Stepped s u = mean 𝓛 (found (λ n. fsep (flft t.0 s) (won n)) u)

    abbrev Ends : Val → SProp 𝓤
    Ends u = mean 𝓛 (found (After left) u)

    ends : (s : Share) (u : Val) → ent 𝓤 (sep 𝓤 (Stepped s u) (sep 𝓤 (Returned s) Kept)) (Ends u)
    ends s u = qed 𝓛 (found (λ n. fsep (flft t.0 s) (won n)) u ∷ (raw (Returned s) ⊛ ‵ Known) ∷ []) ∵ updating ! $ await ! tt $ pick ! (λ n. learn ! (λ is_u. fsplit ! $ move ! (1 ∷ []) $
        use1 𝓛 (later (‵ (left n))) (gains n) $ await ! tt $ move ! (2 ∷ []) $ split ! $ move ! (0 ∷ 3 ∷ []) $ move ! (1 ∷ 0 ∷ []) $ use2 𝓛 (later (‵ (flft κ q))) (apply∗ 𝓤 (A.lft t.0 s) (H.⇛ (A.lft κ q))) $ await ! tt $
        move ! (0 ∷ 2 ∷ []) $ fjoin ! $ move ! (1 ∷ 0 ∷ []) $ fjoin ! $ now ! $ show ! (λ (m : ℕ). guard 𝓤 ((vint w64 m ≡ u) × (m < 2 ^ 64)) (sem 𝓛 (After left m))) n $ check ! is_u $ done !))

    pub knowing : ((s : Share) → ent 𝓤 (sep 𝓤 (A.inv (fbor t.0 (kept_word R fits b o t))) (sep 𝓤 (A.lft t.0 s) P)) (H.⇛ (C (Stepped s)))) → ent 𝓤 (sep 𝓤 Kept (sep 𝓤 (A.lft κ q) P)) (H.⇛ (C Ends))
    knowing call = let I : Fml = fbor t.0 (kept_word R fits b o t) in qed 𝓛 (‵ Known ∷ ‵ (flft κ q) ∷ raw P ∷ []) ∵ updating ! $
        use2 𝓛 (later (some (λ (s : Share). (‵ (finv I) ⊛ ‵ (flft t.0 s)) ⊛ raw (Returned s) ⊛ ‵ Known))) reaches $ await ! tt $ pick ! (λ s. split3 ! $ split ! $
        -- [the invariant; the token of α; the way back; what is known; what the step takes]
        move ! (0 ∷ 1 ∷ 4 ∷ []) $ use3 𝓛 (later (raw (C (Stepped s)))) (call s) $ await ! tt $ move ! (1 ∷ 2 ∷ []) $ join ! $ move ! (1 ∷ 0 ∷ []) $
        use2 𝓛 (raw (C Ends)) (fm 𝓛 𝓜 𝓡 f vs (Stepped s) Ends (sep 𝓤 (Returned s) Kept) (ends s)) $ now ! $ done !)
