-- The words of the proofs by hand of functions on tokens.
pub use Rattle.std.proofs.Common.{◌≡◌, ◌<◌, ◌≤◌, ◌+◌, ◌*◌, ◌^◌, arith, ℕ, List, [], ◌∷◌, ◌++◌, length, sym, refl, ap, subst, ◌∙◌, w64, slice_index, slice_index_or}
pub use mir.Syntax.{a_type, dcons, dnil, named}
pub use mir.MapTy.{inst_fn}
pub use mir.Val.{Val, WT, vint, vptr, vunit, vstruct, vcons, vnil}
pub use base.Logic.{SProp, emp, id⊢}
pub use base.Fml.{Lft, Share, Fml, ftrue, fsep, flft, fdead}
pub use types.Kit.{‵, raw, ◌⊛◌, some, given, later, prop, at_ret, ◌$◌, ◌∵◌, !, qed, by, move, keep, drop as let_go, split, join, fsplit, fsplit3, fjoin, fjoin3, fpick, fpack, pick, learn, use0, use1, use2, use3, await, rewrite, regoal, feq_i, feq_l, flt_i, flt_l, suffices, done}
pub use types.Run.{of_opd, unit_lit, no_more, and_then, returns, enter, first, blocks, exec, stop, fld, lit}
pub use types.ByLocal.{alloc_all, pass_all, free_all, look_at, get, get_in, sets, sets_last, lands_as, lands_last, env}
pub use types.Part.{agg, sub, whole}
pub use types.Tokens.{lft_new, lft_end}
pub use contract.Monad.{fact, fact_i}
pub use contract.Running.{tables}
pub use denote.Exit.{yes, no}
pub use denote.RattleType.{RattleType, owns}
pub use denote.RawPtr.{Ptr, block_ptr, block_of, count_of, ptr_val}
pub use denote.Signature.{types_at, plain}
pub use denote.Builtin.{RefOf, SliceRefOf, RawPtr, u8, u64, usize, unit}
pub use denote.Ref.{mut_vals, mut_Tells, shr_vals, shr_Tells}
pub use denote.Plain.{uint_vals, uint_Tells}
pub use denote.Opens.{hide, unhide}
pub use denote.Param.{param, bounded}
pub use denote.Slice.{slice_val, elements_shared, shr_slice_vals}
pub use denote.Steps.{nothing, opens, closes, heard}
pub use denote.Struct.Tuple.{Tuple}
pub use denote.Triple.Entry.{alive}
pub use denote.Triple.Call.{calls_at, calls_at_last}
pub use denote.Triple.Table.{framed}
pub use denote.Triple.Walked.{Stays, stay_dropped, stay_ref, walk_of, Goes-dropped, Goes-ref, says, ends_at}
pub use Rattle.std.proofs.raw_atomic.Walks.{proved}
pub use Rattle.logbook.proofs.Fields.{token, Token, token_made, token_told, ends}
use seplogic.Ra.Ura.{Ura}
use base.Logic.{ent, sep}
use types.Logic.{Logic}

-- A plain clause needs nothing but its proof. Assumes `Logic`.
module _ {M : Type 1} {𝓤 : Ura M} (𝓛 : Logic 𝓤) where
  pub says_two : (A B : Type 0) → A → B → ent 𝓤 (emp 𝓤) (sep 𝓤 (fact 𝓤 A) (fact 𝓤 B))
  says_two A B a b = qed 𝓛 [] ∵ use0 𝓛 (raw (fact 𝓤 B)) (fact_i 𝓤 B (emp 𝓤) b) $ use0 𝓛 (raw (fact 𝓤 A)) (fact_i 𝓤 A (emp 𝓤) a) $ join ! $ done !

  pub says_three : (A B C : Type 0) → A → B → C → ent 𝓤 (emp 𝓤) (sep 𝓤 (fact 𝓤 A) (sep 𝓤 (fact 𝓤 B) (fact 𝓤 C)))
  says_three A B C a b c = qed 𝓛 [] ∵ use0 𝓛 (raw (sep 𝓤 (fact 𝓤 B) (fact 𝓤 C))) (says_two B C b c) $ use0 𝓛 (raw (fact 𝓤 A)) (fact_i 𝓤 A (emp 𝓤) a) $ join ! $ done !

  pub says_four : (A B C D : Type 0) → A → B → C → D → ent 𝓤 (emp 𝓤) (sep 𝓤 (fact 𝓤 A) (sep 𝓤 (fact 𝓤 B) (sep 𝓤 (fact 𝓤 C) (fact 𝓤 D))))
  says_four A B C D a b c d = qed 𝓛 [] ∵ use0 𝓛 (raw (sep 𝓤 (fact 𝓤 B) (sep 𝓤 (fact 𝓤 C) (fact 𝓤 D)))) (says_three B C D b c d) $ use0 𝓛 (raw (fact 𝓤 A)) (fact_i 𝓤 A (emp 𝓤) a) $ join ! $ done !
