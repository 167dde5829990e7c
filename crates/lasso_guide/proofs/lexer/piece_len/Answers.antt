-- The next byte goes on with the piece too.
use Rattle.std.proofs.Common.{◌≡◌, get_or, true, sym, subst, ◌∙◌, arith, ⊎_elim}
use Rattle.std.proofs.str.Laws.{order}
use Rattle.lasso_guide.specs.Lexing.{continues}
use Rattle.lasso_guide.proofs.lexer.piece_len.Goals as goal

pub loop-len-preserved : goal.loop-len-preserved
loop-len-preserved c = record {
  some = omega arith;
  within = omega arith;
  inside = λ i past low. ⊎_elim
      (λ below. c.loop-len.invariant.inside i past below)
      (λ above. let last : c.loop-len.len ≡ i = omega arith in subst (λ n. continues c.kind_of-kind.result (get_or c.args.bytes.now n 0) ≡ true) last (sym c.continues.ensures ∙ c.if-continues.true))
      (order i c.loop-len.len);
}
