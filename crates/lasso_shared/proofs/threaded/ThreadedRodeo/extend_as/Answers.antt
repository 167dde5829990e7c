use Rattle.std.proofs.Common.{[], ◌∷◌, ◌++◌}
use Rattle.std.proofs.lemmas.Result.{err_from_is_err_and}
use Rattle.lasso_single.proofs.Filled.{yields_push}
use Rattle.lasso_shared.proofs.Filled.{filled_turn, refused_turn}
use Rattle.lasso_shared.proofs.threaded.ThreadedRodeo.extend_as.Goals as goal

pub loop-text-preserved : goal.loop-text-preserved
loop-text-preserved g c =
    let told = c.in_ok-try_get_or_intern_as.ensures in
    let so_far = c.loop-text.invariant.so_far in
    let goes = c.in-Some.ensures.goes.on c.loop-text.invariant.ends in
    let ran = yields_push g.I.Iterator.next_gives c.args.items.now c.loop-text.items c.next.new.self so_far.0 c.in-Some.text so_far.1 c.in-Some.ensures.steps in
    let filled = filled_turn g.K.Key.key_at c.args.self.now g.T.AsStr.text so_far.0 c.in-Some.text c.as_str.result.now c.in_ok-try_get_or_intern_as.field-0 c.args.pass.now c.loop-text.pass c.try_get_or_intern_as.new.pass so_far.2 c.as_str.ensures told.same told.call told.legal in record {
      can = goes.0;
      ends = goes.1;
      so_far = (so_far.0 ++ c.in-Some.text ∷ [], ran, filled);
    }

pub returns-in_err-try_get_or_intern_as-clause-refused : goal.returns-in_err-try_get_or_intern_as-clause-refused
returns-in_err-try_get_or_intern_as-clause-refused g c =
    let told = c.in_err-try_get_or_intern_as.ensures in
    let so_far = c.loop-text.invariant.so_far in
    let ran = yields_push g.I.Iterator.next_gives c.args.items.now c.loop-text.items c.next.new.self so_far.0 c.in-Some.text so_far.1 c.in-Some.ensures.steps in
    let ended = refused_turn g.K.Key.key_at c.args.self.now g.T.AsStr.text so_far.0 c.in-Some.text c.as_str.result.now c.in_err-try_get_or_intern_as.field-0.0 c.args.pass.now c.loop-text.pass c.try_get_or_intern_as.new.pass so_far.2 c.as_str.ensures told.call in
    let p = err_from_is_err_and c.from_residual.result c.from_residual.ensures.1 in
    rw (p.1, p.2) (so_far.0 ++ c.in-Some.text ∷ [], ran, ended)
