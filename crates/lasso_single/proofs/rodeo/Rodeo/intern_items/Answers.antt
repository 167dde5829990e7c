use Rattle.std.proofs.Common.{[], ◌∷◌, ◌++◌, map, Ok, Err, refl, subst}
use Rattle.std.proofs.lemmas.List.{map_push}
use Rattle.std.proofs.lemmas.Result.{err_from_is_err_and}
use Rattle.lasso_parts.specs.Texts.{Text}
use Rattle.lasso_single.specs.Filling.{StopsAtRefusal}
use Rattle.lasso_single.specs.Intern.{InternsIn}
use Rattle.lasso_single.proofs.Filled.{accepted, extend_turn, yields_push}
use Rattle.lasso_single.proofs.rodeo.Rodeo.intern_items.Goals as goal

pub returns-in_err-try_get_or_intern-clause-refused : goal.returns-in_err-try_get_or_intern-clause-refused
returns-in_err-try_get_or_intern-clause-refused g c =
    let told = c.in_err-try_get_or_intern.ensures.all in
    let error = c.in_err-try_get_or_intern.field-0.0 in
    let so_far = c.loop-text.invariant.so_far in
    let items = so_far.0 in
    let ran = yields_push g.I.Iterator.next_gives c.args.items.now c.loop-text.items c.next.new.self items c.in-Some.text so_far.1 c.in-Some.ensures.steps in
    let interns : InternsIn g.K.Key.key_at c.loop-text.self (g.T.AsStr.text c.in-Some.text) (Err error) c.try_get_or_intern.new.self = subst (λ (t : Text). InternsIn g.K.Key.key_at c.loop-text.self t (Err error) c.try_get_or_intern.new.self) c.as_str.ensures told in
    let last : StopsAtRefusal g.K.Key.key_at c.args.self.now (map g.T.AsStr.text (items ++ c.in-Some.text ∷ [])) error c.try_get_or_intern.new.self = (map g.T.AsStr.text items, g.T.AsStr.text c.in-Some.text, c.loop-text.self, map_push g.T.AsStr.text items c.in-Some.text, so_far.2, interns) in
    let p = err_from_is_err_and c.from_residual.result c.from_residual.ensures.1 in
    rw (p.1, p.2) (items ++ c.in-Some.text ∷ [], ran, last)

pub loop-text-preserved : goal.loop-text-preserved
loop-text-preserved g c =
    let told = c.in_ok-try_get_or_intern.ensures.all in
    let so_far = c.loop-text.invariant.so_far in
    let goes = c.in-Some.ensures.goes.on c.loop-text.invariant.ends in
    let ran = yields_push g.I.Iterator.next_gives c.args.items.now c.loop-text.items c.next.new.self so_far.0 c.in-Some.text so_far.1 c.in-Some.ensures.steps in
    let interned = extend_turn g.K.Key.key_at g.T.AsStr.text c.args.self.now c.loop-text.self c.try_get_or_intern.new.self so_far.0 c.in-Some.text c.as_str.result.now (Ok c.in_ok-try_get_or_intern.field-0) accepted so_far.2 c.as_str.ensures told refl in record {
      can = goes.0;
      ends = goes.1;
      so_far = (so_far.0 ++ c.in-Some.text ∷ [], ran, interned);
    }
