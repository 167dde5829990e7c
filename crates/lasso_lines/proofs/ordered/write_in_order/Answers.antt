use Rattle.std.proofs.Common.{ℕ, ◌∙◌, [], Bor, map, ap, sym, append-nil}
use Rattle.std.proofs.lemmas.Result.{err_from_is_err_and}
use Rattle.lasso_parts.specs.Texts.{Text}
use Rattle.lasso_log.specs.Views.{list_of}
use Rattle.lasso_lines.specs.Ordered.{told}
use Rattle.lasso_lines.proofs.Known.{on_ok, if_err, grows_as, grows_stays}
use Rattle.lasso_lines.proofs.InOrder.{writes_named}
use Rattle.lasso_lines.proofs.ordered.write_in_order.Goals as goal

pub returns-clause-texts : goal.returns-clause-texts
returns-clause-texts g c =
    let list = list_of c.args.rodeo.now c.collect.new.pass.notes in
    on_ok c.flush_all.result _ (grows_stays _ _ _ _ _ c.in_ok-write_texts.ensures.texts c.flush_all.ensures.written (λ part is.
    writes_named list c.args.codes.now c.in_ok-texts.texts.items c.sort.new.texts.items c.sort.ensures.permutation c.sort.ensures.sorted c.in_ok-texts.ensures.fronts c.in_ok-texts.ensures.texts part (rw c.deref.ensures.value at is)))

-- all texts were written, and the flush fails
pub returns-clause-begins : goal.returns-clause-begins
returns-clause-begins g c =
    let list = list_of c.args.rodeo.now c.collect.new.pass.notes in
    let whole = told (map (λ (p : ℕ × Bor Text). p.1.now) c.deref.result.now) in
    let same = ap (λ ps. told (map (λ (p : ℕ × Bor Text). p.1.now) ps)) c.deref.ensures.value in
    if_err c.flush_all.result _ (λ fault failed. grows_stays _ _ _ _ _ c.in_ok-write_texts.ensures.texts c.flush_all.ensures.written (λ part is. (
      whole,
      writes_named list c.args.codes.now c.in_ok-texts.texts.items c.sort.new.texts.items c.sort.ensures.permutation c.sort.ensures.sorted c.in_ok-texts.ensures.fronts c.in_ok-texts.ensures.texts whole same,
      ([], sym is ∙ sym (append-nil part)),
    )))

-- a text could not be written
pub returns-in_err-write_texts-clause-begins : goal.returns-in_err-write_texts-clause-begins
returns-in_err-write_texts-clause-begins g c =
    let p = err_from_is_err_and c.from_residual-in_err-write_texts.result c.from_residual-in_err-write_texts.ensures.1 in
    let list = list_of c.args.rodeo.now c.collect.new.pass.notes in
    let whole = told (map (λ (p : ℕ × Bor Text). p.1.now) c.deref.result.now) in
    let same = ap (λ ps. told (map (λ (p : ℕ × Bor Text). p.1.now) ps)) c.deref.ensures.value in
    rw (p.1, p.2) (λ failed. grows_as _ _ _ _ c.in_err-write_texts.ensures.texts (λ part w. (
      whole,
      writes_named list c.args.codes.now c.in_ok-texts.texts.items c.sort.new.texts.items c.sort.ensures.permutation c.sort.ensures.sorted c.in_ok-texts.ensures.fronts c.in_ok-texts.ensures.texts whole same,
      w.1,
    )))
