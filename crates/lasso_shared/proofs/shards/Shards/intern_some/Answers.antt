use Rattle.std.proofs.Common.{◌≡◌, ◌++◌, ◌∷◌, ℕ, List, [], map, take, sym, ◌∙◌, subst, arith}
use Rattle.std.proofs.lemmas.Result.{err_from_is_err_and}
use Rattle.lasso_parts.specs.Texts.{Text}
use Rattle.lasso_single.proofs.KeyLists.{texts_more, texts_split}
use Rattle.lasso_shared.specs.PassCalls.{HasInterned}
use Rattle.lasso_shared.proofs.Together.{interned_more, refused_next}
use Rattle.lasso_shared.proofs.shards.Shards.intern_some.Goals as goal

pub returns-in_err-done-clause-refused : goal.returns-in_err-done-clause-refused
returns-in_err-done-clause-refused g c =
    let p = err_from_is_err_and c.from_residual.result c.from_residual.ensures.1 in
    rw (p.1, p.2) c.in_err-done.ensures.refused

pub returns-in_err-key-clause-refused : goal.returns-in_err-key-clause-refused
returns-in_err-key-clause-refused g c =
    let log = c.args.self.now.log in
    let all = map (λ t. t.now) c.args.texts.now in
    let p = err_from_is_err_and c.from_residual-in_err-key.result c.from_residual-in_err-key.ensures.1 in
    let here : c.in_ok-done.done ≡ c.args.from = omega (arith, c.in_ok-done.ensures.done, c.if-from-done.false) in
    rw (p.1, p.2) (λ first begun h.
    let ran = subst (λ (n : ℕ). HasInterned g.K.Key.key_at log first c.intern_run.new.pass (take n all) begun c.intern_run.new.keys.items) here (c.in_ok-done.ensures.interned first begun h) in
    refused_next g.K.Key.key_at log first c.intern_run.new.pass c.intern_next.new.pass _ _ _ _ c.in_err-key.field-0.0 begun c.intern_run.new.keys.items (texts_split c.args.texts.now c.args.from _ c.requires.from) ran c.in_err-key.ensures.call)

pub returns-clause-interned : goal.returns-clause-interned
returns-clause-interned g c = λ first begun h.
    let log = c.args.self.now.log in
    let all = map (λ t. t.now) c.args.texts.now in
    let here : c.in_ok-done.done ≡ c.args.from = omega (arith, c.in_ok-done.ensures.done, c.if-from-done.false) in
    let ran = subst (λ (n : ℕ). HasInterned g.K.Key.key_at log first c.intern_run.new.pass (take n all) begun c.intern_run.new.keys.items) here (c.in_ok-done.ensures.interned first begun h) in
    let told = c.in_ok-key.ensures in
    subst (λ (ts : List Text). HasInterned g.K.Key.key_at log first c.intern_next.new.pass ts begun c.push_reserved.new.self.items) (sym (texts_more c.args.texts.now c.args.from _ c.requires.from))
    (interned_more g.K.Key.key_at log first c.intern_run.new.pass c.intern_next.new.pass _ _ c.in_ok-key.key begun c.intern_run.new.keys.items c.push_reserved.new.self.items ran told.same told.call c.push_reserved.ensures.items)
