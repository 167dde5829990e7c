use Rattle.std.proofs.Common.{ℕ, ◌^◌, ◌-◌, map, ap, ◌∙◌, arith}
use Rattle.std.proofs.lemmas.List.{length-map, take_all}
use Rattle.std.proofs.lemmas.Result.{err_from_is_err_and}
use Rattle.lasso_parts.specs.Account.{fresh}
use Rattle.lasso_single.proofs.Opened.{opened_none, opened_turn, opened_stopped}
use Rattle.lasso_single.proofs.rodeo.Rodeo.of_keywords.Goals as goal

pub loop-keyword-init : goal.loop-keyword-init
loop-keyword-init g c = opened_none _ _ c.in_ok-rodeo.ensures.texts

pub loop-keyword-preserved : goal.loop-keyword-preserved
loop-keyword-preserved g c =
    opened_turn g.row.K.Denot g.K.Key.key_at _ c.args.keywords.now c.loop-keyword.keyword-index _ c.loop-keyword.rodeo c.in_ok-try_get_or_intern_static.field-0 c.try_get_or_intern_static.new.self c.requires.distinct c.loop-keyword-test.true c.loop-keyword.invariant c.in_ok-try_get_or_intern_static.ensures.all

pub returns-in_err-try_get_or_intern_static-clause-refused : goal.returns-in_err-try_get_or_intern_static-clause-refused
returns-in_err-try_get_or_intern_static-clause-refused g c =
    let told = opened_stopped g.row.K.Denot g.K.Key.key_at _ c.args.keywords.now c.loop-keyword.keyword-index _ c.loop-keyword.rodeo c.in_err-try_get_or_intern_static.field-0.0 c.try_get_or_intern_static.new.self c.requires.distinct c.requires.fits c.loop-keyword-test.true c.loop-keyword.invariant c.in_err-try_get_or_intern_static.ensures.all in
    let p = err_from_is_err_and c.from_residual-in_err-try_get_or_intern_static.result c.from_residual-in_err-try_get_or_intern_static.ensures.1 in
    rw (p.1, p.2) told

pub returns-clause-texts : goal.returns-clause-texts
returns-clause-texts g c =
    let keywords = map (λ t. t.now) c.args.keywords.now in
    c.loop-keyword.invariant.texts ∙ take_all c.loop-keyword.keyword-index keywords (simp length-map (omega arith))

pub returns-clause-account : goal.returns-clause-account
returns-clause-account g c = c.loop-keyword.invariant.account ∙ c.in_ok-rodeo.ensures.account ∙ ap (λ (n : ℕ). fresh n (2 ^ 64 - 1)) c.for_strings-capacity.ensures.bytes

pub returns-clause-made : goal.returns-clause-made
returns-clause-made g c =
    let put = c.loop-keyword.invariant in let made = c.in_ok-rodeo.ensures.made in
    (put.origin.0 ∙ made.0 ∙ c.for_strings-capacity.ensures.bytes, put.copied ∙ made.1, put.origin.1 ∙ made.2, put.origin.2 ∙ made.3)
