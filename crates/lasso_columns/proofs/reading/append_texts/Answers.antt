use Rattle.std.proofs.Common.{ℕ, ◌≡◌, ◌∷◌, None, List, map, ap, sym, subst, ◌∙◌}
use Rattle.std.proofs.lemmas.Result.{err_from_is_err_and}
use Rattle.lasso_columns.specs.Layout.{start_fault}
use Rattle.lasso_columns.proofs.Readings.{Reading, Told, none_read, moved, ended, all_told, all_texts, no_fault}
use Rattle.lasso_columns.proofs.reading.append_texts.Given.{Over}
use Rattle.lasso_columns.proofs.reading.append_texts.Goals as goal

pub loop-at-init : goal.loop-at-init
loop-at-init g c =
    let from = c.into_usize-from.result in
    let rest = map g.O.Offset.number c.in-Some.rest.now in
    let cut : map g.O.Offset.number c.args.offsets.now ≡ from ∷ rest = ap (map g.O.Offset.number) c.in-Some.ensures.cases.0 ∙ ap (λ (n : ℕ). n ∷ rest) (sym c.into_usize-from.ensures) in
    let good : start_fault g.O.Offset.GREATEST c.args.bytes.now from ≡ None = subst (λ (n : ℕ). start_fault n c.args.bytes.now from ≡ None) c.GREATEST.ensures c.in_ok-check_start.ensures in
    subst (λ (os : List ℕ). Reading g.K.Key.key_at g.O.Offset.GREATEST c.args.bytes.now os c.args.rodeo.now 0 from rest c.args.rodeo.now) (sym cut) (none_read g.K.Key.key_at g.O.Offset.GREATEST c.args.bytes.now from rest c.args.rodeo.now good)

pub loop-at-preserved : goal.loop-at-preserved
loop-at-preserved g c =
    moved g.K.Key.key_at g.O.Offset.number g.O.Offset.GREATEST c.args.bytes.now (map g.O.Offset.number c.args.offsets.now) c.args.rodeo.now c.in-Some.rest.now c.loop-at.at c.loop-at.from c.into_usize-to.result c.GREATEST-in-loop-at.result c.index-rest-at.result c.loop-at.rodeo c.append_text.new.rodeo c.loop-at.invariant c.loop-at-test.true c.index-rest-at.is c.into_usize-to.ensures c.GREATEST-in-loop-at.ensures c.in_ok-append_text.ensures

pub returns-in_err-append_text-clause-list : goal.returns-in_err-append_text-clause-list
returns-in_err-append_text-clause-list g c =
    (ended g.K.Key.key_at g.O.Offset.number g.O.Offset.GREATEST c.args.bytes.now (map g.O.Offset.number c.args.offsets.now) c.args.rodeo.now c.in-Some.rest.now c.loop-at.at c.loop-at.from c.into_usize-to.result c.GREATEST-in-loop-at.result c.index-rest-at.result c.loop-at.rodeo c.append_text.new.rodeo c.loop-at.invariant c.loop-at-test.true c.index-rest-at.is c.into_usize-to.ensures c.GREATEST-in-loop-at.ensures c.in_err-append_text.field-0.0 c.in_err-append_text.ensures).0.list

pub returns-in_err-append_text-clause-texts : goal.returns-in_err-append_text-clause-texts
returns-in_err-append_text-clause-texts g c =
    (ended g.K.Key.key_at g.O.Offset.number g.O.Offset.GREATEST c.args.bytes.now (map g.O.Offset.number c.args.offsets.now) c.args.rodeo.now c.in-Some.rest.now c.loop-at.at c.loop-at.from c.into_usize-to.result c.GREATEST-in-loop-at.result c.index-rest-at.result c.loop-at.rodeo c.append_text.new.rodeo c.loop-at.invariant c.loop-at-test.true c.index-rest-at.is c.into_usize-to.ensures c.GREATEST-in-loop-at.ensures c.in_err-append_text.field-0.0 c.in_err-append_text.ensures).0.texts

pub returns-in_err-append_text-clause-fault : goal.returns-in_err-append_text-clause-fault
returns-in_err-append_text-clause-fault g c =
    let p = err_from_is_err_and c.from_residual-in_err-append_text.result c.from_residual-in_err-append_text.ensures.1 in
    let why = (ended g.K.Key.key_at g.O.Offset.number g.O.Offset.GREATEST c.args.bytes.now (map g.O.Offset.number c.args.offsets.now) c.args.rodeo.now c.in-Some.rest.now c.loop-at.at c.loop-at.from c.into_usize-to.result c.GREATEST-in-loop-at.result c.index-rest-at.result c.loop-at.rodeo c.append_text.new.rodeo c.loop-at.invariant c.loop-at-test.true c.index-rest-at.is c.into_usize-to.ensures c.GREATEST-in-loop-at.ensures c.in_err-append_text.field-0.0 c.in_err-append_text.ensures).1 in
    rw (p.1, p.2) why

-- the texts after the last offset
whole : (g : Over) (c : goal.After-loop-at g) → Told g.K.Key.key_at g.O.Offset.GREATEST c.args.bytes.now (map g.O.Offset.number c.args.offsets.now) c.args.rodeo.now c.loop-at.rodeo
whole g c =
    let at = c.loop-at in
    all_told g.K.Key.key_at g.O.Offset.number g.O.Offset.GREATEST c.args.bytes.now (map g.O.Offset.number c.args.offsets.now) c.args.rodeo.now c.in-Some.rest.now at.at at.from at.rodeo at.invariant c.loop-at-test.false

pub returns-clause-list : goal.returns-clause-list
returns-clause-list g c = (whole g c).list

pub returns-clause-texts : goal.returns-clause-texts
returns-clause-texts g c = (whole g c).texts

pub returns-clause-whole : goal.returns-clause-whole
returns-clause-whole g c =
    let at = c.loop-at in
    all_texts g.K.Key.key_at g.O.Offset.number g.O.Offset.GREATEST c.args.bytes.now (map g.O.Offset.number c.args.offsets.now) c.args.rodeo.now c.in-Some.rest.now at.at at.from at.rodeo at.invariant c.loop-at-test.false

pub returns-clause-good : goal.returns-clause-good
returns-clause-good g c =
    let at = c.loop-at in
    no_fault g.K.Key.key_at g.O.Offset.number g.O.Offset.GREATEST c.args.bytes.now (map g.O.Offset.number c.args.offsets.now) c.args.rodeo.now c.in-Some.rest.now at.at at.from at.rodeo at.invariant c.loop-at-test.false
