-- A variable has the name exactly where its key has the number of the name's key, since no text comes twice.
use Rattle.std.proofs.Common.{◌≡◌, ◌<◌, ◌+◌, Some, length, refl, ap, sym, subst, ◌∙◌, arith}
use Rattle.std.specs.Prelude.{slice_get, is_some}
use Rattle.std.proofs.lemmas.Option.{slice_get_read}
use Rattle.lasso.proofs.Interned.{key_resolves}
use Rattle.lasso_guide.specs.Scopes.{IsLast, IsNamed, names_of}
use Rattle.lasso_guide.proofs.Naming.{HasNumber, last_yes, last_no, last_alike, named_has_number, number_is_named, none_named, is_absent}
use Rattle.lasso_guide.proofs.scopes.Scopes.place_of.Goals.{then-into_usize-wanted, else-into_usize-wanted}
use Rattle.lasso_guide.proofs.scopes.Scopes.place_of.Goals as goal

pub returns-in_err-get : goal.returns-in_err-get
returns-in_err-get g c =
    let now = c.args.self.now in
    let end = length now.variables.items in
    let lacks = is_absent _ (sym c.get.ensures.present ∙ ap is_some c.in_err-get.was) in
    subst (IsLast (λ place. IsNamed (names_of g.K.Key.number now.names.texts now.variables.items) place c.args.name.now) end) (sym c.from_residual.ensures)
    (none_named g.K.Key.number now.names.texts now.variables.items c.args.name.now end c.len-count.ensures.distinct lacks)

pub loop-place-preserved : goal.loop-place-preserved
loop-place-preserved g c =
    let variables = c.args.self.now.variables.items in
    let place = c.loop-place.place in
    let variable = c.index.result.now in
    let wanted = c.into_usize-wanted.result in
    let P = HasNumber g.K.Key.number variables wanted in
    let inside : place < length variables = omega (arith, c.loop-place-test.true, c.len-place-end.ensures) in
    let at : slice_get variables place ≡ Some variable = slice_get_read variables (length variables) place variable refl inside c.index.ensures in
    elim c.if-into_usize-wanted.branch [
      | then-into_usize-wanted w ↦ subst (IsLast P (place + 1)) (sym w.found-is) (last_yes P place (variable, at, sym c.into_usize.ensures ∙ w.if-into_usize-wanted.true))
      | else-into_usize-wanted w ↦ subst (IsLast P (place + 1)) (sym w.found-is)
          (last_no P place c.loop-place.found
          (λ has.
          let same : Some variable ≡ Some has.0 = sym at ∙ has.1 in
          let one : variable ≡ has.0 = cc same in
          w.if-into_usize-wanted.false (c.into_usize.ensures ∙ ap g.K.Key.number one ∙ has.2))
          c.loop-place.invariant)
    ]

pub returns : goal.returns
returns g c =
    let number = g.K.Key.number in
    let now = c.args.self.now in
    let texts = now.names.texts in
    let variables = now.variables.items in
    let name = c.args.name.now in
    let wanted = c.into_usize-wanted.result in
    let distinct = c.len-count.ensures.distinct in
    let whole : c.loop-place.place ≡ length variables = omega (arith, c.loop-place-test.false, c.loop-place.auto.place-end, c.len-place-end.ensures) in
    let key = key_resolves g.K.Key.key_at number (λ n k e. (g.met.K.Key.made n k e).2) texts name c.in_ok-get.field-0 (sym c.get.ensures.value ∙ c.in_ok-get.was) in
    let at : slice_get texts wanted ≡ Some name = ap (slice_get texts) c.into_usize-wanted.ensures ∙ key in
    last_alike (HasNumber number variables wanted) (λ place. IsNamed (names_of number texts variables) place name) (length variables) c.loop-place.found
    (λ place has. number_is_named number texts variables name wanted place at has)
    (λ place named. named_has_number number texts variables name wanted place distinct at named)
    (subst (λ end. IsLast (HasNumber number variables wanted) end c.loop-place.found) whole c.loop-place.invariant)
