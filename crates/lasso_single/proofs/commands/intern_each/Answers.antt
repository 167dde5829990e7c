use Rattle.std.proofs.Common.{◌≡◌, ℕ, ◌+◌, ◌<◌, List, [], ◌++◌, map, take, drop, get_or, length, Ok, Err, refl, sym, subst, ap, ◌∙◌, arith, Bor}
use Rattle.std.proofs.lemmas.List.{map_more, map-append, take-append-drop}
use Rattle.std.proofs.lemmas.Result.{err_from_is_err_and}
use Rattle.lasso_parts.specs.Texts.{Text}
use Rattle.lasso_single.specs.Filling.{extend}
use Rattle.lasso_single.proofs.Filled.{accepted, extend_push, extend_stopped}
use Rattle.lasso_single.proofs.commands.intern_each.Goals as goal

abbrev no_text : Bor (List ℕ)
no_text = record { ref_ptr = (0, 0); now = [] }

abbrev bytes : Bor (List ℕ) → Text
bytes text = text.now

pub returns-in_err-try_get_or_intern : goal.returns-in_err-try_get_or_intern
returns-in_err-try_get_or_intern g c =
    let texts = c.args.texts.now in
    let i = c.loop-text.text-index in
    let old = c.args.rodeo.now in
    let new = c.try_get_or_intern.new.self in
    let key_at = g.K.Key.key_at in
    let told = c.in_err-try_get_or_intern.ensures.all in
    let error = c.in_err-try_get_or_intern.field-0.0 in
    let inside : i < length texts = omega arith in
    let more = map_more bytes texts i no_text inside in
    let pushed = extend_push key_at old c.loop-text.rodeo new (map bytes (take i texts)) (get_or texts i no_text).now (Err error) (Err error) c.loop-text.invariant told refl in
    let here : extend key_at old (map bytes (take (i + 1) texts)) (Err error) new = subst (λ ts. extend key_at old ts (Err error) new) (sym more) pushed in
    let split : map bytes (take (i + 1) texts) ++ map bytes (drop (i + 1) texts) ≡ map bytes texts = sym (map-append bytes (take (i + 1) texts) (drop (i + 1) texts)) ∙ ap (map bytes) (take-append-drop (i + 1) texts) in
    let whole : extend key_at old (map bytes texts) (Err error) new = subst (λ ts. extend key_at old ts (Err error) new) split (extend_stopped key_at old new (map bytes (take (i + 1) texts)) (map bytes (drop (i + 1) texts)) error here) in
    let p = err_from_is_err_and c.from_residual.result c.from_residual.ensures.1 in
    rw (p.1, p.2) whole

pub loop-text-preserved : goal.loop-text-preserved
loop-text-preserved g c =
    let texts = c.args.texts.now in
    let i = c.loop-text.text-index in
    let old = c.args.rodeo.now in
    let new = c.try_get_or_intern.new.self in
    let key_at = g.K.Key.key_at in
    let told = c.in_ok-try_get_or_intern.ensures.all in
    let inside : i < length texts = omega arith in
    let more = map_more bytes texts i no_text inside in
    let pushed = extend_push key_at old c.loop-text.rodeo new (map bytes (take i texts)) (get_or texts i no_text).now (Ok c.in_ok-try_get_or_intern.field-0) accepted c.loop-text.invariant told refl in
    subst (λ ts. extend key_at old ts accepted new) (sym more) pushed
