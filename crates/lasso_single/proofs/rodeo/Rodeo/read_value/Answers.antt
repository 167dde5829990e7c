-- What was read is distinct and fits the keys.
use Rattle.std.proofs.Common.{◌≡◌, ◌≤◌, ◌^◌, List, Some, map, true, refl, sym, subst}
use Rattle.serde_json.specs.View.{view}
use Rattle.lasso_parts.specs.Json.{TakesText}
use Rattle.lasso_parts.specs.Texts.{Text}
use Rattle.lasso_single.specs.Copies.{bytes_of, clone_size, read_of}
use Rattle.lasso_single.specs.Interner.{IsMadeWith}
use Rattle.lasso_single.proofs.JsonReading.{was_read, was_readable}
use Rattle.lasso_single.proofs.rodeo.Rodeo.read_value.Goals as goal

pub of_texts-requires-clause-distinct : goal.of_texts-requires-clause-distinct
of_texts-requires-clause-distinct g c =
    let key_at = g.K.Key.key_at in
    let d = view c.args.value.now in
    let texts = map (λ t. t.now) c.in_ok-texts.texts.items in
    rw c.as_slice.ensures.value ((was_readable key_at true d texts (was_read key_at true d (TakesText key_at d) texts c.in_ok-texts.ensures)).apart refl)

pub of_texts-requires-clause-fits : goal.of_texts-requires-clause-fits
of_texts-requires-clause-fits g c =
    let key_at = g.K.Key.key_at in
    let d = view c.args.value.now in
    let texts = map (λ t. t.now) c.in_ok-texts.texts.items in
    rw c.as_slice.ensures.value ((was_readable key_at true d texts (was_read key_at true d (TakesText key_at d) texts c.in_ok-texts.ensures)).fits)

pub returns-clause-account : goal.returns-clause-account
returns-clause-account g c = subst (λ (ts : List Text). read_of ts ≡ Some c.in_ok-rodeo.rodeo.account) (sym c.in_ok-rodeo.ensures.texts) c.in_ok-rodeo.ensures.account

pub returns-clause-made : goal.returns-clause-made
returns-clause-made g c = subst (λ (ts : List Text). IsMadeWith (clone_size ts) (bytes_of ts) c.in_ok-rodeo.rodeo) (sym c.in_ok-rodeo.ensures.texts) c.in_ok-rodeo.ensures.made

pub returns-clause-overflow : goal.returns-clause-overflow
returns-clause-overflow g c texts read too_many =
    let key_at = g.K.Key.key_at in
    let d = view c.args.value.now in
    let mine = map (λ t. t.now) c.in_ok-texts.texts.items in
    let whole = was_read key_at true d (TakesText key_at d) mine c.in_ok-texts.ensures in
    let same : texts ≡ mine = cc (read, whole) in
    let all : 2 ^ 64 ≤ bytes_of (map (λ t. t.now) c.as_slice.result.now) = rw c.as_slice.ensures.value (subst (λ (ts : List Text). 2 ^ 64 ≤ bytes_of ts) same too_many) in
    let refused = c.in_ok-rodeo.ensures.overflow all in cc
