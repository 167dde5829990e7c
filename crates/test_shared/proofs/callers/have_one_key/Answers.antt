-- The two passes have seen one history, in which both texts have their keys.
use Rattle.std.proofs.Common.{◌∙◌, sym, arith}
use Rattle.std.proofs.lemmas.Bool.Decides.{nat_tests}
use Rattle.lasso_log.specs.Replies.{Static}
use Rattle.lasso_log.specs.Views.{seen}
use Rattle.test_shared.proofs.callers.have_one_key.Goals as goal

pub returns-clause-same : goal.returns-clause-same
returns-clause-same g c =
    let o = c.args.shared.now.opening in
    let one = c.try_get_or_intern_static_as.new.pass in
    let other = c.try_get_or_intern_static_as-2.new.pass in
    let of = c.in_ok-key.ensures.same.1 ∙ (c.requires.of.0 ∙ (sym c.requires.of.1 ∙ sym c.in_ok-other_key.ensures.same.1)) in
    let has = (c.calls_tell_keys.ensures o (seen c.args.one.now) (seen one) c.args.one.now.number).interned Static c.args.text.now c.in_ok-key.key c.in_ok-key.ensures.call in
    let holds = (c.calls_tell_keys.ensures o (seen c.args.other.now) (seen other) c.args.other.now.number).interned Static c.args.word.now c.in_ok-other_key.other_key c.in_ok-other_key.ensures.call in
    let equal = c.keys_are_equal_where_texts_are.ensures o (seen one) (seen other) c.args.text.now c.args.word.now c.in_ok-key.key c.in_ok-other_key.other_key ((c.passes_share_keys.ensures one other of).compared c.prove_comparable.ensures) has holds in
    let eq = c.eq.ensures in
    (λ same. equal.0 (grind (arith, nat_tests, eq, same)), λ texts. let keys = equal.1 texts in grind (arith, nat_tests, eq, keys))
