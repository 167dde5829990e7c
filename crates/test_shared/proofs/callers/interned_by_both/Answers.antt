-- The text has its key when the first call returns. The other pass has seen that since the two met, so the
-- second call returns the same key.
use Rattle.std.proofs.Common.{◌≡◌, ◌∙◌, ap, Ok}
use Rattle.std.specs.Result.{result_ok}
use Rattle.lasso_log.specs.Replies.{Static}
use Rattle.lasso_log.specs.Views.{seen}
use Rattle.lasso_shared.proofs.CallerLaws.{history_past}
use Rattle.test_shared.proofs.callers.interned_by_both.Goals as goal

pub returns-clause-same : goal.returns-clause-same
returns-clause-same g c =
    let one = c.args.one.now in
    let told = c.try_get_or_intern_static_as.new.pass in
    let met = c.meet.new.self in
    let has = (c.calls_tell_keys.ensures c.args.shared.now.opening (seen one) (seen told) one.number).interned Static c.args.text.now c.in_ok-key.key c.in_ok-key.ensures.call in
    let answers = c.seen_texts_keep_keys.ensures c.args.shared.now.opening (seen told) (seen met) (seen c.try_get_or_intern_static_as-again.new.pass) met.number c.args.text.now c.in_ok-key.key has (history_past told.notes met.notes c.meet.ensures.other) in
    let again : c.try_get_or_intern_static_as-again.result ≡ Ok c.in_ok-key.key = answers.interned Static c.try_get_or_intern_static_as-again.result c.try_get_or_intern_static_as-again.ensures.call in
    c.ok.ensures.value ∙ ap result_ok again
