use Rattle.std.proofs.Common.{sym, ap}
use Rattle.lasso_log.proofs.Logs.{peek_opened}
use Rattle.lasso_log.proofs.log.shared_log.Log.load_seen.Goals as goal

pub load-requires : goal.load-requires
load-requires g c = (
  ap (λ w. w.tracked) c.requires.word,
  sym (ap (λ w. w.book) c.requires.word),
  c.plain-offer.ensures.0,
  peek_opened g.K.Key.key_at c.args.seen.now.log c.plain-offer.result.ask c.plain-offer.result.state c.args.word_index c.args.word.now.key c.requires.known.0 c.requires.known.1,
)
