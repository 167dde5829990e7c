use Rattle.std.proofs.Common.{sym, ◌∙◌, ap}
use Rattle.lasso_log.proofs.Logs.{fetch_used_opened}
use Rattle.lasso_log.proofs.log.pass.ticket.fetched_by.Goals as goal

pub compare_exchange-requires : goal.compare_exchange-requires
compare_exchange-requires g c =
    let seen = c.again-seen.ensures in
    let offer = c.plain-offer.ensures in
    let pen = c.no_pen-pen.ensures in
    let book = ap (λ s. s.book) seen ∙ sym (ap (λ w. w.book) c.requires.word) in (
      ap (λ w. w.tracked) c.requires.word,
      book,
      pen.0 ∙ book,
      offer.0,
      rw (pen.1, ap (λ s. s.log) seen) (fetch_used_opened g.K.Key.key_at c.args.seen.now.log c.plain-offer.result.ask c.plain-offer.result.state c.args.used.now.key c.requires.opened c.requires.used),
    )
