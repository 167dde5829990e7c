use Rattle.std.proofs.Common.{sym, ◌∙◌, ap}
use Rattle.lasso_log.proofs.Logs.{fetch_opened}
use Rattle.lasso_log.proofs.log.shared_log.Log.ticket.Goals as goal

pub compare_exchange-requires : goal.compare_exchange-requires
compare_exchange-requires g c =
    let i = c.self.invariant in
    let seen = c.again-seen.ensures in
    let offer = c.plain-offer.ensures in
    let pen = c.no_pen-pen.ensures in
    let book = ap (λ s. s.book) seen ∙ sym (ap (λ w. w.book) i.0) in (
      ap (λ w. w.tracked) i.0,
      book,
      pen.0 ∙ book,
      offer.0,
      rw (ap (λ w. w.key) i.0, pen.1, ap (λ s. s.log) seen) (fetch_opened g.K.Key.key_at c.self.inside.seen.log c.plain-offer.result.ask c.plain-offer.result.state i.2),
    )
