use Rattle.lasso_shared.proofs.Listed.{listed}
use Rattle.lasso_shared.proofs.threaded.ThreadedRodeo.eq_texts.Goals as goal

pub returns-clause-list : goal.returns-clause-list
returns-clause-list g c =
    let texts = c.seen_texts-texts.result in
    let call = listed g.K.Key.key_at c.args.self.now c.pass-pass.result c.len-len.new.pass texts c.pass-pass.ensures.of c.pass-pass.ensures.notes c.len-len.ensures.same c.len-len.ensures.since c.seen_texts-texts.ensures c.prove_legal.ensures.legal in
    (texts, call, c.have_same_texts.ensures)
