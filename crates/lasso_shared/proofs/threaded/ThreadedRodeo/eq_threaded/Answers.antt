use Rattle.lasso_shared.proofs.Listed.{listed}
use Rattle.lasso_shared.proofs.threaded.ThreadedRodeo.eq_threaded.Goals as goal

pub returns-clause-lists : goal.returns-clause-lists
returns-clause-lists g c =
    let theirs = c.seen_texts-theirs.result in
    let call = listed g.K.Key.key_at c.args.other.now c.pass-pass.result c.len-len.new.pass theirs c.pass-pass.ensures.of c.pass-pass.ensures.notes c.len-len.ensures.same c.len-len.ensures.since c.seen_texts-theirs.ensures c.prove_legal.ensures.legal in
    let mine = c.eq_texts.ensures.list in
    (mine.0, theirs, mine.1, call, mine.2)
