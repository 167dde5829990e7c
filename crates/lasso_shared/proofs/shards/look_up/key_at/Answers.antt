use Rattle.lasso_shared.proofs.Whole.{list_good}
use Rattle.lasso_shared.proofs.shards.look_up.key_at.Goals as goal

pub unwrap-requires : goal.unwrap-requires
unwrap-requires g c =
    let of = c.args.known.now.of in
    let fits = (list_good g.K.Key.key_at of.opening c.args.known.now.notes c.prove_legal.ensures.opening c.prove_legal.ensures.legal).1 in
    rw c.try_from_usize.ensures (fits c.args.position c.requires)
