use Rattle.std.proofs.Common.{◌∙◌}
use Rattle.lasso_shared.proofs.Placed.{key_placed}
use Rattle.lasso_shared.proofs.shards.Shards.key_by_hint.Goals as goal

pub returns-clause-found : goal.returns-clause-found
returns-clause-found g c =
    let after = c.find_hinted.new.pass in
    let found = c.in_ok-position.ensures in
    key_placed g.K.Key.key_at after.of c.args.self.now.log after.notes c.args.text.now c.in_ok-position.position c.key_at.result (c.find_hinted.ensures.same.1 ∙ c.requires) c.prove_legal.ensures.opening c.prove_legal.ensures.legal found.found c.key_at.ensures
