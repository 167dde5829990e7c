use Rattle.std.proofs.Common.{ap, map}
use Rattle.std.proofs.lemmas.Result.{on_err_weaker}
use Rattle.lasso_log.specs.Views.{seen}
use Rattle.lasso_shared.proofs.BatchFacts.{got_grows, got_keys}
use Rattle.lasso_shared.proofs.threaded.ThreadedRodeo.get_all_as.Goals as goal

pub returns-clause-keys : goal.returns-clause-keys
returns-clause-keys g c =
    rw (← c.self.view_is) (got_keys g.K.Key.key_at c.self.inside.shards.log.opening c.args.pass.now.number g.K.Key.number (λ n k e. (g.met.K.Key.made n k e).2) (seen c.args.pass.now) (seen c.get_all-reply.new.pass) (map (λ t. t.now) c.args.texts.now) c.args.keys.now.items c.get_all-reply.new.keys.items c.get_all-reply.result c.get_all-reply.ensures.found)

pub returns-clause-kept : goal.returns-clause-kept
returns-clause-kept g c =
    got_grows g.K.Key.key_at c.self.inside.shards.log.opening c.args.pass.now.number (seen c.args.pass.now) (seen c.get_all-reply.new.pass) (map (λ t. t.now) c.args.texts.now) c.args.keys.now.items c.get_all-reply.new.keys.items c.get_all-reply.result c.get_all-reply.ensures.found
    (on_err_weaker c.get_all-reply.result (λ same. ap seen same.0) c.get_all-reply.ensures.unchanged)
