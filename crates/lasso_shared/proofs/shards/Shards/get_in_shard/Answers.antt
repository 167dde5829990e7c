use Rattle.std.proofs.Common.{sym, ap}
use Rattle.std.specs.Prelude.{option_and_then}
use Rattle.lasso_parts.specs.Hashing.{hash_by}
use Rattle.lasso_log.specs.History.{Lacks}
use Rattle.lasso_log.specs.Views.{list_of}
use Rattle.lasso_shared.proofs.Whole.{since_both, still_lacks}
use Rattle.lasso_shared.proofs.shards.Shards.get_in_shard.Goals as goal

pub returns-clause-since : goal.returns-clause-since
returns-clause-since g c =
    since_both c.args.pass.now.number c.key_in_shard.new.pass.number c.args.pass.now.notes c.key_in_shard.new.pass.notes c.wait_until_current.new.pass.notes c.key_in_shard.ensures.same.0 c.key_in_shard.ensures.since c.wait_until_current.ensures.since

pub returns-clause-found : goal.returns-clause-found
returns-clause-found g c =
    let hash_of = hash_by g.S.BuildHasher g.S.Hasher.Hasher c.args.self.now.hasher in
    let log = c.args.self.now.log in
    let t = c.args.text.now in
    let lacks : Lacks (list_of log c.wait_until_current.new.pass.notes) t =
    still_lacks hash_of c.args.hash c.number_of.result log c.args.shard.now.known.notes c.wait_until_current.new.pass.notes t c.wait_until_current.ensures.whole c.requires.hashed c.number_of.ensures.0 c.requires.held.exact.distinct c.in_default.ensures.missing in
    ap (option_and_then g.K.Key.key_at) (sym lacks)
