use Rattle.std.proofs.Common.{refl}
use Rattle.lasso_parts.specs.Hashing.{hash_by}
use Rattle.lasso_log.specs.Replies.{Copied}
use Rattle.lasso_shared.specs.Shards.{shard_of}
use Rattle.lasso_shared.proofs.Stored.{called_wanting}
use Rattle.lasso_shared.proofs.Whole.{since_self, still_lacks}
use Rattle.lasso_shared.proofs.shards.Shards.intern_absent_now.Goals as goal

pub returns-in-Err-clause-call : goal.returns-in-Err-clause-call
returns-in-Err-clause-call g c =
    let hash_of = hash_by g.S.BuildHasher g.S.Hasher.Hasher c.args.self.now.hasher in
    let log = c.args.self.now.log in
    let notes = c.args.pass.now.notes in
    let lacks = still_lacks hash_of c.args.hash (shard_of c.args.hash) log c.args.shard.now.known.notes notes c.args.text.now c.requires.whole c.requires.hashed refl c.requires.held.exact.distinct c.requires.lacks in
    rw c.in-Err.ensures.refused (called_wanting g.K.Key.key_at log c.args.pass.now.number Copied notes notes c.args.text.now (since_self c.args.pass.now.number notes) lacks)

pub returns-in-Err-reserve_next-clause-call : goal.returns-in-Err-reserve_next-clause-call
returns-in-Err-reserve_next-clause-call g c =
    let hash_of = hash_by g.S.BuildHasher g.S.Hasher.Hasher c.args.self.now.hasher in
    let log = c.args.self.now.log in
    let notes = c.args.pass.now.notes in
    let lacks = still_lacks hash_of c.args.hash (shard_of c.args.hash) log c.args.shard.now.known.notes notes c.args.text.now c.requires.whole c.requires.hashed refl c.requires.held.exact.distinct c.requires.lacks in
    rw c.in-Err-reserve_next.ensures.refused (called_wanting g.K.Key.key_at log c.args.pass.now.number Copied notes notes c.args.text.now (since_self c.args.pass.now.number notes) lacks)
