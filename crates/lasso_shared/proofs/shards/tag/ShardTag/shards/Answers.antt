-- The shards are made in the order of their numbers: each lock knows its number, and each shard's texts are counted under it.
use Rattle.std.proofs.Common.{rules, ◌≡◌, [], ℕ, refl, ap, ◌∙◌, arith}
use Rattle.std.proofs.lemmas.List.{length-set}
use Rattle.lasso_parts.specs.Hashing.{hash_by}
use Rattle.lasso_log.specs.Views.{list_of}
use Rattle.lasso_shared.specs.Shards.{count_in}
use Rattle.lasso_shared.proofs.Built.{counted_below_more}
use Rattle.lasso_shared.proofs.Whole.{numbered_push}
use Rattle.lasso_shared.proofs.shards.tag.ShardTag.shards.Goals as goal

pub loop-number-preserved : goal.loop-number-preserved
loop-number-preserved g c =
    let i = c.loop-number.invariant in
    let n = c.loop-number.number in
    let was = c.args.self.now in
    let hash_of = hash_by g.S.BuildHasher g.S.Hasher.Hasher was.hasher in
    let own = hash_by g.S.BuildHasher g.S.Hasher.Hasher c.loop-number.self.hasher in
    let told = c.in_ok-shard.ensures in
    let count : c.in_ok-shard.shard.count ≡ count_in hash_of n (list_of was.log []) = rw (← i.log, ← i.hasher) (told.shard.counts ∙ ap (λ notes. count_in own n (list_of c.loop-number.self.log notes)) told.known) in record {
      below = search rules;
      room = search (rules, i.room);
      log = i.log;
      hasher = i.hasher;
      long = search (rules, i.long);
      tags = rw c.push_reserved.ensures.items (numbered_push (λ (k : ℕ). record was { number = k }) c.loop-number.locks.items c.new.result n i.long (c.new.ensures ∙ rw (i.log, i.hasher) refl) i.tags);
      all = length-set c.loop-number.counts n c.in_ok-shard.shard.count ∙ i.all;
      counted = counted_below_more hash_of (list_of was.log []) n c.in_ok-shard.shard.count c.loop-number.counts (omega (arith, i.all)) count i.counted;
    }
