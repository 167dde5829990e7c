-- A new pass has seen the opening alone, so the texts that it shows are the opening's. After each position the index and the number are
-- the shard's of the texts so far: a text of the shard is entered and counted, another one is passed over.
use Rattle.std.proofs.Common.{◌≡◌, ◌+◌, ◌∙◌, [], List, take, get_or, sym, ap, refl, subst, arith}
use Rattle.lasso_parts.specs.Hashing.{hash_by}
use Rattle.lasso_parts.specs.Index.{Table, IsFiled}
use Rattle.lasso_parts.specs.Texts.{Text}
use Rattle.lasso_log.specs.Views.{InternerId, list_of}
use Rattle.lasso_shared.specs.Shards.{IsShardOf}
use Rattle.lasso_shared.proofs.Whole.{none_yet}
use Rattle.lasso_shared.proofs.Built.{filed_whole, grown, entered, passed, counted_one, counted_none, counted_short, as_many, hashed_at, is_its, is_others}
use Rattle.lasso_shared.proofs.shards.tag.ShardTag.shard.Goals.{then-number_of-self+in_ok-reserve_one, else-number_of-self}
use Rattle.lasso_shared.proofs.shards.tag.ShardTag.shard.Goals as goal

pub loop-position-init : goal.loop-position-init
loop-position-init g c =
    let hash_of = hash_by g.S.BuildHasher g.S.Hasher.Hasher c.args.self.now.hasher in record {
      exact = none_yet hash_of c.args.self.now.number [] c.in_ok-index.index refl c.in_ok-index.ensures.empty c.in_ok-index.ensures.filed;
      counts = refl;
    }

pub reserve_one-requires : goal.reserve_one-requires
reserve_one-requires g c =
    let hash_of = hash_by g.S.BuildHasher g.S.Hasher.Hasher c.args.self.now.hasher in
    let log = c.args.self.now.log in
    let is : c.seen_texts-texts.result ≡ list_of log [] = c.seen_texts-texts.ensures ∙ (ap (λ (o : InternerId). list_of o c.pass-pass.result.notes) c.pass-pass.ensures.of ∙ ap (list_of log) c.pass-pass.ensures.notes) in
    subst (λ (ts : List Text). IsFiled hash_of ts c.loop-position.index) (sym is)
    (filed_whole hash_of c.args.self.now.number (list_of log []) c.requires.distinct c.loop-position.position c.loop-position.index c.loop-position.invariant.exact)

pub overflow_add-count : goal.overflow_add-count
overflow_add-count g c =
    let hash_of = hash_by g.S.BuildHasher g.S.Hasher.Hasher c.args.self.now.hasher in
    let texts = list_of c.args.self.now.log [] in
    let n = c.loop-position.position in
    let long = as_many hash_of texts c.args.hashes.now c.requires.hashes in
    let short = counted_short hash_of c.args.self.now.number texts c.requires.distinct n c.loop-position.count (omega (arith, long, c.loop-position-test.true)) c.loop-position.invariant.counts in
    omega (arith, short, c.loop-position-test.true)

pub loop-position-preserved : goal.loop-position-preserved
loop-position-preserved g c =
    let hash_of = hash_by g.S.BuildHasher g.S.Hasher.Hasher c.args.self.now.hasher in
    let number = c.args.self.now.number in
    let log = c.args.self.now.log in
    let texts = list_of log [] in
    let distinct = c.requires.distinct in
    let n = c.loop-position.position in
    let i = c.loop-position.invariant in
    let hash = get_or c.args.hashes.now n 0 in
    let at = hashed_at hash_of texts c.args.hashes.now n c.requires.hashes c.loop-position-test.true in
    elim c.if-number_of-self.branch [
      | then-number_of-self+in_ok-reserve_one w ↦
          let is : c.seen_texts-texts.result ≡ list_of log [] = c.seen_texts-texts.ensures ∙ (ap (λ (o : InternerId). list_of o c.pass-pass.result.notes) c.pass-pass.ensures.of ∙ ap (list_of log) c.pass-pass.ensures.notes) in
          let room = w.in_ok-reserve_one.ensures in
          let filed : IsFiled hash_of texts w.reserve_one.new.self = subst (λ (ts : List Text). IsFiled hash_of ts w.reserve_one.new.self) is room.filed in
          let ready = grown hash_of number texts distinct n c.loop-position.index w.reserve_one.new.self i.exact filed room.same in
          let position = (g.met.K.Key.made n w.unwrap.result (sym w.try_from_usize.ensures ∙ w.unwrap.ensures)).2 in
          let its = is_its hash_of number c.number_of.result hash at.0 at.2 c.number_of.ensures.0 w.if-number_of-self.true in
          let put = w.insert_reserved.ensures in record {
            exact = subst (λ (x : Table). IsShardOf hash_of number (take (n + 1) texts) x) (sym w.index-is)
                (entered hash_of number texts distinct n (g.K.Key.number w.unwrap.result) hash at.0 w.reserve_one.new.self w.insert_reserved.new.self position at.1 its at.2 ready put.holds put.filed);
            counts = w.count-is ∙ counted_one hash_of number texts distinct n c.loop-position.count at.0 at.1 its i.counts;
          }
      | else-number_of-self w ↦
          let others = is_others hash_of number c.number_of.result hash at.0 at.2 c.number_of.ensures.0 w.if-number_of-self.false in record {
            exact = subst (λ (x : Table). IsShardOf hash_of number (take (n + 1) texts) x) (sym w.index-is) (passed hash_of number texts distinct n at.0 c.loop-position.index at.1 others i.exact);
            counts = w.count-is ∙ counted_none hash_of number texts distinct n c.loop-position.count at.0 at.1 others i.counts;
          }
    ]
