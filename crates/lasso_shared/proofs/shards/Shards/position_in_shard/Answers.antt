use Rattle.std.proofs.Common.{◌≡◌, ◌≢◌, ℕ, List, Some, sym, ap, ◌∙◌, subst}
use Rattle.std.specs.Prelude.{IfSome, IfNone, slice_get}
use Rattle.lasso_parts.specs.Texts.{Text, IsDistinct}
use Rattle.lasso_parts.specs.Hashing.{hash_by}
use Rattle.lasso_parts.specs.Index.{IsFiled, Holds}
use Rattle.lasso_log.specs.Views.{InternerId, list_of}
use Rattle.lasso_shared.specs.Shards.{shard_of}
use Rattle.lasso_log.proofs.Lengths.{texts_past}
use Rattle.lasso_shared.proofs.Whole.{list_good, filed_later, found_at, missed, is_home}
use Rattle.lasso_shared.proofs.shards.Shards.position_in_shard.Goals as goal

pub find_hashed-requires-clause-filed : goal.find_hashed-requires-clause-filed
find_hashed-requires-clause-filed g c =
    let hash_of = hash_by g.S.BuildHasher g.S.Hasher.Hasher c.args.self.now.hasher in
    let log = c.args.self.now.log in
    let notes = c.args.known.now.notes in
    let is : c.snapshot_texts-texts.result ≡ list_of log notes = c.snapshot_texts-texts.ensures ∙ ap (λ of. list_of of notes) c.requires.of in
    subst (λ (ts : List Text). IsFiled hash_of ts c.args.shard.now.index) (sym is) (filed_later hash_of (shard_of c.args.hash) log c.args.shard.now.known.notes notes c.args.shard.now.index c.requires.begins c.requires.held.exact)

pub returns-clause-found : goal.returns-clause-found
returns-clause-found g c =
    let hash_of = hash_by g.S.BuildHasher g.S.Hasher.Hasher c.args.self.now.hasher in
    let log = c.args.self.now.log in
    let notes = c.args.known.now.notes in
    let of : c.args.known.now.of ≡ log = c.requires.of in
    let is : c.snapshot_texts-texts.result ≡ list_of log notes = c.snapshot_texts-texts.ensures ∙ ap (λ of. list_of of notes) of in
    let good = (list_good g.K.Key.key_at c.args.known.now.of.opening notes c.prove_legal.ensures.opening c.prove_legal.ensures.legal).0 in
    let distinct : IsDistinct (list_of log notes) = subst (λ (o : InternerId). IsDistinct (list_of o notes)) of good in
    found_at hash_of (shard_of c.args.hash) (list_of log notes) c.args.shard.now.index c.args.text.now c.find_hashed.result distinct
    (subst (λ (ts : List Text). IfSome c.find_hashed.result (λ n. Holds c.args.shard.now.index.slots n × (slice_get ts n ≡ Some c.args.text.now))) is c.find_hashed.ensures.found)

pub returns-clause-missing : goal.returns-clause-missing
returns-clause-missing g c =
    let hash_of = hash_by g.S.BuildHasher g.S.Hasher.Hasher c.args.self.now.hasher in
    let log = c.args.self.now.log in
    let notes = c.args.known.now.notes in
    let of : c.args.known.now.of ≡ log = c.requires.of in
    let is : c.snapshot_texts-texts.result ≡ list_of log notes = c.snapshot_texts-texts.ensures ∙ ap (λ of. list_of of notes) of in
    missed hash_of (shard_of c.args.hash) (list_of log c.args.shard.now.known.notes) (list_of log notes) c.args.shard.now.index c.args.text.now c.find_hashed.result
    (texts_past log.opening c.args.shard.now.known.notes notes c.requires.begins) c.requires.held.exact (is_home hash_of c.args.hash c.args.text.now c.requires.hashed)
    (subst (λ (ts : List Text). IfNone c.find_hashed.result ((n : ℕ) → Holds c.args.shard.now.index.slots n → slice_get ts n ≢ Some c.args.text.now)) is c.find_hashed.ensures.missing)
