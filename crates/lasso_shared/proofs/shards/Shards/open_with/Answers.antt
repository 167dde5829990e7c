-- The list at no note is that of the opening, so the spine's length is how many texts there are, and the shards' numbers are those of the
-- list that the spine has seen.
use Rattle.std.proofs.Common.{List, length, ap, sym, ◌∙◌, subst}
use Rattle.lasso_parts.specs.Texts.{Text}
use Rattle.lasso_log.specs.Views.{InternerId, list_of}
use Rattle.lasso_parts.specs.Hashing.{hash_by}
use Rattle.lasso_shared.specs.Shards.{Counts}
use Rattle.lasso_shared.proofs.shards.Shards.open_with.Goals as goal

pub shards-requires-clause-counted : goal.shards-requires-clause-counted
shards-requires-clause-counted g c =
    let made = c.open_with-log.ensures in
    c.len.ensures.len ∙ (ap (λ (o : InternerId). length (list_of o c.open_with-log.result.spine.notes)) made.spine.0 ∙ ap (λ notes. length (list_of c.open_with-log.result.log notes)) made.spine.1)

pub shards-requires-clause-distinct : goal.shards-requires-clause-distinct
shards-requires-clause-distinct g c = rw c.open_with-log.ensures.opening c.requires.distinct

pub shards-requires-clause-fits : goal.shards-requires-clause-fits
shards-requires-clause-fits g c = rw c.open_with-log.ensures.opening c.requires.fits

pub new-spine-requires : goal.new-spine-requires
new-spine-requires g c =
    let made = c.open_with-log.ensures in
    let log = c.open_with-log.result.log in
    let told = c.in_ok-locks.ensures.counts in
    let tally = c.in_ok-tally.ensures in
    let hash_of = hash_by g.S.BuildHasher g.S.Hasher.Hasher c.args.hasher in record {
      mine = rw tally.spine (made.spine.0 ∙ sym c.shards.ensures.same.0);
      all = rw tally.counts told.0;
      counts_each = rw (tally.spine, tally.counts, c.shards.ensures.same.0, c.shards.ensures.same.1) (subst (λ (ts : List Text). Counts hash_of ts c.in_ok-locks.field-0.counts) (sym (ap (list_of log) made.spine.1)) told.1);
    }
