use Rattle.std.proofs.Common.{◌≡◌, ◌+◌, ◌<◌, ap, length, map}
use Rattle.std.specs.Vec.{vec_capacity, vec_len}
use Rattle.std.proofs.lemmas.List.{length-map}
use Rattle.lasso_parts.specs.declared.util.LassoErrorKind.{LassoErrorKind}
use Rattle.lasso_parts.specs.declared.util.LassoErrorKind.TheVariants.{FailedAllocation}
use Rattle.lasso_log.specs.Views.{seen}
use Rattle.lasso_shared.proofs.BatchFacts.{batch_grows, batch_keys, batch_stopped, batch_whole}
use Rattle.lasso_shared.proofs.threaded.ThreadedRodeo.try_get_or_intern_all_as.Given.{Over}
use Rattle.lasso_shared.proofs.threaded.ThreadedRodeo.try_get_or_intern_all_as.Goals as goal

-- nothing changed
abbrev still : (g : Over) (c : goal.After-prove_legal g) → Type 0
still g c = (c.intern_all-reply.new.pass ≡ c.args.pass.now) × (c.intern_all-reply.new.keys.items ≡ c.args.keys.now.items)

-- there was no memory for the keys
abbrev early : (g : Over) (c : goal.After-prove_legal g) → LassoErrorKind → Type 0
early g c error =
    (error ≡ FailedAllocation) × (c.intern_all-reply.new.pass ≡ c.args.pass.now) × (c.intern_all-reply.new.keys.items ≡ c.args.keys.now.items)
    × (vec_capacity c.args.keys.now < vec_len c.args.keys.now + length c.args.texts.now)

pub returns-clause-keys : goal.returns-clause-keys
returns-clause-keys g c =
    rw (← c.self.view_is) (batch_keys g.K.Key.key_at c.self.inside.shards.log.opening c.args.pass.now.number (seen c.args.pass.now) (seen c.intern_all-reply.new.pass) (map (λ t. t.now) c.args.texts.now) c.args.keys.now.items c.intern_all-reply.new.keys.items (early g c) (λ error soon. (ap seen soon.1, soon.2)) c.intern_all-reply.result c.intern_all-reply.ensures.interned c.intern_all-reply.ensures.refused)

pub returns-clause-whole : goal.returns-clause-whole
returns-clause-whole g c =
    batch_whole g.K.Key.key_at c.self.inside.shards.log.opening c.args.pass.now.number (seen c.args.pass.now) (seen c.intern_all-reply.new.pass) (map (λ t. t.now) c.args.texts.now) c.args.keys.now.items c.intern_all-reply.new.keys.items (length c.args.texts.now) (vec_len c.args.keys.now) (vec_len c.intern_all-reply.new.keys)
    (length-map c.args.texts.now (λ t. t.now)) c.args.keys.now.ok.0 c.intern_all-reply.new.keys.ok.0 c.intern_all-reply.result c.intern_all-reply.ensures.interned

pub returns-clause-stopped : goal.returns-clause-stopped
returns-clause-stopped g c =
    rw (← c.self.view_is) (batch_stopped g.K.Key.key_at c.self.inside.shards.log.opening c.args.pass.now.number (seen c.args.pass.now) (seen c.intern_all-reply.new.pass) (map (λ t. t.now) c.args.texts.now) c.args.keys.now.items c.intern_all-reply.new.keys.items (early g c) (λ error soon. (ap seen soon.1, soon.2)) (still g c) (λ error soon. (soon.1, soon.2)) g.K.Key.number (λ n k e. (g.met.K.Key.made n k e).2) c.intern_all-reply.result c.intern_all-reply.ensures.refused)

pub returns-clause-kept : goal.returns-clause-kept
returns-clause-kept g c =
    batch_grows g.K.Key.key_at c.self.inside.shards.log.opening c.args.pass.now.number (seen c.args.pass.now) (seen c.intern_all-reply.new.pass) (map (λ t. t.now) c.args.texts.now) c.args.keys.now.items c.intern_all-reply.new.keys.items (early g c) (λ error soon. (ap seen soon.1, soon.2)) c.intern_all-reply.result c.intern_all-reply.ensures.interned c.intern_all-reply.ensures.refused
