use Rattle.std.proofs.Common.{◌≡◌, ℕ, refl, ap, sym, ◌∙◌, subst}
use Rattle.std.specs.Prelude.{Err, Result}
use Rattle.lasso_parts.specs.Texts.{Text}
use Rattle.lasso_parts.specs.Hashing.{hash_by}
use Rattle.lasso_parts.specs.declared.util.LassoErrorKind.{LassoErrorKind}
use Rattle.lasso_log.specs.History.{Lacks}
use Rattle.lasso_log.specs.Replies.{Copied}
use Rattle.lasso_log.specs.Views.{list_of}
use Rattle.lasso_log.proofs.Histories.{prefix_trans}
use Rattle.lasso_shared.specs.Shards.{PutsLast, shard_of}
use Rattle.lasso_shared.proofs.Stored.{called_put, called_refused, called_wanting}
use Rattle.lasso_shared.proofs.Whole.{since_self, still_lacks}
use Rattle.lasso_shared.proofs.shards.Shards.intern_absent.Goals as goal

pub returns-in-Err-clause-call : goal.returns-in-Err-clause-call
returns-in-Err-clause-call g c =
    let hash_of = hash_by g.S.BuildHasher g.S.Hasher.Hasher c.args.self.now.hasher in
    let log = c.args.self.now.log in
    let notes = c.args.pass.now.notes in
    let lacks = still_lacks hash_of c.args.hash (shard_of c.args.hash) log c.args.shard.now.known.notes notes c.args.text.now c.requires.whole c.requires.hashed refl c.requires.held.exact.distinct c.requires.lacks in
    rw c.in-Err.ensures.refused (called_wanting g.K.Key.key_at log c.args.pass.now.number Copied notes notes c.args.text.now (since_self c.args.pass.now.number notes) lacks)

pub returns-in-Err-store_with_spine-clause-call : goal.returns-in-Err-store_with_spine-clause-call
returns-in-Err-store_with_spine-clause-call g c =
    let hash_of = hash_by g.S.BuildHasher g.S.Hasher.Hasher c.args.self.now.hasher in
    let log = c.args.self.now.log in
    let p = c.args.pass.now.number in
    let before = c.args.pass.now.notes in
    let t = c.args.text.now in
    let spine = c.reserve_next.new.spine.notes in
    let lacks = still_lacks hash_of c.args.hash (shard_of c.args.hash) log c.args.shard.now.known.notes before t c.requires.whole c.requires.hashed refl c.requires.held.exact.distinct c.requires.lacks in
    let is : list_of log before ≡ list_of log spine = c.requires.list ∙ ap (list_of log) (sym c.reserve_next.ensures.same.1) in
    let r : Result ℕ LassoErrorKind = Err c.in-Err-store_with_spine.error in
    called_refused g.K.Key.key_at log p spine before before c.store_with_spine.new.pass.notes t r (since_self p before) lacks is c.in-Err-store_with_spine.ensures.refused c.in-Err-store_with_spine.ensures.err

pub append_current_now-requires-clause-begins : goal.append_current_now-requires-clause-begins
append_current_now-requires-clause-begins g c =
    let stored = c.in-Ok-store_with_spine.ensures.event in
    prefix_trans c.args.shard.now.known.notes c.args.pass.now.notes c.store_with_spine.new.pass.notes c.requires.whole.begins (stored.2.rest, stored.2.begins)

pub append_current_now-requires-clause-lasts : goal.append_current_now-requires-clause-lasts
append_current_now-requires-clause-lasts g c = c.in-Ok-store_with_spine.ensures.piece.1

pub append_current_now-requires-clause-hashed : goal.append_current_now-requires-clause-hashed
append_current_now-requires-clause-hashed g c =
    let hash_of = hash_by g.S.BuildHasher g.S.Hasher.Hasher c.args.self.now.hasher in
    c.requires.hashed ∙ ap hash_of (sym c.in-Ok-store_with_spine.ensures.piece.0)

pub append_current_now-requires-clause-lacks : goal.append_current_now-requires-clause-lacks
append_current_now-requires-clause-lacks g c =
    let known = list_of c.args.self.now.log c.args.shard.now.known.notes in
    subst (λ (t : Text). Lacks known t) (sym c.in-Ok-store_with_spine.ensures.piece.0) c.requires.lacks

pub returns-clause-call : goal.returns-clause-call
returns-clause-call g c =
    let p = c.args.pass.now.number in
    let log = c.args.self.now.log in
    let stored = c.in-Ok-store_with_spine.ensures.event in
    let mid = c.store_with_spine.new.pass.notes in
    let after = c.append_current_now.new.pass.notes in
    let r = c.or_wait.result in
    let same : c.store_with_spine.new.pass.number ≡ p = c.store_with_spine.ensures.same.0 in
    let tried = rw c.or_wait.ensures at c.append_current_now.ensures.put in
    let put : PutsLast g.K.Key.key_at log p mid after c.args.text.now r = subst (λ (x : Text). PutsLast g.K.Key.key_at log p mid after x r) c.in-Ok-store_with_spine.ensures.piece.0
    (subst (λ (n : ℕ). PutsLast g.K.Key.key_at log n mid after c.in-Ok-store_with_spine.piece.text r) same tried) in
    called_put g.K.Key.key_at log p Copied c.args.pass.now.notes mid after stored.0 c.args.text.now r stored.2 stored.1 put
