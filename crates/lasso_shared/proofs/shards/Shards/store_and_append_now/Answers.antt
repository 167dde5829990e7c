use Rattle.std.proofs.Common.{ℕ, [], inl, inr, refl, ap, sym, ◌∙◌, subst}
use Rattle.std.specs.Prelude.{Err, IfSome, Result}
use Rattle.lasso_parts.specs.Texts.{Text}
use Rattle.lasso_parts.specs.Hashing.{hash_by}
use Rattle.lasso_parts.specs.declared.util.LassoErrorKind.{LassoErrorKind}
use Rattle.lasso_log.specs.History.{Lacks}
use Rattle.lasso_log.specs.Notes.{Since}
use Rattle.lasso_log.specs.Views.{list_of}
use Rattle.lasso_shared.specs.Shards.{PutsLast, shard_of}
use Rattle.lasso_log.proofs.Histories.{prefix_trans}
use Rattle.lasso_shared.proofs.Now.{called_puts, since_then}
use Rattle.lasso_shared.proofs.Stored.{called_refused}
use Rattle.lasso_shared.proofs.Whole.{since_self, still_lacks}
use Rattle.lasso_shared.proofs.shards.Shards.store_and_append_now.Goals as goal

pub returns-in_default-clause-busy : goal.returns-in_default-clause-busy
returns-in_default-clause-busy g c = λ none. ([], inl refl, c.in_default.ensures.busy refl)

pub returns-in-Err-clause-call : goal.returns-in-Err-clause-call
returns-in-Err-clause-call g c =
    let hash_of = hash_by g.S.BuildHasher g.S.Hasher.Hasher c.args.self.now.hasher in
    let log = c.args.self.now.log in
    let p = c.args.pass.now.number in
    let before = c.args.pass.now.notes in
    let t = c.args.text.now in
    let lacks = still_lacks hash_of c.args.hash (shard_of c.args.hash) log c.args.shard.now.known.notes before t c.requires.whole c.requires.hashed refl c.requires.held.exact.distinct c.requires.lacks in
    let r : Result ℕ LassoErrorKind = Err c.in-Err.error in
    called_refused g.K.Key.key_at log p c.args.tally.now.spine.notes before before c.store_with_spine_now.new.pass.notes t r (since_self p before) lacks c.requires.list
    (rw c.in-Err.is at c.in-Some.ensures.refused) (rw c.in-Err.is at c.in-Some.ensures.err)

pub append_current_now-requires-clause-begins : goal.append_current_now-requires-clause-begins
append_current_now-requires-clause-begins g c =
    let stored = rw c.in-Ok.is at c.in-Some.ensures.event in
    prefix_trans c.args.shard.now.known.notes c.args.pass.now.notes c.store_with_spine_now.new.pass.notes c.requires.whole.begins (stored.2.rest, stored.2.begins)

pub append_current_now-requires-clause-lasts : goal.append_current_now-requires-clause-lasts
append_current_now-requires-clause-lasts g c = (rw c.in-Ok.is at c.in-Some.ensures.piece).1

pub append_current_now-requires-clause-hashed : goal.append_current_now-requires-clause-hashed
append_current_now-requires-clause-hashed g c =
    let hash_of = hash_by g.S.BuildHasher g.S.Hasher.Hasher c.args.self.now.hasher in
    c.requires.hashed ∙ ap hash_of (sym (rw c.in-Ok.is at c.in-Some.ensures.piece).0)

pub append_current_now-requires-clause-lacks : goal.append_current_now-requires-clause-lacks
append_current_now-requires-clause-lacks g c =
    let known = list_of c.args.self.now.log c.args.shard.now.known.notes in
    subst (λ (t : Text). Lacks known t) (sym (rw c.in-Ok.is at c.in-Some.ensures.piece).0) c.requires.lacks

pub returns-clause-call : goal.returns-clause-call
returns-clause-call g c =
    let p = c.args.pass.now.number in
    let log = c.args.self.now.log in
    let stored = rw c.in-Ok.is at c.in-Some.ensures.event in
    let mid = c.store_with_spine_now.new.pass.notes in
    let after = c.append_current_now.new.pass.notes in
    let o = c.append_current_now.result in
    let put = subst (λ (x : Text). IfSome o (PutsLast g.K.Key.key_at log p mid after x)) (rw c.in-Ok.is at c.in-Some.ensures.piece).0
    (subst (λ (n : ℕ). IfSome o (PutsLast g.K.Key.key_at log n mid after c.in-Ok.piece.text)) c.store_with_spine_now.ensures.same.0 c.append_current_now.ensures.put) in
    called_puts g.K.Key.key_at log p c.args.pass.now.notes mid after stored.0 c.args.text.now o stored.2 stored.1 put

pub returns-clause-busy : goal.returns-clause-busy
returns-clause-busy g c = λ none.
    let mid = c.store_with_spine_now.new.pass.notes in
    let after = c.append_current_now.new.pass.notes in
    let stored = rw c.in-Ok.is at c.in-Some.ensures.event in
    let more = subst (λ (n : ℕ). Since n mid after []) c.store_with_spine_now.ensures.same.0 (c.append_current_now.ensures.busy none) in
    (stored.0, inr stored.1, since_then c.args.pass.now.number c.args.pass.now.notes mid after stored.0 stored.2 more)
