use Rattle.std.proofs.Common.{◌≡◌, ℕ, [], ◌∙◌, subst}
use Rattle.lasso_log.specs.Calls.{IsCall}
use Rattle.lasso_log.specs.Notes.{Since}
use Rattle.lasso_log.specs.Replies.{Copied, Intern, Interned}
use Rattle.lasso_log.specs.Views.{seen}
use Rattle.lasso_log.proofs.Histories.{prefix_trans}
use Rattle.lasso_shared.proofs.Called.{called_later}
use Rattle.lasso_shared.proofs.Whole.{since_both}
use Rattle.lasso_shared.proofs.shards.Shards.intern_held_at_once.Goals as goal

pub returns-then-is_none-clause-none : goal.returns-then-is_none-clause-none
returns-then-is_none-clause-none g c =
    λ none. since_both c.args.pass.now.number c.key_in_shard.new.pass.number c.args.pass.now.notes c.key_in_shard.new.pass.notes c.find_ahead.new.pass.notes c.key_in_shard.ensures.same.0 c.key_in_shard.ensures.since c.find_ahead.ensures.since

pub is_current-requires-clause-begins : goal.is_current-requires-clause-begins
is_current-requires-clause-begins g c =
    let ahead = c.find_ahead.ensures.since in
    prefix_trans c.args.shard.now.known.notes c.key_in_shard.new.pass.notes c.find_ahead.new.pass.notes c.key_in_shard.ensures.begins (ahead.rest, ahead.begins)

pub returns-then-not-is_current-clause-none : goal.returns-then-not-is_current-clause-none
returns-then-not-is_current-clause-none g c =
    let p = c.args.pass.now.number in
    let first = since_both p c.key_in_shard.new.pass.number c.args.pass.now.notes c.key_in_shard.new.pass.notes c.find_ahead.new.pass.notes c.key_in_shard.ensures.same.0 c.key_in_shard.ensures.since c.find_ahead.ensures.since in
    λ none. since_both p c.find_ahead.new.pass.number c.args.pass.now.notes c.find_ahead.new.pass.notes c.is_current.new.pass.notes (c.find_ahead.ensures.same.0 ∙ c.key_in_shard.ensures.same.0) first c.is_current.ensures.since

pub returns-then-not-has_room-clause-none : goal.returns-then-not-has_room-clause-none
returns-then-not-has_room-clause-none g c =
    let p = c.args.pass.now.number in
    let first = since_both p c.key_in_shard.new.pass.number c.args.pass.now.notes c.key_in_shard.new.pass.notes c.find_ahead.new.pass.notes c.key_in_shard.ensures.same.0 c.key_in_shard.ensures.since c.find_ahead.ensures.since in
    λ none. since_both p c.find_ahead.new.pass.number c.args.pass.now.notes c.find_ahead.new.pass.notes c.is_current.new.pass.notes (c.find_ahead.ensures.same.0 ∙ c.key_in_shard.ensures.same.0) first c.is_current.ensures.since

pub returns-clause-call : goal.returns-clause-call
returns-clause-call g c =
    let p = c.args.pass.now.number in
    let o = c.args.self.now.log.opening in
    let q = Intern Copied c.args.text.now in
    let r = Interned c.intern_absent.result in
    let mid = c.is_current.new.pass in
    let after = seen c.intern_absent.new.pass in
    let same : mid.number ≡ p = c.is_current.ensures.same.0 ∙ (c.find_ahead.ensures.same.0 ∙ c.key_in_shard.ensures.same.0) in
    let first = since_both p c.key_in_shard.new.pass.number c.args.pass.now.notes c.key_in_shard.new.pass.notes c.find_ahead.new.pass.notes c.key_in_shard.ensures.same.0 c.key_in_shard.ensures.since c.find_ahead.ensures.since in
    let since = since_both p c.find_ahead.new.pass.number c.args.pass.now.notes c.find_ahead.new.pass.notes mid.notes (c.find_ahead.ensures.same.0 ∙ c.key_in_shard.ensures.same.0) first c.is_current.ensures.since in
    let call : IsCall g.K.Key.key_at o (seen mid) after p q r = subst (λ (n : ℕ). IsCall g.K.Key.key_at o (seen mid) after n q r) same c.intern_absent.ensures.call in
    called_later g.K.Key.key_at o p c.args.pass.now.notes mid.notes after q r since call
