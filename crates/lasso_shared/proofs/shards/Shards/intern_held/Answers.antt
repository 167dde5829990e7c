use Rattle.std.proofs.Common.{◌≡◌, ℕ, ◌∙◌, subst}
use Rattle.std.proofs.lemmas.Result.{err_from_is_err_and}
use Rattle.std.specs.Prelude.{Err}
use Rattle.lasso_parts.specs.Texts.{Text}
use Rattle.lasso_parts.specs.Hashing.{hash_by}
use Rattle.lasso_log.specs.Calls.{IsCall}
use Rattle.lasso_log.specs.History.{Lacks}
use Rattle.lasso_log.specs.Notes.{Since}
use Rattle.lasso_log.specs.Replies.{Intern, Interned}
use Rattle.lasso_log.specs.Views.{list_of, seen}
use Rattle.lasso_shared.specs.NewTexts.{keeping_of, text_of}
use Rattle.lasso_shared.specs.Shards.{PutsLast}
use Rattle.lasso_shared.proofs.Called.{called_later}
use Rattle.lasso_shared.proofs.Stored.{called_put, called_wanting}
use Rattle.lasso_log.proofs.Tickets.{since_trans}
use Rattle.lasso_shared.proofs.Whole.{since_both, still_lacks}
use Rattle.lasso_shared.proofs.shards.Shards.intern_held.Goals as goal

pub returns-in_err-ahead-clause-call : goal.returns-in_err-ahead-clause-call
returns-in_err-ahead-clause-call g c =
    let since = since_both c.args.pass.now.number c.key_in_shard.new.pass.number c.args.pass.now.notes c.key_in_shard.new.pass.notes c.make_room.new.pass.notes c.key_in_shard.ensures.same.0 c.key_in_shard.ensures.since c.make_room.ensures.since in
    let hash_of = hash_by g.S.BuildHasher g.S.Hasher.Hasher c.args.self.now.hasher in
    let t = text_of c.args.text in
    let log = c.args.self.now.log in
    let lacks : Lacks (list_of log c.make_room.new.pass.notes) t =
    still_lacks hash_of c.args.hash c.number_of.result log c.args.shard.now.known.notes c.make_room.new.pass.notes t c.in_err-ahead.ensures.whole c.requires.hashed c.number_of.ensures.0 c.requires.held.exact.distinct (rw (← c.as_str.ensures) c.in_default.ensures.missing) in
    let p = err_from_is_err_and c.from_residual.result c.from_residual.ensures.1 in
    rw (p.1, p.2, c.in_err-ahead.ensures.refused) (called_wanting g.K.Key.key_at log c.args.pass.now.number (keeping_of c.args.text) c.args.pass.now.notes c.make_room.new.pass.notes t since lacks)

pub returns-clause-call : goal.returns-clause-call
returns-clause-call g c =
    let since = since_both c.args.pass.now.number c.key_in_shard.new.pass.number c.args.pass.now.notes c.key_in_shard.new.pass.notes c.make_room.new.pass.notes c.key_in_shard.ensures.same.0 c.key_in_shard.ensures.since c.make_room.ensures.since in
    let p = c.args.pass.now.number in
    let log = c.args.self.now.log in
    let t = text_of c.args.text in
    let before = c.args.pass.now.notes in
    let mid = c.make_room.new.pass.notes in
    let filled = c.store.new.pass.notes in
    let after = c.append_current.new.pass.notes in
    let r = c.append_current.result in
    let piece = c.in_ok-piece.piece in
    let stored = c.in_ok-piece.ensures.event in
    let same : c.make_room.new.pass.number ≡ p = c.make_room.ensures.same.0 ∙ c.key_in_shard.ensures.same.0 in
    let event : Since p before filled stored.0 = since_trans p before mid filled stored.0 since (subst (λ (n : ℕ). Since n mid filled stored.0) same stored.2) in
    let put : PutsLast g.K.Key.key_at log p filled after t r =
    subst (λ (x : Text). PutsLast g.K.Key.key_at log p filled after x r) c.in_ok-piece.ensures.piece.0 (subst (λ (n : ℕ). PutsLast g.K.Key.key_at log n filled after piece.text r) (c.store.ensures.same.0 ∙ same) c.append_current.ensures.put) in
    called_put g.K.Key.key_at log p (keeping_of c.args.text) before filled after stored.0 t r event stored.1 put

pub returns-in_err-piece-clause-call : goal.returns-in_err-piece-clause-call
returns-in_err-piece-clause-call g c =
    let since = since_both c.args.pass.now.number c.key_in_shard.new.pass.number c.args.pass.now.notes c.key_in_shard.new.pass.notes c.make_room.new.pass.notes c.key_in_shard.ensures.same.0 c.key_in_shard.ensures.since c.make_room.ensures.since in
    let p = c.args.pass.now.number in
    let o = c.args.self.now.log.opening in
    let q = Intern (keeping_of c.args.text) (text_of c.args.text) in
    let r = Interned (Err c.in_err-piece.field-0.0) in
    let after = seen c.store.new.pass in
    let same : c.make_room.new.pass.number ≡ p = c.make_room.ensures.same.0 ∙ c.key_in_shard.ensures.same.0 in
    let call : IsCall g.K.Key.key_at o (seen c.make_room.new.pass) after p q r = subst (λ (n : ℕ). IsCall g.K.Key.key_at o (seen c.make_room.new.pass) after n q r) same c.in_err-piece.ensures.refused in
    let from = err_from_is_err_and c.from_residual-in_err-piece.result c.from_residual-in_err-piece.ensures.1 in
    rw (from.1, from.2) (called_later g.K.Key.key_at o p c.args.pass.now.notes c.make_room.new.pass.notes after q r since call)
