use Rattle.std.proofs.Common.{rules, ◌≡◌, ◌+◌, ◌<◌, ℕ, length, sym, ap, ◌∙◌, subst}
use mathlib.Core.List.{IsPrefix}
use Rattle.lasso_log.specs.Notes.{state}
use Rattle.lasso_log.specs.Turns.{NoneHasRoom}
use Rattle.lasso_log.specs.Views.{InternerId, SpineView, list_of}
use Rattle.lasso_log.proofs.Histories.{prefix_trans}
use Rattle.lasso_log.proofs.Reserved.{none_longer}
use Rattle.lasso_log.proofs.TurnWords.{is_past_limit}
use Rattle.lasso_log.proofs.log.shared_log.Log.is_past_limit.Goals as goal

pub returns-then-len-clause-since : goal.returns-then-len-clause-since
returns-then-len-clause-since g c =
    let p = c.args.pass.now.number in let s = c.learn_seen.ensures in let l = c.len-len.ensures in
    let first = none_longer p c.learn_seen.new.self.number c.args.pass.now.notes c.learn_seen.new.self.notes c.len-len.new.pass.notes s.same.0 s.since l.since in
    none_longer p c.len-len.new.pass.number c.args.pass.now.notes c.len-len.new.pass.notes c.is_at-is_at.new.pass.notes (l.same.0 ∙ s.same.0) first c.is_at-is_at.ensures.since

pub returns-clause-since : goal.returns-clause-since
returns-clause-since g c =
    let p = c.args.pass.now.number in let s = c.learn_seen.ensures in let l = c.len-len.ensures in
    let first = none_longer p c.learn_seen.new.self.number c.args.pass.now.notes c.learn_seen.new.self.notes c.len-len.new.pass.notes s.same.0 s.since l.since in
    none_longer p c.len-len.new.pass.number c.args.pass.now.notes c.len-len.new.pass.notes c.is_at-is_at.new.pass.notes (l.same.0 ∙ s.same.0) first c.is_at-is_at.ensures.since

pub returns-then-len-clause-past : goal.returns-then-len-clause-past
returns-then-len-clause-past g c = λ _.
    let o = c.args.self.now.opening in let t = c.spine.inside.turns in let mid = c.len-len.new.pass.notes in let after = c.is_at-is_at.new.pass.notes in
    let s = c.len-len.ensures.since in let u = c.is_at-is_at.ensures.since in let at = c.if-is_at.ensures.at in let f = c.learn_seen.ensures in
    let room : NoneHasRoom (state o c.args.pass.now.notes) t.count c.args.bytes = subst (λ (y : SpineView). NoneHasRoom (state o c.args.pass.now.notes) y.turns.count c.args.bytes) (sym c.spine.view_is) c.requires.room in
    let above : t.limit < t.usage + c.args.bytes = subst (λ (y : SpineView). y.turns.limit < y.turns.usage + c.args.bytes) (sym c.spine.view_is) c.requires.above in
    let seen : IsPrefix t.notes c.learn_seen.new.self.notes = search (rules, c.learn_seen.ensures.given) in
    let of = c.len-len.ensures.same.1 ∙ (f.same.1 ∙ c.requires.of.0) in
    let found : length (state o mid).texts ≡ c.len-len.result = sym (c.len-len.ensures.reply ∙ ap (λ (x : InternerId). length (list_of x mid)) of) in
    let kept : c.len.result ≡ length (list_of c.args.self.now c.args.spine.now.notes) = c.len.ensures.len ∙ ap (λ (x : InternerId). length (list_of x c.args.spine.now.notes)) c.requires.of.1 in
    is_past_limit g.K.Key.key_at o t.notes c.args.pass.now.notes mid after c.args.bytes (length (list_of c.args.self.now c.args.spine.now.notes)) t.turns t.doubling t.usage t.limit t.count at.2
    (prefix_trans t.notes c.learn_seen.new.self.notes mid seen (s.rest, s.begins)) (prefix_trans c.args.pass.now.notes c.learn_seen.new.self.notes mid (f.since.rest, f.since.begins) (s.rest, s.begins)) (u.rest, u.begins) at.0 room above (found ∙ (c.if-len.true ∙ kept))
