-- The pass has seen what both threads had, and a name keeps its key in whatever is seen later. So both names
-- have their keys in what the pass has seen in the end, where keys are equal exactly where their texts are.
use Rattle.std.proofs.Common.{ℕ, List, Option, IfOk, subst, inl}
use mathlib.Core.List.{IsPrefix}
use Rattle.lasso.specs.Texts.{Text}
use Rattle.lasso.specs.Notes.{NoteView, history}
use Rattle.lasso.specs.Views.{InternerId, SnapshotView, seen}
use Rattle.lasso.proofs.Histories.{prefix_self, prefix_trans}
use Rattle.lasso.proofs.CallingShared.{seen_texts_stay}
use Rattle.lasso.specs.CallerLaws.{HasKey}
use Rattle.lasso.proofs.CallerLaws.{has_key_later, history_past}
use Rattle.lasso_guide.specs.Pairs.{IsFind}
use Rattle.lasso_guide.proofs.pairs.intern_pair.Goals as goal

later : {K : Type 0} (key_at : ℕ → Option K) (of : InternerId) (known : SnapshotView) (end : List NoteView) (name : Text) (key : K) → IsPrefix known.notes end → IsFind key_at of name known key → HasKey key_at of.opening (history end) name key
later key_at of known end name key past find =
    has_key_later key_at of.opening (history known.notes) (history end) name key find.1 (history_past known.notes end past)

pub returns-clause-left : goal.returns-clause-left
returns-clause-left g c =
    let one = c.in_ok-one.one in
    let middle = c.learn.new.self.notes in
    let end = c.learn-2.new.self.notes in
    let since = c.learn-2.ensures.since in
    let past : IsPrefix one.known.notes end = prefix_trans one.known.notes middle end c.learn.ensures.known (since.rest, since.begins) in
    let find = subst (λ reply. IfOk reply (λ find. IsFind g.K.Key.key_at c.args.rodeo.now c.args.left.now find.known find.key)) c.in_ok-one.was c.join-first.ensures.first in
    later g.K.Key.key_at c.args.rodeo.now one.known end c.args.left.now one.key past find

pub returns-clause-right : goal.returns-clause-right
returns-clause-right g c =
    let other = c.in_ok-other.other in
    let end = c.learn-2.new.self.notes in
    let find = subst (λ reply. IfOk reply (λ find. IsFind g.K.Key.key_at c.args.rodeo.now c.args.right.now find.known find.key)) c.in_ok-other.was c.join-first.ensures.second in
    later g.K.Key.key_at c.args.rodeo.now other.known end c.args.right.now other.key c.learn-2.ensures.known find

pub returns-clause-equal : goal.returns-clause-equal
returns-clause-equal g c =
    let seen_last = seen c.learn-2.new.self in
    c.keys_are_equal_where_texts_are.ensures c.args.rodeo.now.opening seen_last seen_last c.args.left.now c.args.right.now c.in_ok-one.one.key c.in_ok-other.other.key (inl (prefix_self seen_last)) (returns-clause-left g c) (returns-clause-right g c)

pub returns-clause-kept : goal.returns-clause-kept
returns-clause-kept g c =
    let before = c.args.pass.now.notes in
    let middle = c.learn.new.self.notes in
    let end = c.learn-2.new.self.notes in
    let first = c.learn.ensures.since in
    let since = c.learn-2.ensures.since in
    seen_texts_stay c.args.rodeo.now before end (prefix_trans before middle end (first.rest, first.begins) (since.rest, since.begins))
