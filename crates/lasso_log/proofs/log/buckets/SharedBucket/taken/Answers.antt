use Rattle.std.proofs.Common.{◌≡◌, ◌+◌, ◌≤◌, ◌<◌, ℕ, suc, [], sym, ap, ◌∙◌, subst, arith}
use mathlib.Core.List.{IsPrefix}
use Rattle.lasso_log.specs.History.{Totals}
use Rattle.lasso_log.specs.Notes.{Since, IsWord, IsWordWith, first_note, notes_of, state}
use Rattle.lasso_log.specs.Book.{KeepsRule}
use Rattle.lasso_log.specs.SharedBuckets.{SharedView, HasTaken, LacksRoom}
use Rattle.lasso_log.proofs.BucketWords.{has_taken, lacks_room, taken_within}
use Rattle.lasso_log.proofs.Histories.{prefix_trans}
use Rattle.lasso_log.proofs.Logs.{opening_first}
use Rattle.lasso_log.proofs.Tickets.{since_trans}
use Rattle.lasso_log.proofs.LogWords.{word_later}
use Rattle.lasso_log.proofs.log.buckets.SharedBucket.taken.Given.{Over}
use Rattle.lasso_log.proofs.log.buckets.SharedBucket.taken.Goals as goal

two_more : (n : ℕ) → suc (suc n) ≡ n + 2
two_more n = omega arith

pub load-requires-clause-known : goal.load-requires-clause-known
load-requires-clause-known g c =
    let i = c.self.inside in let at = c.self.invariant.stands in
    let later = word_later (notes_of i.seen.log) c.learn_seen.new.self.notes (suc (suc i.position)) i.word.key at.value (c.learn_seen.ensures.given c.self.invariant.opened) at.stands.word in
    subst (λ (p : ℕ). IsWord c.learn_seen.new.self.notes p i.word.key) (two_more i.position) (later.0, later.1)

pub returns-clause-since : goal.returns-clause-since
returns-clause-since g c =
    since_trans c.args.pass.now.number c.args.pass.now.notes c.learn_seen.new.self.notes c.load.new.pass.notes [] c.learn_seen.ensures.since (subst (λ (p : ℕ). Since p c.learn_seen.new.self.notes c.load.new.pass.notes []) c.learn_seen.ensures.same.0 c.load.ensures.since)

begins : (g : Over) (c : goal.After-load g) → IsPrefix (notes_of c.self.inside.seen.log) c.load.new.pass.notes
begins g c = prefix_trans (notes_of c.self.inside.seen.log) c.learn_seen.new.self.notes c.load.new.pass.notes (c.learn_seen.ensures.given c.self.invariant.opened) (c.load.ensures.since.rest, c.load.ensures.since.begins)

word : (g : Over) (c : goal.After-load g) → IsWordWith c.load.new.pass.notes (suc (suc c.self.inside.position)) c.self.inside.word.key c.load.result
word g c = subst (λ (p : ℕ). IsWordWith c.load.new.pass.notes p c.self.inside.word.key c.load.result) (sym (two_more c.self.inside.position)) c.load.ensures.reply.0

opening : (g : Over) (c : goal.After-load g) → (first_note c.self.inside.seen.log).opening ≡ c.args.log.now.opening
opening g c = sym (opening_first c.self.inside.seen.log) ∙ (ap (λ s. s.of.opening) c.self.view_is ∙ ap (λ o. o.opening) c.requires.1)

pub returns-clause-reply : goal.returns-clause-reply
returns-clause-reply g c =
    let i = c.self.inside in let f = first_note i.seen.log in let notes = c.load.new.pass.notes in
    subst (λ (s : SharedView). HasTaken (state c.args.log.now.opening notes) s.position (s.base + c.load.result)) c.self.view_is
    (subst (λ (o : Totals). HasTaken (state o notes) i.position (i.base + c.load.result)) (opening g c) (has_taken f (notes_of i.seen.log) notes i.position i.word.key i.base i.size c.load.result i.site.numbers (begins g c) c.self.invariant.stands (word g c)))

pub returns-clause-within : goal.returns-clause-within
returns-clause-within g c =
    let i = c.self.inside in let f = first_note i.seen.log in let notes = c.load.new.pass.notes in let held = c.load.ensures.reply.1 in
    let mine : c.learn_seen.new.self.of.opening ≡ f.opening = ap (λ o. o.opening) (c.learn_seen.ensures.same.1 ∙ c.requires.0) ∙ sym (opening g c) in
    let kept : KeepsRule g.K.Key.key_at held.0 f.opening notes = subst (λ (o : Totals). KeepsRule g.K.Key.key_at held.0 o notes) mine held.1 in
    subst (λ (s : SharedView). s.base + c.load.result ≤ s.size) c.self.view_is (taken_within g.K.Key.key_at f (notes_of i.seen.log) notes held.0 i.position i.word.key i.base i.size c.load.result i.site.numbers kept (begins g c) c.self.invariant.stands (word g c))

pub returns-clause-full : goal.returns-clause-full
returns-clause-full g c = λ n.
    let i = c.self.inside in let f = first_note i.seen.log in let notes = c.load.new.pass.notes in
    subst (λ (s : SharedView). s.size < s.base + c.load.result + n → LacksRoom (state c.args.log.now.opening notes) s.position n) c.self.view_is (λ past.
    subst (λ (o : Totals). LacksRoom (state o notes) i.position n) (opening g c) (lacks_room f (notes_of i.seen.log) notes i.position i.word.key i.base i.size c.load.result n i.site.numbers (begins g c) c.self.invariant.stands (word g c) past))
