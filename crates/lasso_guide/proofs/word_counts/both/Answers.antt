-- The pass has seen what both had seen, so the keys of each share stand for its words there.
use Rattle.std.proofs.Common.{List, ◌∙◌, sym, subst}
use mathlib.Core.List.{IsPrefix}
use Rattle.lasso.specs.Notes.{NoteView, history}
use Rattle.lasso.proofs.Histories.{prefix_trans}
use Rattle.lasso_guide.proofs.Counting.{share_seen}
use Rattle.lasso_guide.proofs.word_counts.both.Goals as goal

pub returns : goal.returns
returns g c front back one other =
    let of = c.args.rodeo.now in
    let number = g.K.Key.number in
    let key_at = g.K.Key.key_at in
    let middle = c.learn.new.self.notes in
    let end = c.learn-2.new.self.notes in
    let whole = c.snapshot.result.notes in
    let told = c.snapshot.ensures in
    let since = c.learn-2.ensures.since in
    let seen : IsPrefix c.args.first.known.notes end = prefix_trans c.args.first.known.notes middle end c.learn.ensures.known (since.rest, since.begins) in
    let first : IsPrefix c.args.first.known.notes whole = subst (λ (ns : List NoteView). IsPrefix c.args.first.known.notes ns) (sym told.1) seen in
    let second : IsPrefix c.args.second.known.notes whole = subst (λ (ns : List NoteView). IsPrefix c.args.second.known.notes ns) (sym told.1) c.learn-2.ensures.known in (
      told.0 ∙ c.learn-2.ensures.same.1 ∙ c.learn.ensures.same.1 ∙ c.pass-pass.ensures.of,
      c.joined.ensures of.opening (history whole) front back
          (share_seen number key_at of c.args.first.known.notes whole front c.args.first.keys first one.1)
          (share_seen number key_at of c.args.second.known.notes whole back c.args.second.keys second other.1),
    )
