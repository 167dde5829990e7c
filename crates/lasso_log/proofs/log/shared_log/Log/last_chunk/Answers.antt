use Rattle.std.proofs.Common.{◌≡◌, ◌≤◌, sym, ◌∙◌, ap, length, arith}
use Rattle.lasso_log.specs.Notes.{texts_in}
use Rattle.lasso_log.specs.Views.{list_of}
use Rattle.lasso_log.proofs.Lined.{prefix_short}
use Rattle.lasso_log.proofs.Lengths.{only_grows}
use Rattle.lasso_log.proofs.log.shared_log.Log.last_chunk.Goals as goal

pub chunk_below-requires-clause-grows : goal.chunk_below-requires-clause-grows
chunk_below-requires-clause-grows g c = only_grows

pub chunk_below-requires-clause-below : goal.chunk_below-requires-clause-below
chunk_below-requires-clause-below g c =
    let mine = c.pass.inside.seen.log in
    let long : length (texts_in mine) ≤ length (texts_in c.learn.new.self.log) = prefix_short (texts_in mine) (texts_in c.learn.new.self.log) (only_grows mine c.learn.new.self.log c.learn.ensures.3) in
    let len : length (texts_in mine) ≡ c.args.len = ap (λ s. length (list_of s.of s.notes)) c.pass.view_is ∙ sym c.requires.len in
    omega (arith, long, len, c.requires.some)
