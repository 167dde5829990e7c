use Rattle.std.proofs.Common.{◌≡◌, ◌<◌, ◌≤◌, sym, ◌∙◌, ap, length, arith}
use Rattle.lasso_log.specs.Notes.{texts_in}
use Rattle.lasso_log.specs.Views.{list_of}
use Rattle.lasso_log.proofs.Lined.{prefix_short}
use Rattle.lasso_log.proofs.Lengths.{only_grows}
use Rattle.lasso_log.proofs.Reading.{text_read}
use Rattle.lasso_log.proofs.log.shared_log.Log.read.Goals as goal

pub lend-requires-clause-below : goal.lend-requires-clause-below
lend-requires-clause-below g c =
    let mine = c.pass.inside.seen.log in
    let long : length (texts_in mine) ≤ length (texts_in c.learn.new.self.log) = prefix_short (texts_in mine) (texts_in c.learn.new.self.log) (only_grows mine c.learn.new.self.log c.learn.ensures.3) in
    let len : length (texts_in mine) ≡ c.len.result = ap (λ s. length (list_of s.of s.notes)) c.pass.view_is ∙ sym c.len.ensures.reply in
    omega (arith, long, len, c.if-position-len.false)

pub returns-clause-reply : goal.returns-clause-reply
returns-clause-reply g c =
    let mine = c.pass.inside.seen.log in
    let len : length (texts_in mine) ≡ c.len.result = ap (λ s. length (list_of s.of s.notes)) c.pass.view_is ∙ sym c.len.ensures.reply in
    let low : c.args.position < length (texts_in mine) = omega (arith, len, c.if-position-len.false) in
    rw (← c.pass.view_is) (text_read (texts_in mine) (texts_in c.learn.new.self.log) c.args.position c.lend.result.now (only_grows mine c.learn.new.self.log c.learn.ensures.3) low c.lend.ensures.text)
