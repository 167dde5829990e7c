use Rattle.std.proofs.Common.{◌-◌, ◌<◌, ◌∙◌, length, sym, arith}
use Rattle.std.proofs.lemmas.Grind.{get_or_default_zero}
use Rattle.lasso_codes.proofs.Feeds.{no_feed_last}
use Rattle.lasso_codes.proofs.input.strip_feed.Goals as goal

pub returns-then-index-eq10-clause-unended : goal.returns-then-index-eq10-clause-unended
returns-then-index-eq10-clause-unended c = λ none.
    let bytes = c.args.line.now.items in
    let n = c.len-count.result in
    let inside : n - 1 < length bytes = omega (arith, c.if-count-gt0.true, c.len-count.ensures, c.args.line.now.ok.0) in
    absurd (no_feed_last bytes n none c.if-count-gt0.true (c.len-count.ensures ∙ c.args.line.now.ok.0) (sym (get_or_default_zero bytes (n - 1) c.index.result.now inside) ∙ sym c.index.ensures ∙ c.if-index-eq10.true))
