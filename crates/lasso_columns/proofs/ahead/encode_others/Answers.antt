use Rattle.std.proofs.Common.{◌≤◌, length, take, subst, arith}
use Rattle.std.proofs.lemmas.List.{length-take}
use Rattle.lasso_columns.specs.Rows.{word_of}
use Rattle.lasso_columns.specs.Streams.{AreBlocksFor}
use Rattle.lasso_columns.proofs.PutBlocks.{first_for, made_for}
use Rattle.lasso_columns.proofs.ahead.encode_others.Goals as goal

pub returns-in-Ok : goal.returns-in-Ok
returns-in-Ok g c =
    let null = word_of c.args.null in
    let list = c.args.rodeo.now.texts in
    let made = c.in-Ok.made in
    let blocks = c.deref.result.now in
    let n = c.saturating_sub-others.result in
    let long : length made.items ≤ n = omega (arith, c.in-Ok.ensures.len, made.ok.0, length-take n blocks) in
    subst (λ bs. AreBlocksFor null list bs made.items) c.deref.ensures.value (first_for null list blocks n made.items long (made_for null list (take n blocks) made.items c.in-Ok.ensures.each))
