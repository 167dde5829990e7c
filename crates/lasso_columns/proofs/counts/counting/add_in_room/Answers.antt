use Rattle.std.proofs.Common.{◌∙◌, refl, sym}
use Rattle.lasso_columns.proofs.Counted.{counted_is}
use Rattle.lasso_columns.proofs.counts.counting.add_in_room.Goals as goal

pub returns-clause-counted : goal.returns-clause-counted
returns-clause-counted g c =
    let lengths = sym c.args.counts.now.ok.0 ∙ c.requires.lengths in
    let is = counted_is c.args.rodeo.now.texts c.args.counts.now.items _ _ c.args.text.now _ c.in_ok-key.key lengths refl c.add_one.ensures.items c.into_usize.ensures c.in_ok-key.ensures.0.1 in
    ((c.in_ok-key.key, c.in_ok-key.ensures), is)
