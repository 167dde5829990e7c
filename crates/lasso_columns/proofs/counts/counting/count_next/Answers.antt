use Rattle.std.proofs.Common.{◌∙◌, sym}
use Rattle.lasso_columns.proofs.Counted.{one_more_counted, one_more_lengths, one_more_total}
use Rattle.lasso_columns.proofs.counts.counting.count_next.Goals as goal

pub returns-clause-lengths : goal.returns-clause-lengths
returns-clause-lengths g c =
    let told = c.in_ok-add_text.ensures.counted in
    let lengths = sym c.args.counts.now.ok.0 ∙ c.requires.lengths in
    c.add_text.new.counts.ok.0 ∙ one_more_lengths c.args.rodeo.now c.add_text.new.rodeo c.args.counts.now.items _ c.args.text.now told.0.0 told.0.1 lengths told.1

pub returns-clause-counts : goal.returns-clause-counts
returns-clause-counts g c =
    let told = c.in_ok-add_text.ensures.counted in
    let lengths = sym c.args.counts.now.ok.0 ∙ c.requires.lengths in
    one_more_counted c.args.rodeo.now c.add_text.new.rodeo c.args.counts.now.items _ c.args.text.now told.0.0 told.0.1 lengths told.1

pub returns-clause-total : goal.returns-clause-total
returns-clause-total g c =
    let told = c.in_ok-add_text.ensures.counted in
    let lengths = sym c.args.counts.now.ok.0 ∙ c.requires.lengths in
    one_more_total c.args.rodeo.now c.add_text.new.rodeo c.args.counts.now.items _ c.args.text.now told.0.0 told.0.1 lengths told.1
