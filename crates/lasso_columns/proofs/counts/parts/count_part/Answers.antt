use Rattle.std.proofs.Common.{◌∙◌, sym, map}
use Rattle.lasso_columns.proofs.Added.{part_are}
use Rattle.lasso_columns.proofs.counts.parts.count_part.Goals as goal

pub returns : goal.returns
returns c =
    let told = c.count_texts.ensures in
    rw (c.into_reader.ensures) (part_are c.in-Ok.rodeo c.count_texts.new.rodeo (map (λ t. t.now) c.args.texts.now) c.new-counts.result.items c.count_texts.new.counts.items c.count_texts.result c.in-Ok.ensures.texts c.new-counts.ensures.items (sym c.is_err.ensures.value ∙ c.if-is_err.false) told.list told.counts)
