use Rattle.std.proofs.Common.{◌∙◌, ap, map, refl}
use Rattle.std.proofs.lemmas.List.{map_push}
use Rattle.lasso_columns.specs.Counts.{pair_of}
use Rattle.lasso_columns.proofs.Ranks.{paired_push, paired_all}
use Rattle.lasso_codes.proofs.ranking.paired.Goals as goal

pub loop-position-preserved : goal.loop-position-preserved
loop-position-preserved c =
    ap (map pair_of) c.in_ok-push.ensures.items ∙ map_push pair_of c.loop-position.ranked.items _
    ∙ paired_push c.args.counts.now c.args.table.now (map pair_of c.loop-position.ranked.items) c.loop-position.position _ c.at.result.now c.loop-position.invariant c.loop-position-test.true refl c.at.ensures

pub returns : goal.returns
returns c =
    paired_all c.args.counts.now c.args.table.now (map pair_of c.loop-position.ranked.items) c.loop-position.position c.loop-position.invariant c.loop-position-test.false
