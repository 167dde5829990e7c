use Rattle.std.proofs.Common.{arith}
use Rattle.lasso_parts.proofs.JsonValues.{written_more, written_all}
use Rattle.lasso_parts.proofs.json.arrays.write_array.Goals as goal

pub loop-position-preserved : goal.loop-position-preserved
loop-position-preserved g c =
    written_more (g.T.Texts.list c.args.texts.now) c.loop-position.position c.text_at.result.now c.loop-position.items.items c.push.new.self.items c.in_ok-text.text c.loop-position.invariant c.text_at.ensures c.in_ok-text.ensures.ok c.in_ok-push.ensures.items

pub returns-clause-written : goal.returns-clause-written
returns-clause-written g c =
    written_all (g.T.Texts.list c.args.texts.now) c.loop-position.position c.loop-position.items c.loop-position.invariant (omega (arith, c.requires))
