use Rattle.std.proofs.Common.{arith}
use Rattle.lasso_parts.proofs.JsonValues.{member_more, members_all}
use Rattle.lasso_parts.proofs.json.objects.write_map.Goals as goal

pub loop-position-preserved : goal.loop-position-preserved
loop-position-preserved g c =
    member_more (g.T.Texts.list c.args.texts.now) c.loop-position.position c.text_at.result.now c.loop-position.members.entries c.insert.new.self.entries c.in_ok-text.text c.from.result c.loop-position.invariant c.text_at.ensures c.in_ok-text.ensures.ok c.from.ensures c.in_ok-insert.ensures.entries

pub returns-clause-written : goal.returns-clause-written
returns-clause-written g c =
    members_all (g.T.Texts.list c.args.texts.now) c.loop-position.position c.loop-position.members c.loop-position.invariant (omega (arith, c.requires))
