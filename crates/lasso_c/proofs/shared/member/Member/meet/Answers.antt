use Rattle.std.proofs.Common.{◌∙◌}
use Rattle.lasso_log.proofs.Histories.{prefix_trans}
use Rattle.lasso_shared.proofs.Whole.{since_both}
use Rattle.lasso_c.proofs.shared.member.Member.meet.Goals as goal

-- the meeting and the look at the list are one look
pub returns-clause-quiet : goal.returns-clause-quiet
returns-clause-quiet c =
    let before = c.args.self.now.pass in
    let mid = c.meet_if_same.new.self in
    let after = c.see.new.self.pass in
    let met = c.meet_if_same.ensures in
    let seen = c.see.ensures.quiet in
    ((seen.0.0 ∙ met.same.0, seen.0.1 ∙ met.same.1), since_both before.number mid.number before.notes mid.notes after.notes met.same.0 met.since seen.1)

-- what the other had seen begins what is seen after the look
pub returns-clause-other : goal.returns-clause-other
returns-clause-other c same =
    let since = c.see.ensures.quiet.1 in
    prefix_trans c.args.other.now.pass.notes c.meet_if_same.new.self.notes c.see.new.self.pass.notes (c.meet_if_same.ensures.other same) (since.rest, since.begins)
