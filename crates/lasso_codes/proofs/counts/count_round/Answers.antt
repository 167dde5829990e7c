use Rattle.std.proofs.Common.{ap, subst, sum, arith}
use Rattle.lasso_columns.specs.Adding.{CountsCodes}
use Rattle.lasso_codes.proofs.CountedRounds.{grown_sum, raised_total, resized_is}
use Rattle.lasso_codes.proofs.counts.count_round.Goals as goal

pub count_codes-requires : goal.count_codes-requires
count_codes-requires c =
    let zeros = resized_is c.args.texts _ c.args.counts.now.items c.resize.new.self.items c.args.counts.now.ok.0 c.in-Ok.ensures.items in
    let less = grown_sum c.args.texts c.args.counts.now.items in
    omega (arith, ap sum zeros, less, c.requires, c.in-Some.ensures)

pub returns-clause-counted : goal.returns-clause-counted
returns-clause-counted c =
    let zeros = resized_is c.args.texts _ c.args.counts.now.items c.resize.new.self.items c.args.counts.now.ok.0 c.in-Ok.ensures.items in
    subst (λ cs. CountsCodes c.args.codes.now cs c.count_codes.new.counts.items) zeros c.count_codes.ensures.counts

pub returns-clause-total : goal.returns-clause-total
returns-clause-total c =
    let zeros = resized_is c.args.texts _ c.args.counts.now.items c.resize.new.self.items c.args.counts.now.ok.0 c.in-Ok.ensures.items in
    let less = grown_sum c.args.texts c.args.counts.now.items in
    let more = raised_total c.resize.new.self.items c.args.codes.now in
    omega (arith, ap sum zeros, less, more, c.requires, ap sum c.count_codes.ensures.each, c.in-Some.ensures)
