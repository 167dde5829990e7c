use Rattle.lasso_codes.proofs.Feeds.{takes_line, some_given}
use Rattle.lasso_codes.proofs.input.next_line.Goals as goal

pub returns-in-Ok-clause-taken : goal.returns-in-Ok-clause-taken
returns-in-Ok-clause-taken g c =
    takes_line _ _ c.clear.new.self.items c.read_until.new.line.items _ c.clear.ensures.items c.in-Ok.ensures.bytes c.in-Ok.ensures.rest
    (some_given _ _ c.in-Ok.field-0 _ c.in-Ok.ensures.ok c.read_until.new.line.ok.0 c.in-Ok.field-0-test.1) c.strip_feed.ensures.ended c.strip_feed.ensures.unended
