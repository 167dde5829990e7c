use Rattle.std.proofs.Common.{◌<◌, ◌≤◌, length, arith}
use Rattle.lasso_codes.proofs.Cuts.{loses_line}
use Rattle.lasso_codes.proofs.Feeds.{cuts_whole, cuts_part, some_given}
use Rattle.lasso_codes.proofs.input.next_whole_line.Goals as goal

pub returns-then-len-count-clause-taken : goal.returns-then-len-count-clause-taken
returns-then-len-count-clause-taken g c =
    let got = c.read_until.new.line.items in
    let line = c.strip_feed.new.line.items in
    let shorter : length line < length got = omega (arith, c.if-len-count.true, c.len.ensures, c.len-count.ensures, c.strip_feed.new.line.ok.0, c.read_until.new.line.ok.0) in
    cuts_whole _ _ c.clear.new.self.items got line c.clear.ensures.items c.in-Ok.ensures.bytes c.in-Ok.ensures.rest c.strip_feed.ensures.ended c.strip_feed.ensures.unended shorter

pub returns-else-len-count-clause-taken : goal.returns-else-len-count-clause-taken
returns-else-len-count-clause-taken g c =
    let got = c.read_until.new.line.items in
    let line = c.strip_feed.new.line.items in
    let longer : length got ≤ length line = omega (arith, c.if-len-count.false, c.len.ensures, c.len-count.ensures, c.strip_feed.new.line.ok.0, c.read_until.new.line.ok.0) in
    let some : 0 < length got = some_given _ _ c.in-Ok.field-0 _ c.in-Ok.ensures.ok c.read_until.new.line.ok.0 c.in-Ok.field-0-test.1 in
    cuts_part _ _ c.clear.new.self.items got line c.clear.ensures.items c.in-Ok.ensures.bytes c.in-Ok.ensures.rest c.strip_feed.ensures.ended some longer

pub returns-in-Err-clause-lost : goal.returns-in-Err-clause-lost
returns-in-Err-clause-lost g c = loses_line _ _ c.in-Err.ensures.lost
