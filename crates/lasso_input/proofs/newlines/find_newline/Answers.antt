use Rattle.memchr.specs.Find.{is_byte}
use Rattle.lasso_input.proofs.Feeds.{first_taken}
use Rattle.lasso_input.proofs.newlines.find_newline.Goals as goal

pub returns : goal.returns
returns c = first_taken (is_byte 10) c.args.bytes.now c.next.result c.memchr_iter.result c.next.new.self c.memchr_iter.ensures.value c.next.ensures.steps
