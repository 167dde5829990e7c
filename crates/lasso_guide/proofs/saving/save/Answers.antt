-- The text is read as the value that was written, the array of the texts, and that is read as their list.
use Rattle.lasso.specs.Json.{json_array}
use Rattle.lasso.proofs.Calling.{array_read_back}
use Rattle.lasso_guide.proofs.saving.save.Goals as goal

pub returns : goal.returns
returns g c = (
  json_array c.args.rodeo.now.texts,
  array_read_back c.args.rodeo.now.texts _ _ c.in_ok-value.ensures.written c.in_ok-to_string.ensures.reads_back,
  c.json_reads_back.ensures c.args.rodeo.now.texts c.len-count.ensures.distinct c.len-count.ensures.fits,
)
