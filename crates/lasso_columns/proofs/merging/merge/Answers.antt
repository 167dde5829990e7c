use Rattle.lasso_single.proofs.FillingFacts.{Added}
use Rattle.lasso_columns.proofs.Merged.{merged_added, merged_limit, merged_memory, merged_no_key, merged_texts}
use Rattle.lasso_columns.proofs.merging.merge.Given.{Over}
use Rattle.lasso_columns.proofs.merging.merge.Goals as goal

added : (g : Over) (c : goal.After-merge_texts g) → Added c.args.into.now c.merge_texts.new.into
added g c = merged_added c.args.into.now c.merge_texts.new.into c.args.from.now c.merge_texts.result c.merge_texts.ensures.list c.merge_texts.ensures.refused

pub returns-clause-texts : goal.returns-clause-texts
returns-clause-texts g c = merged_texts c.args.into.now c.merge_texts.new.into c.args.from.now c.merge_texts.result c.merge_texts.ensures.list

pub returns-clause-account : goal.returns-clause-account
returns-clause-account g c = (added g c).account

pub returns-clause-copied : goal.returns-clause-copied
returns-clause-copied g c = (added g c).copied

pub returns-clause-origin : goal.returns-clause-origin
returns-clause-origin g c = (added g c).origin

pub returns-clause-no_key : goal.returns-clause-no_key
returns-clause-no_key g c = merged_no_key c.args.into.now c.merge_texts.new.into c.args.from.now c.merge_texts.result c.merge_texts.ensures.refused

pub returns-clause-limit : goal.returns-clause-limit
returns-clause-limit g c = merged_limit c.args.into.now c.merge_texts.new.into c.args.from.now c.merge_texts.result c.merge_texts.ensures.refused

pub returns-clause-memory : goal.returns-clause-memory
returns-clause-memory g c = merged_memory c.args.into.now c.merge_texts.new.into c.args.from.now c.merge_texts.result c.merge_texts.ensures.memory
