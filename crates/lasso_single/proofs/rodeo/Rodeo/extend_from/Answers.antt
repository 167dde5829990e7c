use Rattle.std.proofs.Common.{List, None}
use Rattle.std.specs.Iterator.{Yields, YieldsThen}
use Rattle.lasso_single.proofs.FillingFacts.{Added}
use Rattle.lasso_single.proofs.ItemFacts.{items_added, items_limit, items_memory, items_no_key, items_texts}
use Rattle.lasso_single.proofs.rodeo.Rodeo.extend_from.Given.{Over}
use Rattle.lasso_single.proofs.rodeo.Rodeo.extend_from.Goals as goal

-- the iterator gave these items and ended
abbrev Ended : (g : Over) (c : goal.After-intern_items g) → List g.row.T.Denot → Type 0
Ended g c xs = YieldsThen g.I.Iterator.next_gives c.args.items.now xs None c.intern_items.new.items

-- it gave these items
abbrev Stopped : (g : Over) (c : goal.After-intern_items g) → List g.row.T.Denot → Type 0
Stopped g c xs = Yields g.I.Iterator.next_gives c.args.items.now xs c.intern_items.new.items

added : (g : Over) (c : goal.After-intern_items g) → Added c.args.self.now c.intern_items.new.self
added g c = items_added g.K.Key.key_at c.args.self.now c.intern_items.new.self g.T.AsStr.text (Ended g c) (Stopped g c) c.intern_items.result c.intern_items.ensures.filled c.intern_items.ensures.refused

pub returns-clause-texts : goal.returns-clause-texts
returns-clause-texts g c = items_texts g.K.Key.key_at c.args.self.now c.intern_items.new.self g.T.AsStr.text (Ended g c) (Stopped g c) c.intern_items.result c.intern_items.ensures.filled

pub returns-clause-account : goal.returns-clause-account
returns-clause-account g c = (added g c).account

pub returns-clause-copied : goal.returns-clause-copied
returns-clause-copied g c = (added g c).copied

pub returns-clause-origin : goal.returns-clause-origin
returns-clause-origin g c = (added g c).origin

pub returns-clause-no_key : goal.returns-clause-no_key
returns-clause-no_key g c = items_no_key g.K.Key.key_at c.args.self.now c.intern_items.new.self g.T.AsStr.text (Ended g c) (Stopped g c) c.intern_items.result c.intern_items.ensures.refused

pub returns-clause-limit : goal.returns-clause-limit
returns-clause-limit g c = items_limit g.K.Key.key_at c.args.self.now c.intern_items.new.self g.T.AsStr.text (Ended g c) (Stopped g c) c.intern_items.result c.intern_items.ensures.refused

pub returns-clause-memory : goal.returns-clause-memory
returns-clause-memory g c = items_memory g.K.Key.key_at c.args.self.now c.intern_items.new.self g.T.AsStr.text (Ended g c) (Stopped g c) c.intern_items.result c.intern_items.ensures.refused
