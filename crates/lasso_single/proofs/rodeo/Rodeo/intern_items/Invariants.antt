use Rattle.std.proofs.Common.{List, map}
use Rattle.std.specs.Iterator.{IsFinite, Yields, size}
use Rattle.lasso_single.specs.Filling.{extend}
use Rattle.lasso_single.proofs.Filled.{accepted}
use Rattle.lasso_single.proofs.rodeo.Rodeo.intern_items.Given as goal

-- the iterator gave the items whose texts were interned, may be called again, and ends
abbrev pub invariant-loop-text : goal.invariant-loop-text
invariant-loop-text g l = record {
  can : g.I.Iterator.can_next l.items;
  ends : IsFinite (g.I.Iterator.remaining l.items);
  so_far : (xs : List g.row.T.Denot) × Yields g.I.Iterator.next_gives l.fn.items xs l.items × extend g.K.Key.key_at l.fn.self (map g.T.AsStr.text xs) accepted l.self;
}

abbrev pub decreases-loop-text : goal.decreases-loop-text
decreases-loop-text g l = size (g.I.Iterator.remaining l.items)
