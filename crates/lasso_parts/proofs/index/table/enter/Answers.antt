use Rattle.lasso_parts.proofs.index.table.enter.Goals as goal

pub enter_at-requires : goal.enter_at-requires
enter_at-requires g c = let f = c.free_slot-at.ensures in record { inside = f.bound; free = f.free; reached = f.reached }
