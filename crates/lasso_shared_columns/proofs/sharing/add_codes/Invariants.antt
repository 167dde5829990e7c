use Rattle.std.proofs.Common.{◌≡◌, ◌-◌, ◌++◌, map, take}
use Rattle.lasso_shared_columns.proofs.sharing.add_codes.Given as goal

-- the positions of the keys before the index were appended
abbrev pub invariant-loop-key : goal.invariant-loop-key
invariant-loop-key l = l.codes.items ≡ l.fn.codes.items ++ map (λ k. k - 1) (take l.key-index l.keys)
