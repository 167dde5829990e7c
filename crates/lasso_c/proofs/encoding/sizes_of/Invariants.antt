use Rattle.std.proofs.Common.{◌≡◌, ◌+◌, length}
use Rattle.std.specs.List.{concat}
use Rattle.lasso_c.proofs.encoding.sizes_of.Given as goal

-- the bytes so far and those of the texts that are left
abbrev pub invariant-loop-text : goal.invariant-loop-text
invariant-loop-text l =
    (goal.iterator-loop-text).can_next l.text-iterator ×
    (goal.iterator-loop-text).is_finite l.text-iterator ×
    (l.bytes + length (concat l.text-iterator) ≡ length (concat l.dictionary.texts))
