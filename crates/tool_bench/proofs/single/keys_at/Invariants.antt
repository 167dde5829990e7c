use Rattle.std.proofs.Common.{◌<◌, ◌-◌, length}
use Rattle.std.specs.Prelude.{All}
use Rattle.tool_bench.proofs.single.keys_at.Given as goal

-- the keys so far stand for texts: a key is its position plus one
abbrev pub invariant-loop-position : goal.invariant-loop-position
invariant-loop-position g l = All (λ key. key - 1 < length (g.T.FrozenTexts.texts l.texts)) l.keys.items
