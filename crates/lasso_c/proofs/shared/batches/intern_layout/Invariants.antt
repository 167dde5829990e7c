use Rattle.std.proofs.Common.{◌≡◌}
use Rattle.lasso_c.proofs.SharedSteps.{InternedSo}
use Rattle.lasso_c.proofs.shared.batches.intern_layout.Given as goal

-- the texts so far were interned
abbrev pub invariant-loop-at : goal.invariant-loop-at
invariant-loop-at g l =
    InternedSo g.O.Offset.GREATEST l.bytes (g.O.Offset.numbers l.offsets) l.at l.fn.codes l.codes l.fn.member.pass l.member.pass
    × (l.member.list ≡ l.fn.member.list) × (l.member.shared.seed ≡ l.fn.member.shared.seed)
    × (l.member.shared.is_frozen ≡ l.fn.member.shared.is_frozen)
