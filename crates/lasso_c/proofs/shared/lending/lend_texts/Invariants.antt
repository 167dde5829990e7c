use Rattle.std.proofs.Common.{◌≡◌, take, drop, map}
use Rattle.lasso_c.specs.Passes.{texts_of}
use Rattle.lasso_c.proofs.shared.lending.lend_texts.Given as goal

-- the texts so far are lent, and the others are as they were
abbrev pub invariant-loop-at : goal.invariant-loop-at
invariant-loop-at l = (take l.at (map (λ t. t.bytes.now) l.texts) ≡ take l.at (drop l.from (texts_of l.member.list))) × (drop l.at l.texts ≡ drop l.at l.fn.texts)
