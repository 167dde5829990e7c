use Rattle.std.proofs.Common.{◌≡◌, ◌≤◌, length, map}
use Rattle.lasso_parts.specs.IndexTable.{AreTextsFrom}
use Rattle.lasso_parts.proofs.index.hashes_ahead.texts_from.Given as goal

-- the texts of the slots so far were found
abbrev pub invariant-loop-place : goal.invariant-loop-place
invariant-loop-place g l = record {
  all : length l.found ≡ 32;
  few : l.place ≤ l.size;
  found : AreTextsFrom (g.T.Texts.list l.texts) l.old.slots l.first l.place (map (λ t. t.now) l.found);
}
