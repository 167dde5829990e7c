use Rattle.std.proofs.Common.{◌≡◌, ◌≤◌, take}
use Rattle.std.specs.Prelude.{All, IfSome}
use Rattle.lasso_codes.specs.Nearest.{edits, verbs}
use Rattle.lasso_codes.proofs.nearest.nearest_verb.Given as goal

-- no verb so far has fewer edits than the least number, and the nearest has as many, at most two;
-- the number is three at most
abbrev pub invariant-loop-verb : goal.invariant-loop-verb
invariant-loop-verb l =
    All (λ other. l.least ≤ edits l.word other) (take l.verb-index verbs)
    × IfSome l.nearest (λ verb. (edits l.word verb ≡ l.least) × (l.least ≤ 2))
    × (l.least ≤ 3)
