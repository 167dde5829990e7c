use Rattle.std.proofs.Common.{ℕ, ◌≡◌, ◌+◌, List, ◌++◌, length, sum}
use Rattle.std.specs.Prelude.{vec_len}
use Rattle.lasso_single.specs.Interner.{InternerView}
use Rattle.lasso_input.proofs.Remaining.{IsEndOf}
use Rattle.lasso_codes.specs.Stages.{Counting}
use Rattle.lasso_codes.proofs.counts.count_stretch.Given as goal

-- the lines before this number were counted, and the bytes after them are left
abbrev pub invariant-loop-number : goal.invariant-loop-number
invariant-loop-number l = record {
  lengths : vec_len l.counts ≡ length l.rodeo.texts;
  total : sum l.counts.items + 1 ≡ l.number;
  end : IsEndOf l.lines l.fn.stretch;
  counted : (input later : List ℕ) (start : InternerView) → Counting input (l.fn.stretch ++ later) l.fn.rule.only_utf8 l.fn.first start l.fn.rodeo l.fn.counts.items → Counting input (l.lines ++ later) l.fn.rule.only_utf8 l.number start l.rodeo l.counts.items;
}
