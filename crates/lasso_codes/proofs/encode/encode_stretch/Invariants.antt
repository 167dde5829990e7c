use Rattle.std.proofs.Common.{ℕ, List, ◌++◌}
use Rattle.lasso_single.specs.Interner.{InternerView}
use Rattle.lasso_input.proofs.Remaining.{IsEndOf}
use Rattle.lasso_columns.specs.Rows.{word_of}
use Rattle.lasso_codes.specs.Stages.{Encoding}
use Rattle.lasso_codes.proofs.encode.encode_stretch.Given as goal

-- the lines before this number have their numbers, and the bytes after them are left
abbrev pub invariant-loop-number : goal.invariant-loop-number
invariant-loop-number l = record {
  end : IsEndOf l.lines l.fn.stretch;
  numbered : (input later : List ℕ) (start : InternerView) → Encoding input (l.fn.stretch ++ later) l.fn.rule.only_utf8 l.fn.first (word_of l.fn.null) start l.fn.rodeo l.fn.numbers.items → Encoding input (l.lines ++ later) l.fn.rule.only_utf8 l.number (word_of l.fn.null) start l.rodeo l.numbers.items;
}
