use Rattle.std.proofs.Common.{ℕ, List, ◌++◌}
use Rattle.lasso_single.specs.Filling.{extend}
use Rattle.lasso_single.specs.Interner.{InternerView}
use Rattle.lasso_single.proofs.Filled.{accepted}
use Rattle.lasso_single.specs.Coding.{spur_at}
use Rattle.lasso_input.proofs.Remaining.{IsEndOf}
use Rattle.lasso_codes.specs.Stages.{Reading}
use Rattle.lasso_codes.proofs.reading.add_texts.Given as goal

-- some texts were read and interned, and the bytes after them are left
abbrev pub invariant-loop-position : goal.invariant-loop-position
invariant-loop-position l = record {
  end : IsEndOf l.lines l.fn.stretch;
  added : (bytes later : List ℕ) → Reading l.rule.only_utf8 bytes (l.fn.stretch ++ later) l.fn.count l.fn.rodeo → Reading l.rule.only_utf8 bytes (l.lines ++ later) l.position l.rodeo;
  list : (start : InternerView) → extend spur_at start l.fn.rodeo.texts accepted l.fn.rodeo → extend spur_at start l.rodeo.texts accepted l.rodeo;
}
