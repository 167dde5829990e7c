use Rattle.std.proofs.Common.{ℕ, ◌≡◌, ◌≤◌, List, Some, length, sum}
use Rattle.std.specs.Prelude.{vec_len}
use Rattle.lasso_columns.specs.Steps.{AreLeftAfter}
use Rattle.lasso_columns.specs.declared.line_texts.LineTexts.TheVariants.{OfBytes}
use Rattle.lasso_input.specs.Lines.{lines_of}
use Rattle.lasso_codes.proofs.CountedRounds.{CountedRounds}
use Rattle.lasso_codes.proofs.counts.count_stream.Given as goal

-- the first lines were counted, and the others are left
abbrev pub invariant-loop-goes_on : goal.invariant-loop-goes_on
invariant-loop-goes_on g l = record {
  by : l.encoder.by ≡ OfBytes l.fn.rule.only_utf8;
  known : (bytes : List ℕ) → l.fn.input.left ≡ Some bytes → (rest : List (List ℕ)) × CountedRounds l.fn.rule.only_utf8 (lines_of bytes) rest l.fn.rodeo l.rodeo l.counts.items l.number × AreLeftAfter l.goes_on l.encoder l.input.left rest;
  total : sum l.counts.items ≤ l.number;
  lengths : vec_len l.counts ≡ length l.rodeo.texts;
  reads : l.input.failures ≡ l.fn.input.failures;
}

abbrev pub decreases-loop-goes_on : goal.decreases-loop-goes_on
decreases-loop-goes_on g l = l.encoder.rounds_left
