use Rattle.std.proofs.Common.{◌≡◌, drop, map, None}
use Rattle.std.specs.Prelude.{string_bytes}
use Rattle.lasso_columns.specs.Rows.{word_of}
use Rattle.lasso_codes.specs.Arguments.{options_of, unset, wanted_of}
use Rattle.lasso_codes.proofs.options.options_of.Given as goal

-- the words before the index were read
abbrev pub invariant-loop-word : goal.invariant-loop-word
invariant-loop-word l =
    options_of l.verb unset None None (map string_bytes l.words) ≡ options_of l.verb l.reading.settings (word_of l.reading.null) (wanted_of l.reading) (drop l.word-index (map string_bytes l.words))
