-- The opening of an interner that threads share, of a list of texts.
use Rattle.std.specs.Prelude.{◌-◌, ◌^◌, List}
use Rattle.lasso_parts.specs.Texts.{Text}
use Rattle.lasso_single.specs.Copies.{bytes_of, clone_size}
use Rattle.lasso_log.specs.History.{Totals, opened}

-- the opening with copies of these texts, in one bucket of just their bytes (4096 if they have none), and with
-- the greatest limit
abbrev pub opened_with_copies : List Text → Totals
opened_with_copies texts = opened texts (clone_size texts) (bytes_of texts) (2 ^ 64 - 1)
