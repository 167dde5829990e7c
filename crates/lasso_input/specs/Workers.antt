-- How many threads may share the work on an input.
use Rattle.std.specs.Prelude.{ℕ}

-- the greatest number of workers, 64
abbrev pub most_workers : ℕ
most_workers = 64
