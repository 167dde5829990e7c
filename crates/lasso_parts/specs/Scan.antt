-- What a walk over a range of slots finds.
use Rattle.std.specs.Prelude.{◌≡◌, ℕ, ◌<◌, ◌≤◌, List, Option, Some, None, slice_get}
use Rattle.lasso_parts.specs.declared.index.probe.Scan.{Scan}
use Rattle.lasso_parts.specs.declared.index.probe.Scan.TheVariants.{Found, Ended, Passed}
use Rattle.lasso_parts.specs.Texts.{Text}
use Rattle.lasso_parts.specs.Index.{slot, Holds, IsFull}
use Rattle.lasso_parts.specs.IndexTable.{Misses}

-- the walk found the text, or ended at an empty slot without it, or passed the whole range without either
abbrev pub Tells : List Text → Text → List (Option ℕ) → ℕ → ℕ → Scan → Type 0
Tells texts text xs from to (Found n) = Holds xs n × (slice_get texts n ≡ Some text)
Tells texts text xs from to (Ended j) = (from ≤ j) × (j < to) × (slot xs j ≡ None) × IsFull xs from j × Misses texts text xs from j
Tells texts text xs from to Passed = IsFull xs from to × Misses texts text xs from to
