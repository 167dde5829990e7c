-- Lines that are passed over.
use Rattle.std.specs.Prelude.{ℕ, ◌≡◌, ◌+◌, ◌<◌, ◌≤◌, ◌++◌, List, length}
use Rattle.std.specs.Int.{bit_at}
use Rattle.memchr.specs.Find.{Passes, is_byte}
use Rattle.lasso_input.specs.Lines.{lines_of}

-- the first lines of the bytes, n of them, and then the lines of the rest
abbrev pub AreSkipped : List ℕ → ℕ → List ℕ → Type 0
AreSkipped bytes n rest = (lines : List (List ℕ)) × (length lines ≡ n) × (lines_of bytes ≡ lines ++ lines_of rest)

-- of the 32 bytes from `at` on, those from `end` on that are line feeds have their bits set, and no others
pub record FeedBits (bytes : List ℕ) (at end bits : ℕ) : Type 0 where
  pub set : (k : ℕ) → k < 32 → end ≤ at + k → Passes (is_byte 10) bytes (at + k) → bit_at bits k ≡ 1
  pub only : (k : ℕ) → bit_at bits k ≡ 1 → (k < 32) × (end ≤ at + k) × Passes (is_byte 10) bytes (at + k)
