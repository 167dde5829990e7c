-- What the word of a latch says, and how it may change.
-- The low 32 bits count the readers. From 2 ^ 32 on further readers stay out, and from `taken` on somebody has the latch whole.
use Rattle.std.specs.Prelude.{◌≡◌, ◌≢◌, ◌⊎◌, ℕ, ◌+◌, ◌-◌, ◌%◌, ◌<◌, ◌≤◌}

-- the right of a reader's claim; 0 is the right to nothing
abbrev pub shared : ℕ
shared = 1

-- the right of a claim of the whole latch
abbrev pub whole : ℕ
whole = 2

-- the least word at which somebody has the latch whole
abbrev pub taken : ℕ
taken = 8589934592

-- how many readers a word counts
abbrev pub readers : ℕ → ℕ
readers word = word % 4294967296

-- A word below `taken` goes to `taken` if nobody reads, or stays below it, with as many readers or one more.
abbrev pub IsTurn : ℕ → ℕ → Type 0
IsTurn old new = (old < taken) × (((new ≡ taken) × (readers old ≡ 0)) ⊎ ((new < taken) × (readers old ≤ readers new) × (readers new ≤ readers old + 1)))

-- the right that such a change gains
abbrev pub Gains : ℕ → ℕ → ℕ → Type 0
Gains old new right = (new ≡ taken → right ≡ whole) × (new < taken → right ≡ readers new - readers old)

-- what an attempt at such a change gains that found `word`
abbrev pub Outcome : ℕ → ℕ → ℕ → ℕ → Type 0
Outcome old new word right = (word ≡ old → Gains old new right) × (word ≢ old → right ≡ 0)

-- what a claim with a right has added to the word
abbrev pub IsWeight : ℕ → ℕ → Type 0
IsWeight right by = ((right ≡ shared) × (by ≡ 1)) ⊎ ((right ≡ whole) × (by ≡ taken))
