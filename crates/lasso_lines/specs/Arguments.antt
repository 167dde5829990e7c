-- Which arguments set which limit and which number of workers, and what holds of runs with these.
use Rattle.std.specs.Prelude.{ℕ, option_map, option_and_then, ◌-◌, ◌^◌, Bool, ◌&&◌, List, [], ◌∷◌, nat_le, Option, Some, None, String, string_bytes, ◌≡◌, map, codes, bytes_eq, if◌then◌else◌}
use Rattle.lasso_input.specs.Lines.{lines_of}
use Rattle.lasso_input.specs.Numbers.{digits_value}
use Rattle.lasso_input.specs.Workers.{most_workers}
use Rattle.lasso_parts.specs.Texts.{Text}

-- a limit and no workers
abbrev pub limited : List ℕ → Option (ℕ × Option ℕ)
limited limit = option_map (λ n. (n, None)) (digits_value limit)

-- this limit and 1 to 64 workers
abbrev pub with_workers : ℕ → ℕ → Option (ℕ × Option ℕ)
with_workers limit n = if nat_le 1 n && nat_le n most_workers then Some (limit, Some n) else None

-- this limit and the workers of a word
abbrev pub worked : ℕ → List ℕ → Option (ℕ × Option ℕ)
worked limit workers = option_and_then (with_workers limit) (digits_value workers)

-- a limit and workers
abbrev pub both : List ℕ → List ℕ → Option (ℕ × Option ℕ)
both limit workers = option_and_then (λ n. worked n workers) (digits_value limit)

-- the word is `--limit`
abbrev pub is_limit : List ℕ → Bool
is_limit word = bytes_eq word (codes "--limit")

-- the word is `--workers`
abbrev pub is_workers : List ℕ → Bool
is_workers word = bytes_eq word (codes "--workers")

-- the limit and the number of workers that the words set: `--limit N` and `--workers N`, each at most once,
-- in either order. Without a limit it is 2 ^ 64 - 1, and without a number of workers there are none. Other
-- words set nothing
abbrev pub settings_of : List (List ℕ) → Option (ℕ × Option ℕ)
settings_of [] = Some (2 ^ 64 - 1, None)
settings_of (flag ∷ []) = None
settings_of (flag ∷ number ∷ []) = if is_limit flag then limited number else (if is_workers flag then worked (2 ^ 64 - 1) number else None)
settings_of (one ∷ first ∷ other ∷ []) = None
settings_of (one ∷ first ∷ other ∷ second ∷ []) =
    if is_limit one && is_workers other then both first second else (if is_workers one && is_limit other then both second first else None)
settings_of (one ∷ first ∷ other ∷ second ∷ more ∷ words) = None

-- if the words set a limit and no workers, and the input is known, P holds of the limit and the input
abbrev pub WithoutWorkers : {Z : Type 0} → List (String Z) → Option (List ℕ) → (ℕ → List ℕ → Type 0) → Type 0
WithoutWorkers words left P = (limit : ℕ) (input : List ℕ) → settings_of (map string_bytes words) ≡ Some (limit, None) → left ≡ Some input → P limit input

-- the words set this limit and this number of workers
abbrev pub SetWorkers : {Z : Type 0} → List (String Z) → ℕ → ℕ → Type 0
SetWorkers words limit workers = settings_of (map string_bytes words) ≡ Some (limit, Some workers)

-- if the words set workers, and the input is known, P holds of the limit and of the input's lines
abbrev pub WithWorkers : {Z : Type 0} → List (String Z) → Option (List ℕ) → (ℕ → List Text → Type 0) → Type 0
WithWorkers words left P =
    (limit workers : ℕ) (input : List ℕ) → SetWorkers words limit workers → left ≡ Some input → P limit (lines_of input)
