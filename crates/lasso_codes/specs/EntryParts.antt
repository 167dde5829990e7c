-- Parts of the entries of a column, each as bytes.
use Rattle.std.specs.Prelude.{ℕ, ◌≡◌, ◌<◌, ◌≤◌, Bool, List, length, slice_index_or, take, Option, IfSome}
use Rattle.std.specs.Fork.{slice_chunk}
use Rattle.lasso_codes.specs.Columns.{entries_of}
use Rattle.lasso_codes.specs.declared.entry_parts.Part.{Part}

-- the first `filled` bytes are the entries with these numbers, or `filled` is `None`
abbrev pub HoldsEntries : Bool → List ℕ → List ℕ → Option ℕ → Type 0
HoldsEntries binary numbers bytes filled = IfSome filled (λ count. (count ≤ length bytes) × (take count bytes ≡ entries_of binary numbers))

-- so do the first `count` parts, each of its own 262,144 of the numbers
abbrev pub PartsHoldEntries : Bool → List ℕ → ℕ → List Part → Type 0
PartsHoldEntries binary numbers count parts =
    (i : ℕ) (d : Part) → i < count → HoldsEntries binary (slice_chunk numbers 262144 i) (slice_index_or parts i d).bytes.items (slice_index_or parts i d).filled
