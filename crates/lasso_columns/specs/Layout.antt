-- What is wrong with a layout. `most` is the greatest offset that the width of the offsets allows. lasso_c has
-- definitions like these, with errors of its own and with nulls.
use Rattle.std.specs.Prelude.{ℕ, ◌+◌, List, [], ◌∷◌, nat_lt, if◌then◌else◌, Option, Some, None}
use Rattle.std.specs.List.{slice_range}
use Rattle.std.specs.Option.{option_or}
use Rattle.std.specs.Str.{is_utf8}
use Rattle.lasso_parts.specs.Layout.{reach}
use Rattle.lasso_columns.specs.declared.faults.ReadError.{ReadError}
use Rattle.lasso_columns.specs.declared.faults.ReadError.TheVariants.{OffsetsFall, OffsetPastBytes, NotText}

-- the fault of the offset where the first text begins, if it has one
abbrev pub start_fault : ℕ → List ℕ → ℕ → Option ReadError
start_fault most bytes from = if nat_lt (reach most bytes) from then Some (OffsetPastBytes 0) else None

-- the fault of the text of this number, between two offsets, if it has one
abbrev pub text_fault : ℕ → List ℕ → ℕ → ℕ → ℕ → Option ReadError
text_fault most bytes at from to =
    if nat_lt to from then Some (OffsetsFall at)
    else if nat_lt (reach most bytes) to then Some (OffsetPastBytes at)
    else if is_utf8 (slice_range bytes from to) then None
    else Some (NotText at)

-- the first fault of the texts between an offset and those after it, if there is one; the texts are numbered
-- from `at`
abbrev pub texts_fault : ℕ → List ℕ → ℕ → ℕ → List ℕ → Option ReadError
texts_fault most bytes at from [] = None
texts_fault most bytes at from (to ∷ offsets) = option_or (text_fault most bytes at from to) (texts_fault most bytes (at + 1) to offsets)

-- the first fault of a buffer with these offsets, if there is one
abbrev pub layout_fault : ℕ → List ℕ → List ℕ → Option ReadError
layout_fault most bytes [] = None
layout_fault most bytes (from ∷ offsets) = option_or (start_fault most bytes from) (texts_fault most bytes 0 from offsets)
