-- The bytes of a column: a header, the dictionary's lines in the order of their codes, and an entry for each
-- line.
use Rattle.std.specs.Prelude.{ℕ, ◌==◌, Bool, true, false, List, [], ◌∷◌, ◌++◌, length, map, flat_map, Option, Some, None, unwrap_or, codes, decimal, if◌then◌else◌}
use Rattle.std.specs.Int.{w32, to_le_bytes}
use Rattle.lasso_parts.specs.Texts.{Text, position_of}
use Rattle.lasso_columns.specs.Parts.{new_texts}
use Rattle.lasso_columns.specs.Rows.{is_null, texts_of}
use Rattle.lasso_codes.specs.Distinct.{with_feed}

-- ---- the dictionary

-- each distinct text once, in the order of first occurrences
abbrev pub dictionary_of : Option Text → List Text → List Text
dictionary_of null lines = new_texts [] (texts_of null lines)

-- ---- entries

-- the entry of a line: none for a null, and else the code of the line, its position in the dictionary
abbrev pub entry_of : Option Text → List Text → Text → Option ℕ
entry_of null list line = if is_null null line then None else position_of list line

-- the entry with this number: 4294967295 is a null and never a code
abbrev pub entry_at : ℕ → Option ℕ
entry_at number = if number == 4294967295 then None else Some number

-- an entry as a line; byte 45 is a minus sign
abbrev pub entry_line : Option ℕ → List ℕ
entry_line None = 45 ∷ 10 ∷ []
entry_line (Some code) = decimal code ++ 10 ∷ []

-- an entry as four bytes, the least significant first, or as a line
abbrev pub entry_bytes : Bool → Option ℕ → List ℕ
entry_bytes true entry = to_le_bytes w32 (unwrap_or entry 4294967295)
entry_bytes false entry = entry_line entry

-- the entries with these numbers, one after another
abbrev pub entries_of : Bool → List ℕ → List ℕ
entries_of binary numbers = flat_map (λ n. entry_bytes binary (entry_at n)) numbers

-- ---- columns

-- the words at the beginning of a header line
abbrev pub header_front : Bool → List ℕ
header_front true = codes "lasso-codes 1 binary "
header_front false = codes "lasso-codes 1 text "

-- the header line, with the number of distinct texts and the number of lines; byte 32 is a space
abbrev pub header : Bool → ℕ → ℕ → List ℕ
header binary distinct lines = header_front binary ++ (decimal distinct ++ 32 ∷ [] ++ (decimal lines ++ 10 ∷ []))

-- the column of a dictionary and of entries
abbrev pub column_of : Bool → List Text → List (Option ℕ) → List ℕ
column_of binary list entries =
    header binary (length list) (length entries) ++ (flat_map with_feed list ++ flat_map (entry_bytes binary) entries)

-- what comes before the entries of a column with this number of them
abbrev pub head_of : Bool → List Text → ℕ → List ℕ
head_of binary list lines = header binary (length list) lines ++ flat_map with_feed list

-- the column of lines
abbrev pub column_bytes : Bool → Option Text → List Text → List ℕ
column_bytes binary null lines = let list = dictionary_of null lines in column_of binary list (map (entry_of null list) lines)
