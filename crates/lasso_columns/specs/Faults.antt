-- When the errors of lines and of codes occur, and what these and the errors of dictionaries print.
use Rattle.std.specs.Prelude.{ℕ, ◌≡◌, ◌+◌, ◌-◌, ◌<◌, List, ◌++◌, length, None, Some, IsSomeAnd, Vec, slice_get, codes, decimal, nat_eq, if◌then◌else◌}
use Rattle.std.specs.Str.{IsUtf8}
use Rattle.lasso_parts.specs.Errors.{error_text, kind_text}
use Rattle.lasso_parts.specs.Texts.{Text}
use Rattle.lasso_single.specs.Interner.{InternerView}
use Rattle.lasso_single.specs.Coding.{IsRefused, MayLackMemory}
use Rattle.lasso_columns.specs.declared.faults.LineError.{LineError}
use Rattle.lasso_columns.specs.declared.faults.LineError.TheVariants.{Refused, NotText}
use Rattle.lasso_columns.specs.declared.faults.DecodeError.{DecodeError}
use Rattle.lasso_columns.specs.declared.faults.DecodeError.TheVariants.{NoText, NoMemory}
use Rattle.lasso_columns.specs.declared.faults.ReadError.{ReadError}
use Rattle.lasso_columns.specs.declared.faults.ReadError.TheVariants as read_faults
use Rattle.lasso_columns.specs.declared.faults.WriteError.{WriteError}
use Rattle.lasso_columns.specs.declared.faults.WriteError.TheVariants as write_faults

-- what the error of a line prints
abbrev pub line_error_text : LineError → List ℕ
line_error_text (Refused line error) =
    if nat_eq line 0 then error_text error else codes "line " ++ (decimal line ++ (codes ": " ++ error_text error))
line_error_text (NotText line) = codes "line " ++ (decimal line ++ codes ": not UTF-8")

-- what the error of decoding prints
abbrev pub decode_error_text : DecodeError → List ℕ
decode_error_text (NoText position code) = codes "code " ++ (decimal code ++ (codes " at position " ++ (decimal position ++ codes " has no text")))
decode_error_text NoMemory = codes "Failed to allocate memory"

-- what the error of writing a dictionary prints
abbrev pub write_error_text : WriteError → List ℕ
write_error_text (write_faults.TooManyBytes at) = codes "text " ++ (decimal at ++ codes " ends past the greatest offset")
write_error_text write_faults.NoMemory = codes "Failed to allocate memory"

-- what the error of reading one prints
abbrev pub read_error_text : ReadError → List ℕ
read_error_text (read_faults.OffsetsFall at) = codes "text " ++ (decimal at ++ codes " ends before it begins")
read_error_text (read_faults.OffsetPastBytes at) = codes "text " ++ (decimal at ++ codes " has an offset past the bytes")
read_error_text (read_faults.NotText at) = codes "text " ++ (decimal at ++ codes " is not UTF-8")
read_error_text (read_faults.Doubled at) = codes "text " ++ (decimal at ++ codes " is there already")
read_error_text (read_faults.Refused at kind) = codes "text " ++ (decimal at ++ (codes ": " ++ kind_text kind))

-- the number of the line that a fault is of
abbrev pub fault_line : LineError → ℕ
fault_line (Refused line _) = line
fault_line (NotText line) = line

-- the line of this number is refused, or it is not UTF-8
abbrev pub IsFaultOf : InternerView → Text → ℕ → LineError → Type 0
IsFaultOf now line number (Refused at error) = (at ≡ number) × IsUtf8 line × IsRefused now line error
IsFaultOf now line number (NotText at) = (at ≡ number) × ¬ (IsUtf8 line)

-- the fault is that of the line after those that were encoded; lines are numbered from 1
abbrev pub IsNextFault : InternerView → List ℕ → List ℕ → List Text → LineError → Type 0
IsNextFault now before after lines fault =
    let n = length after - length before in IsSomeAnd (slice_get lines n) (λ line. IsFaultOf now line (n + 1) fault)

-- when memory may run out for a line, with these codes so far: as for a text
abbrev pub LineMayLackMemory : {A : Type 0} → InternerView → Vec ℕ A → Text → LineError → Type 0
LineMayLackMemory now codes line (Refused _ error) = MayLackMemory now codes line error
LineMayLackMemory now codes line (NotText _) = Unit {0}

-- the same of the line after those that were encoded
abbrev pub NextLineMayLackMemory : {A : Type 0} → InternerView → List ℕ → Vec ℕ A → List Text → LineError → Type 0
NextLineMayLackMemory now before codes lines fault =
    IsSomeAnd (slice_get lines (length codes.items - length before)) (λ line. LineMayLackMemory now codes line fault)

-- why this position's code was not decoded: the list has no text for it, or has one and memory ran out
abbrev pub IsFaultAt : List Text → List ℕ → ℕ → DecodeError → Type 0
IsFaultAt list codes n (NoText position code) = (position ≡ n) × (slice_get codes n ≡ Some code) × (slice_get list code ≡ None)
IsFaultAt list codes n NoMemory = IsSomeAnd (slice_get codes n) (λ code. code < length list)
