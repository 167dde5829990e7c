-- How a column is read from bytes: a header line, the texts of its dictionary, and its entries.
use Rattle.std.specs.Prelude.{ℕ, zero, suc, ◌≡◌, ◌+◌, ◌-◌, ◌<◌, ◌==◌, ◌⊎◌, Bool, true, false, List, [], ◌∷◌, ◌++◌, length, take, drop, is_some, All, Option, Some, None, Result, Ok, Err, option_map, position, bytes_eq, if◌then◌else◌}
use Rattle.std.specs.Int.{w32, from_le_bytes}
use Rattle.lasso_input.specs.Texts.{is_let_in, text_of}
use Rattle.hex.specs.Hex.{IsBytes}
use Rattle.lasso_parts.specs.Texts.{Text, position_of}
use Rattle.lasso_parts.specs.declared.util.LassoError.{LassoError}
use Rattle.lasso_single.specs.Filling.{extend}
use Rattle.lasso_single.specs.Intern.{InternsIn}
use Rattle.lasso_single.specs.Interner.{InternerView, made_with}
use Rattle.lasso_single.specs.Coding.{spur_at, IsRefused}
use Rattle.lasso_input.specs.Numbers.{digits_value}
use Rattle.lasso_codes.specs.Columns.{header_front}
use Rattle.lasso_codes.specs.Errors.{IsReadError}
use Rattle.lasso_codes.specs.Limits.{line_texts, Admits, IsLetIn, IsTextLackingMemory}
use Rattle.lasso_codes.specs.Streams.{cut_line, IfKnown, LosesLine, StopsShort}
use Rattle.lasso_codes.specs.declared.error.ColumnError.{ColumnError}
use Rattle.lasso_codes.specs.declared.error.ColumnError.TheVariants.{NoHeader, NoText, NotUtf8, Doubled, TextRefused, NoEntry, NotEntry, PastTexts, IsNull, NotMerged, HasEntries, Absent}
use Rattle.lasso_codes.specs.declared.error.RunError.{RunError}
use Rattle.lasso_codes.specs.declared.error.RunError.TheVariants.{Column}
use Rattle.lasso_codes.specs.declared.entries.Entry.{Entry}
use Rattle.lasso_codes.specs.declared.entries.Entry.TheVariants.{Missing, Bad, Null, Code}
use Rattle.lasso_codes.specs.declared.reading.Header.{Header}

-- ---- the header

-- the rest of the line after its front
abbrev pub after_front : List ℕ → Text → Option (List ℕ)
after_front front line = if bytes_eq (take (length front) line) front then Some (drop (length front) line) else None

abbrev pub header_with : Bool → Option ℕ → Option ℕ → Option Header
header_with binary None lines = None
header_with binary (Some distinct) None = None
header_with binary (Some distinct) (Some lines) = Some (record { binary = binary; distinct = distinct; lines = lines })

-- the header with the numbers before and after the space
abbrev pub header_at : Bool → List ℕ → Option ℕ → Option Header
header_at binary numbers None = None
header_at binary numbers (Some at) = header_with binary (digits_value (take at numbers)) (digits_value (drop (at + 1) numbers))

-- byte 32 is a space
abbrev pub header_in : Bool → List ℕ → Option Header
header_in binary numbers = header_at binary numbers (position (λ b. b == 32) numbers)

abbrev pub header_or : Option (List ℕ) → Option (List ℕ) → Option Header
header_or (Some numbers) other = header_in false numbers
header_or None (Some numbers) = header_in true numbers
header_or None None = None

-- the header of a header line
abbrev pub header_of : Text → Option Header
header_of line = header_or (after_front (header_front false) line) (after_front (header_front true) line)

abbrev pub on_header_line : Option (Text × List ℕ) → Option (Header × List ℕ)
on_header_line None = None
on_header_line (Some cut) = option_map (λ header. (header, cut.1)) (header_of cut.0)

-- the header at the start of the bytes, and the bytes after it
abbrev pub head_of : List ℕ → Option (Header × List ℕ)
head_of bytes = on_header_line (cut_line bytes)

-- the header was read, and the bytes after it are left; or there were no bytes
abbrev pub TakesHeader : Option (List ℕ) → Option (List ℕ) → Option Header → Type 0
TakesHeader before after None = (bytes : List ℕ) → before ≡ Some bytes → bytes ≡ []
TakesHeader before after (Some header) = (bytes : List ℕ) → before ≡ Some bytes → (rest : List ℕ) × (after ≡ Some rest) × (head_of bytes ≡ Some (header, rest))

-- there is at least one byte, and the bytes do not begin with a header
abbrev pub HasNoHeader : List ℕ → Type 0
HasNoHeader bytes = (0 < length bytes) × (head_of bytes ≡ None)

-- why the header of the column with this number was not read
abbrev pub HeaderError : Option (List ℕ) → Option (List ℕ) → ℕ → RunError → Type 0
HeaderError before after column error = (IsReadError 0 error × LosesLine before after) ⊎ ((error ≡ Column column NoHeader) × IfKnown before HasNoHeader)

-- ---- the dictionary

-- texts and the bytes after them, or the error
abbrev pub ReadTexts : Type 0
ReadTexts = Result (List Text × List ℕ) ColumnError

-- a text has to be let in and new. It is a line
abbrev pub on_text : Bool → Option (Text × List ℕ) → List Text → (List Text → List ℕ → ReadTexts) → ReadTexts
on_text only None list go = Err (NoText (length list + 1))
on_text only (Some cut) list go =
    if is_let_in only cut.0 then (if is_some (position_of list cut.0) then Err (Doubled (length list + 1)) else go (list ++ cut.0 ∷ []) cut.1)
    else Err (NotUtf8 (length list + 1))

-- reads n more texts after these
abbrev pub texts_from : Bool → ℕ → List Text → List ℕ → ReadTexts
texts_from only zero list bytes = Ok (list, bytes)
texts_from only (suc n) list bytes = on_text only (cut_line bytes) list (texts_from only n)

-- the texts that were read, or none
abbrev pub read_list : ReadTexts → List Text
read_list (Err error) = []
read_list (Ok read) = read.0

-- the first n texts of a dictionary, or none if they can't be read
abbrev pub first_texts : Bool → ℕ → List ℕ → List Text
first_texts only n bytes = read_list (texts_from only n [] bytes)

-- the texts of a dictionary of this many texts that were read before the error: those before the text that is
-- at fault, and all before an entry that is
abbrev pub texts_before : Bool → ℕ → List ℕ → ColumnError → List Text
texts_before only distinct bytes NoHeader = []
texts_before only distinct bytes (NoText number) = first_texts only (number - 1) bytes
texts_before only distinct bytes (NotUtf8 number) = first_texts only (number - 1) bytes
texts_before only distinct bytes (Doubled number) = first_texts only (number - 1) bytes
texts_before only distinct bytes error = first_texts only distinct bytes

-- the line is let in and new, and its text was interned
abbrev pub AddsText : Bool → InternerView → Text → InternerView → Type 0
AddsText only old line new = IsLetIn only line × (position_of old.texts (text_of line) ≡ None) × ((key : ℕ) × InternsIn {K = ℕ} spur_at old (text_of line) (Ok key) new)

-- why the line with this number was not added. When memory may run out is as `IsTextLackingMemory` has it
abbrev pub AddError : Bool → InternerView → Text → ℕ → ColumnError → Type 0
AddError only old line number NoHeader = ⊥
AddError only old line number (NoText at) = ⊥
AddError only old line number (NotUtf8 at) = (at ≡ number) × (is_let_in only line ≡ false)
AddError only old line number (Doubled at) = (at ≡ number) × IsLetIn only line × (is_some (position_of old.texts (text_of line)) ≡ true)
AddError only old line number (TextRefused at error) = (at ≡ number) × IsLetIn only line × IsRefused old (text_of line) error × IsTextLackingMemory old line error
AddError only old line number (NoEntry at) = ⊥
AddError only old line number (NotEntry at) = ⊥
AddError only old line number (PastTexts at) = ⊥
AddError only old line number (IsNull at) = ⊥
AddError only old line number (NotMerged error) = ⊥
AddError only old line number HasEntries = ⊥
AddError only old line number (Absent at) = ⊥

-- the text of the line with this number is refused by an interner with this limit that holds the texts of those
-- before it. When memory may run out is as `IsTextLackingMemory` has it
abbrev pub IsTextRefused : Bool → ℕ → ℕ → List ℕ → ℕ → LassoError → Type 0
IsTextRefused only limit distinct bytes number error =
    (n : ℕ) × (number ≡ n + 1) × (n < distinct) × ((list : List Text) × (rest : List ℕ) × (texts_from only n [] bytes ≡ Ok (list, rest))
    × ((line : Text) × (left : List ℕ) × (cut_line rest ≡ Some (line, left))
    × ((now : InternerView) × extend spur_at (made_with 4096 limit) (line_texts list) (Ok tt) now × IsRefused now (text_of line) error × IsTextLackingMemory now line error)))

-- this number of lines was read, these are their texts, and the bytes after them are left
abbrev pub TakesTexts : Bool → Option (List ℕ) → Option (List ℕ) → ℕ → List Text → Type 0
TakesTexts only before after distinct texts =
    (bytes : List ℕ) → before ≡ Some bytes → (rest : List ℕ) × (after ≡ Some rest)
    × ((list : List Text) × (texts_from only distinct [] bytes ≡ Ok (list, rest)) × All IsBytes list × (texts ≡ line_texts list))

-- why this number of texts was not read from these bytes. A new interner with this limit takes the texts before
-- the error
abbrev pub IsTextError : Bool → ℕ → ℕ → List ℕ → ColumnError → Type 0
IsTextError only limit distinct bytes NoHeader = ⊥
IsTextError only limit distinct bytes (NotMerged error) = ⊥
IsTextError only limit distinct bytes HasEntries = ⊥
IsTextError only limit distinct bytes (Absent number) = ⊥
IsTextError only limit distinct bytes (TextRefused number error) = IsTextRefused only limit distinct bytes number error
IsTextError only limit distinct bytes (NoEntry number) = ⊥
IsTextError only limit distinct bytes (NotEntry number) = ⊥
IsTextError only limit distinct bytes (PastTexts number) = ⊥
IsTextError only limit distinct bytes (IsNull number) = ⊥
IsTextError only limit distinct bytes error = (texts_from only distinct [] bytes ≡ Err error) × Admits limit (line_texts (texts_before only distinct bytes error))

-- one of the texts is missing
abbrev pub LacksText : Bool → ℕ → ℕ → List ℕ → Type 0
LacksText only limit distinct bytes = (number : ℕ) × IsTextError only limit distinct bytes (NoText number)

-- why the texts of the column with this number were not read, and what is left of the bytes then. If a read failed or
-- memory ran out for a line, a text is missing in what was read
abbrev pub TextsError : Bool → ℕ → ℕ → ℕ → List ℕ → Option (List ℕ) → RunError → Type 0
TextsError only limit distinct column bytes after error =
    (IsReadError 0 error × StopsShort bytes after (LacksText only limit distinct))
    ⊎ ((reason : ColumnError) × (error ≡ Column column reason) × IsTextError only limit distinct bytes reason)

-- ---- entries

-- 4294967295 is a null
abbrev pub number_entry : ℕ → Entry
number_entry n = if n == 4294967295 then Null else Code n

abbrev pub code_in : Option ℕ → Entry
code_in None = Bad
code_in (Some n) = Code n

-- a line as an entry; byte 45 is a minus sign
abbrev pub entry_in : Text → Entry
entry_in line = if bytes_eq line (45 ∷ []) then Null else code_in (digits_value line)

abbrev pub on_entry_line : Option (Text × List ℕ) → Entry × List ℕ
on_entry_line None = (Missing, [])
on_entry_line (Some cut) = (entry_in cut.0, cut.1)

abbrev pub cut_number : List ℕ → Entry × List ℕ
cut_number [] = (Missing, [])
cut_number (a ∷ []) = (Missing, [])
cut_number (a ∷ b ∷ []) = (Missing, [])
cut_number (a ∷ b ∷ c ∷ []) = (Missing, [])
cut_number (a ∷ b ∷ c ∷ d ∷ bytes) = (number_entry (from_le_bytes w32 (a ∷ b ∷ c ∷ d ∷ [])), bytes)

-- the entry at the start of the bytes, and the bytes after it
abbrev pub cut_entry : Bool → List ℕ → Entry × List ℕ
cut_entry true bytes = cut_number bytes
cut_entry false bytes = on_entry_line (cut_line bytes)

-- the entry was read, and the bytes after it are left
abbrev pub TakesEntry : Bool → Option (List ℕ) → Option (List ℕ) → Entry → Type 0
TakesEntry binary before after entry = (bytes : List ℕ) → before ≡ Some bytes → (rest : List ℕ) × (after ≡ Some rest) × (cut_entry binary bytes ≡ (entry, rest))

-- a read of an entry failed: none is in what was read of the known bytes
abbrev pub LosesEntry : Bool → Option (List ℕ) → Option (List ℕ) → Type 0
LosesEntry binary before after = IfKnown before (λ bytes. StopsShort bytes after (λ seen. cut_entry binary seen ≡ (Missing, [])))

-- ---- what is made of the entries

-- turns the entry with this number into an item, or returns what is wrong with it
abbrev pub Makes : Type 0 → Type 0
Makes X = Entry → ℕ → Result X ColumnError

-- items, and the bytes after them, or the error after them
abbrev pub ReadItems : Type 0 → Type 0
ReadItems X = List X × Result (List ℕ) ColumnError

abbrev pub on_item : {X : Type 0} → Result X ColumnError → ReadItems X → ReadItems X
on_item (Err error) others = ([], Err error)
on_item (Ok item) others = (item ∷ others.0, others.1)

-- the items of the next n entries, the first of which has this number
abbrev pub items_from : {X : Type 0} → Makes X → ℕ → Bool → ℕ → List ℕ → ReadItems X
items_from make zero binary number bytes = ([], Ok bytes)
items_from make (suc n) binary number bytes =
    let cut = cut_entry binary bytes in on_item (make cut.0 number) (items_from make n binary (number + 1) cut.1)

-- the items of the entries of a column with this header
abbrev pub entry_items : {X : Type 0} → Makes X → Header → List ℕ → ReadItems X
entry_items make header bytes = items_from make header.lines header.binary 1 bytes

-- one of the items is missing, since its entry is. P holds of the items before it
abbrev pub LacksEntry : {X : Type 0} → (List ℕ → ReadItems X) → (List X → Type 0) → List ℕ → Type 0
LacksEntry reads P bytes = (number : ℕ) × ((reads bytes).1 ≡ Err (NoEntry number)) × P (reads bytes).0

-- it is the error of an entry
abbrev pub IsEntryError : ColumnError → Type 0
IsEntryError NoHeader = ⊥
IsEntryError (NoText number) = ⊥
IsEntryError (NotUtf8 number) = ⊥
IsEntryError (Doubled number) = ⊥
IsEntryError (TextRefused number error) = ⊥
IsEntryError (NoEntry number) = Unit {0}
IsEntryError (NotEntry number) = Unit {0}
IsEntryError (PastTexts number) = Unit {0}
IsEntryError (IsNull number) = Unit {0}
IsEntryError (NotMerged error) = ⊥
IsEntryError HasEntries = ⊥
IsEntryError (Absent number) = ⊥

-- ---- columns

abbrev pub on_texts : {X : Type 0} → (List Text → Makes X) → Header → ReadTexts → ReadItems X
on_texts make header (Err error) = ([], Err error)
on_texts make header (Ok texts) = items_from (make texts.0) header.lines header.binary 1 texts.1

abbrev pub on_head : {X : Type 0} → Bool → (List Text → Makes X) → Option (Header × List ℕ) → ReadItems X
on_head only make None = ([], Err NoHeader)
on_head only make (Some head) = on_texts make head.0 (texts_from only head.0.distinct [] head.1)

-- the texts after a header, or none
abbrev pub head_list : Bool → Option (Header × List ℕ) → List Text
head_list only None = []
head_list only (Some head) = first_texts only head.0.distinct head.1

-- the dictionary of the first column of the bytes; empty if it can't be read
abbrev pub texts_at : Bool → List ℕ → List Text
texts_at only bytes = head_list only (head_of bytes)

-- the texts after a header that were read before the error, or none
abbrev pub head_before : Bool → Option (Header × List ℕ) → ColumnError → List Text
head_before only None error = []
head_before only (Some head) error = texts_before only head.0.distinct head.1 error

-- the items of the entries of the first column of the bytes, and the bytes after it; or the items before an
-- error. `make` is given the dictionary
abbrev pub read_column : {X : Type 0} → Bool → (List Text → Makes X) → List ℕ → ReadItems X
read_column only make bytes = on_head only make (head_of bytes)

-- why the first column of the bytes was not read. A new interner with this limit takes the texts before the error
abbrev pub IsColumnError : {X : Type 0} → Bool → (List Text → Makes X) → ℕ → List ℕ → ColumnError → Type 0
IsColumnError only make limit bytes (TextRefused number error) =
    (head : Header × List ℕ) × (head_of bytes ≡ Some head) × IsTextRefused only limit head.0.distinct head.1 number error
IsColumnError only make limit bytes NoHeader = HasNoHeader bytes
IsColumnError only make limit bytes error = ((read_column only make bytes).1 ≡ Err error) × Admits limit (line_texts (head_before only (head_of bytes) error))

-- the error says that the bytes, which begin with a column, end within it: before the end of the header line, of a text
-- or of an entry
abbrev pub IsCut : List ℕ → ColumnError → Type 0
IsCut bytes NoHeader = cut_line bytes ≡ None
IsCut bytes (NoText number) = Unit {0}
IsCut bytes (NoEntry number) = Unit {0}
IsCut bytes error = ⊥
