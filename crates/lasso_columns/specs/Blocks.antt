-- Lines of a block that are encoded beside a list.
use Rattle.std.specs.Prelude.{ℕ, ◌≡◌, ◌==◌, ◌||◌, ◌+◌, ◌-◌, ◌<◌, ◌≤◌, Bool, true, false, List, [], ◌∷◌, ◌++◌, length, take, map, All, Option, Some, None, Result, Ok, Err, IfSome, Vec, slice_get, slice_index_or, nat_lt, if◌then◌else◌}
use Rattle.std.specs.Str.{IsUtf8}
use Rattle.lasso_parts.specs.Texts.{Text, position_of}
use Rattle.lasso_parts.specs.declared.util.LassoError.{LassoError}
use Rattle.lasso_single.specs.Interner.{InternerView}
use Rattle.lasso_input.specs.Lines.{lines_of}
use Rattle.lasso_columns.specs.Parts.{new_texts}
use Rattle.lasso_columns.specs.Rows.{texts_of, AreEntries, EncodesRows, IsRowFault}
use Rattle.lasso_columns.specs.declared.blocks.Block.{Block}
use Rattle.lasso_columns.specs.declared.faults.LineError.{LineError}
use Rattle.lasso_columns.specs.declared.faults.LineError.TheVariants.{Refused, NotText}

-- the texts are all lines; or they are the first lines, and the next line is not UTF-8
abbrev pub AreTextLines : Bool → List Text → List Text → Type 0
AreTextLines true texts lines = All IsUtf8 texts × (lines ≡ texts)
AreTextLines false texts lines = All IsUtf8 texts × ((line : Text) × (more : List Text) × (lines ≡ texts ++ line ∷ more) × ¬ (IsUtf8 line))

-- the lines were encoded beside the list, up to the first that is not UTF-8: `added` has the texts that the
-- list lacks, and the entries are those in the list, followed by `added`
pub record IsBlock (null : Option Text) (list lines added : List Text) (entries : List ℕ) (is_complete : Bool) : Type 0 where
  pub done : List Text
  pub lines_are : AreTextLines is_complete done lines
  pub added_are : added ≡ new_texts list (texts_of null done)
  pub entries_are : AreEntries null (list ++ added) done entries

-- the block is that of the lines of these bytes, encoded beside the list
abbrev pub IsBlockOf : Option Text → (list : List Text) → (bytes : List ℕ) → Block → Type 0
IsBlockOf null list bytes block = IsBlock null list (lines_of bytes) block.added block.entries.items block.is_complete

-- the same, and the block keeps how many texts the list has
abbrev pub IsBlockBeside : Option Text → (list : List Text) → (bytes : List ℕ) → Block → Type 0
IsBlockBeside null list bytes block = IsBlockOf null list bytes block × (block.base ≡ length list)

-- so it is of the bytes at this position of the list of blocks
abbrev pub IsBlockAt : {A : Type 0} → Option Text → (list : List Text) → (blocks : List (Vec ℕ A)) → (position : ℕ) → Block → Type 0
IsBlockAt {A} null list blocks position block = (e : Vec ℕ A) → IsBlockBeside null list (slice_index_or blocks position e).items block

-- the text went last, unless one of both lists has it, and the code is its position in both, one after the
-- other
abbrev pub IsCodedBeside : List Text → List Text → Text → List Text → ℕ → Type 0
IsCodedBeside list old text new code =
    (new ≡ old ++ new_texts (list ++ old) (text ∷ [])) × (position_of (list ++ new) text ≡ Some code) × (code < 4294967295)

-- the same of a text that is no null; a null changes nothing
abbrev pub IsRowBeside : Bool → List Text → List Text → Text → List Text → ℕ → Type 0
IsRowBeside true list old text new entry = (new ≡ old) × (entry ≡ 4294967295)
IsRowBeside false list old text new entry = IsCodedBeside list old text new entry

-- the text went last unless the list has it, and the code is its position in the list, plus `base`
abbrev pub IsAddedAt : ℕ → List Text → Text → List Text → ℕ → Type 0
IsAddedAt base old text new code =
    (new ≡ old ++ new_texts old (text ∷ [])) × ((n : ℕ) × (position_of new text ≡ Some n) × (code ≡ base + n)) × (code < 4294967295)

-- ---- blocks that are put into a list

-- the lines were encoded so beside a list that had these first `base` texts
abbrev pub IsBlockFor : Option Text → List Text → List Text → ℕ → List Text → List ℕ → Bool → Type 0
IsBlockFor null list lines base added entries is_complete =
    (base ≤ length list) × IsBlock null (take base list) lines added entries is_complete

-- the same of the lines of these bytes, by what the block has
abbrev pub IsBlockToPut : Option Text → (list : List Text) → (bytes : List ℕ) → Block → Type 0
IsBlockToPut null list bytes block = IsBlockFor null list (lines_of bytes) block.base block.added block.entries.items block.is_complete

-- an entry after the added texts were interned: those of nulls and of the first `base` texts stay, and the
-- others are rewritten by the table of the new codes
abbrev pub placed : ℕ → List ℕ → ℕ → Option ℕ
placed base table entry =
    if (entry == 4294967295) || nat_lt entry base then Some entry else slice_get table (entry - base)

-- the entries were appended so, up to the first that the table lacks
abbrev pub AddsPlaced : ℕ → List ℕ → List ℕ → List ℕ → List ℕ → Type 0
AddsPlaced base table part before after =
    (put : List ℕ) × (after ≡ before ++ put) × (map (placed base table) (take (length put) part) ≡ map Some put)
    × IfSome (slice_get part (length put)) (λ entry. placed base table entry ≡ None)

-- how a block ends after its added texts were interned: they were all interned, and all its lines are UTF-8; or
-- the line of this number is not UTF-8; or its text was refused
abbrev pub block_end : Result (Unit {0}) LassoError → Bool → ℕ → Result (Unit {0}) LineError
block_end (Ok _) true number = Ok tt
block_end (Ok _) false number = Err (NotText number)
block_end (Err error) is_complete number = Err (Refused number error)

-- the same error of the line with this number
abbrev pub numbered : LineError → ℕ → LineError
numbered (Refused at error) number = Refused number error
numbered (NotText at) number = NotText number

-- the first lines were encoded as rows, and the next one has this fault; its number is counted from the line
-- after the first `start` entries
abbrev pub StopsInRound : {A : Type 0} → Option Text → InternerView → List Text → List ℕ → InternerView → Vec ℕ A → ℕ → LineError → Type 0
StopsInRound null old lines before new after start error =
    (line : Text) × (rest : List Text) × EncodesRows null old lines (line ∷ rest) before new after.items
    × IsRowFault null new after line (length after.items - start + 1) error
