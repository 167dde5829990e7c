-- Blocks of a stream, and how encoding its lines ends.
use Rattle.std.specs.Prelude.{ℕ, ◌≡◌, ◌+◌, ◌-◌, length, All, Bool, true, false, List, [], ◌∷◌, ◌++◌, flat_map, Option, Some, Result, Ok, Err, Vec, slice_get, IfErr, IfSome, ◌⊎◌}
use Rattle.std.specs.IoError.{error_kind}
use Rattle.std.specs.declared.io.Error.{Error}
use Rattle.std.specs.declared.io.ErrorKind.TheVariants.{OutOfMemory}
use Rattle.hex.specs.Hex.{IsBytes}
use Rattle.lasso_parts.specs.Texts.{Text}
use Rattle.lasso_single.specs.Interner.{InternerView}
use Rattle.lasso_input.specs.Lines.{lines_of, NoFeed}
use Rattle.lasso_columns.specs.Blocks.{IsBlockToPut, StopsInRound}
use Rattle.lasso_columns.specs.Rows.{EncodesRows, StopsAtRow}
use Rattle.lasso_columns.specs.Texts.{texts_by}
use Rattle.lasso_columns.specs.declared.blocks.Block.{Block}
use Rattle.lasso_columns.specs.declared.line_texts.LineTexts.{LineTexts}
use Rattle.lasso_columns.specs.declared.line_texts.LineTexts.TheVariants.{Own, OfBytes}
use Rattle.lasso_columns.specs.declared.stream.StreamError.{StreamError}
use Rattle.lasso_columns.specs.declared.stream.StreamError.TheVariants.{Line, Read}

-- the lines of blocks, one block after another
abbrev pub lines_in : {A : Type 0} → List (Vec ℕ A) → List Text
lines_in blocks = flat_map (λ block. lines_of block.items) blocks

-- the lines of which none was read as a whole: a part of the first may have been read, without a line feed,
-- and the bytes after that part are left
abbrev pub AreUnread : Option (List ℕ) → List Text → Type 0
AreUnread left lines = (begun : List ℕ) × (rest : List ℕ) × (left ≡ Some rest) × NoFeed begun × (lines ≡ lines_of (begun ++ rest))

-- these lines follow: those of the bytes that are left; or none, at the end of the input; or, if a read failed,
-- all lines that were not read as a whole
abbrev pub Follow : {E : Type 0} → Result Bool E → Option (List ℕ) → List Text → Type 0
Follow (Ok true) left lines = (rest : List ℕ) × (left ≡ Some rest) × (lines ≡ lines_of rest)
Follow (Ok false) left lines = (left ≡ Some []) × (lines ≡ [])
Follow (Err error) left lines = AreUnread left lines

-- the first lines of known bytes were read as blocks, and whether more lines follow
abbrev pub ReadsBlocks : {A E : Type 0} → Option (List ℕ) → Option (List ℕ) → List (Vec ℕ A) → Result Bool E → Type 0
ReadsBlocks before after blocks more =
    (bytes : List ℕ) → before ≡ Some bytes → (lines : List Text) × (lines_of bytes ≡ lines_in blocks ++ lines) × Follow more after lines

-- the same of bytes after which `front` became `block`
abbrev pub ReadsLines : {E : Type 0} → Option (List ℕ) → Option (List ℕ) → List ℕ → List ℕ → Result Bool E → Type 0
ReadsLines before after front block more =
    (bytes : List ℕ) → before ≡ Some bytes → (lines : List Text) × (lines_of (front ++ bytes) ≡ lines_of block ++ lines) × Follow more after lines

-- the bytes are none, or end with a line feed
abbrev pub EndsLine : List ℕ → Type 0
EndsLine bytes = (bytes ≡ []) ⊎ ((front : List ℕ) × (bytes ≡ front ++ 10 ∷ []))

-- the bytes after the last line feed were removed
abbrev pub CutsLast : List ℕ → List ℕ → Type 0
CutsLast before after = (begun : List ℕ) × (before ≡ after ++ begun) × NoFeed begun × EndsLine after

-- what was made of the first blocks beside the list
abbrev pub AreBlocksFor : {A : Type 0} → Option Text → List Text → List (Vec ℕ A) → List (Option Block) → Type 0
AreBlocksFor {A} null list blocks made =
    (i : ℕ) (block : Block) (bytes : Vec ℕ A) → slice_get made i ≡ Some (Some block) → slice_get blocks i ≡ Some bytes
    → IsBlockToPut null list bytes.items block

-- what was made of the last block beside the list
abbrev pub IsLastFor : {A : Type 0} → Option Text → List Text → List (Vec ℕ A) → Option Block → Type 0
IsLastFor {A} null list blocks last =
    IfSome last (λ block. (bytes : Vec ℕ A) → slice_get blocks (length blocks - 1) ≡ Some bytes → IsBlockToPut null list bytes.items block)

-- what was made of the last block is after what was made of all others, or is left out
abbrev pub AddsLast : {A : Type 0} → List (Vec ℕ A) → List (Option Block) → Option Block → List (Option Block) → Type 0
AddsLast blocks made last all = (all ≡ made) ⊎ ((length made + 1 ≡ length blocks) × (all ≡ made ++ last ∷ []))

-- ---- lines that get texts

-- as `AreUnread`, if reading ended with this error. Of lines that are not their own texts, those that were read may be
-- left out too if the error is out of memory: memory may run out for their texts
abbrev pub AreUnreadBy : LineTexts → Error → Option (List ℕ) → List (List ℕ) → Type 0
AreUnreadBy Own error left lines = AreUnread left lines
AreUnreadBy (OfBytes only) error left lines = (error_kind error ≡ OutOfMemory) ⊎ AreUnread left lines

-- as `Follow`, with `AreUnreadBy`
abbrev pub FollowBy : LineTexts → Result Bool Error → Option (List ℕ) → List (List ℕ) → Type 0
FollowBy by (Ok true) left lines = (rest : List ℕ) × (left ≡ Some rest) × (lines ≡ lines_of rest)
FollowBy by (Ok false) left lines = (left ≡ Some []) × (lines ≡ [])
FollowBy by (Err error) left lines = AreUnreadBy by error left lines

-- the lines are lists of bytes, unless they are their own texts
abbrev pub AreBytesBy : LineTexts → List (List ℕ) → Type 0
AreBytesBy Own lines = Unit {0}
AreBytesBy (OfBytes only) lines = All IsBytes lines

-- as `ReadsBlocks`, of blocks of the texts of the first lines
abbrev pub ReadsTexts : {A : Type 0} → LineTexts → Option (List ℕ) → Option (List ℕ) → List (Vec ℕ A) → Result Bool Error → Type 0
ReadsTexts by before after blocks more =
    (bytes : List ℕ) → before ≡ Some bytes → (first : List (List ℕ)) × (lines : List (List ℕ)) × (lines_of bytes ≡ first ++ lines) × (lines_in blocks ≡ texts_by by first)
    × AreBytesBy by first × FollowBy by more after lines

-- if more lines follow, the first of them were read so as blocks
abbrev pub ReadsMore : {A : Type 0} → (follow : Result Bool Error) → LineTexts → (before after : Option (List ℕ)) → List (Vec ℕ A) → (more : Result Bool Error) → Type 0
ReadsMore follow by before after blocks more = follow ≡ Ok true → ReadsTexts by before after blocks more

-- blocks of lines became blocks of their texts: all, or memory ran out for those of the others, and that is the error
abbrev pub AllBecome : {A : Type 0} → LineTexts → List (Vec ℕ A) → Result Bool Error → List (Vec ℕ A) → Result Bool Error → Type 0
AllBecome by blocks more texts more' = (lines_in texts ≡ texts_by by (lines_in blocks)) × AreBytesBy by (lines_in blocks) × (more' ≡ more)

abbrev pub SomeBecome : {A : Type 0} → LineTexts → List (Vec ℕ A) → List (Vec ℕ A) → Result Bool Error → Type 0
SomeBecome {A} by blocks texts more =
    (first : List (List ℕ)) × (others : List (List ℕ)) × (lines_in blocks ≡ first ++ others) × (lines_in texts ≡ texts_by by first) × AreBytesBy by first × ((error : Error) × (more ≡ Err error) × (error_kind error ≡ OutOfMemory))

abbrev pub BecomeTexts : {A : Type 0} → LineTexts → List (Vec ℕ A) → Result Bool Error → List (Vec ℕ A) → Result Bool Error → Type 0
BecomeTexts Own blocks more texts more' = AllBecome Own blocks more texts more'
BecomeTexts (OfBytes only) blocks more texts more' = AllBecome (OfBytes only) blocks more texts more' ⊎ SomeBecome (OfBytes only) blocks texts more'

-- why the lines of a stream were not all encoded: the first ones were, and the next one has this fault; or
-- those were that were read as a whole, and a read failed
abbrev pub StopsInStream : {A : Type 0} → Option Text → InternerView → List Text → List ℕ → InternerView → Vec ℕ A → Option (List ℕ) → StreamError → Type 0
StopsInStream null old lines before new after left (Line error) = StopsAtRow null old lines before new after error
StopsInStream null old lines before new after left (Read error) = (rest : List Text) × EncodesRows null old lines rest before new after.items × AreUnread left rest

-- the same of the texts of lines. A fault is that of one of the first lines; or all of these were encoded, and a read
-- failed with this error or there was no memory
abbrev pub StopsBy : {A : Type 0} → LineTexts → Option Text → InternerView → List (List ℕ) → List (List ℕ) → List ℕ → InternerView → Vec ℕ A → Option (List ℕ) → StreamError → Type 0
StopsBy by null old first rest before new after left (Line error) = StopsAtRow null old (texts_by by first) before new after error
StopsBy by null old first rest before new after left (Read error) = EncodesRows null old (texts_by by first) [] before new after.items × AreUnreadBy by error left rest

abbrev pub StopsInStreamBy : {A : Type 0} → LineTexts → Option Text → InternerView → List (List ℕ) → List ℕ → InternerView → Vec ℕ A → Option (List ℕ) → StreamError → Type 0
StopsInStreamBy by null old lines before new after left error =
    (first : List (List ℕ)) × (rest : List (List ℕ)) × (lines ≡ first ++ rest) × AreBytesBy by first × StopsBy by null old first rest before new after left error

-- how the last round of a call ends: a line of its blocks has this fault; or all of their lines were encoded, and if a
-- read failed after them, the error is that of the read
abbrev pub EndsRound : {A : Type 0} → Option Text → InternerView → List Text → Result Bool Error → List ℕ → InternerView → Vec ℕ A → ℕ → StreamError → Type 0
EndsRound null old lines more before new after start (Line error) = StopsInRound null old lines before new after start error
EndsRound null old lines more before new after start (Read error) =
    EncodesRows null old lines [] before new after.items × IfErr more (λ failed. error ≡ failed)
