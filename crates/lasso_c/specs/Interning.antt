-- What interning a text, or the rows of a column, leaves of an interner, and how it ends.
use Rattle.std.specs.Prelude.{ℕ, ◌≡◌, ◌+◌, ◌-◌, ◌*◌, ◌^◌, ◌⊎◌, Bool, true, false, List, length, take, slice_get, slice_index, nat_lt, if◌then◌else◌, Option, None, Some, Result, Ok, Err}
use Rattle.std.specs.List.{slice_range}
use Rattle.lasso_parts.specs.Kept.{kept_at}
use Rattle.lasso_parts.specs.Texts.{Text}
use Rattle.lasso_parts.specs.declared.util.LassoError.{LassoError}
use Rattle.lasso_parts.specs.declared.util.LassoErrorKind.TheVariants.{MemoryLimitReached, KeySpaceExhaustion, FailedAllocation}
use Rattle.lasso_single.specs.Filling.{extend}
use Rattle.lasso_single.specs.Intern.{InternsIn, InternsStaticIn}
use Rattle.lasso_single.specs.Interner.{InternerView, made_with}
use Rattle.lasso_c.specs.Bitmap.{bits_fit, present_at}
use Rattle.lasso_parts.specs.Layout.{layout_texts}
use Rattle.lasso_c.specs.Layout.{start_fault, text_fault, null_fault, column_fault, column_rows, present_texts}
use Rattle.lasso_c.specs.Decoding.{nothing}
use Rattle.lasso_c.specs.Status.{Reports, outcome_status, outcome_report}
use Rattle.lasso_c.specs.declared.error.LassoReport.{LassoReport}
use Rattle.lasso_c.specs.declared.error.CallError.{CallError}
use Rattle.lasso_c.specs.declared.error.CallError.TheVariants.{CodesTooShort, BitmapTooShort, LimitReached, NoCodeLeft, NoMemory, NoInterner}
use Rattle.lasso_c.specs.Seeded.{Interner}
use Rattle.lasso_c.specs.declared.status.TheConstants.{NO_INTERNER, NOT_UTF8}

-- the key of a code, which is one more
abbrev pub key_of_code : ℕ → Option ℕ
key_of_code = kept_at 4294967295

-- a new dictionary: its first bucket has 4096 bytes, and it has the greatest limit
abbrev pub new_dictionary : InternerView
new_dictionary = made_with 4096 (2 ^ 64 - 1)

-- the error that C gets when an interner refuses the text of this number in a batch
abbrev pub refusal_at : ℕ → LassoError → CallError
refusal_at at MemoryLimitReached = LimitReached at
refusal_at at KeySpaceExhaustion = NoCodeLeft at
refusal_at at FailedAllocation = NoMemory

-- an interner interns the text of this number and gives its code, or refuses it
abbrev pub InternsCode : ℕ → InternerView → Text → Result ℕ CallError → InternerView → Type 0
InternsCode at old text (Ok code) new = InternsIn {K = ℕ} key_of_code old text (Ok (code + 1)) new
InternsCode at old text (Err refusal) new = (error : LassoError) × InternsIn {K = ℕ} key_of_code old text (Err error) new × (refusal ≡ refusal_at at error)

-- an interner interns the text of this number, as `InternsCode` says, unless something is wrong with the text: then
-- that is the outcome, and nothing changes
abbrev pub InternsUnless : Option CallError → ℕ → InternerView → Text → Result ℕ CallError → InternerView → Type 0
InternsUnless None at old text outcome new = InternsCode at old text outcome new
InternsUnless (Some refusal) at old text outcome new = (outcome ≡ Err refusal) × (new ≡ old)

-- the code of a null, unless something is wrong with it
abbrev pub null_outcome : Option CallError → ℕ → Result ℕ CallError
null_outcome None null = Ok null
null_outcome (Some refusal) null = Err refusal

-- a row of this number between two offsets: it is interned if it is present, and a null changes nothing
abbrev pub InternsRow : ℕ → Bool → ℕ → List ℕ → ℕ → ℕ → ℕ → InternerView → Result ℕ CallError → InternerView → Type 0
InternsRow greatest true null bytes at from to old outcome new = InternsUnless (text_fault greatest bytes at from to) at old (slice_range bytes from to) outcome new
InternsRow greatest false null bytes at from to old outcome new = (outcome ≡ null_outcome (null_fault greatest bytes at from to) null) × (new ≡ old)

-- the row of this number of a column is interned, or refused
abbrev pub InternsNext : ℕ → List ℕ → ℕ → List ℕ → List ℕ → ℕ → InternerView → Result ℕ CallError → InternerView → Type 0
InternsNext greatest bits null bytes offsets at old outcome new = InternsRow greatest (present_at bits at) null bytes at (slice_index offsets at) (slice_index offsets (at + 1)) old outcome new

-- why interning a column ends after its first `done` rows: no row is left; or the column is wrong there, for
-- the first time; or the interner refuses the next text, up to whose end the column is good, and nothing
-- changes
abbrev pub EndsAfter : ℕ → List ℕ → List ℕ → List ℕ → ℕ → InternerView → Result (Unit {0}) CallError → Type 0
EndsAfter greatest bits bytes offsets done interner (Ok _) = (column_fault greatest bits bytes offsets ≡ None) × (done ≡ length (layout_texts bytes offsets))
EndsAfter greatest bits bytes offsets done interner (Err refusal) =
    ((column_fault greatest bits bytes offsets ≡ Some refusal) × ((outcome_report (Err refusal)).at ≡ done))
    ⊎ ((column_fault greatest bits bytes (take (done + 2) offsets) ≡ None) × ((text : Text) × (slice_get (column_rows bits bytes offsets) done ≡ Some (Some text)) × InternsCode done interner text (Err refusal) interner))

-- why a batch of that first offset and this number of rows is refused before its first row, or nothing
abbrev pub batch_start_fault : ℕ → List ℕ → List ℕ → ℕ → ℕ → ℕ → Option CallError
batch_start_fault greatest bits bytes first rows room =
    if nat_lt room rows then Some (CodesTooShort nothing)
    else if bits_fit bits rows then start_fault greatest bytes first
    else Some (BitmapTooShort (8 * length bits))

-- the texts of the first `done` rows of a column are interned in order, and then it ends
pub record InternsColumn (greatest : ℕ) (bits bytes offsets : List ℕ) (done : ℕ) (old : InternerView) (outcome : Result (Unit {0}) CallError) (new : InternerView) : Type 0 where
  pub before : extend {K = ℕ} key_of_code old (present_texts (take done (column_rows bits bytes offsets))) (Ok tt) new
  pub ends : EndsAfter greatest bits bytes offsets done new outcome

-- a batch is interned as `InternsColumn` says, unless the codes or the bitmap are too short: then no row is
-- done, and nothing changes
abbrev pub InternsRoomed : ℕ → Bool → Bool → List ℕ → List ℕ → List ℕ → ℕ → InternerView → Result (Unit {0}) CallError → InternerView → Type 0
InternsRoomed greatest true fits bits bytes offsets done old outcome new = (done ≡ 0) × (outcome ≡ Err (CodesTooShort nothing)) × (new ≡ old)
InternsRoomed greatest false false bits bytes offsets done old outcome new = (done ≡ 0) × (outcome ≡ Err (BitmapTooShort (8 * length bits))) × (new ≡ old)
InternsRoomed greatest false true bits bytes offsets done old outcome new = InternsColumn greatest bits bytes offsets done old outcome new

-- a batch is interned with room for this number of codes
abbrev pub InternsPart : ℕ → ℕ → List ℕ → List ℕ → List ℕ → ℕ → InternerView → Result (Unit {0}) CallError → InternerView → Type 0
InternsPart greatest room bits bytes offsets done old outcome new =
    let rows = length (layout_texts bytes offsets) in
    InternsRoomed greatest (nat_lt room rows) (bits_fit bits rows) bits bytes offsets done old outcome new

-- a batch is interned as `InternsPart` says, with room for the codes that this buffer holds
abbrev pub InternsInto : ℕ → (codes : List ℕ) → List ℕ → List ℕ → List ℕ → ℕ → InternerView → Result (Unit {0}) CallError → InternerView → Type 0
InternsInto greatest codes bits bytes offsets done old outcome new = InternsPart greatest (length codes) bits bytes offsets done old outcome new

-- what a batch reports: how many of its rows were done, and the number of the refused one
abbrev pub batch_report : ℕ → Result (Unit {0}) CallError → LassoReport
batch_report done (Ok _) = record { texts = done; bytes = 0; at = 0 }
batch_report done (Err _) = record { texts = done; bytes = 0; at = done }

-- how a batch ends on a handle, which has this bitmap or none: its status and report, and what the handle
-- holds. Its first texts were interned one after another, as many as the report says, and then it ended as
-- `EndsAfter` says
abbrev pub BatchEnds : ℕ → Option Interner → List ℕ → List ℕ → List ℕ → ℕ → ℕ → LassoReport → Option Interner → Type 0
BatchEnds greatest None bits bytes offsets room status report new = Reports (Err NoInterner) status report × (new ≡ None)
BatchEnds greatest (Some old) bits bytes offsets room status report new =
    (interner : Interner) × (outcome : Result (Unit {0}) CallError) × (new ≡ Some interner) × InternsPart greatest room bits bytes offsets report.texts old.rodeo outcome interner.rodeo
    × (status ≡ outcome_status outcome) × (report ≡ batch_report report.texts outcome)

-- how a batch ends on a handle, as `BatchEnds` says, with room for the codes that this buffer holds
abbrev pub ColumnEnds : ℕ → Option Interner → List ℕ → List ℕ → List ℕ → (codes : List ℕ) → ℕ → LassoReport → Option Interner → Type 0
ColumnEnds greatest old bits bytes offsets codes status report new = BatchEnds greatest old bits bytes offsets (length codes) status report new

-- how interning one text ends on a handle: its status, and what the handle holds, as `InternsIn` of
-- `lasso_single` says
abbrev pub TextInterned : Option Interner → Text → ℕ → Option Interner → Type 0
TextInterned None text status new = (status ≡ NO_INTERNER) × (new ≡ None)
TextInterned (Some old) text status new =
    (interner : Interner) × (outcome : Result ℕ CallError) × (new ≡ Some interner) × InternsCode 0 old.rodeo text outcome interner.rodeo × (status ≡ outcome_status outcome)

-- how interning one text ends on a handle, as `TextInterned` says, unless the bytes are not UTF-8: then the status
-- is `NOT_UTF8`, and nothing changes
abbrev pub TextEnds : Bool → Option Interner → Text → ℕ → Option Interner → Type 0
TextEnds true old text status new = TextInterned old text status new
TextEnds false old text status new = (status ≡ NOT_UTF8) × (new ≡ old)

-- an interner interns a static text and gives its code, or refuses it
abbrev pub InternsStaticCode : InternerView → Text → Result ℕ CallError → InternerView → Type 0
InternsStaticCode old text (Ok code) new = InternsStaticIn {K = ℕ} key_of_code old text (Ok (code + 1)) new
InternsStaticCode old text (Err refusal) new = (error : LassoError) × InternsStaticIn {K = ℕ} key_of_code old text (Err error) new × (refusal ≡ refusal_at 0 error)

-- how interning one static text ends on a handle: its status, and what the handle holds, as `InternsStaticIn` of
-- `lasso_single` says
abbrev pub StaticInterned : Option Interner → Text → ℕ → Option Interner → Type 0
StaticInterned None text status new = (status ≡ NO_INTERNER) × (new ≡ None)
StaticInterned (Some old) text status new =
    (interner : Interner) × (outcome : Result ℕ CallError) × (new ≡ Some interner) × InternsStaticCode old.rodeo text outcome interner.rodeo × (status ≡ outcome_status outcome)

-- how interning one static text ends on a handle, as `StaticInterned` says, unless the bytes are not UTF-8: then the
-- status is `NOT_UTF8`, and nothing changes
abbrev pub StaticEnds : Bool → Option Interner → Text → ℕ → Option Interner → Type 0
StaticEnds true old text status new = StaticInterned old text status new
StaticEnds false old text status new = (status ≡ NOT_UTF8) × (new ≡ old)
