-- What C sees of how a call ended: a number, and a report.
use Rattle.std.specs.Prelude.{ℕ, ◌≡◌, List, nat_eq, if◌then◌else◌, Result, Ok, Err, codes}
use Rattle.lasso_c.specs.declared.error.Sizes.{Sizes}
use Rattle.lasso_c.specs.declared.error.LassoReport.{LassoReport}
use Rattle.lasso_c.specs.declared.error.CallError.{CallError}
use Rattle.lasso_c.specs.declared.status.TheConstants.{DONE, OFFSETS_FALL, OFFSET_PAST_BYTES, NOT_UTF8, NO_SUCH_CODE, TOO_MANY_BYTES, CODES_TOO_SHORT, OFFSETS_TOO_SHORT, BYTES_TOO_SHORT, NO_MEMORY, LIMIT_REACHED, NO_CODE_LEFT, NO_INTERNER, NO_SUCH_TEXT, BITMAP_TOO_SHORT, BUSY, OTHER_HANDLES, FROZEN}
use Rattle.lasso_c.specs.declared.error.CallError.TheVariants.{OffsetsFall, OffsetPastBytes, NotUtf8, NoSuchCode, TooManyBytes, CodesTooShort, OffsetsTooShort, BytesTooShort, NoMemory, LimitReached, NoCodeLeft, NoInterner, NoSuchText, BitmapTooShort}

-- a number of its own for each kind of refusal
abbrev pub error_status : CallError → ℕ
error_status (OffsetsFall _) = OFFSETS_FALL
error_status (OffsetPastBytes _) = OFFSET_PAST_BYTES
error_status (NotUtf8 _) = NOT_UTF8
error_status (NoSuchCode _) = NO_SUCH_CODE
error_status (TooManyBytes _) = TOO_MANY_BYTES
error_status (CodesTooShort _) = CODES_TOO_SHORT
error_status (OffsetsTooShort _) = OFFSETS_TOO_SHORT
error_status (BytesTooShort _) = BYTES_TOO_SHORT
error_status NoMemory = NO_MEMORY
error_status (LimitReached _) = LIMIT_REACHED
error_status (NoCodeLeft _) = NO_CODE_LEFT
error_status NoInterner = NO_INTERNER
error_status NoSuchText = NO_SUCH_TEXT
error_status (BitmapTooShort _) = BITMAP_TOO_SHORT

-- the status of how a call ended: that of a call that was done, or the number of the refusal, as
-- `src/status.rt` names them
abbrev pub outcome_status : {X : Type 0} → Result X CallError → ℕ
outcome_status (Ok _) = DONE
outcome_status (Err refusal) = error_status refusal

-- a report of sizes alone
abbrev pub sizes_report : Sizes → LassoReport
sizes_report sizes = record { texts = sizes.texts; bytes = sizes.bytes; at = 0 }

-- a report of a position alone
abbrev pub position_report : ℕ → LassoReport
position_report at = record { texts = 0; bytes = 0; at = at }

-- the sizes that were written or are needed, or the position of the text or code that was refused
abbrev pub outcome_report : Result Sizes CallError → LassoReport
outcome_report (Ok sizes) = sizes_report sizes
outcome_report (Err (OffsetsFall at)) = position_report at
outcome_report (Err (OffsetPastBytes at)) = position_report at
outcome_report (Err (NotUtf8 at)) = position_report at
outcome_report (Err (NoSuchCode at)) = position_report at
outcome_report (Err (TooManyBytes at)) = position_report at
outcome_report (Err (CodesTooShort sizes)) = sizes_report sizes
outcome_report (Err (OffsetsTooShort sizes)) = sizes_report sizes
outcome_report (Err (BytesTooShort sizes)) = sizes_report sizes
outcome_report (Err NoMemory) = position_report 0
outcome_report (Err (LimitReached at)) = position_report at
outcome_report (Err (NoCodeLeft at)) = position_report at
outcome_report (Err NoInterner) = position_report 0
outcome_report (Err NoSuchText) = position_report 0
outcome_report (Err (BitmapTooShort at)) = position_report at

-- a status and a report are those of how a call ended
abbrev pub Reports : Result Sizes CallError → ℕ → LassoReport → Type 0
Reports outcome status report = (status ≡ outcome_status outcome) × (report ≡ outcome_report outcome)

-- what a status means
abbrev pub status_text : ℕ → List ℕ
status_text status =
    if nat_eq status DONE then codes "done"
    else if nat_eq status OFFSETS_FALL then codes "an offset is below the one before it"
    else if nat_eq status OFFSET_PAST_BYTES then codes "an offset lies past the bytes"
    else if nat_eq status NOT_UTF8 then codes "a text is not UTF-8"
    else if nat_eq status NO_SUCH_CODE then codes "the dictionary has no text for a code"
    else if nat_eq status TOO_MANY_BYTES then codes "the texts have more bytes than offsets can tell"
    else if nat_eq status CODES_TOO_SHORT then codes "there is no room for the codes"
    else if nat_eq status OFFSETS_TOO_SHORT then codes "there is no room for the offsets"
    else if nat_eq status BYTES_TOO_SHORT then codes "there is no room for the bytes"
    else if nat_eq status NO_MEMORY then codes "there is no memory"
    else if nat_eq status LIMIT_REACHED then codes "the limit leaves no room for a text"
    else if nat_eq status NO_CODE_LEFT then codes "there is a text for each code"
    else if nat_eq status NO_INTERNER then codes "there is no interner"
    else if nat_eq status NO_SUCH_TEXT then codes "the interner does not have the text"
    else if nat_eq status BITMAP_TOO_SHORT then codes "a bitmap has no bit for a row"
    else if nat_eq status BUSY then codes "another thread is in the way"
    else if nat_eq status OTHER_HANDLES then codes "the interner has other handles"
    else if nat_eq status FROZEN then codes "the interner is frozen"
    else codes "not a status"
