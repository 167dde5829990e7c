-- What the result of a call says of the failed calls, and that of a run after its last flush.
--
-- A call that only reads doesn't end with a failed write, and one that only writes not with a failed read.
-- If the run had ended at a failed write, nothing is flushed. Else the writer counts at most the flush, which is
-- a failed write exactly if the run then ends with one.
use Rattle.std.proofs.Common.{ℕ, ◌≡◌, ◌+◌, ◌≤◌, ◌⊎◌, List, Option, Result, Ok, Err, IfErr, refl, sym, ap, subst, ◌∙◌, arith, inl, inr}
use Rattle.lasso_parts.specs.declared.util.LassoErrorKind.TheVariants.{FailedAllocation}
use Rattle.lasso_columns.specs.declared.faults.LineError.{LineError}
use Rattle.lasso_columns.specs.declared.faults.LineError.TheVariants.{Refused}
use Rattle.lasso_codes.specs.Errors.{failed_reads, failed_writes, gone_readers, FailsWriting, IsDataError, IsInputError, IsOutputError, IsReadError, IsWriteError, IsWriteEnd}
use Rattle.lasso_codes.specs.Reading.{HeaderError}
use Rattle.lasso_codes.specs.Streams.{WritesAll}
use Rattle.lasso_codes.specs.Views.{InputView, OutputView}
use Rattle.lasso_codes.specs.declared.error.RunError.{RunError}
use Rattle.lasso_codes.specs.declared.error.RunError.TheVariants.{Line, TooManyLines, ReadFailed, WriteFailed, ReaderGone, Column}

-- ---- the errors of failed reads and of failed writes

-- a read failed, or there was no memory for the line
pub by_read_error : (P : RunError → Type 0) (number : ℕ) (error : RunError) → IsReadError number error → P (Line (Refused number FailedAllocation)) → P ReadFailed → P error
by_read_error P number (Line error) is full failed = subst (λ (e : LineError). P (Line e)) (sym is) full
by_read_error P number TooManyLines is full failed = absurd is
by_read_error P number ReadFailed is full failed = failed
by_read_error P number WriteFailed is full failed = absurd is
by_read_error P number ReaderGone is full failed = absurd is
by_read_error P number (Column column error) is full failed = absurd is

-- a write failed, or the reader is gone
pub by_write_error : (P : RunError → Type 0) (error : RunError) → IsWriteError error → P WriteFailed → P ReaderGone → P error
by_write_error P (Line error) is failed gone = absurd is
by_write_error P TooManyLines is failed gone = absurd is
by_write_error P ReadFailed is failed gone = absurd is
by_write_error P WriteFailed is failed gone = failed
by_write_error P ReaderGone is failed gone = gone
by_write_error P (Column column error) is failed gone = absurd is

pub by_write_end : (P : Result (Unit {0}) RunError → Type 0) (result : Result (Unit {0}) RunError) → IsWriteEnd result → P (Err WriteFailed) → P (Err ReaderGone) → P result
by_write_end P (Ok x) is failed gone = absurd is
by_write_end P (Err error) is failed gone = by_write_error (λ e. P (Err e)) error is failed gone

-- ---- errors of calls that only read, only write, or do neither

pub read_input : (number : ℕ) (error : RunError) → IsReadError number error → IsInputError error
read_input number error is = by_read_error IsInputError number error is tt tt

pub write_output : (error : RunError) → IsWriteError error → IsOutputError error
write_output error is = by_write_error IsOutputError error is tt tt

pub header_input : (before after : Option (List ℕ)) (column : ℕ) (error : RunError) → HeaderError before after column error → IsInputError error
header_input before after column error (inl is) = read_input 0 error is.0
header_input before after column error (inr is) = subst IsInputError (sym is.0) tt

pub input_no_write : (error : RunError) → IsInputError error → failed_writes {X = Unit {0}} (Err error) ≡ 0
input_no_write (Line fault) is = refl
input_no_write TooManyLines is = refl
input_no_write ReadFailed is = refl
input_no_write WriteFailed is = absurd is
input_no_write ReaderGone is = absurd is
input_no_write (Column column fault) is = refl

pub input_none_gone : (error : RunError) → IsInputError error → gone_readers {X = Unit {0}} (Err error) ≡ 0
input_none_gone (Line fault) is = refl
input_none_gone TooManyLines is = refl
input_none_gone ReadFailed is = refl
input_none_gone WriteFailed is = refl
input_none_gone ReaderGone is = absurd is
input_none_gone (Column column fault) is = refl

pub output_no_read : (error : RunError) → IsOutputError error → failed_reads {X = Unit {0}} (Err error) ≡ 0
output_no_read (Line fault) is = refl
output_no_read TooManyLines is = refl
output_no_read ReadFailed is = absurd is
output_no_read WriteFailed is = refl
output_no_read ReaderGone is = refl
output_no_read (Column column fault) is = refl

-- such an error is not that of a failed read
pub output_not_read : (error : RunError) → IsOutputError error → error ≡ ReadFailed → ⊥
output_not_read error is same = subst IsOutputError same is

pub data_not_read : (error : RunError) → IsDataError error → error ≡ ReadFailed → ⊥
data_not_read error is same = subst IsDataError same is

pub written_output : (bytes part : List ℕ) (error : RunError) → WritesAll bytes (Err error) part → IsOutputError error
written_output bytes part error written = write_output error written.0

pub written_no_read : (bytes part : List ℕ) (result : Result (Unit {0}) RunError) → WritesAll bytes result part → failed_reads result ≡ 0
written_no_read bytes part (Ok x) written = refl
written_no_read bytes part (Err error) written = output_no_read error (written_output bytes part error written)

-- ---- runs

abbrev Ended : Type 0
Ended = Result (Unit {0}) RunError

write_or_not : (result : Ended) → IsWriteEnd result ⊎ (¬ (IsWriteEnd result))
write_or_not (Ok x) = inr (λ is. absurd is)
write_or_not (Err (Line error)) = inr (λ is. absurd is)
write_or_not (Err TooManyLines) = inr (λ is. absurd is)
write_or_not (Err ReadFailed) = inr (λ is. absurd is)
write_or_not (Err WriteFailed) = inl tt
write_or_not (Err ReaderGone) = inl tt
write_or_not (Err (Column column error)) = inr (λ is. absurd is)

pub no_read : (result : Ended) → IsWriteEnd result → failed_reads result ≡ 0
no_read result is = by_write_end (λ (r : Ended). failed_reads r ≡ 0) result is refl refl

pub no_write : (result : Ended) → ¬ (IsWriteEnd result) → failed_writes result ≡ 0
no_write (Ok x) none_wrote = refl
no_write (Err (Line error)) none_wrote = refl
no_write (Err TooManyLines) none_wrote = refl
no_write (Err ReadFailed) none_wrote = refl
no_write (Err WriteFailed) none_wrote = absurd (none_wrote tt)
no_write (Err ReaderGone) none_wrote = absurd (none_wrote tt)
no_write (Err (Column column error)) none_wrote = refl

pub none_gone : (result : Ended) → ¬ (IsWriteEnd result) → gone_readers result ≡ 0
none_gone (Ok x) none_wrote = refl
none_gone (Err (Line error)) none_wrote = refl
none_gone (Err TooManyLines) none_wrote = refl
none_gone (Err ReadFailed) none_wrote = refl
none_gone (Err WriteFailed) none_wrote = absurd (none_wrote tt)
none_gone (Err ReaderGone) none_wrote = absurd (none_wrote tt)
none_gone (Err (Column column error)) none_wrote = refl

-- ---- the counts after the last flush

pub reads_end : (before after : ℕ) (ended result : Ended) → after ≡ before + failed_reads ended → (result ≡ ended) ⊎ IsWriteEnd result → IfErr ended (λ error. (result ≡ Err error) ⊎ (result ≡ Err WriteFailed)) → ¬ (result ≡ Err WriteFailed) → after ≡ before + failed_reads result
reads_end before after ended result count (inl same) kept none_wrote = subst (λ (r : Ended). after ≡ before + failed_reads r) (sym same) count
reads_end before after (Ok x) result count (inr is) kept none_wrote = count ∙ ap (λ n. before + n) (sym (no_read result is))
reads_end before after (Err error) result count (inr is) (inl same) none_wrote = subst (λ (r : Ended). after ≡ before + failed_reads r) (sym same) count
reads_end before after (Err error) result count (inr is) (inr same) none_wrote = absurd (none_wrote same)

module _ (before mid after : OutputView) (ended result : Ended) (none : IsWriteEnd ended → (result ≡ ended) × (after ≡ mid)) where
  pub writes_end : mid.failures ≡ before.failures + failed_writes ended → (¬ (IsWriteEnd ended) → after.failures ≡ mid.failures + failed_writes result) → after.failures ≡ before.failures + failed_writes result
  writes_end count flushed = either (write_or_not ended)
    where
      either : IsWriteEnd ended ⊎ (¬ (IsWriteEnd ended)) → after.failures ≡ before.failures + failed_writes result
      either (inl is) = let told = none is in ap (λ (v : OutputView). v.failures) told.1 ∙ count ∙ ap (λ (r : Ended). before.failures + failed_writes r) (sym told.0)
      either (inr none_wrote) = let now = flushed none_wrote in let nothing = no_write ended none_wrote in omega (arith, now, count, nothing)

  pub gone_end : mid.gone ≡ before.gone + gone_readers ended → (¬ (IsWriteEnd ended) → ¬ (result ≡ Err WriteFailed) → after.gone ≡ mid.gone + gone_readers result) → ¬ (result ≡ Err WriteFailed) → after.gone ≡ before.gone + gone_readers result
  gone_end count flushed other = either (write_or_not ended)
    where
      either : IsWriteEnd ended ⊎ (¬ (IsWriteEnd ended)) → after.gone ≡ before.gone + gone_readers result
      either (inl is) = let told = none is in ap (λ (v : OutputView). v.gone) told.1 ∙ count ∙ ap (λ (r : Ended). before.gone + gone_readers r) (sym told.0)
      either (inr none_wrote) = let now = flushed none_wrote other in let nothing = none_gone ended none_wrote in omega (arith, now, count, nothing)

-- a run that ends with a failed write: it was the first error, or another one came before the last flush
module _ (read read' : InputView) (before mid after : OutputView) (result : Ended) (P : RunError → Type 0) (failed : result ≡ Err WriteFailed) where
  later : (ended : Ended) (error : RunError) → ended ≡ Err error → ¬ (IsWriteError error) → gone_readers ended ≡ 0 → read'.failures ≡ read.failures + failed_reads ended → mid.gone ≡ before.gone + gone_readers ended → after.gone ≤ mid.gone + 1 → P error → FailsWriting read read' before after P
  later ended error is other none reads gone most told = inr (error, other, subst (λ (r : Ended). read'.failures ≡ read.failures + failed_reads r) is reads, omega (arith, none, gone, most), told)

  pub fails_writing : (ended : Ended) → (IsWriteEnd ended → (result ≡ ended) × (after ≡ mid)) → read'.failures ≡ read.failures + failed_reads ended → mid.gone ≡ before.gone + gone_readers ended → (ended ≡ Ok tt → after.gone ≡ mid.gone + gone_readers result) → after.gone ≤ mid.gone + 1 → ((error : RunError) → ended ≡ Err error → P error) → FailsWriting read read' before after P
  fails_writing (Ok x) none reads gone alone most told =
      let last = alone refl in
      let whole : gone_readers result ≡ 0 = ap gone_readers failed in
      inl (omega (arith, reads), omega (arith, last, gone, whole))
  fails_writing (Err (Line error)) none reads gone alone most told = later (Err (Line error)) (Line error) refl (λ is. absurd is) refl reads gone most (told (Line error) refl)
  fails_writing (Err TooManyLines) none reads gone alone most told = later (Err TooManyLines) TooManyLines refl (λ is. absurd is) refl reads gone most (told TooManyLines refl)
  fails_writing (Err ReadFailed) none reads gone alone most told = later (Err ReadFailed) ReadFailed refl (λ is. absurd is) refl reads gone most (told ReadFailed refl)
  fails_writing (Err WriteFailed) none reads gone alone most told =
      let same = ap (λ (v : OutputView). v.gone) (none tt).1 in
      inl (omega (arith, reads), omega (arith, same, gone))
  fails_writing (Err ReaderGone) none reads gone alone most told = let same = (none tt).0 in absurd (cc)
  fails_writing (Err (Column column error)) none reads gone alone most told = later (Err (Column column error)) (Column column error) refl (λ is. absurd is) refl reads gone most (told (Column column error) refl)
