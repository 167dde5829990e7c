-- What interning the texts of a layout by calls of one pass is, and how it ends.
use Rattle.std.specs.Prelude.{◌≡◌, ◌<◌, ◌+◌, ◌⊎◌, ℕ, MatchBool, List, [], ◌∷◌, length, slice_get, slice_index, nat_eq, if◌then◌else◌, Option, None, Some, Result, Ok, Err}
use Rattle.lasso_parts.specs.Layout.{layout_texts}
use Rattle.lasso_parts.specs.Texts.{Text}
use Rattle.lasso_parts.specs.declared.util.LassoErrorKind.{LassoErrorKind}
use Rattle.lasso_log.specs.Replies.{Copied, Intern, Interned}
use Rattle.lasso_log.specs.Views.{PassView}
use Rattle.lasso_c.specs.Interning.{batch_start_fault, refusal_at}
use Rattle.lasso_c.specs.Layout.{first_texts, over, text_fault}
use Rattle.lasso_c.specs.Passes.{AppendsNone, IsCallOf}
use Rattle.lasso_c.specs.Status.{error_status}
use Rattle.lasso_c.specs.declared.error.CallError.{CallError}
use Rattle.lasso_c.specs.declared.error.LassoReport.{LassoReport}
use Rattle.lasso_c.specs.declared.shared.member.Member.{Member}
use Rattle.lasso_c.specs.declared.status.TheConstants.{DONE, NO_INTERNER, BUSY, FROZEN}

-- the pass interned these texts in order, each by a call of its own, and these are their codes. A call begins where the one before
-- it ended
abbrev pub InternsEach : (before : PassView) → List Text → (codes : List ℕ) → (after : PassView) → Type 0
InternsEach before [] [] after = after ≡ before
InternsEach before (text ∷ texts) (code ∷ codes) after = (mid : PassView) × IsCallOf before mid (Intern Copied text) (Interned (Ok (code + 1))) × InternsEach mid texts codes after
InternsEach before texts codes after = ⊥

-- what is wrong with the text of this number of a layout, or nothing
abbrev pub fault_at : (greatest : ℕ) (bytes offsets : List ℕ) (at : ℕ) → Option CallError
fault_at greatest bytes offsets at = text_fault greatest bytes at (slice_index offsets at) (slice_index offsets (at + 1))

-- the first texts are good, and the pass interned them, with these codes
abbrev pub InternsFirst : (greatest : ℕ) (bytes offsets : List ℕ) (done : ℕ) (before : PassView) (codes : List ℕ) (after : PassView) → Type 0
InternsFirst greatest bytes offsets done before codes after =
    InternsEach before (first_texts done bytes offsets) codes after × ((at : ℕ) → at < done → fault_at greatest bytes offsets at ≡ None)

-- the call of a text of this number was refused; or another thread was inside a step, and the text was not put last
abbrev pub IsRefused : Text → (number status : ℕ) (before after : PassView) → Type 0
IsRefused text number status before after =
    ((error : LassoErrorKind) × IsCallOf before after (Intern Copied text) (Interned (Err error)) × (status ≡ error_status (refusal_at number error)))
    ⊎ ((status ≡ BUSY) × AppendsNone text before after)

-- how the text of this number is refused: something is wrong with it, or it is good and its call is refused
abbrev pub RefusesAt : (greatest : ℕ) (bytes offsets : List ℕ) (number status : ℕ) (before after : PassView) → Type 0
RefusesAt greatest bytes offsets number status before after =
    ((refusal : CallError) × (fault_at greatest bytes offsets number ≡ Some refusal) × (status ≡ error_status refusal) × (after ≡ before))
    ⊎ ((text : Text) × (slice_get (layout_texts bytes offsets) number ≡ Some text) × (fault_at greatest bytes offsets number ≡ None) × IsRefused text number status before after)

-- the text of this number is good, and the pass interned it, with this code
abbrev pub InternsAt : (greatest : ℕ) (bytes offsets : List ℕ) (number : ℕ) (before : PassView) (code : ℕ) (after : PassView) → Type 0
InternsAt greatest bytes offsets number before code after =
    (text : Text) × (slice_get (layout_texts bytes offsets) number ≡ Some text) × (fault_at greatest bytes offsets number ≡ None)
    × IsCallOf before after (Intern Copied text) (Interned (Ok (code + 1)))

-- why a batch ends after its first `done` texts: none is left, or the next one is refused
abbrev pub EndsBatch : (greatest : ℕ) (bytes offsets : List ℕ) (done status : ℕ) (before after : PassView) → Type 0
EndsBatch greatest bytes offsets done status before after =
    ((done ≡ length (layout_texts bytes offsets)) × (status ≡ DONE) × (after ≡ before))
    ⊎ ((done < length (layout_texts bytes offsets)) × RefusesAt greatest bytes offsets done status before after)

-- what a batch leaves of the pass and of the buffer of codes, unless it is refused before its first text
abbrev pub InternsUnlessFaulty : Option CallError → (greatest : ℕ) (bytes offsets : List ℕ) (done status : ℕ) (codes_before codes_after : List ℕ) (before after : PassView) → Type 0
InternsUnlessFaulty (Some refusal) greatest bytes offsets done status codes_before codes_after before after =
    (done ≡ 0) × (status ≡ error_status refusal) × (codes_after ≡ codes_before) × (after ≡ before)
InternsUnlessFaulty None greatest bytes offsets done status codes_before codes_after before after =
    (codes : List ℕ) × (mid : PassView) × InternsFirst greatest bytes offsets done before codes mid × (codes_after ≡ over codes codes_before)
    × EndsBatch greatest bytes offsets done status mid after

-- the same, with the fault that the layout and the room for codes have, if they have one
abbrev pub InternsBatch : (greatest : ℕ) (bytes offsets : List ℕ) (done status : ℕ) (codes_before codes_after : List ℕ) (before after : PassView) → Type 0
InternsBatch greatest bytes offsets done status codes_before codes_after before after =
    InternsUnlessFaulty (batch_start_fault greatest [] bytes (slice_index offsets 0) (length (layout_texts bytes offsets)) (length codes_before)) greatest bytes offsets done status codes_before
    codes_after before after

-- what a batch reports: how many of its texts were interned, and the number of the refused one
abbrev pub shared_report : (done status : ℕ) → LassoReport
shared_report done status = record { texts = done; bytes = 0; at = if nat_eq status DONE then 0 else done }

-- how a batch ends on a handle, which holds a member or none
abbrev pub SharedBatchEnds : (greatest : ℕ) (bytes offsets codes_before codes_after : List ℕ) (status : ℕ) → LassoReport → (before after : Option Member) → Type 0
SharedBatchEnds greatest bytes offsets codes_before codes_after status report None after =
    (status ≡ NO_INTERNER) × (report ≡ record { texts = 0; bytes = 0; at = 0 }) × (codes_after ≡ codes_before) × (after ≡ None)
SharedBatchEnds greatest bytes offsets codes_before codes_after status report (Some before) None = ⊥
SharedBatchEnds greatest bytes offsets codes_before codes_after status report (Some before) (Some after) =
    MatchBool before.shared.is_frozen
    ((status ≡ FROZEN) × (report ≡ record { texts = 0; bytes = 0; at = 0 }) × (codes_after ≡ codes_before) × (after ≡ before))
    (InternsBatch greatest bytes offsets report.texts status codes_before codes_after before.pass after.pass × (report ≡ shared_report report.texts status))
