-- The codes of texts in an interner that threads share.
use Rattle.std.specs.Prelude.{◌≡◌, ◌⊎◌, ℕ, List, ◌++◌, Contains, Result, Err, MatchResult, Vec}
use Rattle.lasso_parts.specs.Texts.{Text}
use Rattle.lasso_parts.specs.declared.util.LassoErrorKind.{LassoErrorKind}
use Rattle.lasso_parts.specs.declared.util.LassoErrorKind.TheVariants.{FailedAllocation}
use Rattle.lasso_log.specs.History.{History, Totals, totals, IsLegal}
use Rattle.lasso_log.specs.Notes.{history}
use Rattle.lasso_log.specs.Replies.{Copied, Intern, Interned, MayReply}
use Rattle.lasso_log.specs.Views.{InternerId, SnapshotView, list_of}
use Rattle.lasso_single.specs.Codes.{AreCodes, AddsCodes}
use Rattle.lasso_single.specs.Coding.{spur_at}

-- the codes of the texts were appended: their positions in the list that one legal history of a shared
-- interner leads to
abbrev pub AddsSharedCodes : Totals → List Text → List ℕ → List ℕ → Type 0
AddsSharedCodes opening texts before after =
    (past : History) × IsLegal spur_at opening past × AddsCodes (totals opening past).texts texts before after

-- memory ran out; or at some point of this history interning one of the texts may be refused with this error
abbrev pub IsRefusalIn : Totals → History → List Text → LassoErrorKind → Type 0
IsRefusalIn opening past texts error =
    (error ≡ FailedAllocation)
    ⊎ ((text : Text) × (front back : History) × Contains texts text × (front ++ back ≡ past) × MayReply spur_at (totals opening front) (Intern Copied text) (Interned (Err error)))

-- so it is in some legal history
abbrev pub IsRefusalOnce : (opening : Totals) → List Text → LassoErrorKind → Type 0
IsRefusalOnce opening texts error = (past : History) × IsLegal spur_at opening past × IsRefusalIn opening past texts error

-- what a worker gives back: a history of the interner that was seen; and the codes that the texts have in its
-- list, or why one of them may be refused somewhere in it
abbrev pub IsPartOf : {A : Type 0} → InternerId → List Text → SnapshotView → Result (Vec ℕ A) LassoErrorKind → Type 0
IsPartOf of texts known outcome =
    (known.of ≡ of)
    × MatchResult outcome (λ codes. AreCodes (list_of of known.notes) texts codes.items) (λ error. IsRefusalIn of.opening (history known.notes) texts error)
