-- The lines of each worker, and the positions of their texts. A worker is a thread that interns its share of
-- the lines: of n workers, worker w has the lines w, w + n, w + 2n and so on, counted from 0. It enters a
-- gate before each line, by which tests see which worker is where and hold it there.
use Rattle.std.specs.Prelude.{ℕ, zero, suc, ◌≡◌, ◌⊎◌, ◌+◌, ◌*◌, ◌<◌, ◌≤◌, ◌++◌, ◌∷◌, List, [], length, slice_index_or, Contains, Option, Some, None, Result, Err, MatchResult, Vec}
use Rattle.lasso_parts.specs.Texts.{Text}
use Rattle.lasso_parts.specs.declared.util.LassoErrorKind.{LassoErrorKind}
use Rattle.lasso_parts.specs.declared.util.LassoErrorKind.TheVariants.{FailedAllocation}
use Rattle.lasso_log.specs.History.{History, Totals, totals}
use Rattle.lasso_log.specs.Notes.{history}
use Rattle.lasso_log.specs.Replies.{Copied, Intern, Interned, MayReply}
use Rattle.lasso_log.specs.Views.{InternerId, SnapshotView, list_of}
use Rattle.lasso_single.specs.Codes.{AreCodes}
use Rattle.lasso_single.specs.Coding.{spur_at}
use Rattle.lasso_lines.specs.Ordered.{AreSameTexts}
use Rattle.lasso_lines.specs.declared.fault.RunFault.{RunFault}
use Rattle.lasso_lines.specs.declared.fault.RunFault.TheVariants.{Refused}

-- the line at this position, or an empty one past the end
abbrev pub line_at : List Text → ℕ → Text
line_at lines i = slice_index_or lines i []

-- the first `count` lines of a worker, at the positions `worker`, `worker + workers`,
-- `worker + 2 * workers` and so on
abbrev pub share : List Text → (worker workers count : ℕ) → List Text
share lines worker workers zero = []
share lines worker workers (suc n) = share lines worker workers n ++ line_at lines (worker + n * workers) ∷ []

-- the worker has `count` lines
pub record IsShare (lines : List Text) (worker workers count : ℕ) : Type 0 where
  pub inside : (n : ℕ) → n < count → worker + n * workers < length lines
  pub whole : length lines ≤ worker + count * workers

-- the codes are the positions of the texts of the worker's lines, in order
abbrev pub HasCodes : List Text → List Text → (worker workers : ℕ) → List ℕ → Type 0
HasCodes list lines worker workers codes = (count : ℕ) × IsShare lines worker workers count × AreCodes list (share lines worker workers count) codes

-- a refused line: its number, counted from 1, and the error
abbrev pub NumberedError : Type 0
NumberedError = ℕ × LassoErrorKind

-- out of memory; or somewhere in this history interning one of the texts may be refused with this error
abbrev pub IsRefusalIn : Totals → History → List Text → LassoErrorKind → Type 0
IsRefusalIn opening past texts error =
    (error ≡ FailedAllocation)
    ⊎ ((text : Text) × (front back : History) × Contains texts text × (front ++ back ≡ past) × MayReply spur_at (totals opening front) (Intern Copied text) (Interned (Err error)))

-- one of the worker's lines, with this number, was refused. The error is out of memory, or one with which
-- interning the line may be refused somewhere in the history. The worker's lines before it are in the list
-- at the history's end
abbrev pub IsRefusedBy : Totals → History → List Text → (worker workers : ℕ) → NumberedError → Type 0
IsRefusedBy opening past lines worker workers refusal =
    (n : ℕ)
    × (worker + n * workers < length lines)
    × (refusal.0 ≡ worker + n * workers + 1)
    × IsRefusalIn opening past (line_at lines (worker + n * workers) ∷ []) refusal.1
    × ((j : ℕ) → j < n → Contains (totals opening past).texts (line_at lines (worker + j * workers)))

-- a line of any worker was refused, with this number and such an error
abbrev pub IsRefusedIn : Totals → History → List Text → NumberedError → Type 0
IsRefusedIn opening past lines refusal =
    (i : ℕ) × (i < length lines) × (refusal.0 ≡ i + 1) × IsRefusalIn opening past (line_at lines i ∷ []) refusal.1

-- every line before the line of this number, counted from 1, is in the list
abbrev pub AreInBefore : List Text → List Text → ℕ → Type 0
AreInBefore list lines number = (i : ℕ) → i + 1 < number → Contains list (line_at lines i)

-- such a line is the lowest refused one: all lines before it are in the list at the history's end
abbrev pub IsLowestRefusedIn : Totals → History → List Text → NumberedError → Type 0
IsLowestRefusedIn opening past lines refusal = IsRefusedIn opening past lines refusal × AreInBefore (totals opening past).texts lines refusal.0

-- the fault is the lowest refused line; or out of memory at no line, as line 0
abbrev pub IsRefusalOf : Totals → History → List Text → RunFault → Type 0
IsRefusalOf opening past lines (Refused number error) = ((number ≡ 0) × (error ≡ FailedAllocation)) ⊎ IsLowestRefusedIn opening past lines (number, error)
IsRefusalOf opening past lines _ = ⊥

-- the result is the refused line with the lower number, and its own error
abbrev pub IsLower : Option NumberedError → NumberedError → NumberedError → Type 0
IsLower None other result = result ≡ other
IsLower (Some refusal) other result = (refusal.0 ≤ other.0 → result ≡ refusal) × (other.0 < refusal.0 → result ≡ other)

-- what a worker returned: what it has seen of the interner, and the codes of its lines in the list there,
-- or its refused line
abbrev pub IsShareOf : {A : Type 0} → InternerId → List Text → (worker workers : ℕ) → SnapshotView → Result (Vec ℕ A) NumberedError → Type 0
IsShareOf of lines worker workers known outcome =
    (known.of ≡ of)
    × MatchResult outcome
    (λ codes. HasCodes (list_of of known.notes) lines worker workers codes.items)
    (IsRefusedBy of.opening (history known.notes) lines worker workers)

-- the codes are the positions of the lines' texts in the list, in some order
abbrev pub AreCodesOf : List Text → List Text → List ℕ → Type 0
AreCodesOf list lines codes = (texts : List Text) × AreSameTexts texts lines × AreCodes list texts codes

-- codes of some texts in the list before are, afterwards, codes of these texts and then this one
abbrev pub AddsCode : List Text → List ℕ → List Text → List ℕ → Text → Type 0
AddsCode before codes after codes' text = (texts : List Text) → AreCodes before texts codes → AreCodes after (texts ++ text ∷ []) codes'
