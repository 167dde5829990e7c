-- What explains that a run with workers reports a refused line: a legal history of an interner with the given
-- limit that has such a refusal.
use Rattle.std.specs.Prelude.{ℕ, ◌≡◌, ◌⊎◌, List, []}
use Rattle.lasso_parts.specs.Texts.{Text}
use Rattle.lasso_parts.specs.declared.util.LassoErrorKind.TheVariants.{FailedAllocation}
use Rattle.lasso_log.specs.History.{History, Totals, IsLegal, opened}
use Rattle.lasso_single.specs.Coding.{spur_at}
use Rattle.lasso_lines.specs.Report.{first_bytes}
use Rattle.lasso_lines.specs.Shares.{IsLowestRefusedIn}
use Rattle.lasso_lines.specs.declared.fault.RunFault.{RunFault}
use Rattle.lasso_lines.specs.declared.fault.RunFault.TheVariants.{Refused}

-- a refused line is explained if it ran out of memory; or if, somewhere in the history, interning it may be
-- refused with this error, and all lines before it are in the list at the history's end. Other faults need
-- no explanation
abbrev pub IsExplainedIn : Totals → History → List Text → RunFault → Type 0
IsExplainedIn opening past lines (Refused number error) = (error ≡ FailedAllocation) ⊎ IsLowestRefusedIn opening past lines (number, error)
IsExplainedIn opening past lines fault = Unit {0}

-- what an interner of default capacity with this limit begins with
abbrev pub begun : ℕ → Totals
begun limit = opened [] first_bytes 0 limit

-- some legal history of such an interner explains the fault. It may have events of other callers, and may
-- set another limit
abbrev pub IsExplainedBy : ℕ → List Text → RunFault → Type 0
IsExplainedBy limit lines fault = (past : History) × IsLegal spur_at (begun limit) past × IsExplainedIn (begun limit) past lines fault
