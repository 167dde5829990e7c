-- What a stretch of bytes does to a run, whatever bytes follow it. A stretch is the bytes that a reader shows
-- at once.
use Rattle.std.specs.Prelude.{ℕ, ◌-◌, List, ◌∷◌, ◌++◌, drop, length, Result, Err, MatchResult}
use Rattle.lasso_parts.specs.Held.{Held}
use Rattle.lasso_input.specs.Lines.{lines_of}
use Rattle.lasso_single.specs.Interner.{InternerView}
use Rattle.lasso_lines.specs.Report.{EndsFrom, held_by}
use Rattle.lasso_lines.specs.declared.fault.RunFault.{RunFault}

-- after writing the part, a run over `bytes` goes on as a run over `bytes'`. For any `later` bytes: if the
-- run over `bytes' ++ later` may write `more` and end with a result, the run over `bytes ++ later` may
-- write `part ++ more` and end with the same result
abbrev pub LeadsTo : Held → ℕ → List ℕ → Held → ℕ → List ℕ → List ℕ → Type 0
LeadsTo before number bytes after number' bytes' part =
    (later more : List ℕ) (result : Result (Unit {0}) RunFault) → EndsFrom after number' (lines_of (bytes' ++ later)) more result → EndsFrom before number (lines_of (bytes ++ later)) (part ++ more) result

-- a run over the bytes writes the part and ends with the fault, whatever bytes follow
abbrev pub FailsWith : Held → ℕ → List ℕ → List ℕ → RunFault → Type 0
FailsWith before number bytes part fault = (later : List ℕ) → EndsFrom before number (lines_of (bytes ++ later)) part (Err fault)

-- `answer_stretch`, over the bytes that were begun and those of the buffer: the run goes on with the line of the
-- number that it returns, which begins with `left`; or it ends with the fault
abbrev pub AnswersStretch : InternerView → ℕ → List ℕ → List ℕ → InternerView → List ℕ → Result ℕ RunFault → List ℕ → Type 0
AnswersStretch before number begun buffer after left result part = MatchResult result
    (λ next. LeadsTo (held_by before) number (begun ++ buffer) (held_by after) next left part)
    (FailsWith (held_by before) number (begun ++ buffer) part)

-- the last bytes, this many
abbrev pub last_of : List ℕ → ℕ → List ℕ
last_of bytes count = drop (length bytes - count) bytes

-- `answer_lines`, over the first line and the stretch after its line feed: the run goes on with the line of the
-- number that it returns, which begins with the last bytes of the stretch, as many as it returns; or it ends with
-- the fault
abbrev pub AnswersLines : InternerView → ℕ → List ℕ → List ℕ → InternerView → Result (ℕ × ℕ) RunFault → List ℕ → Type 0
AnswersLines before number first stretch after result part = MatchResult result
    (λ r. LeadsTo (held_by before) number (first ++ 10 ∷ stretch) (held_by after) r.0 (last_of stretch r.1) part)
    (FailsWith (held_by before) number (first ++ 10 ∷ stretch) part)
