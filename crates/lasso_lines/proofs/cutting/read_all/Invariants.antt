use Rattle.std.proofs.Common.{◌≡◌, ◌++◌, ℕ, List, Some}
use Rattle.lasso_lines.proofs.cutting.read_all.Given as goal

-- if the bytes left to read were known at first, they are known now, and follow those that were read
abbrev pub invariant-parts : goal.invariant-parts
invariant-parts g l =
    let reader = g.I.ByteReader in
    record {
      reads : reader.failures l.reader ≡ reader.failures l.fn.reader;
      ahead : (whole : List ℕ) → reader.left l.fn.reader ≡ Some whole → (left : List ℕ) × (reader.left l.reader ≡ Some left) × (l.input.items ++ left ≡ l.fn.input.items ++ whole);
    }
