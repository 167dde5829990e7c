use Rattle.std.proofs.Common.{◌≡◌, ◌∙◌, ◌-◌, List, ℕ, length, take, drop, bytes_eq, ap, sym, arith}
use Rattle.std.proofs.lemmas.Slice.Eq.{bytes_eq-Decides}
use Rattle.lasso_parts.proofs.Ends.{told_by_last}
use Rattle.lasso_parts.proofs.same.have_same_halves.Goals as goal

pub returns-then-is_same_half : goal.returns-then-is_same_half
returns-then-is_same_half c =
    let s = c.args.one.now in
    let t = c.args.other.now in
    let first : take 4 s ≡ take 4 t = sym c.first.ensures ∙ (bytes_eq-Decides _ _).0 (sym c.is_same_half.ensures ∙ c.if-is_same_half.true) ∙ c.first-2.ensures in
    c.is_same_half-then-is_same_half.ensures ∙ ap (λ (xs : List ℕ). bytes_eq xs c.last-then-is_same_half.result.now) c.last.ensures ∙ ap (λ (ys : List ℕ). bytes_eq (drop (length s - 4) s) ys) c.last-then-is_same_half.ensures
    ∙ told_by_last s t 4 (length s - 4) (length t - 4) (omega (arith, c.requires.all)) (ap (λ (k : ℕ). k - 4) c.requires.same) first
