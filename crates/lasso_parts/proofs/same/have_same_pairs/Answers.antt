use Rattle.std.proofs.Common.{◌≡◌, ◌∙◌, ◌-◌, List, ℕ, length, take, drop, bytes_eq, ap, sym, arith}
use Rattle.std.proofs.lemmas.Slice.Eq.{bytes_eq-Decides}
use Rattle.lasso_parts.proofs.Ends.{told_by_last}
use Rattle.lasso_parts.proofs.same.have_same_pairs.Goals as goal

pub returns-then-is_same_pair : goal.returns-then-is_same_pair
returns-then-is_same_pair c =
    let s = c.args.one.now in
    let t = c.args.other.now in
    let first : take 2 s ≡ take 2 t = sym c.first.ensures ∙ (bytes_eq-Decides _ _).0 (sym c.is_same_pair.ensures ∙ c.if-is_same_pair.true) ∙ c.first-2.ensures in
    c.is_same_pair-then-is_same_pair.ensures ∙ ap (λ (xs : List ℕ). bytes_eq xs c.last-then-is_same_pair.result.now) c.last.ensures ∙ ap (λ (ys : List ℕ). bytes_eq (drop (length s - 2) s) ys) c.last-then-is_same_pair.ensures
    ∙ told_by_last s t 2 (length s - 2) (length t - 2) (omega (arith, c.requires.all)) (ap (λ (k : ℕ). k - 2) c.requires.same) first
