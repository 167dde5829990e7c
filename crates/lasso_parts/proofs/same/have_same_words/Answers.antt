use Rattle.std.proofs.Common.{◌≡◌, ◌∙◌, ◌-◌, List, ℕ, length, take, drop, bytes_eq, ap, sym, arith}
use Rattle.std.proofs.lemmas.Slice.Eq.{bytes_eq-Decides}
use Rattle.lasso_parts.proofs.Ends.{told_by_last}
use Rattle.lasso_parts.proofs.same.have_same_words.Goals as goal

pub returns-then-is_same_word : goal.returns-then-is_same_word
returns-then-is_same_word c =
    let s = c.args.one.now in
    let t = c.args.other.now in
    let first : take 8 s ≡ take 8 t = sym c.first.ensures ∙ (bytes_eq-Decides _ _).0 (sym c.is_same_word.ensures ∙ c.if-is_same_word.true) ∙ c.first-2.ensures in
    c.is_same_word-then-is_same_word.ensures ∙ ap (λ (xs : List ℕ). bytes_eq xs c.last-then-is_same_word.result.now) c.last.ensures ∙ ap (λ (ys : List ℕ). bytes_eq (drop (length s - 8) s) ys) c.last-then-is_same_word.ensures
    ∙ told_by_last s t 8 (length s - 8) (length t - 8) (omega (arith, c.requires.all)) (ap (λ (k : ℕ). k - 8) c.requires.same) first
