use Rattle.std.proofs.Common.{ℕ, ◌≡◌, List, ◌++◌, ap, sym, ◌∙◌}
use Rattle.lasso_input.proofs.LineTexts.{escaped_parts}
use Rattle.lasso_input.specs.Texts.{mark}
use Rattle.lasso_input.proofs.escaping.put_escaped.Goals as goal

pub returns : goal.returns
returns c =
    let mark_is : c.copy_from_slice.new.self ≡ mark = c.copy_from_slice.ensures.after in
    ap (λ (xs : List ℕ). xs ++ c.put_digits.new.digits) mark_is ∙ ap (λ (xs : List ℕ). mark ++ xs) c.put_digits.ensures ∙ sym (escaped_parts c.args.bytes.now)
