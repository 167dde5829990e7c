use Rattle.std.proofs.Common.{ℕ, List, ◌++◌, ap, sym, subst, ◌∙◌}
use Rattle.std.specs.Str.{IsUtf8}
use Rattle.lasso_input.specs.Texts.{escaped}
use Rattle.lasso_input.proofs.LineTexts.{escaped_is_utf8}
use Rattle.lasso_input.proofs.escaping.escape.Goals as goal

pub from_utf8_unchecked-requires : goal.from_utf8_unchecked-requires
from_utf8_unchecked-requires g c =
    let bytes = c.args.bytes.now in
    subst IsUtf8 (sym (c.in_ok-append_escaped.ensures ∙ ap (λ (xs : List ℕ). xs ++ escaped bytes) c.new-text.ensures.items)) (escaped_is_utf8 bytes)
