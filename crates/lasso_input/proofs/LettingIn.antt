-- Which lines are let in: any, or only those that are UTF-8.
use Rattle.std.proofs.Common.{ℕ, ◌≡◌, Bool, true, false, List, refl, sym}
use Rattle.std.proofs.lemmas.Bool.{false_from_ne_true}
use Rattle.std.proofs.lemmas.Str.{IsUtf8-from_is_utf8, is_utf8-from_IsUtf8}
use Rattle.std.specs.Str.{IsUtf8, is_utf8}
use Rattle.lasso_input.proofs.LineTexts.{own_parts}
use Rattle.lasso_input.specs.Texts.{is_let_in, is_own_text}

pub any_let_in : (only : Bool) (line : List ℕ) → only ≡ false → true ≡ is_let_in only line
any_let_in true line any = absurd (cc)
any_let_in false line any = cc

pub utf8_let_in : (only : Bool) (line : List ℕ) → IsUtf8 line → true ≡ is_let_in only line
utf8_let_in true line utf8 = sym (is_utf8-from_IsUtf8 line utf8)
utf8_let_in false line utf8 = cc

pub own_let_in : (only : Bool) (line : List ℕ) → is_own_text line ≡ true → is_let_in only line ≡ true
own_let_in true line own = (own_parts line own).0
own_let_in false line own = refl

pub other_let_out : (only : Bool) (line : List ℕ) → only ≡ true → ¬ (IsUtf8 line) → false ≡ is_let_in only line
other_let_out true line only_utf8 bad = sym (false_from_ne_true (is_utf8 line) (λ e. bad (IsUtf8-from_is_utf8 line e)))
other_let_out false line only_utf8 bad = absurd (cc)
