use Rattle.std.proofs.Common.{ℕ, ◌≡◌, ◌+◌, ◌<◌, ◌∙◌, false, Some, Ok, ap, sym, subst, Option}
use Rattle.lasso_parts.specs.Texts.{Text, position_of}
use Rattle.lasso_single.specs.Intern.{InternsIn}
use Rattle.lasso_single.specs.Interner.{InternerView}
use Rattle.lasso_single.specs.Coding.{spur_at, InternsCode}
use Rattle.lasso_input.specs.Texts.{text_of}
use Rattle.lasso_columns.specs.Rows.{is_null, word_of}
use Rattle.lasso_codes.specs.Encode.{IsNumbered, IsNumberedAs}
use Rattle.lasso_codes.proofs.encode.entry_of.Goals as goal

-- the text of a line that is no null was interned
numbered : (null : Option Text) (old new : InternerView) (line text : Text) (code : ℕ) → is_null null line ≡ false → text ≡ text_of line → InternsCode old text (Ok code) new → position_of new.texts text ≡ Some code → code < 4294967295 → IsNumbered null old line new code
numbered null old new line text code other same interns here small =
    let told = subst (λ (t : Text). ((key : ℕ) × InternsIn {K = ℕ} spur_at old t (Ok key) new) × (position_of new.texts t ≡ Some code)) same ((code + 1, interns), here) in
    subst (λ b. IsNumberedAs b old line new code) (sym other) (told.0, told.1, small)

pub returns-in-Ok : goal.returns-in-Ok
returns-in-Ok c =
    let line = c.args.line.now in
    let null = word_of c.args.null in
    let other : is_null null line ≡ false = ap (is_null null) (sym c.bytes.ensures) ∙ sym c.is_null.ensures ∙ c.if-is_null.false in
    let told = c.in-Ok.ensures in
    (c.in_ok-text.ensures.0, numbered null c.args.rodeo.now c.intern_code_next.new.rodeo line c.in_ok-text.text.now c.in-Ok.entry other c.in_ok-text.ensures.1 told.interns told.code told.range)
