use Rattle.std.proofs.Common.{ℕ, List, ◌++◌, [], sym, ap, ◌∙◌, rules, append_assoc, append-nil}
use Rattle.std.specs.Prelude.{flat_map}
use Rattle.std.proofs.Output.{has_written_append, has_written_of_eq}
use Rattle.std.proofs.StrCases.{chars_of_empty}
use Rattle.std.proofs.lemmas.Str.{IsUtf8-past_char, chars_past_char}
use Rattle.lasso_codes.specs.Shown.{shown_letter, shown_text}
use Rattle.lasso_codes.proofs.shown.ShownDisplay.fmt.Goals as goal

pub loop-letter-init : goal.loop-letter-init
unfolding shown_text
loop-letter-init g c = (search rules, λ plain. ([], search rules, search rules))

pub loop-letter-preserved : goal.loop-letter-preserved
loop-letter-preserved g c =
    let held = c.loop-letter.invariant in
    let letter = c.in-Some.letter in
    let parts = c.in-Some.ensures.steps.0 in
    let step = ap (flat_map shown_letter) (chars_past_char _ _ letter held.0 parts) in (
      IsUtf8-past_char _ _ letter held.0 parts,
      λ plain.
          let so_far = held.1 plain in (
            so_far.0 ++ shown_letter letter,
            has_written_append _ _ _ _ _ _ so_far.1 (search rules),
            append_assoc so_far.0 _ _ ∙ ap (λ (t : List ℕ). so_far.0 ++ t) (sym step) ∙ so_far.2,
          ),
    )

pub returns-clause-writes : goal.returns-clause-writes
returns-clause-writes g c = λ plain _.
    let so_far = c.loop-letter.invariant.1 plain in
    let none = ap (flat_map shown_letter) (chars_of_empty _ c.in-None.ensures.steps.0.0) in
    has_written_of_eq _ _ _ _ _ (sym (append-nil _) ∙ ap (λ (t : List ℕ). so_far.0 ++ t) (sym none) ∙ so_far.2) so_far.1
