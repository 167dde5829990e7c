use Rattle.std.proofs.Common.{◌∙◌, ap, sym, map, Some}
use Rattle.std.specs.Prelude.{string_bytes}
use Rattle.lasso_codes.proofs.CommandWords.{first_word, no_verb_is}
use Rattle.lasso_codes.proofs.arguments.command_of.Goals as goal

pub returns-in-None : goal.returns-in-None
returns-in-None c =
    let word = c.as_str-word.result.now in
    let first = first_word string_bytes c.args.words.now c.index-words-0.result (sym c.is_empty.ensures ∙ c.if-is_empty.false) c.index-words-0.is ∙ ap (λ t. Some t) (sym c.as_str-word.ensures.value) in
    no_verb_is (map string_bytes c.args.words.now) word first (sym c.if-eq.ensures) (sym c.if-eq-2.ensures) (sym c.verb_of.ensures ∙ c.in-None.is)
