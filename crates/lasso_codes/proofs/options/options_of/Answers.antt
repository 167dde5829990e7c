use Rattle.std.proofs.Common.{◌+◌, ◌∙◌, ◌∷◌, ap, sym, drop, map}
use Rattle.std.specs.Prelude.{string_bytes}
use Rattle.lasso_columns.specs.Rows.{word_of}
use Rattle.lasso_codes.specs.Arguments.{options_of, wanted_of}
use Rattle.lasso_codes.proofs.CommandWords.{next_word, told_none, told_some}
use Rattle.lasso_codes.proofs.options.options_of.Goals as goal

pub returns-in-Ok-None : goal.returns-in-Ok-None
returns-in-Ok-None c =
    let verb = c.args.verb in
    let reading = c.loop-word.reading in
    let rest = drop (c.loop-word.word-index + 1) (map string_bytes c.args.words.now) in
    c.loop-word.invariant ∙ ap (options_of verb reading.settings (word_of reading.null) (wanted_of reading)) (next_word string_bytes c.args.words.now c.loop-word.word-index c.word-item.result c.loop-word-test.true c.word-item.is ∙ ap (λ t. t ∷ rest) (sym c.as_str.ensures.value))
    ∙ told_none c.in-Ok-None.field-0 _ _ (λ after. options_of verb after.settings (word_of after.null) (wanted_of after) rest) c.in-Ok-None.field-0-is (c.in-Ok-None.ensures rest)

pub returns-in-Err : goal.returns-in-Err
returns-in-Err c =
    let verb = c.args.verb in
    let reading = c.loop-word.reading in
    let rest = drop (c.loop-word.word-index + 1) (map string_bytes c.args.words.now) in
    c.loop-word.invariant ∙ ap (options_of verb reading.settings (word_of reading.null) (wanted_of reading)) (next_word string_bytes c.args.words.now c.loop-word.word-index c.word-item.result c.loop-word-test.true c.word-item.is ∙ ap (λ t. t ∷ rest) (sym c.as_str.ensures.value))
    ∙ c.in-Err.ensures rest

pub loop-word-preserved : goal.loop-word-preserved
loop-word-preserved c =
    let verb = c.args.verb in
    let reading = c.loop-word.reading in
    let rest = drop (c.loop-word.word-index + 1) (map string_bytes c.args.words.now) in
    c.loop-word.invariant ∙ ap (options_of verb reading.settings (word_of reading.null) (wanted_of reading)) (next_word string_bytes c.args.words.now c.loop-word.word-index c.word-item.result c.loop-word-test.true c.word-item.is ∙ ap (λ t. t ∷ rest) (sym c.as_str.ensures.value))
    ∙ told_some c.in-Ok-Some.field-0 c.in-Ok-Some.next _ _ (λ after. options_of verb after.settings (word_of after.null) (wanted_of after) rest) c.in-Ok-Some.field-0-is (c.in-Ok-Some.ensures rest)
