use Rattle.std.proofs.Common.{◌≡◌, ◌⊎◌, List, length, is_ok, if◌then◌else◌, Err, ap, subst, ◌∙◌}
use Rattle.std.specs.List.{concat}
use Rattle.lasso_parts.specs.Texts.{Text}
use Rattle.lasso_parts.specs.Layout.{offsets_from}
use Rattle.lasso_c.specs.Layout.{over}
use Rattle.lasso_c.specs.declared.error.CallError.TheVariants.{NoMemory}
use Rattle.lasso_c.proofs.Rows.{plain_outcome, plain_dictionary, plain_encoded}
use Rattle.lasso_c.proofs.encoding.encode.Goals as goal

pub returns-clause-outcome : goal.returns-clause-outcome
returns-clause-outcome c =
    subst (λ r. (c.encode_rows.result ≡ r) ⊎ (c.encode_rows.result ≡ Err NoMemory))
    (plain_outcome c.args.bytes.now c.args.offsets.now (length c.args.codes.now) (length c.args.dictionary_offsets.now) (length c.args.dictionary_bytes.now)) c.encode_rows.ensures.outcome

pub returns-clause-codes : goal.returns-clause-codes
returns-clause-codes c =
    c.encode_rows.ensures.codes ∙ ap (λ cs. if is_ok c.encode_rows.result then over cs c.args.codes.now else c.args.codes.now) (plain_encoded c.args.bytes.now c.args.offsets.now)

pub returns-clause-dictionary_bytes : goal.returns-clause-dictionary_bytes
returns-clause-dictionary_bytes c =
    c.encode_rows.ensures.dictionary_bytes ∙ ap (λ (d : List Text). if is_ok c.encode_rows.result then over (concat d) c.args.dictionary_bytes.now else c.args.dictionary_bytes.now) (plain_dictionary c.args.bytes.now c.args.offsets.now)

pub returns-clause-dictionary_offsets : goal.returns-clause-dictionary_offsets
returns-clause-dictionary_offsets c =
    c.encode_rows.ensures.dictionary_offsets ∙ ap (λ (d : List Text). if is_ok c.encode_rows.result then over (offsets_from 0 d) c.args.dictionary_offsets.now else c.args.dictionary_offsets.now) (plain_dictionary c.args.bytes.now c.args.offsets.now)
