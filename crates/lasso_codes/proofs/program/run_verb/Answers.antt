use Rattle.std.proofs.Common.{sym, subst}
use Rattle.lasso_columns.specs.Rows.{word_of}
use Rattle.lasso_codes.specs.Decode.{DecodeEnds}
use Rattle.lasso_codes.specs.Distinct.{DistinctEnds}
use Rattle.lasso_codes.specs.Merge.{DictionaryEnds, MergeEnds}
use Rattle.lasso_codes.specs.Recode.{JoinEnds, RecodeEnds}
use Rattle.lasso_codes.specs.Requests.{VerbEnds}
use Rattle.lasso_codes.specs.Streams.{Reports}
use Rattle.lasso_codes.proofs.program.run_verb.Goals as goal

pub returns-in-Counts-clause-report : goal.returns-in-Counts-clause-report
returns-in-Counts-clause-report g c =
    let ran = c.write_counts in
    subst (λ verb. Reports c.args.input.now c.args.output.now ran.new.output (VerbEnds verb c.args.settings (word_of c.args.null) ran.new.input.left ran.result)) (sym c.in-Counts.is) ran.ensures.report

pub returns-in-Decode-clause-report : goal.returns-in-Decode-clause-report
returns-in-Decode-clause-report g c =
    let ran = c.write_decoded in
    let told = subst (λ limit. Reports c.args.input.now c.args.output.now ran.new.output (DecodeEnds c.args.settings.only_utf8 limit (word_of c.args.null) ran.new.input.left ran.result)) c.new-limits.ensures ran.ensures.report in
    subst (λ verb. Reports c.args.input.now c.args.output.now ran.new.output (VerbEnds verb c.args.settings (word_of c.args.null) ran.new.input.left ran.result)) (sym c.in-Decode.is) told

pub returns-in-Dictionary-clause-report : goal.returns-in-Dictionary-clause-report
returns-in-Dictionary-clause-report g c =
    let ran = c.write_merged in
    let told = subst (λ limit. Reports c.args.input.now c.args.output.now ran.new.output (DictionaryEnds c.args.settings.only_utf8 limit c.args.settings.binary ran.new.input.left ran.result)) c.new-limits.ensures ran.ensures.report in
    subst (λ verb. Reports c.args.input.now c.args.output.now ran.new.output (VerbEnds verb c.args.settings (word_of c.args.null) ran.new.input.left ran.result)) (sym c.in-Dictionary.is) told

pub returns-in-Distinct-clause-report : goal.returns-in-Distinct-clause-report
returns-in-Distinct-clause-report g c =
    let ran = c.write_distinct in
    let told = subst (λ limit. Reports c.args.input.now c.args.output.now ran.new.output (DistinctEnds c.args.settings.only_utf8 limit ran.new.input.left ran.result)) c.new-limits.ensures ran.ensures.report in
    subst (λ verb. Reports c.args.input.now c.args.output.now ran.new.output (VerbEnds verb c.args.settings (word_of c.args.null) ran.new.input.left ran.result)) (sym c.in-Distinct.is) told

pub returns-in-Encode-clause-report : goal.returns-in-Encode-clause-report
returns-in-Encode-clause-report g c =
    let ran = c.write_encoded in
    subst (λ verb. Reports c.args.input.now c.args.output.now ran.new.output (VerbEnds verb c.args.settings (word_of c.args.null) ran.new.input.left ran.result)) (sym c.in-Encode.is) ran.ensures.report

pub returns-in-Join-clause-report : goal.returns-in-Join-clause-report
returns-in-Join-clause-report g c =
    let ran = c.write_recoded in
    let told = subst (λ limit. Reports c.args.input.now c.args.output.now ran.new.output (JoinEnds c.args.settings.only_utf8 limit c.args.settings.binary ran.new.input.left ran.result)) c.new-limits.ensures ran.ensures.report in
    subst (λ verb. Reports c.args.input.now c.args.output.now ran.new.output (VerbEnds verb c.args.settings (word_of c.args.null) ran.new.input.left ran.result)) (sym c.in-Join.is) told

pub returns-in-Merge-clause-report : goal.returns-in-Merge-clause-report
returns-in-Merge-clause-report g c =
    let ran = c.write_merged-in-Merge in
    let told = subst (λ limit. Reports c.args.input.now c.args.output.now ran.new.output (MergeEnds c.args.settings.only_utf8 limit c.args.settings.binary ran.new.input.left ran.result)) c.new-limits.ensures ran.ensures.report in
    subst (λ verb. Reports c.args.input.now c.args.output.now ran.new.output (VerbEnds verb c.args.settings (word_of c.args.null) ran.new.input.left ran.result)) (sym c.in-Merge.is) told

pub returns-in-Recode-clause-report : goal.returns-in-Recode-clause-report
returns-in-Recode-clause-report g c =
    let ran = c.write_recoded-in-Recode in
    let told = subst (λ limit. Reports c.args.input.now c.args.output.now ran.new.output (RecodeEnds c.args.settings.only_utf8 limit c.args.settings.binary ran.new.input.left ran.result)) c.new-limits.ensures ran.ensures.report in
    subst (λ verb. Reports c.args.input.now c.args.output.now ran.new.output (VerbEnds verb c.args.settings (word_of c.args.null) ran.new.input.left ran.result)) (sym c.in-Recode.is) told
