use Rattle.std.proofs.Common.{◌≡◌, ◌∙◌, ap, sym, subst, map, take, length, min, sum, arith}
use Rattle.std.specs.Prelude.{flat_map}
use Rattle.std.proofs.lemmas.Grind.{common_steps}
use Rattle.std.proofs.lemmas.Result.{err_from_is_err_and}
use Rattle.lasso_single.specs.Filling.{extend}
use Rattle.lasso_single.specs.Interner.{InternerView, made_with}
use Rattle.lasso_single.proofs.Filled.{accepted}
use Rattle.lasso_single.specs.Coding.{spur_at}
use Rattle.std.proofs.lemmas.List.{length-map}
use Rattle.lasso_input.specs.Lines.{lines_of}
use Rattle.lasso_input.specs.Texts.{text_of}
use Rattle.lasso_columns.specs.Counts.{AreCounts, pair_of}
use Rattle.lasso_codes.specs.Counts.{CountsEnd, count_line}
use Rattle.lasso_codes.specs.Limits.{line_texts}
use Rattle.lasso_codes.specs.Streams.{WritesAll}
use Rattle.lasso_codes.proofs.Failing.{written_no_read}
use Rattle.lasso_codes.proofs.LineCounts.{counted_order}
use Rattle.lasso_codes.proofs.LineTexts.{lines_are_bytes}
use Rattle.lasso_codes.proofs.Written.{writes_none, writes_as}
use Rattle.lasso_codes.proofs.CountedLines.{none_written, unmade, report_written, first_ranked}
use Rattle.lasso_codes.proofs.counts.write_counts.Goals as goal

pub returns-in_err-rodeo-clause-report : goal.returns-in_err-rodeo-clause-report
returns-in_err-rodeo-clause-report g c = λ bytes e.
    let p = err_from_is_err_and c.from_residual.result c.from_residual.ensures.1 in
    let error = c.in_err-rodeo.field-0.0 in
    rw (p.1, p.2) (writes_none _ _ (none_written bytes c.args.settings.only_utf8 c.args.settings.limit c.args.settings.top c.args.input.now.left error (unmade c.args.settings.only_utf8 c.args.settings.limit (lines_of bytes) c.args.input.now.left error c.in_err-rodeo.ensures.refused)))

pub returns-in_err-count_all-clause-report : goal.returns-in_err-count_all-clause-report
returns-in_err-count_all-clause-report g c = λ bytes e.
    let p = err_from_is_err_and c.from_residual-in_err-count_all.result c.from_residual-in_err-count_all.ensures.1 in
    let error = c.in_err-count_all.field-0.0 in
    rw (p.1, p.2) (writes_none _ _ (none_written bytes c.args.settings.only_utf8 c.args.settings.limit c.args.settings.top c.count_all.new.input.left error (c.in_err-count_all.ensures.error bytes e c.args.settings.limit (c.in_ok-rodeo.ensures.made ∙ ap (λ n. made_with 4096 n) c.new.ensures))))

pub returns-in_err-table-clause-report : goal.returns-in_err-table-clause-report
returns-in_err-table-clause-report g c = λ bytes e.
    let p = err_from_is_err_and c.from_residual-in_err-table.result c.from_residual-in_err-table.ensures.1 in
    let only = c.args.settings.only_utf8 in
    let error = c.in_err-table.field-0.0 in
    rw (p.1, p.2) (writes_none _ _ (none_written bytes only c.args.settings.limit c.args.settings.top c.count_all.new.input.left error (unmade only c.args.settings.limit (lines_of bytes) c.count_all.new.input.left error c.in_err-table.ensures.refused)))

pub returns-clause-report : goal.returns-clause-report
returns-clause-report g c = λ bytes e.
    let counted = c.in_ok-count_all.ensures.counted bytes e in
    let items = c.in-Ok-by_frequency_in_parts.ranked.items in
    let counts_are = subst (λ cs. AreCounts (line_texts (lines_of bytes)) c.count_all.new.rodeo.texts cs) (sym c.deref-2.ensures.value) counted.1 in
    let order = counted_order (lines_of bytes) c.in-Some.own.now.texts c.count_all.new.rodeo.texts c.deref-2.result.now (map pair_of items) (lines_are_bytes c.args.settings.only_utf8 (lines_of bytes) counted.0) (c.in-Some.ensures ∙ c.in_ok-table.ensures.lines) counts_are c.in-Ok-by_frequency_in_parts.ensures.pairs in
    let total = c.in-Ok-by_frequency_in_parts.ensures.total ∙ ap sum c.deref-2.ensures.value ∙ counted.1.total ∙ length-map (lines_of bytes) text_of in
    let most_is : c.min-most.result ≡ min (length items) c.args.settings.top = grind (arith, common_steps, c.min-most.ensures, c.len-2.ensures, c.in-Ok-by_frequency_in_parts.ranked.ok.0) in
    let slice_is = first_ranked pair_of items c.deref-3.result.now c.args.settings.top c.min-most.result most_is c.deref-3.ensures.value in
    let made = c.in_ok-rodeo.ensures.made ∙ ap (λ n. made_with 4096 n) c.new.ensures in
    let list = subst (λ (i : InternerView). extend spur_at i (line_texts (lines_of bytes)) accepted c.count_all.new.rodeo) made (c.in_ok-count_all.ensures.interned bytes e) in
    let result = c.write_ranked-2.result in
    writes_as _ _ (WritesAll (flat_map count_line (map pair_of (take c.min-most.result c.deref-3.result.now))) result) (λ part. CountsEnd bytes c.args.settings.only_utf8 c.args.settings.limit c.args.settings.top c.count_all.new.input.left part result) c.write_ranked-2.ensures.written (λ part w.
    report_written bytes c.args.settings.only_utf8 c.args.settings.limit c.args.settings.top c.count_all.new.input.left (map pair_of items) part result (counted.0, (c.count_all.new.rodeo, list)) order c.in-Ok-by_frequency_in_parts.ensures.order total (subst (λ ps. WritesAll (flat_map count_line ps) result part) slice_is w))

pub returns-in_default-clause-report : goal.returns-in_default-clause-report
returns-in_default-clause-report g c = λ bytes e.
    let counted = c.in_ok-count_all.ensures.counted bytes e in
    let items = c.in-Ok.lines.items in
    let counts_are = subst (λ cs. AreCounts (line_texts (lines_of bytes)) c.count_all.new.rodeo.texts cs) (sym c.deref.ensures.value) counted.1 in
    let order = counted_order (lines_of bytes) c.in_ok-table.table c.count_all.new.rodeo.texts c.deref.result.now (map pair_of items) (lines_are_bytes c.args.settings.only_utf8 (lines_of bytes) counted.0) c.in_ok-table.ensures.lines counts_are c.in-Ok.ensures.pairs in
    let total = c.in-Ok.ensures.total ∙ ap sum c.deref.ensures.value ∙ counted.1.total ∙ length-map (lines_of bytes) text_of in
    let most_is : c.min-count.result ≡ min (length items) c.args.settings.top = grind (arith, common_steps, c.min-count.ensures, c.len.ensures, c.in-Ok.lines.ok.0) in
    let slice_is = first_ranked pair_of items c.deref-in_default.result.now c.args.settings.top c.min-count.result most_is c.deref-in_default.ensures.value in
    let made = c.in_ok-rodeo.ensures.made ∙ ap (λ n. made_with 4096 n) c.new.ensures in
    let list = subst (λ (i : InternerView). extend spur_at i (line_texts (lines_of bytes)) accepted c.count_all.new.rodeo) made (c.in_ok-count_all.ensures.interned bytes e) in
    let result = c.write_ranked.result in
    writes_as _ _ (WritesAll (flat_map count_line (map pair_of (take c.min-count.result c.deref-in_default.result.now))) result) (λ part. CountsEnd bytes c.args.settings.only_utf8 c.args.settings.limit c.args.settings.top c.count_all.new.input.left part result) c.write_ranked.ensures.written (λ part w.
    report_written bytes c.args.settings.only_utf8 c.args.settings.limit c.args.settings.top c.count_all.new.input.left (map pair_of items) part result (counted.0, (c.count_all.new.rodeo, list)) order c.in-Ok.ensures.order total (subst (λ ps. WritesAll (flat_map count_line ps) result part) slice_is w))

pub returns-in_default-lines_by_frequency-clause-report : goal.returns-in_default-lines_by_frequency-clause-report
returns-in_default-lines_by_frequency-clause-report g c = λ bytes e.
    let only = c.args.settings.only_utf8 in
    let error = c.no_memory.result in
    writes_none _ _ (none_written bytes only c.args.settings.limit c.args.settings.top c.count_all.new.input.left error (unmade only c.args.settings.limit (lines_of bytes) c.count_all.new.input.left error c.no_memory.ensures))

pub returns-in_default-by_frequency_in_parts-clause-report : goal.returns-in_default-by_frequency_in_parts-clause-report
returns-in_default-by_frequency_in_parts-clause-report g c = λ bytes e.
    let only = c.args.settings.only_utf8 in
    let error = c.no_memory-in_default-by_frequency_in_parts.result in
    writes_none _ _ (none_written bytes only c.args.settings.limit c.args.settings.top c.count_all.new.input.left error (unmade only c.args.settings.limit (lines_of bytes) c.count_all.new.input.left error c.no_memory-in_default-by_frequency_in_parts.ensures))

pub returns-clause-reads : goal.returns-clause-reads
returns-clause-reads g c =
    let wrote = c.write_ranked-2.ensures.written in
    let nothing = written_no_read _ wrote.0 c.write_ranked-2.result wrote.2 in
    omega (arith, c.in_ok-count_all.ensures.reads, nothing)
