use Rattle.std.proofs.Common.{◌∙◌, [], sym, ap, subst}
use Rattle.lasso_columns.specs.Blocks.{StopsInRound}
use Rattle.lasso_columns.specs.Rows.{word_of, EncodesRows}
use Rattle.lasso_columns.specs.Steps.{AreAheadAfter, EncodesFirst}
use Rattle.lasso_columns.specs.Streams.{AreBlocksFor, lines_in}
use Rattle.lasso_columns.specs.declared.reading_blocks.Blocks.{Blocks}
use Rattle.lasso_columns.proofs.Steps.{err_goes, err_same, step_breaks, step_ends, step_stops}
use Rattle.lasso_columns.proofs.ahead.Ahead.encode_round.Goals as goal

pub put_blocks-requires : goal.put_blocks-requires
put_blocks-requires g c =
    let null = word_of c.args.null in
    let list = c.args.rodeo.now.texts in
    let read = c.args.self.now.read in
    let same = c.deref.ensures.value ∙ ap (λ (r : Blocks). r.blocks.items) c.replace-blocks.ensures.value in
    record {
      made =
          subst (λ bs. AreBlocksFor null list bs c.deref-2.result.now) (sym same)
          (subst (λ ms. AreBlocksFor null list read.blocks.items ms) (sym c.deref-2.ensures.value) c.encode_and_read-made.ensures.made);
    }

pub returns-in-Err-clause-stops : goal.returns-in-Err-clause-stops
returns-in-Err-clause-stops g c = λ lines ahead.
    let null = word_of c.args.null in
    let old = c.args.rodeo.now in
    let new = c.put_blocks.new.rodeo in
    let before = c.args.entries.now.items in
    let after = c.put_blocks.new.entries in
    let read = c.args.self.now.read in
    let same = c.deref.ensures.value ∙ ap (λ (r : Blocks). r.blocks.items) c.replace-blocks.ensures.value in
    let stops = subst (λ bs. StopsInRound null old (lines_in bs) before new after c.len-start.result c.in-Err.error) same c.in-Err.ensures.stops in
    step_stops c.args.self.now.by null old new lines before read.blocks.items read.more (g.I.Read.remaining c.args.input.now) ahead after (g.I.Read.remaining c.encode_and_read-made.new.input) c.in-Err.error c.len-start.result stops (c.len-start.ensures ∙ c.args.entries.now.ok.0)

pub returns-in-Err-more-clause-stops : goal.returns-in-Err-more-clause-stops
returns-in-Err-more-clause-stops g c = λ lines ahead.
    let null = word_of c.args.null in
    let old = c.args.rodeo.now in
    let new = c.put_blocks.new.rodeo in
    let before = c.args.entries.now.items in
    let after = c.put_blocks.new.entries in
    let read = c.args.self.now.read in
    let same = c.deref.ensures.value ∙ ap (λ (r : Blocks). r.blocks.items) c.replace-blocks.ensures.value in
    let rows = subst (λ bs. EncodesRows null old (lines_in bs) [] before new after.items) same c.in_default.ensures.rows in
    let failed = sym (ap (λ (r : Blocks). r.more) c.replace-blocks.ensures.value) ∙ c.in-Err-more.is in
    let kept = c.encode_and_read-made.ensures.kept (err_goes read.more c.in-Err-more.error failed) in
    step_breaks c.args.self.now.by null old new lines before read.blocks.items read.more (g.I.Read.remaining c.args.input.now) ahead after c.in-Err-more.error (g.I.Read.remaining c.encode_and_read-made.new.input) rows (err_same read.more c.in-Err-more.error failed) kept

pub returns-clause-rows : goal.returns-clause-rows
returns-clause-rows g c = λ lines ahead.
    let null = word_of c.args.null in
    let by = c.args.self.now.by in
    let old = c.args.rodeo.now in
    let new = c.put_blocks.new.rodeo in
    let before = c.args.entries.now.items in
    let after = c.put_blocks.new.entries.items in
    let read = c.args.self.now.read in
    let next = c.encode_and_read-made in
    let left = g.I.Read.remaining next.new.input in
    let goes_on = c.in-Ok.goes_on in
    let same = c.deref.ensures.value ∙ ap (λ (r : Blocks). r.blocks.items) c.replace-blocks.ensures.value in
    let rows = subst (λ bs. EncodesRows null old (lines_in bs) [] before new after) same c.in_default.ensures.rows in
    let is = sym (ap (λ (r : Blocks). r.more) c.replace-blocks.ensures.value) ∙ c.in-Ok.is in
    let all = step_ends by null old new lines before read.blocks.items read.more (g.I.Read.remaining c.args.input.now) ahead after goes_on left next.result.1.blocks.items next.result.1.more rows is next.ensures.next next.ensures.kept in
    subst (λ (r : Blocks). EncodesFirst by null old lines before new after (AreAheadAfter goes_on by (lines_in r.blocks.items) r.more left)) (sym c.replace-blocks.ensures.after) all
