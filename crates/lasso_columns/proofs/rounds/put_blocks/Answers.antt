use Rattle.std.proofs.Common.{◌≡◌, ◌+◌, ◌++◌, ℕ, List, Some, drop, sym, ap, subst, ◌∙◌, arith}
use Rattle.std.specs.Prelude.{slice_get}
use Rattle.std.proofs.lemmas.Option.{slice_get-get_or}
use Rattle.lasso_input.specs.Lines.{lines_of}
use Rattle.lasso_columns.specs.Blocks.{IsBlockFor}
use Rattle.lasso_columns.specs.Rows.{word_of}
use Rattle.lasso_columns.specs.Streams.{lines_in}
use Rattle.lasso_columns.proofs.Beside.{if_some_then}
use Rattle.lasso_columns.proofs.PutBlocks.{block_later, block_more, block_stops_round, lines_from}
use Rattle.lasso_columns.proofs.rounds.put_blocks.Goals as goal

pub put_block-requires : goal.put_block-requires
put_block-requires g c =
    let null = word_of c.args.null in
    let old = c.args.rodeo.now in
    let at = c.loop-i in
    let bytes = c.index-blocks-i.result in
    let here : slice_get c.args.blocks.now at.i ≡ Some bytes = slice_get-get_or c.args.blocks.now at.i bytes c.loop-i-test.true ∙ ap (λ b. Some b) (sym c.index-blocks-i.is) in
    if_some_then (λ block. slice_get c.args.made.now at.i ≡ Some (Some block.now)) (λ block. IsBlockFor null at.rodeo.texts (lines_of c.deref.result.now) block.now.base block.now.added block.now.entries.items block.now.is_complete) c.block_at.result c.block_at.ensures
    (λ block there.
    subst (λ (bs : List ℕ). IsBlockFor null at.rodeo.texts (lines_of bs) block.now.base block.now.added block.now.entries.items block.now.is_complete) (sym c.deref.ensures.value)
    (block_later null old at.rodeo (lines_in c.args.blocks.now) (lines_in (drop at.i c.args.blocks.now)) c.args.entries.now.items at.entries.items (lines_of bytes.items) block.now.base block.now.added block.now.entries.items block.now.is_complete at.invariant (c.requires.made at.i block.now bytes there here)))

pub returns-in-Err-clause-stops : goal.returns-in-Err-clause-stops
returns-in-Err-clause-stops g c =
    let at = c.loop-i in
    let more = lines_in (drop (at.i + 1) c.args.blocks.now) in
    let is : lines_in (drop at.i c.args.blocks.now) ≡ lines_of c.deref.result.now ++ more =
    lines_from c.args.blocks.now at.i c.index-blocks-i.result c.loop-i-test.true ∙ ap (λ (bs : List ℕ). lines_of bs ++ more) (ap (λ b. b.items) (sym c.index-blocks-i.is) ∙ sym c.deref.ensures.value) in
    rw (c.at_line.ensures) (block_stops_round (word_of c.args.null) c.args.rodeo.now at.rodeo c.put_block.new.rodeo (lines_in c.args.blocks.now) (lines_in (drop at.i c.args.blocks.now)) (lines_of c.deref.result.now) more c.args.entries.now.items at.entries.items c.put_block.new.entries c.args.start _ c.in-Err.error at.invariant is c.in-Err.ensures.stops (omega (arith, c.saturating_sub.ensures, c.len.ensures)))

pub loop-i-preserved : goal.loop-i-preserved
loop-i-preserved g c =
    let at = c.loop-i in
    let more = lines_in (drop (at.i + 1) c.args.blocks.now) in
    let is : lines_in (drop at.i c.args.blocks.now) ≡ lines_of c.deref.result.now ++ more =
    lines_from c.args.blocks.now at.i c.index-blocks-i.result c.loop-i-test.true ∙ ap (λ (bs : List ℕ). lines_of bs ++ more) (ap (λ b. b.items) (sym c.index-blocks-i.is) ∙ sym c.deref.ensures.value) in
    block_more (word_of c.args.null) c.args.rodeo.now at.rodeo c.put_block.new.rodeo (lines_in c.args.blocks.now) (lines_in (drop at.i c.args.blocks.now)) (lines_of c.deref.result.now) more c.args.entries.now.items at.entries.items c.put_block.new.entries.items at.invariant is c.in_default.ensures.rows
