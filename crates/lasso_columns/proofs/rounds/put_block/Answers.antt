use Rattle.std.proofs.Common.{◌≡◌, ◌++◌, ℕ, List, Some, map, IfSome, take, drop, length, sym, ap, subst, ◌∙◌, arith, append_assoc}
use Rattle.std.proofs.lemmas.List.{take-append-drop, length-take-le}
use Rattle.lasso_parts.specs.Texts.{Text}
use Rattle.lasso_input.specs.Lines.{lines_of}
use Rattle.lasso_columns.specs.Parts.{new_texts}
use Rattle.lasso_columns.specs.Rows.{word_of}
use Rattle.lasso_columns.specs.Blocks.{IsBlockFor, AddsPlaced, placed}
use Rattle.lasso_columns.proofs.PartLists.{list_extended}
use Rattle.lasso_columns.proofs.PlacedBlocks.{BlockPut, few_of, found_first, block_put, block_stays, put_rows, put_stops_at}
use Rattle.lasso_columns.proofs.rounds.put_block.Given.{Over}
use Rattle.lasso_columns.proofs.rounds.put_block.Goals as goal

pub append_placed-requires-clause-stays : goal.append_placed-requires-clause-stays
append_placed-requires-clause-stays g c = λ none.
    let null = word_of c.args.null in
    let block = c.in-Some.block.now in
    let old = c.args.rodeo.now in
    let is_for : IsBlockFor null old.texts (lines_of c.args.bytes.now) block.base block.added block.entries.items block.is_complete =
    subst (λ r. IfSome r (λ b. IsBlockFor null old.texts (lines_of c.args.bytes.now) b.now.base b.now.added b.now.entries.items b.now.is_complete)) c.in-Some.is c.requires in
    subst (λ (es : List ℕ). map (placed block.base c.deref-2.result.now) es ≡ map Some es) (sym c.deref.ensures.value)
    (block_stays null (take block.base old.texts) (lines_of c.args.bytes.now) block.added block.entries.items block.is_complete block.base c.deref-2.result.now is_for.1 (sym (length-take-le block.base old.texts is_for.0)) (sym c.is_empty.ensures ∙ none))

-- what the block left
is_put : (g : Over) (c : goal.After-drop-table-2 g) → BlockPut (word_of c.args.null) c.args.rodeo.now c.encode_list-outcome.new.into (lines_of c.args.bytes.now) c.in-Some.block.now.added c.args.entries.now.items c.append_placed.new.entries.items (length c.encode_list-outcome.new.codes.items) c.in-Some.block.now.is_complete
is_put g c =
    let null = word_of c.args.null in
    let block = c.in-Some.block.now in
    let old = c.args.rodeo.now in
    let now = c.encode_list-outcome.new.into in
    let table = c.encode_list-outcome.new.codes.items in
    let is_for : IsBlockFor null old.texts (lines_of c.args.bytes.now) block.base block.added block.entries.items block.is_complete =
    subst (λ r. IfSome r (λ b. IsBlockFor null old.texts (lines_of c.args.bytes.now) b.now.base b.now.added b.now.entries.items b.now.is_complete)) c.in-Some.is c.requires in
    let list = take block.base old.texts in
    let news = new_texts old.texts (take (length table) block.added) in
    let grown : now.texts ≡ list ++ (drop block.base old.texts ++ news) =
    list_extended old now (take (length table) block.added) c.encode_list-outcome.ensures.list
    ∙ ap (λ (ts : List Text). ts ++ news) (sym (take-append-drop block.base old.texts)) ∙ append_assoc list (drop block.base old.texts) news in
    let placed : AddsPlaced block.base table block.entries.items c.args.entries.now.items c.append_placed.new.entries.items =
    subst (λ m. AddsPlaced block.base m block.entries.items c.args.entries.now.items c.append_placed.new.entries.items) c.deref-2.ensures.value
    (subst (λ p. AddsPlaced block.base c.deref-2.result.now p c.args.entries.now.items c.append_placed.new.entries.items) c.deref.ensures.value
    (subst (λ b. AddsPlaced block.base c.deref-2.result.now c.deref.result.now b c.append_placed.new.entries.items) c.reserve.ensures.items c.append_placed.ensures)) in
    block_put null old now list (lines_of c.args.bytes.now) block.added block.base block.entries.items table c.args.entries.now.items c.append_placed.new.entries.items block.is_complete is_for.1 (sym (length-take-le block.base old.texts is_for.0)) (drop block.base old.texts ++ news) grown (found_first old block.base c.len-before.ensures.distinct c.len-before.ensures.fits is_for.0) c.encode_list-outcome.ensures.list c.encode_list-outcome.ensures.codes (few_of (length now.texts) c.len-after.ensures.fits) placed

pub returns-clause-rows : goal.returns-clause-rows
returns-clause-rows g c =
    put_rows (word_of c.args.null) c.args.rodeo.now c.encode_list-outcome.new.into (lines_of c.args.bytes.now) c.in-Some.block.now.added c.args.entries.now.items c.append_placed.new.entries c.encode_list-outcome.new.codes.items c.in-Some.block.now.is_complete c.encode_list-outcome.result _ c.block_end.result (is_put g c) c.block_end.ensures c.encode_list-outcome.ensures.whole

pub returns-clause-stops : goal.returns-clause-stops
returns-clause-stops g c =
    let before = c.reserve.ensures.items in
    put_stops_at (word_of c.args.null) c.args.rodeo.now c.encode_list-outcome.new.into (lines_of c.args.bytes.now) c.in-Some.block.now.added c.args.entries.now.items c.append_placed.new.entries c.encode_list-outcome.new.codes.items c.in-Some.block.now.is_complete c.encode_list-outcome.result _ c.block_end.result (is_put g c) c.block_end.ensures c.encode_list-outcome.ensures.whole c.encode_list-outcome.ensures.refused c.encode_list-outcome.ensures.memory (omega (arith, ap length before))
