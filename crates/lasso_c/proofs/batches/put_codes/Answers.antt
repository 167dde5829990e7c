use Rattle.std.proofs.Common.{◌≡◌, ◌+◌, get_or, take, ap, ◌∙◌, arith}
use Rattle.std.proofs.lemmas.Grind.{common_steps}
use Rattle.std.proofs.lemmas.List.{take_all}
use Rattle.std.specs.List.{slice_range}
use Rattle.lasso_parts.specs.Layout.{layout_texts}
use Rattle.lasso_c.specs.Layout.{over}
use Rattle.lasso_c.specs.Encoding.{codes_or}
use Rattle.lasso_c.proofs.Layouts.{good_at, length-layout_texts}
use Rattle.lasso_c.proofs.BatchSteps.{found_next}
use Rattle.lasso_c.proofs.batches.put_codes.Goals as goal

pub unwrap-text-requires : goal.unwrap-text-requires
unwrap-text-requires g c =
    let good = good_at g.O.Offset.GREATEST c.args.bytes.now (g.O.Offset.numbers c.args.offsets.now) c.loop-at.at c.requires.layout (omega arith) in
    grind (arith, common_steps)

pub bounds-codes-at : goal.bounds-codes-at
bounds-codes-at g c = omega (arith, length-layout_texts c.args.bytes.now (g.O.Offset.numbers c.args.offsets.now))

pub offset_bounds-codes-at : goal.offset_bounds-codes-at
offset_bounds-codes-at g c = omega (arith, length-layout_texts c.args.bytes.now (g.O.Offset.numbers c.args.offsets.now), c.loop-at.auto.codes)

pub loop-at-preserved : goal.loop-at-preserved
loop-at-preserved g c =
    let count = length-layout_texts c.args.bytes.now (g.O.Offset.numbers c.args.offsets.now) in
    let is = c.text_between.ensures in
    let is_text : c.unwrap-text.result.now ≡ slice_range c.args.bytes.now (get_or (g.O.Offset.numbers c.args.offsets.now) c.loop-at.at 0) (get_or (g.O.Offset.numbers c.args.offsets.now) (c.loop-at.at + 1) 0) = grind (arith, common_steps, is) in
    found_next c.args.bytes.now (g.O.Offset.numbers c.args.offsets.now) c.args.dictionary.now.texts c.args.absent c.loop-at.at c.args.codes.now c.loop-at.codes c.unwrap-text.result.now c.code_or.result
    c.loop-at.invariant (omega arith) (omega (arith, count)) (c.loop-at.auto.codes) (omega (arith, count)) is_text c.code_or.ensures

pub returns : goal.returns
returns g c =
    let texts = layout_texts c.args.bytes.now (g.O.Offset.numbers c.args.offsets.now) in
    let count = length-layout_texts c.args.bytes.now (g.O.Offset.numbers c.args.offsets.now) in
    let whole : take c.loop-at.at texts ≡ texts = take_all c.loop-at.at texts (omega (arith, count)) in
    c.loop-at.invariant ∙ ap (λ ts. over (codes_or c.args.absent c.args.dictionary.now.texts ts) c.args.codes.now) whole
