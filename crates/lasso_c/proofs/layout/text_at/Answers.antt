use Rattle.std.proofs.Common.{arith, sym}
use Rattle.lasso_parts.specs.Layout.{greatest_offset}
use Rattle.lasso_c.proofs.Layouts.{lies, lacks}
use Rattle.lasso_c.proofs.layout.text_at.Goals as goal

pub returns-then-number-offsets : goal.returns-then-number-offsets
returns-then-number-offsets c = sym (lacks c.args.bytes.now c.args.offsets.now c.args.number (omega arith))

pub slice_bounds-result-count : goal.slice_bounds-result-count
slice_bounds-result-count c = (lies greatest_offset c.args.bytes.now c.args.offsets.now c.args.number c.requires (omega arith)).rises

pub slice_bounds-result-start : goal.slice_bounds-result-start
slice_bounds-result-start c = let at = lies greatest_offset c.args.bytes.now c.args.offsets.now c.args.number c.requires (omega arith) in omega arith

pub slice_bounds-result-end : goal.slice_bounds-result-end
slice_bounds-result-end c = let at = lies greatest_offset c.args.bytes.now c.args.offsets.now c.args.number c.requires (omega arith) in omega arith

pub returns : goal.returns
returns c = sym (lies greatest_offset c.args.bytes.now c.args.offsets.now c.args.number c.requires (omega arith)).is
