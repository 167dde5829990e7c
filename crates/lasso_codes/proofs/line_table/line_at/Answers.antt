use Rattle.std.proofs.Common.{ℕ, ◌≡◌, ◌-◌, ◌+◌, List, Some, true, false, length, take, drop, get_or, ap, sym, ◌∙◌, arith}
use Rattle.std.specs.Prelude.{nat_eq}
use Rattle.lasso_input.specs.Texts.{is_marked}
use Rattle.lasso_codes.proofs.TableLines.{full_is_line, kept_at, other_is_line, own_is_line}
use Rattle.lasso_codes.proofs.line_table.line_at.Goals as goal

pub offset_bounds-bounds-position : goal.offset_bounds-bounds-position
offset_bounds-bounds-position c = let at = kept_at c.args.others.now c.args.bounds.now c.args.rodeo.now.texts c.args.position c.requires.others c.requires.bounds c.requires.inside in omega arith

pub bounds-bounds-position : goal.bounds-bounds-position
bounds-bounds-position c = let at = kept_at c.args.others.now c.args.bounds.now c.args.rodeo.now.texts c.args.position c.requires.others c.requires.bounds c.requires.inside in omega arith

pub overflow_add-kept : goal.overflow_add-kept
overflow_add-kept c = let at = kept_at c.args.others.now c.args.bounds.now c.args.rodeo.now.texts c.args.position c.requires.others c.requires.bounds c.requires.inside in omega arith

pub offset_bounds-bounds-position-2 : goal.offset_bounds-bounds-position-2
offset_bounds-bounds-position-2 c = let at = kept_at c.args.others.now c.args.bounds.now c.args.rodeo.now.texts c.args.position c.requires.others c.requires.bounds c.requires.inside in omega arith

pub bounds-bounds-position-2 : goal.bounds-bounds-position-2
bounds-bounds-position-2 c = let at = kept_at c.args.others.now c.args.bounds.now c.args.rodeo.now.texts c.args.position c.requires.others c.requires.bounds c.requires.inside in omega arith

pub slice_bounds-kept-count : goal.slice_bounds-kept-count
slice_bounds-kept-count c = let at = kept_at c.args.others.now c.args.bounds.now c.args.rodeo.now.texts c.args.position c.requires.others c.requires.bounds c.requires.inside in omega arith

pub slice_bounds-kept-start : goal.slice_bounds-kept-start
slice_bounds-kept-start c = let at = kept_at c.args.others.now c.args.bounds.now c.args.rodeo.now.texts c.args.position c.requires.others c.requires.bounds c.requires.inside in omega arith

pub slice_bounds-kept-end : goal.slice_bounds-kept-end
slice_bounds-kept-end c = let at = kept_at c.args.others.now c.args.bounds.now c.args.rodeo.now.texts c.args.position c.requires.others c.requires.bounds c.requires.inside in omega arith

pub returns-then-not-is_empty : goal.returns-then-not-is_empty
returns-then-not-is_empty c =
    let at = kept_at c.args.others.now c.args.bounds.now c.args.rodeo.now.texts c.args.position c.requires.others c.requires.bounds c.requires.inside in
    let kept : List ℕ = take (get_or c.args.bounds.now (c.args.position + 1) 0 - get_or c.args.bounds.now c.args.position 0) (drop (get_or c.args.bounds.now c.args.position 0) c.args.others.now) in
    let full : nat_eq (length kept) 0 ≡ false = cc in
    full_is_line c.args.rodeo.now.texts c.args.position kept at.text_is at.bytes full

pub returns-then-is_marked : goal.returns-then-is_marked
returns-then-is_marked c =
    let at = kept_at c.args.others.now c.args.bounds.now c.args.rodeo.now.texts c.args.position c.requires.others c.requires.bounds c.requires.inside in
    let kept : List ℕ = take (get_or c.args.bounds.now (c.args.position + 1) 0 - get_or c.args.bounds.now c.args.position 0) (drop (get_or c.args.bounds.now c.args.position 0) c.args.others.now) in
    let other : is_marked c.text_at.result.now ≡ true = cc in
    other_is_line c.args.rodeo.now.texts c.args.position c.text_at.result.now kept c.text_at.ensures at.bytes other

pub returns-else-is_marked : goal.returns-else-is_marked
returns-else-is_marked c =
    let own : is_marked c.text_at.result.now ≡ false = cc in
    own_is_line c.args.rodeo.now.texts c.args.position c.text_at.result.now c.text_at.ensures own ∙ ap Some (sym c.as_bytes-text.ensures.value)
