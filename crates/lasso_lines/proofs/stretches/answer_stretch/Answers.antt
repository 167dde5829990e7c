use Rattle.std.proofs.Common.{◌≡◌, ◌-◌, ◌<◌, [], ◌∷◌, ◌++◌, length, drop, refl, sym, subst, ◌∙◌, append-nil}
use Rattle.std.proofs.lemmas.Result.{err_from_is_err_and}
use Rattle.lasso_input.specs.Lines.{NoFeed}
use Rattle.lasso_lines.specs.Answer.{LineFails, no_memory}
use Rattle.lasso_lines.specs.Report.{held_by}
use Rattle.lasso_lines.specs.Stretch.{LeadsTo, FailsWith}
use Rattle.lasso_lines.proofs.FailedCalls.{none_failed}
use Rattle.lasso_lines.proofs.Known.{nothing_more, grows_as}
use Rattle.lasso_lines.proofs.Cuts.{held_no_feed, held_bytes, held_last, slice_end, leads_held, fails_line, fails_held, fails_then}
use Rattle.lasso_lines.proofs.stretches.answer_stretch.Goals as goal

-- the buffer has no line feed, and out of memory for its bytes
pub returns-in_err-hold-clause-answers : goal.returns-in_err-hold-clause-answers
returns-in_err-hold-clause-answers g c =
    let before = held_by c.args.rodeo.now in
    let p = err_from_is_err_and c.from_residual.result c.from_residual.ensures.1 in
    rw (p.1, p.2) (nothing_more _ _ (fails_held before c.args.number c.args.begun.now.items c.args.buffer.now _ c.in_err-hold.ensures.lacks))

pub returns-in_err-hold-clause-first : goal.returns-in_err-hold-clause-first
returns-in_err-hold-clause-first g c = c.requires.first

pub returns-in_err-hold-clause-failures : goal.returns-in_err-hold-clause-failures
returns-in_err-hold-clause-failures g c =
    let p = err_from_is_err_and c.from_residual.result c.from_residual.ensures.1 in
    rw (p.1, p.2, c.in_err-hold.ensures.lacks.0) (none_failed _ _ refl)

pub returns-in_err-hold-clause-delivered : goal.returns-in_err-hold-clause-delivered
returns-in_err-hold-clause-delivered g c = nothing_more _ _ tt

pub returns-in_err-hold-clause-faults : goal.returns-in_err-hold-clause-faults
returns-in_err-hold-clause-faults g c =
    let p = err_from_is_err_and c.from_residual.result c.from_residual.ensures.1 in
    rw (p.1, p.2, c.in_err-hold.ensures.lacks.0) tt

-- the buffer's bytes are held
pub returns-in_default-clause-answers : goal.returns-in_default-clause-answers
returns-in_default-clause-answers g c =
    let before = held_by c.args.rodeo.now in
    nothing_more _ _ (leads_held before c.args.number (c.args.begun.now.items ++ c.args.buffer.now) _ c.in_ok-hold.ensures.held)

pub returns-in_default-clause-held : goal.returns-in_default-clause-held
returns-in_default-clause-held g c =
    held_no_feed c.args.begun.now.items c.args.buffer.now _ c.in_ok-hold.ensures.held c.requires.no_feed (subst NoFeed c.new-lines.ensures c.in_default.ensures.line.0)

pub returns-in_default-clause-first : goal.returns-in_default-clause-first
returns-in_default-clause-first g c = c.requires.first

pub returns-in_default-clause-failures : goal.returns-in_default-clause-failures
returns-in_default-clause-failures g c = none_failed _ _ refl

pub returns-in_default-clause-delivered : goal.returns-in_default-clause-delivered
returns-in_default-clause-delivered g c = nothing_more _ _ tt

pub returns-in_default-clause-counted : goal.returns-in_default-clause-counted
returns-in_default-clause-counted g c = c.requires.counted

-- out of memory for the end of the first line
pub returns-in_err-hold-2-clause-answers : goal.returns-in_err-hold-2-clause-answers
returns-in_err-hold-2-clause-answers g c =
    let before = held_by c.args.rodeo.now in
    let begun = c.args.begun.now.items in
    let line = c.bytes.result.now in
    let cut : NoFeed line × (c.args.buffer.now ≡ line ++ 10 ∷ c.next_ended.new.self) = rw (c.bytes.ensures, sym c.new-lines.ensures) c.in-Some.ensures.line in
    let p = err_from_is_err_and c.from_residual-in_err-hold-2.result c.from_residual-in_err-hold-2.ensures.1 in
    rw (p.1, p.2) (nothing_more _ _ (fails_line before c.args.number begun c.args.buffer.now line c.next_ended.new.self c.requires.no_feed cut [] _
    (subst (λ f. LineFails before c.args.number (begun ++ line) [] f) (sym c.in_err-hold-2.ensures.lacks.0) (no_memory refl))))

pub returns-in_err-hold-2-clause-first : goal.returns-in_err-hold-2-clause-first
returns-in_err-hold-2-clause-first g c = c.requires.first

pub returns-in_err-hold-2-clause-failures : goal.returns-in_err-hold-2-clause-failures
returns-in_err-hold-2-clause-failures g c =
    let p = err_from_is_err_and c.from_residual-in_err-hold-2.result c.from_residual-in_err-hold-2.ensures.1 in
    rw (p.1, p.2, c.in_err-hold-2.ensures.lacks.0) (none_failed _ _ refl)

pub returns-in_err-hold-2-clause-delivered : goal.returns-in_err-hold-2-clause-delivered
returns-in_err-hold-2-clause-delivered g c = nothing_more _ _ tt

pub returns-in_err-hold-2-clause-faults : goal.returns-in_err-hold-2-clause-faults
returns-in_err-hold-2-clause-faults g c =
    let p = err_from_is_err_and c.from_residual-in_err-hold-2.result c.from_residual-in_err-hold-2.ensures.1 in
    rw (p.1, p.2, c.in_err-hold-2.ensures.lacks.0) tt

-- the first line has no line feed
pub answer_lines-requires-clause-line : goal.answer_lines-requires-clause-line
answer_lines-requires-clause-line g c =
    let line = c.bytes.result.now in
    let cut : NoFeed line = rw (c.bytes.ensures) c.in-Some.ensures.line.0 in
    held_no_feed c.args.begun.now.items line _ (c.deref.ensures.value ∙ c.in_ok-hold-2.ensures.held) c.requires.no_feed cut

-- a line fails
pub returns-in_err-next-clause-answers : goal.returns-in_err-next-clause-answers
returns-in_err-next-clause-answers g c =
    let before = held_by c.args.rodeo.now in
    let begun = c.args.begun.now.items in
    let line = c.bytes.result.now in
    let cut : c.args.buffer.now ≡ line ++ 10 ∷ c.next_ended.new.self = rw (c.bytes.ensures, sym c.new-lines.ensures) c.in-Some.ensures.line.1 in
    let whole = c.deref.ensures.value ∙ c.in_ok-hold-2.ensures.held in
    let same = held_bytes begun line c.next_ended.new.self c.args.buffer.now c.deref.result.now whole cut in
    let p = err_from_is_err_and c.from_residual-in_err-next.result c.from_residual-in_err-next.ensures.1 in
    rw (p.1, p.2) (grows_as _ _ _ _ c.in_err-next.ensures.answers (λ part fails. subst (λ bs. FailsWith before c.args.number bs part c.in_err-next.field-0.0) same fails))

pub returns-in_err-next-clause-first : goal.returns-in_err-next-clause-first
returns-in_err-next-clause-first g c = c.answer_lines.ensures.first

pub returns-in_err-next-clause-failures : goal.returns-in_err-next-clause-failures
returns-in_err-next-clause-failures g c =
    let p = err_from_is_err_and c.from_residual-in_err-next.result c.from_residual-in_err-next.ensures.1 in
    rw (p.1, p.2) c.in_err-next.ensures.failures

pub returns-in_err-next-clause-delivered : goal.returns-in_err-next-clause-delivered
returns-in_err-next-clause-delivered g c = c.answer_lines.ensures.delivered

pub returns-in_err-next-clause-faults : goal.returns-in_err-next-clause-faults
returns-in_err-next-clause-faults g c =
    let p = err_from_is_err_and c.from_residual-in_err-next.result c.from_residual-in_err-next.ensures.1 in
    rw (p.1, p.2) c.in_err-next.ensures.faults

-- the lines are answered, and out of memory for the bytes after them
pub returns-in_err-hold-3-clause-answers : goal.returns-in_err-hold-3-clause-answers
returns-in_err-hold-3-clause-answers g c =
    let before = held_by c.args.rodeo.now in
    let after = held_by c.answer_lines.new.rodeo in
    let begun = c.args.begun.now.items in
    let buffer = c.args.buffer.now in
    let line = c.bytes.result.now in
    let cut : buffer ≡ line ++ 10 ∷ c.next_ended.new.self = rw (c.bytes.ensures, sym c.new-lines.ensures) c.in-Some.ensures.line.1 in
    let whole = c.deref.ensures.value ∙ c.in_ok-hold-2.ensures.held in
    let same = held_bytes begun line c.next_ended.new.self buffer c.deref.result.now whole cut in
    let last = drop (length c.next_ended.new.self - c.in_ok-next.left) c.next_ended.new.self in
    let p = err_from_is_err_and c.from_residual-in_err-hold-3.result c.from_residual-in_err-hold-3.ensures.1 in
    rw (p.1, p.2) (grows_as _ _ _ _ c.in_ok-next.ensures.answers (λ part leads.
    subst (λ bs. FailsWith before c.args.number (begun ++ buffer) bs c.in_err-hold-3.field-0.0) (append-nil part)
    (fails_then before after c.args.number c.in_ok-next.next (begun ++ buffer) last part [] _
    (subst (λ bs. LeadsTo before c.args.number bs after c.in_ok-next.next last part) same leads) (fails_held after c.in_ok-next.next [] last _ (c.in_err-hold-3.ensures.lacks.0, subst (λ bs. 0 < length bs) (slice_end c.in_ok-next.left _ _ c.rest-rest.ensures) c.in_err-hold-3.ensures.lacks.1)))))

pub returns-in_err-hold-3-clause-first : goal.returns-in_err-hold-3-clause-first
returns-in_err-hold-3-clause-first g c = c.answer_lines.ensures.first

pub returns-in_err-hold-3-clause-failures : goal.returns-in_err-hold-3-clause-failures
returns-in_err-hold-3-clause-failures g c =
    let p = err_from_is_err_and c.from_residual-in_err-hold-3.result c.from_residual-in_err-hold-3.ensures.1 in
    rw (p.1, p.2, c.in_err-hold-3.ensures.lacks.0) c.in_ok-next.ensures.failures

pub returns-in_err-hold-3-clause-delivered : goal.returns-in_err-hold-3-clause-delivered
returns-in_err-hold-3-clause-delivered g c = c.answer_lines.ensures.delivered

pub returns-in_err-hold-3-clause-faults : goal.returns-in_err-hold-3-clause-faults
returns-in_err-hold-3-clause-faults g c =
    let p = err_from_is_err_and c.from_residual-in_err-hold-3.result c.from_residual-in_err-hold-3.ensures.1 in
    rw (p.1, p.2, c.in_err-hold-3.ensures.lacks.0) tt

-- the lines are answered, and the bytes after them are held
pub returns-clause-answers : goal.returns-clause-answers
returns-clause-answers g c =
    let before = held_by c.args.rodeo.now in
    let after = held_by c.answer_lines.new.rodeo in
    let begun = c.args.begun.now.items in
    let buffer = c.args.buffer.now in
    let line = c.bytes.result.now in
    let cut : buffer ≡ line ++ 10 ∷ c.next_ended.new.self = rw (c.bytes.ensures, sym c.new-lines.ensures) c.in-Some.ensures.line.1 in
    let whole = c.deref.ensures.value ∙ c.in_ok-hold-2.ensures.held in
    let same = held_bytes begun line c.next_ended.new.self buffer c.deref.result.now whole cut in
    let last = drop (length c.next_ended.new.self - c.in_ok-next.left) c.next_ended.new.self in
    let held : c.hold-3.new.begun.items ≡ last = held_last _ _ _ last c.in_ok-hold-3.ensures.held c.clear.ensures.items (slice_end c.in_ok-next.left _ _ c.rest-rest.ensures) in
    grows_as _ _ _ _ c.in_ok-next.ensures.answers (λ part leads.
    subst (λ bs. LeadsTo before c.args.number (begun ++ buffer) after c.in_ok-next.next bs part) (sym held)
    (subst (λ bs. LeadsTo before c.args.number bs after c.in_ok-next.next last part) same leads))

pub returns-clause-first : goal.returns-clause-first
returns-clause-first g c = c.answer_lines.ensures.first

pub returns-clause-failures : goal.returns-clause-failures
returns-clause-failures g c = c.in_ok-next.ensures.failures

pub returns-clause-delivered : goal.returns-clause-delivered
returns-clause-delivered g c = c.answer_lines.ensures.delivered

pub returns-clause-held : goal.returns-clause-held
returns-clause-held g c =
    let last = drop (length c.next_ended.new.self - c.in_ok-next.left) c.next_ended.new.self in
    let held : c.hold-3.new.begun.items ≡ last = held_last _ _ _ last c.in_ok-hold-3.ensures.held c.clear.ensures.items (slice_end c.in_ok-next.left _ _ c.rest-rest.ensures) in
    subst NoFeed (sym held) c.in_ok-next.ensures.no_feed

pub returns-clause-counted : goal.returns-clause-counted
returns-clause-counted g c = c.in_ok-next.ensures.counted
