use Rattle.std.proofs.Common.{ℕ, ◌≡◌, ◌+◌, ◌-◌, ◌*◌, ◌∷◌, ◌∙◌, [], List, length, ap, sym, subst, arith}
use Rattle.std.proofs.lemmas.Result.{err_from_is_err_and}
use Rattle.lasso_parts.specs.Texts.{Text}
use Rattle.lasso_input.specs.Lines.{lines_of}
use Rattle.lasso_log.specs.Views.{list_of, seen}
use Rattle.lasso_lines.specs.Shares.{AddsCode, IsRefusalIn, line_at}
use Rattle.lasso_lines.proofs.Lowest.{still_there, lines_coded}
use Rattle.lasso_lines.proofs.Turns.{Worked, worked_none, next_utf8, worked_past, worked_skip, turn_inside, turn_number, turn_line, worked_more, worked_all}
use Rattle.lasso_lines.proofs.shares.intern_by.Goals as goal

pub loop-line-init : goal.loop-line-init
loop-line-init g c =
    let list = list_of c.args.rodeo.now c.args.pass.now.notes in
    let lines = lines_of c.args.lines.now in
    record {
      of = c.requires.of;
      worked =
          subst (λ (cs : List ℕ). Worked list lines (lines_of c.copy-rest.result) c.args.worker c.args.workers 1 c.args.worker cs) (sym c.new-codes.ensures.items)
          (subst (λ (bs : List ℕ). Worked list lines (lines_of bs) c.args.worker c.args.workers 1 c.args.worker []) (sym c.copy-rest.ensures)
          (worked_none list lines c.args.worker c.args.workers c.requires.texts));
    }

-- another worker's line
pub loop-line-preserved-then-others-gt0 : goal.loop-line-preserved-then-others-gt0
loop-line-preserved-then-others-gt0 g c =
    let list = list_of c.args.rodeo.now c.loop-line.pass.notes in
    let lines = lines_of c.args.lines.now in
    let more = lines_of c.next_line.new.self in
    let codes = c.loop-line.codes.items in
    let now = subst (λ (ls : List Text). Worked list lines ls c.args.worker c.args.workers c.loop-line.next c.loop-line.others codes) c.in-Some.ensures.lines c.loop-line.invariant.worked in
    record {
      of = c.loop-line.invariant.of;
      worked =
          worked_past list lines more c.in-Some.line c.args.worker c.args.workers c.loop-line.next c.loop-line.others codes now _ _ (omega (arith, c.if-others-gt0.true)) c.next_number-next.ensures
          (omega arith);
    }

-- the worker's own line, and then others that are passed over
pub loop-line-preserved : goal.loop-line-preserved
loop-line-preserved g c =
    let before = list_of c.args.rodeo.now c.loop-line.pass.notes in
    let after = list_of c.args.rodeo.now c.intern_line.new.pass.notes in
    let lines = lines_of c.args.lines.now in
    let more = lines_of c.next_line.new.self in
    let codes = c.loop-line.codes.items in
    let codes' = c.intern_line.new.codes.items in
    let now = subst (λ (ls : List Text). Worked before lines ls c.args.worker c.args.workers c.loop-line.next c.loop-line.others codes) c.in-Some.ensures.lines c.loop-line.invariant.worked in
    let adds = subst (AddsCode before codes after codes') c.in-Ok.ensures.0 c.in_ok-intern_line.ensures.coded in
    let own =
    worked_more before lines more c.in-Some.line c.args.worker c.args.workers c.loop-line.next c.loop-line.others codes now (omega (arith, c.if-others-gt0.false)) after _ (c.args.workers - 1) codes' c.requires.some
    c.next_number-next.ensures (omega arith) (omega (arith, c.in_ok-intern_line.ensures.one, c.intern_line.new.codes.ok.0, c.loop-line.codes.ok.0)) adds in
    let skip = c.skip-skipped.ensures.skipped in
    let left = subst (λ (ls : List Text). Worked after lines ls c.args.worker c.args.workers c.next_number-next.result (c.args.workers - 1) codes') skip.2 own in
    record {
      of = c.in_ok-intern_line.ensures.of;
      worked =
          worked_skip after lines skip.0 (lines_of c.skip-skipped.new.self) c.args.worker c.args.workers c.next_number-next.result (c.args.workers - 1) codes' left
          _ _ (c.later_number-next.ensures ∙ ap (λ n. c.next_number-next.result + n) (sym skip.1)) (omega (arith, skip.1, c.skip-skipped.ensures.most));
    }

pub returns-clause-codes : goal.returns-clause-codes
returns-clause-codes g c =
    let list = list_of c.args.rodeo.now c.loop-line.pass.notes in
    let lines = lines_of c.args.lines.now in
    let codes = c.loop-line.codes.items in
    let now = subst (λ (bs : List ℕ). Worked list lines (lines_of bs) c.args.worker c.args.workers c.loop-line.next c.loop-line.others codes) c.in_default.ensures.lines c.loop-line.invariant.worked in
    worked_all list lines c.args.worker c.args.workers c.loop-line.next c.loop-line.others codes now

-- the refused line is the worker's next one
pub returns-in_err-intern_line-clause-refused : goal.returns-in_err-intern_line-clause-refused
returns-in_err-intern_line-clause-refused g c =
    let p = err_from_is_err_and c.from_residual.result c.from_residual.ensures.1 in
    let of = c.args.rodeo.now in
    let before = list_of of c.loop-line.pass.notes in
    let after = list_of of c.intern_line.new.pass.notes in
    let past = seen c.intern_line.new.pass in
    let lines = lines_of c.args.lines.now in
    let more = lines_of c.next_line.new.self in
    let worker = c.args.worker in
    let workers = c.args.workers in
    let codes = c.loop-line.codes.items in
    let count = length codes in
    let turn : c.loop-line.others ≡ 0 = omega (arith, c.if-others-gt0.false) in
    let now = subst (λ (ls : List Text). Worked before lines ls worker workers c.loop-line.next c.loop-line.others codes) c.in-Some.ensures.lines c.loop-line.invariant.worked in
    let line = c.in-Some.line in
    let next = c.loop-line.next in
    let others = c.loop-line.others in
    let here = c.in-Ok.ensures.0 ∙ sym (turn_line before lines more line worker workers next others codes now turn) in
    rw (p.1, p.2) (
      count,
      turn_inside before lines more line worker workers next others codes now turn,
      c.in_err-intern_line.ensures.number ∙ turn_number before lines more line worker workers next others codes now turn,
      subst (λ (t : Text). IsRefusalIn of.opening past (t ∷ []) c.in_err-intern_line.field-0.0.1) here c.in_err-intern_line.ensures.reason,
      λ j below. still_there before after (line_at lines (worker + j * workers)) c.in_err-intern_line.ensures.grows (lines_coded before lines worker workers count codes now.coded j below),
    )

-- each line is UTF-8
pub unreachable-requires : goal.unreachable-requires
unreachable-requires g c =
    let before = list_of c.args.rodeo.now c.loop-line.pass.notes in
    let lines = lines_of c.args.lines.now in
    let more = lines_of c.next_line.new.self in
    let codes = c.loop-line.codes.items in
    let now = subst (λ (ls : List Text). Worked before lines ls c.args.worker c.args.workers c.loop-line.next c.loop-line.others codes) c.in-Some.ensures.lines c.loop-line.invariant.worked in
    c.in_default-text.ensures (next_utf8 before lines more c.in-Some.line c.args.worker c.args.workers c.loop-line.next c.loop-line.others codes now)
