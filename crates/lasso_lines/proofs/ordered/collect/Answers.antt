use Rattle.std.proofs.Common.{ℕ, ◌+◌, ◌++◌, ◌∷◌, [], ◌∙◌, List, Bor, cond, false, map, get_or, drop, ap, sym, append_assoc, arith}
use Rattle.lasso_parts.specs.Texts.{Text}
use Rattle.lasso_log.specs.Views.{list_of}
use Rattle.lasso_lines.proofs.Chosen.{chosen, chosen_next, chosen_past, chosen_ended}
use Rattle.lasso_lines.proofs.Listed.{call_grows, walk_listed, legal_distinct}
use Rattle.lasso_lines.proofs.Named.{taken_named}
use Rattle.lasso_lines.proofs.ordered.collect.Goals as goal

pub returns-in_default-clause-grows : goal.returns-in_default-clause-grows
returns-in_default-clause-grows g c = call_grows _ _ _ _ _ _ c.strings_as-strings.ensures.call

pub returns-in_default-next-clause-grows : goal.returns-in_default-next-clause-grows
returns-in_default-next-clause-grows g c = call_grows _ _ _ _ _ _ c.strings_as-strings.ensures.call

pub returns-in_err-take_marked-clause-grows : goal.returns-in_err-take_marked-clause-grows
returns-in_err-take_marked-clause-grows g c = call_grows _ _ _ _ _ _ c.strings_as-strings.ensures.call

pub returns-clause-grows : goal.returns-clause-grows
returns-clause-grows g c = call_grows _ _ _ _ _ _ c.strings_as-strings.ensures.call

pub loop-is_marked-preserved : goal.loop-is_marked-preserved
loop-is_marked-preserved g c =
    let marks = c.deref-is_marked-items.result.now in
    let k = c.loop-is_marked.is_marked-index in
    let text = c.in-Some.text.now in
    let rest = c.next.new.self in
    let before = map (λ (p : ℕ × Bor Text). p.1.now) c.loop-is_marked.texts.items in
    let one = cond (get_or marks k false) (text ∷ []) [] in
    let next = chosen_next marks k false text rest c.loop-is_marked.strings c.loop-is_marked-test.true c.in-Some.ensures.steps in
    record {
      whole =
          ap (λ (ts : List Text). ts ++ chosen (drop (k + 1) marks) rest) c.in_ok-take_marked.ensures.texts ∙ append_assoc before one (chosen (drop (k + 1) marks) rest)
          ∙ ap (λ (ts : List Text). before ++ ts) (sym next) ∙ c.loop-is_marked.invariant.whole;
      fronted = c.in_ok-take_marked.ensures.fronts c.loop-is_marked.invariant.fronted;
    }

pub returns-in_default-next-clause-texts : goal.returns-in_default-next-clause-texts
returns-in_default-next-clause-texts g c =
    let walk = c.strings_as-strings.ensures in
    let of = c.args.rodeo.now in
    let o = of.opening in
    let strings = c.strings_as-strings.result in
    let list = list_of of c.strings_as-strings.new.pass.notes in
    let marks = c.in-Ok.marks in
    let items = c.deref-is_marked-items.result.now in
    let k = c.loop-is_marked.is_marked-index in
    let left = c.loop-is_marked.strings in
    taken_named list strings c.args.codes.now marks.items items _ (chosen (drop k items) left) c.len.result (walk_listed o _ _ _ strings walk.call) c.len.ensures.value (omega (arith, marks.ok.0, c.in-Ok.ensures.0)) c.in-Ok.ensures.1
    c.deref-is_marked-items.ensures.value (legal_distinct o _ walk.opening walk.legal) c.loop-is_marked.invariant.whole (chosen_ended (drop k items) left c.in_default-next.ensures.steps.0)

pub returns-clause-texts : goal.returns-clause-texts
returns-clause-texts g c =
    let walk = c.strings_as-strings.ensures in
    let of = c.args.rodeo.now in
    let o = of.opening in
    let strings = c.strings_as-strings.result in
    let list = list_of of c.strings_as-strings.new.pass.notes in
    let marks = c.in-Ok.marks in
    let items = c.deref-is_marked-items.result.now in
    let k = c.loop-is_marked.is_marked-index in
    let left = c.loop-is_marked.strings in
    taken_named list strings c.args.codes.now marks.items items _ (chosen (drop k items) left) c.len.result (walk_listed o _ _ _ strings walk.call) c.len.ensures.value (omega (arith, marks.ok.0, c.in-Ok.ensures.0)) c.in-Ok.ensures.1
    c.deref-is_marked-items.ensures.value (legal_distinct o _ walk.opening walk.legal) c.loop-is_marked.invariant.whole (chosen_past items k left c.loop-is_marked-test.false)
