use Rattle.std.proofs.Common.{ℕ, ◌≡◌, ◌+◌, ◌++◌, ◌∙◌, [], List, Bool, length, get_or, take, drop, replicate, false, sym, ap, subst, arith}
use Rattle.std.proofs.lemmas.List.{take_more, take_all}
use Rattle.lasso_lines.proofs.Parts.{lent_back}
use Rattle.lasso_lines.proofs.Chosen.{AreMarks, IsMarkedAt, marks_more, no_marks}
use Rattle.lasso_lines.proofs.ordered.marks_of.Goals as goal

pub loop-code-init : goal.loop-code-init
loop-code-init c =
    let items : c.in_ok-marks.marks.items ≡ replicate c.args.len false = c.in_ok-marks.ensures.items_if_clones_equal (λ y is. is) in
    record { long = omega (arith, c.in_ok-marks.ensures.len, c.in_ok-marks.marks.ok.0); marks = subst (λ (ms : List Bool). AreMarks ms []) (sym items) (no_marks c.args.len) }

pub loop-code-preserved : goal.loop-code-preserved
loop-code-preserved c =
    let vec = c.loop-code.marks in
    let new = c.mark.new.marks in
    let codes = c.args.codes.now in
    let i = c.loop-code.code-index in
    let at = get_or codes i 0 in
    let value : c.deref_mut.result.now ≡ vec.items = c.deref_mut.ensures.value in
    let long : length new ≡ length vec.items = c.mark.auto.marks ∙ ap length value in
    let back : take vec.len (new ++ drop (length new) vec.items) ≡ new = lent_back vec.len new vec.items vec.ok.0 long in
    let step : IsMarkedAt vec.items new at = rw (← value) (record { long = c.mark.auto.marks; here = c.mark.ensures.here; others = c.mark.ensures.others }) in
    let more : AreMarks new (take (i + 1) codes) = rw (take_more codes i 0 c.loop-code-test.true) (marks_more vec.items new (take i codes) at c.loop-code.invariant.marks step) in
    record {
      long = ap length back ∙ long ∙ c.loop-code.invariant.long;
      marks = subst (λ (ms : List Bool). AreMarks ms (take (i + 1) codes)) (sym back) more;
    }

pub returns : goal.returns
returns c =
    let vec = c.loop-code.marks in
    let codes = c.args.codes.now in
    let whole : take c.loop-code.code-index codes ≡ codes = take_all c.loop-code.code-index codes c.loop-code-test.false in
    let all : AreMarks vec.items codes = subst (λ (cs : List ℕ). AreMarks vec.items cs) whole c.loop-code.invariant.marks in (
      omega (arith, vec.ok.0, c.loop-code.invariant.long),
      λ p small. (λ is. all.only p is, λ there. all.marked p (omega (arith, c.loop-code.invariant.long)) there),
    )
