use Rattle.std.proofs.Common.{◌≡◌, ◌<◌, ◌^◌, ◌+◌, ◌++◌, ◌∷◌, [], ◌∙◌, sym, ap, subst, ℕ, List, Some, None, arith}
use Rattle.std.specs.Prelude.{is_some, nat_lt, if◌then◌else◌}
use Rattle.lasso_parts.specs.Texts.{Text, position_of}
use Rattle.lasso_log.specs.Views.{list_of}
use Rattle.tool_bench.specs.Names.{named}
use Rattle.tool_bench.proofs.Named.{LacksFrom, lacks_next, key_there}
use Rattle.tool_bench.proofs.shared.fill.Goals as goal

-- no text is there yet
pub loop-number-init : goal.loop-number-init
loop-number-init g c =
    let none : list_of c.args.log.now c.args.spine.notes ≡ [] = ap (λ o. list_of o c.args.spine.notes) (sym c.requires.0) ∙ c.requires.1 in
    (c.pass-pass.ensures.of, c.requires.0, λ m past fits. ap (λ ts. position_of ts (named m)) none)

pub reserve_next-requires : goal.reserve_next-requires
reserve_next-requires g c = c.loop-number.invariant.1

pub append_static-requires-clause-of : goal.append_static-requires-clause-of
append_static-requires-clause-of g c = (c.loop-number.invariant.0, c.reserve_next.ensures.same.0 ∙ c.loop-number.invariant.1, c.in-Ok.ensures.cell)

pub append_static-requires-clause-may : goal.append_static-requires-clause-may
append_static-requires-clause-may g c =
    let log = c.args.log.now in
    let n = c.loop-number.number in
    let same = c.reserve_next.ensures.same in
    let list = list_of log c.loop-number.spine.notes in
    let still : list_of log c.reserve_next.new.spine.notes ≡ list = ap (list_of log) same.1 in
    let mine : list_of c.loop-number.spine.of c.loop-number.spine.notes ≡ list = ap (λ o. list_of o c.loop-number.spine.notes) c.loop-number.invariant.1 in
    let whole : c.args.count < 2 ^ 32 = c.ranges.count.fits in
    let low : n < 2 ^ 64 = omega (arith, whole, c.loop-number-test.true) in
    let absent : position_of list (named n) ≡ None = c.loop-number.invariant.2 n (omega arith) low in (
      ap (position_of (list_of log c.reserve_next.new.spine.notes)) c.in_ok-text.ensures ∙ (ap (λ ts. position_of ts (named n)) still ∙ absent),
      rw still (key_there (λ (n : ℕ). if nat_lt n 4294967295 then Some (n + 1) else None) c.try_from_usize.result _ _ _ c.len.ensures.len mine c.try_from_usize.ensures (ap is_some c.in-Some.is)),
    )

pub loop-number-preserved : goal.loop-number-preserved
loop-number-preserved g c =
    let log = c.args.log.now in
    let n = c.loop-number.number in
    let same = c.reserve_next.ensures.same in
    let a = c.append_static.ensures in
    let list = list_of log c.loop-number.spine.notes in
    let still : list_of log c.reserve_next.new.spine.notes ≡ list = ap (list_of log) same.1 in
    let text : c.in_ok-text.text.now ≡ named n = c.in_ok-text.ensures in
    let longer : list_of log c.append_static.new.spine.notes ≡ list ++ named n ∷ [] =
    ap (list_of log) a.spine ∙ (a.list ∙ (ap (λ (ts : List Text). ts ++ c.in_ok-text.text.now ∷ []) still ∙ ap (λ (t : Text). list ++ t ∷ []) text)) in (
      a.same.0.1 ∙ c.loop-number.invariant.0,
      a.same.1 ∙ (same.0 ∙ c.loop-number.invariant.1),
      subst (LacksFrom (n + 1)) (sym longer) (lacks_next n list c.loop-number.invariant.2),
    )
