use Rattle.std.proofs.Common.{ℕ, ◌≡◌, ◌-◌, ◌≤◌, List, length, inl, inr, refl, sym, subst, ◌∙◌, arith}
use Rattle.std.proofs.lemmas.Bool.Decides.{nat_tests}
use Rattle.lasso_c.proofs.Layouts.{length-layout_texts}
use Rattle.lasso_c.proofs.SharedSteps.{InternedSo, none_so_far, one_more, faulty, ended}
use Rattle.lasso_c.proofs.shared.batches.intern_layout.Goals as goal

pub returns-in-Err-clause-batch : goal.returns-in-Err-clause-batch
returns-in-Err-clause-batch g c =
    faulty g.O.Offset.GREATEST c.args.bytes.now (g.O.Offset.numbers c.args.offsets.now) c.first_offset.result c.saturating_sub-rows.result c.status_of.result c.args.codes.now c.args.member.now.pass c.in-Err.refusal
    c.first_offset.ensures (omega arith) c.in-Err.ensures (refl, c.status_of.ensures, refl, refl)

pub loop-at-init : goal.loop-at-init
loop-at-init g c = (none_so_far g.O.Offset.GREATEST c.args.bytes.now (g.O.Offset.numbers c.args.offsets.now) c.args.codes.now c.args.member.now.pass, refl, refl, refl)

pub loop-at-preserved : goal.loop-at-preserved
loop-at-preserved g c =
    let offsets = g.O.Offset.numbers c.args.offsets.now in
    let good = c.in_default.ensures in
    let room : c.saturating_sub-rows.result ≤ length c.args.codes.now = grind (arith, nat_tests, good) in (
      one_more g.O.Offset.GREATEST c.args.bytes.now offsets c.loop-at.at c.args.codes.now c.loop-at.codes c.args.member.now.pass c.loop-at.member.pass c.in-Ok.code c.code_at.new.member.pass
          c.loop-at.invariant.0 c.in-Ok.ensures.reply (omega arith) (omega (arith, room)),
      c.code_at.ensures.list ∙ c.loop-at.invariant.1,
      c.code_at.ensures.seed ∙ c.loop-at.invariant.2,
      c.code_at.ensures.frozen ∙ c.loop-at.invariant.3,
    )

pub returns-in-Err-code_at-clause-batch : goal.returns-in-Err-code_at-clause-batch
returns-in-Err-code_at-clause-batch g c =
    let offsets = g.O.Offset.numbers c.args.offsets.now in
    ended g.O.Offset.GREATEST c.args.bytes.now offsets c.first_offset.result c.saturating_sub-rows.result c.loop-at.at c.in-Err-code_at.status c.args.codes.now c.loop-at.codes c.args.member.now.pass c.loop-at.member.pass c.code_at.new.member.pass
    c.first_offset.ensures (omega arith) c.in_default.ensures c.loop-at.invariant.0 (inr (omega (arith, length-layout_texts c.args.bytes.now offsets), c.in-Err-code_at.ensures.reply))

pub returns-clause-batch : goal.returns-clause-batch
returns-clause-batch g c =
    let bytes = c.args.bytes.now in
    let offsets = g.O.Offset.numbers c.args.offsets.now in
    let rows = c.saturating_sub-rows.result in
    let here : c.loop-at.at ≡ rows = omega arith in
    ended g.O.Offset.GREATEST bytes offsets c.first_offset.result rows rows 0 c.args.codes.now c.loop-at.codes c.args.member.now.pass c.loop-at.member.pass c.loop-at.member.pass
    c.first_offset.ensures (omega arith) c.in_default.ensures
    (subst (λ n. InternedSo g.O.Offset.GREATEST bytes offsets n c.args.codes.now c.loop-at.codes c.args.member.now.pass c.loop-at.member.pass) here c.loop-at.invariant.0)
    (inl (omega (arith, length-layout_texts bytes offsets), refl, refl))
