use Rattle.std.proofs.Common.{◌≡◌, length, chars, nat_eq, refl, subst, arith}
use Rattle.strsim.specs.Edits.{levenshtein_row}
use Rattle.lasso_codes.proofs.NearestVerbs.{nearer, no_nearer, nearest_of_all}
use Rattle.lasso_codes.proofs.nearest.nearest_verb.Goals.{then-count-least, else-count-least}
use Rattle.lasso_codes.proofs.nearest.nearest_verb.Goals as goal

pub loop-verb-preserved : goal.loop-verb-preserved
loop-verb-preserved c =
    let word = c.args.word.now in
    let i = c.loop-verb.verb-index in
    let least = c.loop-verb.least in
    let count = c.in-Ok.count in
    let held = c.loop-verb.invariant in
    let counted = subst (λ name. count ≡ levenshtein_row nat_eq (chars word) (chars name) (length (chars name))) c.name.ensures c.in-Ok.ensures.value in
    elim c.if-count-least.branch [
      | then-count-least w ↦ nearer word i least count _ _ _ _ c.loop-verb-test.true held.0 held.2 refl counted (omega (arith, w.if-count-least)) w.least-is w.nearest-is
      | else-count-least w ↦ no_nearer word i least count _ _ c.loop-verb.nearest _ _ c.loop-verb-test.true held.0 held.1 held.2 refl counted (omega (arith, w.if-count-least)) w.least-is w.nearest-is
    ]

pub returns-clause-nearest : goal.returns-clause-nearest
returns-clause-nearest c =
    let held = c.loop-verb.invariant in
    nearest_of_all c.args.word.now c.loop-verb.verb-index c.loop-verb.least c.loop-verb.nearest (omega (arith, c.loop-verb-test.false)) held.0 held.1
