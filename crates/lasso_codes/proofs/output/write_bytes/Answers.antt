use Rattle.std.proofs.Common.{◌≡◌, take, refl, arith}
use Rattle.std.proofs.lemmas.Grind.{common_steps}
use Rattle.lasso_codes.proofs.Written.{HasLeft, writes_then, left_more}
use Rattle.lasso_codes.proofs.output.write_bytes.Goals as goal

pub loop-rest-preserved : goal.loop-rest-preserved
loop-rest-preserved g c =
    let rest = c.loop-rest.rest.now in
    let count = c.in-Ok.count in
    record {
      written = writes_then _ _ _ (HasLeft c.args.bytes.now rest) (λ more. more ≡ take count rest) _ c.loop-rest.invariant.written (take count rest, c.in-Ok.ensures.bytes, refl) (λ part more so_far taken. left_more c.args.bytes.now rest _ part more count so_far taken (grind (arith, common_steps)));
      writes = omega (arith, c.in-Ok.ensures.writes, c.loop-rest.invariant.writes);
      gone = omega (arith, c.in-Ok.ensures.gone, c.loop-rest.invariant.gone);
    }
