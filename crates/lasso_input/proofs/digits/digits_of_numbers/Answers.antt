use Rattle.std.proofs.Common.{refl, w8}
use Rattle.std.proofs.lemmas.Simd.{below_from_Fits}
use Rattle.lasso_input.specs.Lanes.{digit_lane}
use Rattle.lasso_input.proofs.VectorDigits.{choice_is, itself, joined, lanes_are}
use Rattle.lasso_input.proofs.digits.digits_of_numbers.Goals as goal

pub returns : goal.returns
returns c =
    let v = c.args.numbers in
    lanes_are _ v _ digit_lane (joined _ _ _ v (itself v) (choice_is v 10 87 48 c.fits-numbers.0)) (below_from_Fits w8 v c.fits-numbers.1) refl
