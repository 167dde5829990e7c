use Rattle.std.proofs.Common.{ℕ, refl, w8}
use Rattle.std.proofs.lemmas.Simd.{below_from_Fits, zip2_splat}
use Rattle.lasso_input.specs.Lanes.{number_lane}
use Rattle.lasso_input.proofs.VectorDigits.{choice_is, joined, lanes_are}
use Rattle.lasso_input.proofs.digits.numbers_of.Goals as goal

pub returns : goal.returns
returns c =
    let v = c.args.digits in
    lanes_are _ v _ number_lane (joined _ _ _ v (zip2_splat {Y = ℕ} _ v 16 15 c.fits-digits.0) (choice_is v 65 9 0 c.fits-digits.0)) (below_from_Fits w8 v c.fits-digits.1) refl
