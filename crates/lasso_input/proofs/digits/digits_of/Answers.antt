use Rattle.std.proofs.Common.{ℕ, ◌≡◌, w8, ◌/◌, ◌%◌, length, map, slice_index, refl, ap, ap₂, ◌∙◌}
use Rattle.std.proofs.lemmas.List.{length-map}
use Rattle.std.proofs.lemmas.Simd.{below_from_Fits, map-map, zip2_splat}
use Rattle.hex.specs.Hex.{lower_digits}
use Rattle.lasso_input.specs.Lanes.{digit_lane}
use Rattle.lasso_input.proofs.VectorDigits.{lanes_are, put_together, weave, woven_digits}
use Rattle.lasso_input.proofs.digits.digits_of.Goals as goal

pub returns-clause-digits : goal.returns-clause-digits
returns-clause-digits c =
    let v = c.args.bytes in
    let long = c.fits-bytes.0 in
    let small = below_from_Fits w8 v c.fits-bytes.1 in
    let high : c.digits_of_numbers-high.result ≡ map (λ b. slice_index lower_digits (b / 16)) v =
    lanes_are _ v _ (λ b. slice_index lower_digits (b / 16)) (c.digits_of_numbers-high.ensures ∙ ap (map digit_lane) (zip2_splat {Y = ℕ} _ v 16 4 long) ∙ map-map digit_lane _ v) small refl in
    let low : c.digits_of_numbers-low.result ≡ map (λ b. slice_index lower_digits (b % 16)) v =
    lanes_are _ v _ (λ b. slice_index lower_digits (b % 16)) (c.digits_of_numbers-low.ensures ∙ ap (map digit_lane) (zip2_splat {Y = ℕ} _ v 16 15 long) ∙ map-map digit_lane _ v) small refl in
    put_together c.digits_of_numbers-high.result c.digits_of_numbers-low.result (ap length high ∙ length-map v _ ∙ long) (ap length low ∙ length-map v _ ∙ long)
    ∙ ap₂ weave high low ∙ woven_digits v
