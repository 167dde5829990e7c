use Rattle.std.proofs.Common.{ℕ, cond, leb, refl, w8}
use Rattle.std.proofs.lemmas.Simd.{below_from_Fits, splat_is_map, zip2_splat}
use Rattle.hex.specs.Hex.{is_hex_digit}
use Rattle.lasso_input.proofs.VectorDigits.{joined, test_is}
use Rattle.lasso_input.proofs.digits.are_block_digits.Goals as goal

pub returns : goal.returns
returns c =
    let v = c.args.bytes in
    let long = c.fits-bytes.0 in
    let le : ℕ → ℕ → ℕ = λ a b. cond (leb a b) 255 0 in
    test_is _ v _ is_hex_digit
    (joined _ _ _ v (joined le _ _ v (splat_is_map v 16 10 long) (zip2_splat {Y = ℕ} _ v 16 48 long))
    (joined le _ _ v (splat_is_map v 16 6 long) (joined _ _ _ v (zip2_splat {Y = ℕ} _ v 16 32 long) (splat_is_map v 16 97 long))))
    long (below_from_Fits w8 v c.fits-bytes.1) refl
