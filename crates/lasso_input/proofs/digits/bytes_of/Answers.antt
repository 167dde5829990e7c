use Rattle.std.proofs.Common.{◌<◌, ◌++◌, ◌≡◌, length, w8, arith}
use Rattle.std.proofs.lemmas.List.{length-append}
use Rattle.std.proofs.lemmas.Simd.{below_from_Fits}
use Rattle.lasso_input.proofs.VectorDigits.{block_bytes, each_both}
use Rattle.lasso_input.proofs.digits.bytes_of.Goals as goal

pub returns-clause-read : goal.returns-clause-read
returns-clause-read c =
    let both : length (c.args.first ++ c.args.second) ≡ 32 = omega (arith, length-append c.args.first c.args.second, c.fits-first.0, c.fits-second.0) in
    let small = each_both (λ x. x < 256) c.args.first c.args.second (below_from_Fits w8 c.args.first c.fits-first.1) (below_from_Fits w8 c.args.second c.fits-second.1) in
    block_bytes (c.args.first ++ c.args.second) c.numbers_of.result c.numbers_of-2.result both small c.requires c.numbers_of.ensures c.numbers_of-2.ensures
