use Rattle.std.proofs.Common.{◌≡◌, ◌-◌, length, take, subst, arith}
use Rattle.lasso_input.proofs.Tested.{all_are_plain, ascii_is_plain}
use Rattle.lasso_input.specs.Texts.{IsPlain}
use Rattle.lasso_input.proofs.stretch.untested_len.Goals as goal

pub returns-then-is_ascii : goal.returns-then-is_ascii
returns-then-is_ascii c =
    let bytes = c.args.bytes.now in
    let all : length bytes ≡ length bytes - 0 = omega arith in
    subst (λ n. IsPlain (take n bytes)) all (all_are_plain bytes (ascii_is_plain bytes c.if-is_ascii.ensures.cases))
