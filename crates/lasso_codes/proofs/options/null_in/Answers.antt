use Rattle.std.proofs.Common.{◌∙◌, refl, subst, sym}
use Rattle.std.specs.Prelude.{IsSome}
use Rattle.lasso_codes.proofs.FirstBytes.{first_byte_at}
use Rattle.lasso_codes.proofs.options.null_in.Goals as goal

pub returns-in-Some : goal.returns-in-Some
returns-in-Some c =
    let found = first_byte_at 10 c.args.value.now c.memchr.result c.memchr.ensures in
    (subst IsSome (sym (found ∙ c.in-Some.is)) refl, refl)

pub returns-in-None : goal.returns-in-None
returns-in-None c = (refl, first_byte_at 10 c.args.value.now c.memchr.result c.memchr.ensures ∙ c.in-None.is)
