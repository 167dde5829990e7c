use Rattle.std.proofs.Common.{refl, sym, subst, inl, inr}
use Rattle.std.proofs.lemmas.Result.{err_from_is_err_and}
use Rattle.lasso_columns.specs.Rows.{word_of}
use Rattle.lasso_codes.specs.Limits.{IsLineFault}
use Rattle.lasso_codes.specs.Encode.{IsNoNull}
use Rattle.lasso_codes.proofs.encode.encode_line.Goals as goal

pub returns-in_err-append-clause-error : goal.returns-in_err-append-clause-error
returns-in_err-append-clause-error c =
    let p = err_from_is_err_and c.from_residual-in_err-append.result c.from_residual-in_err-append.ensures.1 in
    rw (p.1, p.2) (subst (IsLineFault c.args.rule.only_utf8 c.args.rodeo.now c.args.line.now c.args.number) (sym c.in_err-append.ensures.error) (refl, c.in_ok-entry.ensures.0, inr refl))

pub returns-in_err-append-clause-null : goal.returns-in_err-append-clause-null
returns-in_err-append-clause-null c =
    let p = err_from_is_err_and c.from_residual-in_err-append.result c.from_residual-in_err-append.ensures.1 in
    rw (p.1, p.2) (subst (IsNoNull (word_of c.args.null) c.args.line.now) (sym c.in_err-append.ensures.error) (inl refl))

pub returns-clause-numbered : goal.returns-clause-numbered
returns-clause-numbered c = (c.in_ok-entry.ensures.0, (c.in_ok-entry.entry, c.in_ok-entry.ensures.1, c.in_ok-append.ensures.items))
