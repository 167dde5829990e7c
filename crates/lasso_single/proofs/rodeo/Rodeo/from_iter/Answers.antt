use Rattle.std.proofs.Common.{◌≡◌, IsSome, None, Err, ap, inr, map, subst}
use Rattle.std.proofs.lemmas.Result.{err_from_is_err_and}
use Rattle.lasso_parts.specs.declared.util.LassoErrorKind.TheVariants.{KeySpaceExhaustion, MemoryLimitReached}
use Rattle.lasso_single.specs.Filling.{FillsUpTo, InternsEach, StopsAtRefusal, with_all_new}
use Rattle.lasso_single.specs.Intern.{IsAbsent, account_with, next_key}
use Rattle.lasso_single.specs.Interner.{InternerView, made_by_default}
use Rattle.lasso_single.proofs.Filled.{just_made}
use Rattle.lasso_single.proofs.rodeo.Rodeo.from_iter.Goals as goal

pub returns-in_err-extend-clause-refused : goal.returns-in_err-extend-clause-refused
returns-in_err-extend-clause-refused g c =
    let told = c.in_err-extend.ensures.refused in
    let error = c.in_err-extend.field-0.0 in
    let made : c.in_ok-rodeo.rodeo ≡ made_by_default = just_made c.in_ok-rodeo.rodeo 4096 18446744073709551615 c.in_ok-rodeo.ensures.texts c.in_ok-rodeo.ensures.account c.in_ok-rodeo.ensures.made in
    let items = told.2.0 in
    let refused : StopsAtRefusal g.K.Key.key_at made_by_default (map g.T.AsStr.text items) error c.extend.new.self = subst (λ (i : InternerView). StopsAtRefusal g.K.Key.key_at i (map g.T.AsStr.text items) error c.extend.new.self) made told.2.2 in
    let p = err_from_is_err_and c.from_residual-in_err-extend.result c.from_residual-in_err-extend.ensures.1 in
    rw (p.1, p.2) (inr (told.0, told.1, (c.extend.new.self, (items, told.2.1, refused))))

pub returns-in_err-extend-clause-no_key : goal.returns-in_err-extend-clause-no_key
returns-in_err-extend-clause-no_key g c is =
    let error = c.in_err-extend.field-0.0 in
    let p = err_from_is_err_and c.from_residual-in_err-extend.result c.from_residual-in_err-extend.ensures.1 in
    let why : error ≡ KeySpaceExhaustion = cc (is, p.1, p.2) in
    let told = c.in_err-extend.ensures.no_key (ap Err why) in
    let made : c.in_ok-rodeo.rodeo ≡ made_by_default = just_made c.in_ok-rodeo.rodeo 4096 18446744073709551615 c.in_ok-rodeo.ensures.texts c.in_ok-rodeo.ensures.account c.in_ok-rodeo.ensures.made in
    let fills = subst (λ (i : InternerView). FillsUpTo i c.extend.new.self (map g.T.AsStr.text told.2.0) (λ text. IsAbsent c.extend.new.self text × (next_key g.K.Key.key_at c.extend.new.self ≡ None))) made told.2.2 in
    (told.0, told.1, (c.extend.new.self, (told.2.0, told.2.1, fills)))

pub returns-in_err-extend-clause-limit : goal.returns-in_err-extend-clause-limit
returns-in_err-extend-clause-limit g c is =
    let error = c.in_err-extend.field-0.0 in
    let p = err_from_is_err_and c.from_residual-in_err-extend.result c.from_residual-in_err-extend.ensures.1 in
    let why : error ≡ MemoryLimitReached = cc (is, p.1, p.2) in
    let told = c.in_err-extend.ensures.limit (ap Err why) in
    let made : c.in_ok-rodeo.rodeo ≡ made_by_default = just_made c.in_ok-rodeo.rodeo 4096 18446744073709551615 c.in_ok-rodeo.ensures.texts c.in_ok-rodeo.ensures.account c.in_ok-rodeo.ensures.made in
    let fills = subst (λ (i : InternerView). FillsUpTo i c.extend.new.self (map g.T.AsStr.text told.2.0) (λ text. IsAbsent c.extend.new.self text × IsSome (next_key g.K.Key.key_at c.extend.new.self) × (account_with c.extend.new.self text ≡ None))) made told.2.2 in
    (told.0, told.1, (c.extend.new.self, (told.2.0, told.2.1, fills)))

pub returns-clause-texts : goal.returns-clause-texts
returns-clause-texts g c =
    let told = c.in_ok-extend.ensures.texts in
    let made : c.in_ok-rodeo.rodeo ≡ made_by_default = just_made c.in_ok-rodeo.rodeo 4096 18446744073709551615 c.in_ok-rodeo.ensures.texts c.in_ok-rodeo.ensures.account c.in_ok-rodeo.ensures.made in
    let list = subst (λ (i : InternerView). c.extend.new.self.texts ≡ with_all_new i.texts (map g.T.AsStr.text told.2.0)) made told.2.2 in
    (told.0, told.1, (told.2.0, told.2.1, list))

pub returns-clause-filled : goal.returns-clause-filled
returns-clause-filled g c =
    let told = c.in_ok-extend.ensures.filled in
    let made : c.in_ok-rodeo.rodeo ≡ made_by_default = just_made c.in_ok-rodeo.rodeo 4096 18446744073709551615 c.in_ok-rodeo.ensures.texts c.in_ok-rodeo.ensures.account c.in_ok-rodeo.ensures.made in
    let each = subst (λ (i : InternerView). InternsEach g.K.Key.key_at i (map g.T.AsStr.text told.2.0) c.extend.new.self) made told.2.2 in
    (told.0, told.1, (told.2.0, told.2.1, each))
