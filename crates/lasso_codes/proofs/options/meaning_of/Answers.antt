use Rattle.std.proofs.Common.{◌≡◌, ◌∙◌, ap, sym, subst, take, Some, None}
use Rattle.memchr.specs.Find.{IsFirstByte, is_byte}
use Rattle.lasso_codes.specs.Arguments.{has, setting_of, wants}
use Rattle.lasso_codes.proofs.CommandWords.{meaning_is}
use Rattle.lasso_codes.proofs.options.meaning_of.Goals as goal

pub returns-in-None-setting_of-clause-value : goal.returns-in-None-setting_of-clause-value
returns-in-None-setting_of-clause-value c =
    let verb = c.args.verb in
    let found = subst (λ o. IsFirstByte (is_byte 61) c.as_bytes-bytes.result.now o) c.in-Some.is c.memchr.ensures in
    let none : setting_of verb (take c.in-Some.at c.args.word.now) ≡ None = ap (λ bs. setting_of verb (take c.in-Some.at bs)) (sym c.as_bytes-bytes.ensures.value) ∙ sym c.setting_of.ensures ∙ c.in-None-setting_of.is in
    sym (meaning_is verb c.args.word.now c.as_bytes-bytes.result.now (Some c.in-Some.at) c.as_bytes-bytes.ensures.value (sym c.if-eq.ensures) (sym c.if-eq-2.ensures) (sym c.is_binary.ensures ∙ c.if-is_binary.false) (sym c.if-eq-3.ensures) found ∙ ap (λ o. has o c.in-Some.at) none)

pub returns-in-Some-setting_of-clause-value : goal.returns-in-Some-setting_of-clause-value
returns-in-Some-setting_of-clause-value c =
    let verb = c.args.verb in
    let found = subst (λ o. IsFirstByte (is_byte 61) c.as_bytes-bytes.result.now o) c.in-Some.is c.memchr.ensures in
    let some : setting_of verb (take c.in-Some.at c.args.word.now) ≡ Some c.in-Some-setting_of.setting = ap (λ bs. setting_of verb (take c.in-Some.at bs)) (sym c.as_bytes-bytes.ensures.value) ∙ sym c.setting_of.ensures ∙ c.in-Some-setting_of.is in
    sym (meaning_is verb c.args.word.now c.as_bytes-bytes.result.now (Some c.in-Some.at) c.as_bytes-bytes.ensures.value (sym c.if-eq.ensures) (sym c.if-eq-2.ensures) (sym c.is_binary.ensures ∙ c.if-is_binary.false) (sym c.if-eq-3.ensures) found ∙ ap (λ o. has o c.in-Some.at) some)

pub returns-in-None-setting_of-2-clause-value : goal.returns-in-None-setting_of-2-clause-value
returns-in-None-setting_of-2-clause-value c =
    let verb = c.args.verb in
    let found = subst (λ o. IsFirstByte (is_byte 61) c.as_bytes-bytes.result.now o) c.in-None.is c.memchr.ensures in
    let none : setting_of verb c.args.word.now ≡ None = ap (setting_of verb) (sym c.as_bytes-bytes.ensures.value) ∙ sym c.setting_of-in-None.ensures ∙ c.in-None-setting_of-2.is in
    sym (meaning_is verb c.args.word.now c.as_bytes-bytes.result.now None c.as_bytes-bytes.ensures.value (sym c.if-eq.ensures) (sym c.if-eq-2.ensures) (sym c.is_binary.ensures ∙ c.if-is_binary.false) (sym c.if-eq-3.ensures) found ∙ ap wants none)
