use Rattle.std.proofs.Common.{◌≡◌, ◌≤◌, ◌-◌, ◌^◌, List, Ok, Err, Some, take, ap, subst, ◌∙◌, arith}
use Rattle.std.proofs.lemmas.List.{take_all}
use Rattle.std.proofs.lemmas.Result.{err_from_is_err_and}
use Rattle.lasso_parts.specs.Account.{Account, fresh}
use Rattle.lasso_parts.specs.Texts.{Text}
use Rattle.lasso_single.specs.Copies.{bytes_of, clone_size, store_all}
use Rattle.lasso_single.proofs.Copied.{bytes-le-clone_size}
use Rattle.lasso_shared.proofs.Frozen.{interned_more}
use Rattle.lasso_shared.proofs.threaded.freezing.copy_of.Goals as goal

pub returns-in_err-try_get_or_intern-clause-refused : goal.returns-in_err-try_get_or_intern-clause-refused
returns-in_err-try_get_or_intern-clause-refused g c =
    let texts = g.T.Texts.list c.args.texts.now in
    let made = c.in_ok-copy.copy in
    let room : made.account.room ≡ clone_size texts = ap (λ (a : Account). a.room) c.in_ok-copy.ensures.account ∙ c.in_ok-capacity.ensures.bytes in
    let fits : bytes_of texts ≤ made.account.room = omega (arith, room, bytes-le-clone_size texts) in
    let refused = interned_more g.K.Key.key_at made texts c.loop-position.position c.text_at.result.now c.loop-position.copy (Err c.in_err-try_get_or_intern.field-0.0) c.try_get_or_intern.new.self c.requires.distinct c.requires.fits fits c.text_at.ensures c.loop-position.invariant c.in_err-try_get_or_intern.ensures.all in
    let p = err_from_is_err_and c.from_residual-in_err-try_get_or_intern.result c.from_residual-in_err-try_get_or_intern.ensures.1 in
    rw (p.1, p.2) refused

pub loop-position-preserved : goal.loop-position-preserved
loop-position-preserved g c =
    let texts = g.T.Texts.list c.args.texts.now in
    let made = c.in_ok-copy.copy in
    let room : made.account.room ≡ clone_size texts = ap (λ (a : Account). a.room) c.in_ok-copy.ensures.account ∙ c.in_ok-capacity.ensures.bytes in
    let fits : bytes_of texts ≤ made.account.room = omega (arith, room, bytes-le-clone_size texts) in
    interned_more g.K.Key.key_at made texts c.loop-position.position c.text_at.result.now c.loop-position.copy (Ok c.in_ok-try_get_or_intern.field-0) c.try_get_or_intern.new.self c.requires.distinct c.requires.fits fits c.text_at.ensures c.loop-position.invariant c.in_ok-try_get_or_intern.ensures.all

-- all texts were stored, from the account that the interner was made with
pub returns-clause-account : goal.returns-clause-account
returns-clause-account g c =
    let texts = g.T.Texts.list c.args.texts.now in
    let made = c.in_ok-copy.copy in
    let copy = c.loop-position.copy in
    let size = c.in_ok-capacity.ensures.bytes in
    let whole : take c.loop-position.position texts ≡ texts = take_all c.loop-position.position texts (omega (arith, c.requires.counted)) in
    let first = c.in_ok-copy.ensures.made.0 ∙ size in
    let account : made.account ≡ fresh (clone_size texts) (2 ^ 64 - 1) = c.in_ok-copy.ensures.account ∙ ap (λ n. fresh n (2 ^ 64 - 1)) size in
    subst (λ (a : Account). store_all (clone_size texts) a texts ≡ Some copy.account) account
    (subst (λ n. store_all n made.account texts ≡ Some copy.account) first
    (subst (λ (ts : List Text). store_all made.first made.account ts ≡ Some copy.account) whole c.loop-position.invariant.account))
