use Rattle.std.proofs.Common.{◌≡◌, ◌≤◌, ◌^◌, ◌-◌, ℕ, Some, map, subst, ap, ◌∙◌, arith}
use Rattle.lasso_parts.specs.Account.{Account, fresh}
use Rattle.lasso_single.specs.Copies.{bytes_of, clone_size, store_all}
use Rattle.lasso_single.proofs.Copied.{clone_stops, bytes-le-clone_size}
use Rattle.lasso_single.proofs.text_list.TextList.copy_of.Goals as goal

pub returns-in-Err-clause-refused : goal.returns-in-Err-clause-refused
returns-in-Err-clause-refused g c =
    let texts = map (λ t. t.now) c.args.texts.now in
    let made = c.in_ok-list.list.account in
    let room : made.room ≡ clone_size texts = ap (λ (a : Account). a.room) c.in_ok-list.ensures.account ∙ c.in_ok-capacity.ensures.bytes in
    let fits : bytes_of texts ≤ made.room = omega (arith, room, bytes-le-clone_size texts) in
    let stopped = c.in-Err.ensures.stopped in
    clone_stops c.in_ok-list.list.first made texts stopped.0 c.in-Err.error c.copy_all.new.target.account fits stopped.1

pub returns-in-Ok-clause-account : goal.returns-in-Ok-clause-account
returns-in-Ok-clause-account g c =
    let texts = map (λ t. t.now) c.args.texts.now in
    let size = clone_size texts in
    let stored = c.copy_all.new.target.account in
    let bytes = c.in_ok-capacity.ensures.bytes in
    let first : c.in_ok-list.list.first ≡ size = c.in_ok-list.ensures.made.0 ∙ bytes in
    let made : c.in_ok-list.list.account ≡ fresh size (2 ^ 64 - 1) = c.in_ok-list.ensures.account ∙ ap (λ (n : ℕ). fresh n c.default.result) bytes ∙ ap (λ (n : ℕ). fresh size n) c.default.ensures in
    subst (λ (n : ℕ). store_all n (fresh size (2 ^ 64 - 1)) texts ≡ Some stored) first (subst (λ (a : Account). store_all c.in_ok-list.list.first a texts ≡ Some stored) made c.in-Ok.ensures.account)

pub returns-in-Ok-clause-made : goal.returns-in-Ok-clause-made
returns-in-Ok-clause-made g c =
    let made = c.in_ok-list.ensures.made in
    let origin = c.in-Ok.ensures.origin in
    (origin.0 ∙ made.0 ∙ c.in_ok-capacity.ensures.bytes, omega (arith, c.in-Ok.ensures.copied, made.1), origin.1 ∙ made.2, origin.2 ∙ made.3)

pub returns-in_err-list-clause-overflow : goal.returns-in_err-list-clause-overflow
returns-in_err-list-clause-overflow g c too_many = absurd (omega (arith, too_many, c.in_ok-capacity.ensures.counted))

pub returns-in-Ok-clause-overflow : goal.returns-in-Ok-clause-overflow
returns-in-Ok-clause-overflow g c too_many = absurd (omega (arith, too_many, c.in_ok-capacity.ensures.counted))

pub returns-in-Err-clause-overflow : goal.returns-in-Err-clause-overflow
returns-in-Err-clause-overflow g c too_many = absurd (omega (arith, too_many, c.in_ok-capacity.ensures.counted))
