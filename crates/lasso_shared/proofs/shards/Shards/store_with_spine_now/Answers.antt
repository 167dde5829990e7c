use Rattle.std.proofs.Common.{◌≡◌, ◌≢◌, [], length, ap, sym, arith, ◌∙◌}
use mathlib.Core.List.{ne-nil_of_mem}
use Rattle.std.proofs.lemmas.Bool.Decides.{nat_tests}
use Rattle.lasso_parts.specs.Texts.{Text}
use Rattle.lasso_shared.proofs.Now.{stores_some}
use Rattle.lasso_shared.proofs.Stored.{is_none, stores_none}
use Rattle.lasso_shared.proofs.Whole.{since_self}
use Rattle.lasso_shared.proofs.shards.Shards.store_with_spine_now.Goals as goal

pub returns-then-is_empty-clause-event : goal.returns-then-is_empty-clause-event
returns-then-is_empty-clause-event g c =
    let zero : length c.args.text.now ≡ 0 = grind (arith, nat_tests, c.if-is_empty.true, c.is_empty.ensures) in
    ([], stores_none c.args.text.now (is_none c.args.text.now zero), since_self c.args.pass.now.number c.args.pass.now.notes)

pub returns-then-is_empty-clause-piece : goal.returns-then-is_empty-clause-piece
returns-then-is_empty-clause-piece g c =
    let zero : length c.args.text.now ≡ 0 = grind (arith, nat_tests, c.if-is_empty.true, c.is_empty.ensures) in
    let lasting = c.from_static.ensures in
    (lasting.text ∙ sym (is_none c.args.text.now zero), λ a mem. absurd (ne-nil_of_mem mem lasting.until))

pub returns-then-is_empty-clause-lies : goal.returns-then-is_empty-clause-lies
returns-then-is_empty-clause-lies g c =
    let zero : length c.args.text.now ≡ 0 = grind (arith, nat_tests, c.if-is_empty.true, c.is_empty.ensures) in
    λ some. absurd (some (is_none c.args.text.now zero))

pub returns-clause-event : goal.returns-clause-event
returns-clause-event g c =
    let some : c.args.text.now ≢ [] = λ none. let zero : length c.args.text.now ≡ 0 = ap (λ (t : Text). length t) none in grind (arith, nat_tests, c.if-is_empty.false, c.is_empty.ensures, zero) in
    let taken = rw c.in-Ok.is at c.in_ok-reply.ensures.event in
    (taken.0, stores_some c.args.text.now taken.0 some taken.1, taken.2)

pub returns-in-Err-clause-refused : goal.returns-in-Err-clause-refused
returns-in-Err-clause-refused g c =
    let some : c.args.text.now ≢ [] = λ none. let zero : length c.args.text.now ≡ 0 = ap (λ (t : Text). length t) none in grind (arith, nat_tests, c.if-is_empty.false, c.is_empty.ensures, zero) in
    (some, rw c.in-Err.is at c.in_ok-reply.ensures.refused)

pub returns-in-Err-clause-err : goal.returns-in-Err-clause-err
returns-in-Err-clause-err g c = rw c.in-Err.is at c.in_ok-reply.ensures.err
