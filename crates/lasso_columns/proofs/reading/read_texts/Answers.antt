use Rattle.std.proofs.Common.{ℕ, map, ap, ◌∙◌}
use Rattle.lasso_single.specs.Interner.{made_with}
use Rattle.lasso_single.proofs.Filled.{just_made}
use Rattle.lasso_columns.specs.Dictionaries.{first_bucket}
use Rattle.lasso_columns.proofs.Readings.{not_filled}
use Rattle.lasso_columns.proofs.reading.read_texts.Goals as goal

pub returns-in-Err-clause-fault : goal.returns-in-Err-clause-fault
returns-in-Err-clause-fault g c =
    let new = just_made c.in-Ok.rodeo c.new-capacity.result.bytes c.args.limits c.in-Ok.ensures.texts c.in-Ok.ensures.account c.in-Ok.ensures.made ∙ ap (λ (n : ℕ). made_with n c.args.limits) (c.new-capacity.ensures.bytes ∙ c.first_bucket.ensures.value) in
    not_filled g.K.Key.key_at g.O.Offset.GREATEST c.args.bytes.now (map g.O.Offset.number c.args.offsets.now) (made_with (first_bucket c.args.limits c.args.bytes.now) c.args.limits) c.in-Ok.rodeo c.append_texts.new.rodeo c.in-Err.error new c.in-Ok.ensures.texts c.in-Err.ensures.list c.in-Err.ensures.texts c.in-Err.ensures.fault
