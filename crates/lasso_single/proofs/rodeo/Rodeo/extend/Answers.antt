use Rattle.lasso_single.proofs.rodeo.Rodeo.extend.Goals as goal

pub returns-clause-no_key : goal.returns-clause-no_key
returns-clause-no_key g c is =
    let told = c.extend_from.ensures.no_key is in
    (c.into_iter-items.result, c.into_iter-items.ensures.into_iter_gives, (told.0, (c.extend_from.new.items, told.1), told.2))

pub returns-clause-limit : goal.returns-clause-limit
returns-clause-limit g c is =
    let told = c.extend_from.ensures.limit is in
    (c.into_iter-items.result, c.into_iter-items.ensures.into_iter_gives, (told.0, (c.extend_from.new.items, told.1), told.2))

pub returns-clause-memory : goal.returns-clause-memory
returns-clause-memory g c is =
    let told = c.extend_from.ensures.memory is in
    (c.into_iter-items.result, c.into_iter-items.ensures.into_iter_gives, (told.0, (c.extend_from.new.items, told.1), told.2))
