-- The clause `all`, from the other clauses of `try_get_or_intern_static` alone: were one of them to say less, this would fail.
use Rattle.lasso_single.proofs.InternFacts.{static_facts_say_all}
use Rattle.lasso_single.proofs.rodeo.Rodeo.get_or_intern_static.Goals as goal

pub returns-clause-all : goal.returns-clause-all
returns-clause-all g c =
    let told = c.try_get_or_intern_static.ensures in
    (static_facts_say_all g.K.Key.key_at c.args.self.now c.try_get_or_intern_static.new.self c.args.text.now c.try_get_or_intern_static.result).0 (record {
      key = told.key;
      present = told.present;
      appended = told.appended;
      account = told.account;
      copied = told.copied;
      origin = told.origin;
      unchanged = told.unchanged;
      no_key = told.no_key;
      no_limit = told.no_limit;
      memory = told.memory;
    })
