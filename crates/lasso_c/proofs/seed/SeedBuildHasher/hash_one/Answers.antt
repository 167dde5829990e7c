use Rattle.std.proofs.Common.{sym, ap, ◌∙◌}
use Rattle.std.specs.List.{fold}
use Rattle.lasso_parts.specs.TextHash as text_hasher
use Rattle.lasso_c.specs.Seeds.{finished, started, written}
use Rattle.lasso_c.specs.declared.seed.Seed.{Seed}
use Rattle.lasso_c.proofs.Seeds.{text_hash, keyed_hash}
use Rattle.lasso_c.proofs.seed.SeedBuildHasher.hash_one.Goals as goal

pub returns-in-Text : goal.returns-in-Text
returns-in-Text g c =
    let writes = g.T.Hash.hash_input c.args.x in
    c.hash_one.ensures ∙ sym (text_hash (text_hasher.started c.in-Text.state) writes) ∙ ap (λ (s : Seed). finished (fold written (started s) writes)) (sym c.in-Text.is)

pub returns-in-Keyed : goal.returns-in-Keyed
returns-in-Keyed g c =
    let writes = g.T.Hash.hash_input c.args.x in
    c.hash_from.ensures ∙ sym (keyed_hash c.in-Keyed.hasher writes) ∙ ap (λ (s : Seed). finished (fold written (started s) writes)) (sym c.in-Keyed.is)
