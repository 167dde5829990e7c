use Rattle.std.proofs.Common.{refl, ◌∙◌}
use Rattle.lasso_shared.proofs.Placed.{key_placed}
use Rattle.lasso_shared.proofs.shards.Shards.key_by_guess.Goals as goal

pub returns-clause-found : goal.returns-clause-found
returns-clause-found g c =
    let after = c.is_text_at.new.pass in
    let there = c.if-not-is_text_at.ensures in
    rw c.keep_in.ensures (key_placed g.K.Key.key_at after.of c.args.self.now.log after.notes c.args.text.now c.in_ok-position.position c.key_at.result (there.same.1 ∙ c.requires.of.0) c.prove_legal.ensures.opening c.prove_legal.ensures.legal (there.found refl) c.key_at.ensures)
