use Rattle.std.proofs.Common.{◌≡◌, ℕ, List, length, Some, None, IsSome, sym, refl, ap, ◌∙◌, subst}
use Rattle.lasso.specs.Hashing.{hash_by}
use Rattle.lasso.specs.Texts.{Text, Fits}
use Rattle.lasso.specs.Index.{IsIndexOf}
use Rattle.lasso_guide.proofs.TextSets.{set_pushed}
use Rattle.lasso_guide.proofs.text_set.append.Goals as goal

pub returns-clause-whole : goal.returns-clause-whole
returns-clause-whole g c =
    let texts = c.args.texts.now in
    let made : Some c.in-Some.key ≡ g.K.Key.key_at (length texts) = subst (λ (n : ℕ). Some c.in-Some.key ≡ g.K.Key.key_at n) c.len-position.ensures c.in-Some.ensures in
    let number : g.K.Key.number c.in-Some.key ≡ length texts = (g.met.K.Key.made (length texts) c.in-Some.key (sym made)).2 in
    let hash_of = hash_by g.S.BuildHasher g.S.Hasher.Hasher c.args.hasher.now in
    set_pushed hash_of g.K.Key.key_at texts c.push.new.self c.args.text.now c.args.hash (g.K.Key.number c.in-Some.key) c.args.index.now c.reserve_in_order.new.self c.insert_at.new.self c.requires.whole c.reserve_in_order.ensures.whole c.requires.absent c.in_ok-push.ensures.pushed number (subst IsSome made refl) c.requires.hashed c.insert_at.ensures.holds c.insert_at.ensures.used c.insert_at.ensures.filed

pub returns-in_err-push-clause-whole : goal.returns-in_err-push-clause-whole
returns-in_err-push-clause-whole g c =
    let hash_of = hash_by g.S.BuildHasher g.S.Hasher.Hasher c.args.hasher.now in
    subst (λ (ts : List Text). IsIndexOf hash_of ts c.reserve_in_order.new.self × Fits g.K.Key.key_at (length ts)) (sym c.in_err-push.ensures.refused) (c.reserve_in_order.ensures.whole, c.requires.whole.1)
