use Rattle.std.proofs.Common.{◌≡◌, ℕ, length, Some, IsSome, subst, sym, refl}
use Rattle.lasso_single.proofs.Wholes.{whole_reserved, whole_pushed}
use Rattle.lasso_single.proofs.rodeo.Rodeo.intern_static.Goals as goal

pub invariant_of-self-in_err-push_static : goal.invariant_of-self-in_err-push_static
invariant_of-self-in_err-push_static g c =
    whole_reserved _ g.K.Key.key_at c.self.inside.list.texts c.push_static.new.self.texts c.self.inside.index c.reserve_in_order.new.self c.self.invariant c.in_err-push_static.ensures.same_texts c.reserve_in_order.ensures.whole

pub invariant_of-self-2 : goal.invariant_of-self-2
invariant_of-self-2 g c =
    let texts = c.self.inside.list.texts in
    let made : Some c.in-Some.key ≡ g.K.Key.key_at (length texts) = subst (λ (n : ℕ). Some c.in-Some.key ≡ g.K.Key.key_at n) c.len.ensures c.in-Some.ensures in
    let number : g.K.Key.number c.in-Some.key ≡ length texts = (g.met.K.Key.made (length texts) c.in-Some.key (sym made)).2 in
    whole_pushed _ g.K.Key.key_at texts c.push_static.new.self.texts c.args.text.now c.hash_text-hash.result (g.K.Key.number c.in-Some.key) c.self.inside.index c.reserve_in_order.new.self c.insert_at.new.self c.self.invariant c.reserve_in_order.ensures.whole (c.in-Err.ensures.whole c.self.invariant.0) c.in_ok-push_static.ensures.texts number (subst IsSome made refl) c.hash_text-hash.ensures c.insert_at.ensures.holds c.insert_at.ensures.used c.insert_at.ensures.filed
