use Rattle.std.proofs.Common.{◌≡◌, ◌+◌, ◌-◌, ◌<◌, List, inl, inr, length, map}
use Rattle.std.specs.Vec.{vec_capacity, vec_len}
use Rattle.lasso_parts.specs.Texts.{Text}
use Rattle.lasso_parts.specs.declared.util.LassoError.{LassoError}
use Rattle.lasso_parts.specs.declared.util.LassoErrorKind.TheVariants.{FailedAllocation}
use Rattle.lasso_single.specs.KeyLists.{keyed_texts}
use Rattle.lasso_single.proofs.FillingFacts.{Added, filled_added, filled_texts}
use Rattle.lasso_single.proofs.RefusalFacts.{keyed_limit, keyed_memory, keyed_no_key}
use Rattle.lasso_single.proofs.rodeo.Rodeo.try_get_or_intern_all.Given.{Over}
use Rattle.lasso_single.proofs.rodeo.Rodeo.try_get_or_intern_all.Goals as goal

-- the texts that have keys
abbrev done : (g : Over) (c : goal.After-intern_list g) → List Text
done g c = keyed_texts c.args.keys.now.items c.intern_list.new.keys.items (map (λ t. t.now) c.args.texts.now)

added : (g : Over) (c : goal.After-intern_list g) → Added c.args.self.now c.intern_list.new.self
added g c = filled_added g.K.Key.key_at (done g c) c.args.self.now c.intern_list.new.self c.intern_list.ensures.list

-- there was no memory for the keys
abbrev early : (g : Over) (c : goal.After-intern_list g) → LassoError → Type 0
early g c error =
    (error ≡ FailedAllocation) × (c.intern_list.new.self ≡ c.args.self.now) × (c.intern_list.new.keys.items ≡ c.args.keys.now.items)
    × (vec_capacity c.args.keys.now < vec_len c.args.keys.now + length c.args.texts.now)

pub returns-clause-texts : goal.returns-clause-texts
returns-clause-texts g c = filled_texts g.K.Key.key_at (done g c) c.args.self.now c.intern_list.new.self c.intern_list.ensures.list

pub returns-clause-account : goal.returns-clause-account
returns-clause-account g c = (added g c).account

pub returns-clause-copied : goal.returns-clause-copied
returns-clause-copied g c = (added g c).copied

pub returns-clause-origin : goal.returns-clause-origin
returns-clause-origin g c = (added g c).origin

pub returns-clause-no_key : goal.returns-clause-no_key
returns-clause-no_key g c =
    keyed_no_key g.K.Key.key_at c.intern_list.new.self (map (λ t. t.now) c.args.texts.now) (length c.intern_list.new.keys.items - length c.args.keys.now.items) (early g c) (λ error soon. soon.0) c.intern_list.result c.intern_list.ensures.refused

pub returns-clause-limit : goal.returns-clause-limit
returns-clause-limit g c =
    keyed_limit g.K.Key.key_at c.intern_list.new.self (map (λ t. t.now) c.args.texts.now) (length c.intern_list.new.keys.items - length c.args.keys.now.items) (early g c) (λ error soon. soon.0) c.intern_list.result c.intern_list.ensures.refused

pub returns-clause-memory : goal.returns-clause-memory
returns-clause-memory g c = λ is.
    elim (keyed_memory g.K.Key.key_at c.intern_list.new.self (map (λ t. t.now) c.args.texts.now) (length c.intern_list.new.keys.items - length c.args.keys.now.items) (early g c) (λ error soon. soon.0) c.intern_list.result c.intern_list.ensures.refused is) [
      | inl soon ↦ inl (soon.1, soon.2, soon.3)
      | inr next ↦ inr next
    ]
