use Rattle.std.proofs.Common.{List, map, length, ◌-◌}
use Rattle.std.specs.Vec.{vec_capacity, vec_len}
use Rattle.lasso_parts.specs.Texts.{Text}
use Rattle.lasso_single.specs.Coding.{spur_at, encoded_texts}
use Rattle.lasso_single.proofs.FillingFacts.{Added, filled_added, filled_texts}
use Rattle.lasso_single.proofs.RefusalFacts.{next_limit, next_memory, next_no_key}
use Rattle.lasso_single.proofs.coding.encode.Given.{Over}
use Rattle.lasso_single.proofs.coding.encode.Goals as goal

-- the texts that were encoded
abbrev done : (g : Over) (c : goal.After-encode_each g) → List Text
done g c = encoded_texts c.args.codes.now.items c.encode_each.new.codes.items (map (λ t. t.now) c.args.texts.now)

added : (g : Over) (c : goal.After-encode_each g) → Added c.args.rodeo.now c.encode_each.new.rodeo
added g c = filled_added spur_at (done g c) c.args.rodeo.now c.encode_each.new.rodeo c.encode_each.ensures.list

pub returns-clause-texts : goal.returns-clause-texts
returns-clause-texts g c = filled_texts spur_at (done g c) c.args.rodeo.now c.encode_each.new.rodeo c.encode_each.ensures.list

pub returns-clause-account : goal.returns-clause-account
returns-clause-account g c = (added g c).account

pub returns-clause-copied : goal.returns-clause-copied
returns-clause-copied g c = (added g c).copied

pub returns-clause-origin : goal.returns-clause-origin
returns-clause-origin g c = (added g c).origin

pub returns-clause-no_key : goal.returns-clause-no_key
returns-clause-no_key g c =
    next_no_key c.encode_each.new.rodeo (map (λ t. t.now) c.args.texts.now) (length c.encode_each.new.codes.items - length c.args.codes.now.items) c.encode_each.result c.encode_each.ensures.refused

pub returns-clause-limit : goal.returns-clause-limit
returns-clause-limit g c =
    next_limit c.encode_each.new.rodeo (map (λ t. t.now) c.args.texts.now) (length c.encode_each.new.codes.items - length c.args.codes.now.items) c.encode_each.result c.encode_each.ensures.refused

pub returns-clause-memory : goal.returns-clause-memory
returns-clause-memory g c =
    next_memory c.encode_each.new.rodeo (map (λ t. t.now) c.args.texts.now) (length c.encode_each.new.codes.items - length c.args.codes.now.items) c.encode_each.result (vec_capacity c.encode_each.new.codes) (vec_len c.encode_each.new.codes) c.encode_each.ensures.memory
