-- Where the text was not found, it goes last, and the index that got its position is that of the longer list.
use Rattle.std.proofs.Common.{◌≡◌, length, map, sym, ◌∙◌}
use Rattle.std.proofs.lemmas.List.{length-map}
use Rattle.lasso_parts.proofs.IndexLaws.{IsIndexOf-reserved, IsIndexOf-push}
use Rattle.lasso_parts.proofs.JsonTexts.{key_had, none_there}
use Rattle.lasso_parts.proofs.json.arrays.enter_text.Goals as goal

pub returns-clause-whole : goal.returns-clause-whole
returns-clause-whole g c = λ distinct.
    let shown = map (λ t. t.now) c.args.texts.now in
    let whole = c.requires distinct in
    let made_room = c.in_ok-reserve_one.ensures in
    let key = c.in_ok-key.key in
    let absent = sym (c.find_hashed.ensures.whole whole) ∙ none_there c.find_hashed.result (cc) in
    let last : g.K.Key.number key ≡ length shown = (g.met.K.Key.made (length c.args.texts.now) key (key_had (length c.args.texts.now) (g.K.Key.key_at (length c.args.texts.now)) key c.in_ok-key.ensures)).2 ∙ sym (length-map c.args.texts.now (λ t. t.now)) in
    let reserved = IsIndexOf-reserved _ shown c.args.index.now c.reserve_one.new.self whole made_room.filed made_room.same made_room.used in
    IsIndexOf-push _ shown c.args.text.now c.hash_text-hash.result (g.K.Key.number key) c.reserve_one.new.self c.insert_reserved.new.self reserved absent last c.hash_text-hash.ensures c.insert_reserved.ensures.holds c.insert_reserved.ensures.used c.insert_reserved.ensures.filed
