use Rattle.std.proofs.Common.{ℕ, ◌+◌, ◌-◌, ◌≤◌, List, Bor, IfSome, map, length, vec_capacity, vec_len, sym, subst, arith, ◌∙◌, append-nil}
use Rattle.std.proofs.lemmas.List.{length-map}
use Rattle.lasso_parts.specs.Texts.{Text, position_of}
use Rattle.lasso_single.proofs.Coded.{map_some_length}
use Rattle.lasso_single.proofs.Encoded.{Encoded, encoded_length, told_list, told_codes}
use Rattle.lasso_single.proofs.Filled.{accepted}
use Rattle.lasso_single.specs.Coding.{spur_at, encoded_texts}
use Rattle.lasso_single.specs.Filling.{extend}
use Rattle.lasso_columns.proofs.PartLists.{on_not_err}
use Rattle.lasso_columns.proofs.Rest.{part_encoded, part_goes_on, stops_absent}
use Rattle.lasso_columns.proofs.Rewritten.{codes_inside}
use Rattle.lasso_columns.specs.Parts.{IsEncoded, AddsRewritten}
use Rattle.lasso_columns.proofs.parts.put_part.Given.{Over}
use Rattle.lasso_columns.proofs.parts.put_part.Goals as goal

pub append_rewritten-requires-clause-inside : goal.append_rewritten-requires-clause-inside
append_rewritten-requires-clause-inside g c =
    let all = map (λ (t : Bor Text). t.now) c.args.texts.now in
    let part = c.in-Some.part in
    let encoded : IsEncoded all part.list part.codes.items = subst (λ r. IfSome r (λ encoded. IsEncoded all encoded.list encoded.codes.items)) c.in-Some.is c.requires.encoded in
    let long = map_some_length (position_of c.merge.new.into.texts) part.list c.in-Ok.table.items c.in-Ok.ensures.codes in
    rw (c.deref.ensures.value, c.deref-in-Ok.ensures.value) (λ κs lives k d small.
    let low = codes_inside part.list all part.codes.items encoded.1 k d small in
    omega (arith, low, long))

-- the part's codes were rewritten
told : (g : Over) (c : goal.After-drop-table g) → Encoded c.args.rodeo.now (map (λ t. t.now) c.args.texts.now) c.args.codes.now.items c.merge.new.into c.append_rewritten.new.codes.items
told g c =
    let all = map (λ (t : Bor Text). t.now) c.args.texts.now in
    let part = c.in-Some.part in
    let before = c.args.codes.now.items in
    let after = c.append_rewritten.new.codes.items in
    let encoded : IsEncoded all part.list part.codes.items = subst (λ r. IfSome r (λ encoded. IsEncoded all encoded.list encoded.codes.items)) c.in-Some.is c.requires.encoded in
    let put : AddsRewritten c.in-Ok.table.items part.codes.items before after =
    subst (λ m. AddsRewritten m part.codes.items before after) c.deref-in-Ok.ensures.value
    (subst (λ p. AddsRewritten c.deref-in-Ok.result.now p before after) c.deref.ensures.value
    (subst (λ b. AddsRewritten c.deref-in-Ok.result.now c.deref.result.now b after) c.reserve.ensures.items c.append_rewritten.ensures)) in
    part_encoded all part.list part.codes.items c.in-Ok.table.items before after c.args.rodeo.now c.merge.new.into encoded c.in-Ok.ensures.list c.in-Ok.ensures.codes put

pub returns-in-Ok-clause-list : goal.returns-in-Ok-clause-list
returns-in-Ok-clause-list g c = told_list _ _ _ (sym (append-nil _)) _ _ _ _ (told g c)

pub returns-in-Ok-clause-codes : goal.returns-in-Ok-clause-codes
returns-in-Ok-clause-codes g c = told_codes _ _ _ (sym (append-nil _)) _ _ _ _ (told g c)

pub returns-in-Ok-clause-whole : goal.returns-in-Ok-clause-whole
returns-in-Ok-clause-whole g c =
    let long = encoded_length c.args.rodeo.now c.merge.new.into (map (λ (t : Bor Text). t.now) c.args.texts.now) c.args.codes.now.items c.append_rewritten.new.codes.items (told g c) in
    omega (arith, long, length-map c.args.texts.now (λ (t : Bor Text). t.now), c.args.codes.now.ok.0, c.append_rewritten.new.codes.ok.0)

pub returns-in-Err-clause-list : goal.returns-in-Err-clause-list
returns-in-Err-clause-list g c =
    let all = map (λ (t : Bor Text). t.now) c.args.texts.now in
    let part = c.in-Some.part in
    let encoded : IsEncoded all part.list part.codes.items = subst (λ r. IfSome r (λ encoded. IsEncoded all encoded.list encoded.codes.items)) c.in-Some.is c.requires.encoded in
    let stops = c.in-Err.ensures.refused in
    let again = c.encode-in-Err in
    let before = c.reserve.new.self in
    let after = again.new.codes in
    let reserved = on_not_err _ c.reserve.result c.reserve.ensures.ok (sym c.is_err.ensures.value ∙ c.if-is_err.false) in
    let long = map_some_length (position_of part.list) all part.codes.items encoded.1 in
    let many = length-map c.args.texts.now (λ (t : Bor Text). t.now) in
    let room : vec_len before + length c.args.texts.now ≤ vec_capacity after = omega (arith, reserved, c.len.ensures, again.ensures.room, long, many, part.codes.ok.0, c.reserve.ensures.len) in
    let stop = stops_absent again.new.rodeo all again.result before.items after (vec_len before) (length c.args.texts.now) before.ok.0 (sym many) again.ensures.whole again.ensures.refused again.ensures.lacking room in
    let told = part_goes_on c.args.rodeo.now c.merge.new.into again.new.rodeo all part.list stops.0 (length after.items - length before.items) encoded.0 stops.1 again.ensures.list stop in
    subst (λ (cs : List ℕ). extend spur_at c.args.rodeo.now (encoded_texts cs after.items all) accepted again.new.rodeo) c.reserve.ensures.items told
