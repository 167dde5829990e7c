use Rattle.std.proofs.Common.{◌≡◌, ◌-◌, length, take, drop, refl, sym, arith, ◌∙◌}
use Rattle.std.proofs.lemmas.List.{length-drop, take_all}
use Rattle.lasso_columns.proofs.PartLists.{part_of_two, on_not_err}
use Rattle.lasso_columns.proofs.parts.encode_part.Goals as goal

pub returns : goal.returns
returns c =
    let texts = c.args.texts.now in
    let n = c.min-sample.result in
    let long = on_not_err _ c.encode.result c.encode.ensures.whole (sym c.is_err.ensures.value ∙ c.if-is_err.false) in
    let longer = on_not_err _ c.encode-2.result c.encode-2.ensures.whole (sym c.is_err-2.ensures.value ∙ c.if-is_err-2.false) in
    let rest : take (length texts - n) (drop n texts) ≡ drop n texts = take_all (length texts - n) (drop n texts) (omega (arith, length-drop n texts)) in
    rw (c.into_reader.ensures) (part_of_two c.in-Ok.rodeo c.encode.new.rodeo c.encode-2.new.rodeo texts (take n texts) (take (length texts - n) (drop n texts)) n c.new-codes.result.items c.encode.new.codes.items c.encode-2.new.codes.items refl rest c.in-Ok.ensures.texts c.new-codes.ensures.items (omega (arith, long)) (omega (arith, longer)) c.encode.ensures.list c.encode.ensures.codes c.encode-2.ensures.list c.encode-2.ensures.codes)
