use Rattle.std.proofs.Common.{List, map, take, sym, subst, arith}
use Rattle.std.proofs.lemmas.List.{take-append-drop}
use Rattle.std.proofs.lemmas.Result.{err_from_is_err_and}
use Rattle.lasso_parts.specs.Texts.{Text}
use Rattle.lasso_single.specs.Coding.{IsRefused, MayLackMemory}
use Rattle.lasso_single.proofs.Encoded.{Encoded, encoded_push, encoded_still, told_list, told_codes, next_at, texts_more, texts_split}
use Rattle.lasso_single.proofs.coding.encode_each.Given.{Over}
use Rattle.lasso_single.proofs.coding.encode_each.Goals as goal

-- a text was refused
stopped : (g : Over) (c : goal.After-from_residual g) → Encoded c.args.rodeo.now (take c.loop-i.i (map (λ t. t.now) c.args.texts.now)) c.args.codes.now.items c.encode_next.new.rodeo c.encode_next.new.codes.items
stopped g c =
    let told = c.in_err-encode_next.ensures in
    encoded_still c.args.rodeo.now c.loop-i.rodeo c.encode_next.new.rodeo _ c.args.codes.now.items c.loop-i.codes.items c.encode_next.new.codes.items c.loop-i.invariant.encoded told.0 told.1

pub returns-in_err-encode_next-clause-list : goal.returns-in_err-encode_next-clause-list
returns-in_err-encode_next-clause-list g c =
    told_list _ _ _ (sym (take-append-drop c.loop-i.i _)) _ _ _ _ (stopped g c)

pub returns-in_err-encode_next-clause-codes : goal.returns-in_err-encode_next-clause-codes
returns-in_err-encode_next-clause-codes g c =
    told_codes _ _ _ (sym (take-append-drop c.loop-i.i _)) _ _ _ _ (stopped g c)

pub returns-in_err-encode_next-clause-refused : goal.returns-in_err-encode_next-clause-refused
returns-in_err-encode_next-clause-refused g c =
    let p = err_from_is_err_and c.from_residual.result c.from_residual.ensures.1 in
    let told = c.in_err-encode_next.ensures in
    let here = next_at _ _ _ _ (texts_split c.args.texts.now c.loop-i.i _ c.loop-i-test.true) _ _ _ _ (stopped g c) (λ text. IsRefused c.loop-i.rodeo text c.in_err-encode_next.field-0.0) told.2 in
    rw (p.1, p.2, told.0) here

pub returns-in_err-encode_next-clause-memory : goal.returns-in_err-encode_next-clause-memory
returns-in_err-encode_next-clause-memory g c =
    let p = err_from_is_err_and c.from_residual.result c.from_residual.ensures.1 in
    let told = c.in_err-encode_next.ensures in
    let here = next_at _ _ _ _ (texts_split c.args.texts.now c.loop-i.i _ c.loop-i-test.true) _ _ _ _ (stopped g c) (λ text. MayLackMemory c.loop-i.rodeo c.encode_next.new.codes text c.in_err-encode_next.field-0.0) told.3 in
    rw (p.1, p.2, told.0) here

pub returns-in_err-encode_next-clause-room : goal.returns-in_err-encode_next-clause-room
returns-in_err-encode_next-clause-room g c = omega (arith, c.loop-i.invariant.room, c.in_err-encode_next.ensures.4)

pub loop-i-preserved : goal.loop-i-preserved
loop-i-preserved g c =
    let told = c.in_ok-encode_next.ensures in
    let more = encoded_push c.args.rodeo.now c.loop-i.rodeo c.encode_next.new.rodeo _ _ told.0.0 told.1.0 c.args.codes.now.items c.loop-i.codes.items c.encode_next.new.codes.items c.loop-i.invariant.encoded told.0.1 told.1.1 told.1.2 in record {
      encoded = subst (λ (ts : List Text). Encoded c.args.rodeo.now ts c.args.codes.now.items c.encode_next.new.rodeo c.encode_next.new.codes.items) (sym (texts_more c.args.texts.now c.loop-i.i _ c.loop-i-test.true)) more;
      room = omega (arith, c.loop-i.invariant.room, told.2);
    }

pub returns-clause-list : goal.returns-clause-list
returns-clause-list g c = told_list _ _ _ (sym (take-append-drop c.loop-i.i _)) _ _ _ _ c.loop-i.invariant.encoded

pub returns-clause-codes : goal.returns-clause-codes
returns-clause-codes g c = told_codes _ _ _ (sym (take-append-drop c.loop-i.i _)) _ _ _ _ c.loop-i.invariant.encoded
