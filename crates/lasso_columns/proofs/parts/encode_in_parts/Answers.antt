use Rattle.std.proofs.Common.{ℕ, ◌≡◌, ◌+◌, ◌-◌, ◌*◌, ◌<◌, ◌≤◌, ◌++◌, List, Bor, map, take, drop, length, sym, ap, subst, ◌∙◌, arith}
use Rattle.std.proofs.lemmas.List.{take-append-drop, length-map, length-take, take_all}
use Rattle.std.proofs.lemmas.Result.{err_from_is_err_and}
use Rattle.lasso_parts.specs.Texts.{Text}
use Rattle.lasso_single.proofs.Encoded.{Encoded, encoded_length, told_list, told_codes}
use Rattle.lasso_columns.proofs.PartSizes.{parts_reach}
use Rattle.lasso_columns.proofs.PartLists.{encoded_join, texts_split_at, texts_more_here, next_here, slice_is}
use Rattle.lasso_single.specs.Coding.{IsRefused, MayLackMemory, encoded_texts}
use Rattle.lasso_columns.proofs.parts.encode_in_parts.Given.{Over}
use Rattle.lasso_columns.proofs.parts.encode_in_parts.Goals as goal

-- the texts of the part
abbrev part_of : (texts : List (Bor Text)) (start count : ℕ) → List (Bor Text)
part_of texts start count = take (start + count - start) (drop start texts)

pub loop-part-preserved : goal.loop-part-preserved
loop-part-preserved g c =
    let told = c.in_ok-put_part.ensures in
    let texts = c.args.texts.now in
    let all = map (λ (t : Bor Text). t.now) texts in
    let start = c.loop-part.start in
    let count = c.min-count.result in
    let part = part_of texts start count in
    let here = map (λ (t : Bor Text). t.now) part in
    let before = c.args.codes.now.items in
    let middle = c.loop-part.codes.items in
    let after = c.put_part.new.codes.items in
    let next : (c.loop-part.part + 1) * c.max-size.result ≡ c.loop-part.part * c.max-size.result + c.max-size.result = omega arith in
    let joined : Encoded c.args.rodeo.now (take start all ++ encoded_texts middle after here) before c.put_part.new.rodeo after =
    encoded_join c.args.rodeo.now c.loop-part.rodeo c.put_part.new.rodeo (take start all) (encoded_texts middle after here) before middle after c.loop-part.invariant.encoded told.list told.codes in
    let long : length here ≤ length after - length middle = omega (arith, told.whole, length-map part (λ (t : Bor Text). t.now)) in
    let whole : encoded_texts middle after here ≡ here = take_all (length after - length middle) here long in
    record {
      start = omega (arith, c.loop-part.invariant.start, c.min-count.ensures, next);
      encoded = subst (λ (ts : List Text). Encoded c.args.rodeo.now ts before c.put_part.new.rodeo after) (ap (λ (ts : List Text). take start all ++ ts) whole ∙ sym (texts_more_here texts part start count (slice_is texts start count))) joined;
    }

-- a text of the part was refused
stopped : (g : Over) (c : goal.After-drop-parts g) → Encoded c.args.rodeo.now (take c.loop-part.start (map (λ (t : Bor Text). t.now) c.args.texts.now) ++ encoded_texts c.loop-part.codes.items c.put_part.new.codes.items (map (λ (t : Bor Text). t.now) (part_of c.args.texts.now c.loop-part.start c.min-count.result))) c.args.codes.now.items c.put_part.new.rodeo c.put_part.new.codes.items
stopped g c =
    let told = c.in_err-put_part.ensures in
    encoded_join c.args.rodeo.now c.loop-part.rodeo c.put_part.new.rodeo (take c.loop-part.start (map (λ (t : Bor Text). t.now) c.args.texts.now)) (encoded_texts c.loop-part.codes.items c.put_part.new.codes.items (map (λ (t : Bor Text). t.now) (part_of c.args.texts.now c.loop-part.start c.min-count.result))) c.args.codes.now.items c.loop-part.codes.items c.put_part.new.codes.items c.loop-part.invariant.encoded told.list told.codes

pub returns-in_err-put_part-clause-list : goal.returns-in_err-put_part-clause-list
returns-in_err-put_part-clause-list g c = told_list _ _ _ (texts_split_at c.args.texts.now (part_of c.args.texts.now c.loop-part.start c.min-count.result) c.loop-part.start c.min-count.result (slice_is c.args.texts.now c.loop-part.start c.min-count.result) (length c.put_part.new.codes.items - length c.loop-part.codes.items)) _ _ _ _ (stopped g c)

pub returns-in_err-put_part-clause-codes : goal.returns-in_err-put_part-clause-codes
returns-in_err-put_part-clause-codes g c = told_codes _ _ _ (texts_split_at c.args.texts.now (part_of c.args.texts.now c.loop-part.start c.min-count.result) c.loop-part.start c.min-count.result (slice_is c.args.texts.now c.loop-part.start c.min-count.result) (length c.put_part.new.codes.items - length c.loop-part.codes.items)) _ _ _ _ (stopped g c)

pub returns-in_err-put_part-clause-refused : goal.returns-in_err-put_part-clause-refused
returns-in_err-put_part-clause-refused g c =
    let told = c.in_err-put_part.ensures in
    let p = err_from_is_err_and c.from_residual.result c.from_residual.ensures.1 in
    let here = next_here c.args.texts.now (part_of c.args.texts.now c.loop-part.start c.min-count.result) c.loop-part.start c.min-count.result (slice_is c.args.texts.now c.loop-part.start c.min-count.result) c.args.rodeo.now c.put_part.new.rodeo c.args.codes.now.items c.put_part.new.codes.items (length c.put_part.new.codes.items - length c.loop-part.codes.items) (stopped g c) (λ text. IsRefused c.put_part.new.rodeo text c.in_err-put_part.field-0.0) told.refused in
    rw (p.1, p.2) here

pub returns-in_err-put_part-clause-memory : goal.returns-in_err-put_part-clause-memory
returns-in_err-put_part-clause-memory g c =
    let told = c.in_err-put_part.ensures in
    let p = err_from_is_err_and c.from_residual.result c.from_residual.ensures.1 in
    let here = next_here c.args.texts.now (part_of c.args.texts.now c.loop-part.start c.min-count.result) c.loop-part.start c.min-count.result (slice_is c.args.texts.now c.loop-part.start c.min-count.result) c.args.rodeo.now c.put_part.new.rodeo c.args.codes.now.items c.put_part.new.codes.items (length c.put_part.new.codes.items - length c.loop-part.codes.items) (stopped g c) (λ text. MayLackMemory c.put_part.new.rodeo c.put_part.new.codes text c.in_err-put_part.field-0.0) told.memory in
    rw (p.1, p.2) here

pub returns-clause-list : goal.returns-clause-list
returns-clause-list g c = told_list _ _ _ (sym (take-append-drop c.loop-part.start _)) _ _ _ _ c.loop-part.invariant.encoded

pub returns-clause-codes : goal.returns-clause-codes
returns-clause-codes g c = told_codes _ _ _ (sym (take-append-drop c.loop-part.start _)) _ _ _ _ c.loop-part.invariant.encoded

pub returns-clause-whole : goal.returns-clause-whole
returns-clause-whole g c =
    let all = map (λ (t : Bor Text). t.now) c.args.texts.now in
    let some : 0 < c.max-size.result = omega (arith, c.max-size.ensures) in
    let reach = parts_reach (length c.args.texts.now) c.max-size.result c.loop-part.part some (omega (arith, c.in-Ok.ensures.len, c.len-part-end.ensures, c.loop-part-test.false)) in
    let long = encoded_length c.args.rodeo.now c.loop-part.rodeo (take c.loop-part.start all) c.args.codes.now.items c.loop-part.codes.items c.loop-part.invariant.encoded in
    omega (arith, long, reach, c.loop-part.invariant.start, length-take c.loop-part.start all, length-map c.args.texts.now (λ (t : Bor Text). t.now))
