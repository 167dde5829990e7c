use Rattle.std.proofs.Common.{ℕ, ◌+◌, ◌*◌, ◌<◌, ◌≤◌, ◌++◌, [], List, Bor, map, take, length, ap, sym, subst, ◌∙◌, arith}
use Rattle.std.proofs.lemmas.List.{take_all, length-map}
use Rattle.lasso_parts.specs.Texts.{Text}
use Rattle.lasso_log.specs.History.{IsLegal}
use Rattle.lasso_log.specs.Notes.{Since, history}
use Rattle.lasso_log.specs.Views.{InternerId, list_of, seen}
use Rattle.lasso_log.proofs.Tickets.{since_trans}
use Rattle.lasso_single.specs.Codes.{AreCodes}
use Rattle.lasso_single.specs.Coding.{spur_at}
use Rattle.lasso_shared_columns.specs.Sharing.{IsPartOf, IsRefusalIn}
use Rattle.lasso_shared_columns.proofs.Shared.{shared_join, refused_more, part_texts, part_contained, ok_at, err_at}
use Rattle.lasso_columns.proofs.PartSizes.{parts_reach}
use Rattle.lasso_shared_columns.proofs.sharing.encode_shared_as.Goals as goal

pub loop-part-preserved : goal.loop-part-preserved
loop-part-preserved g c =
    let of = c.args.rodeo.now in
    let done = c.index-done.result.now in
    let known = c.learn.ensures in
    let after = c.learn.new.self.notes in
    let inside : c.loop-part.part < length c.in_ok-parts.parts.items = omega (arith, c.loop-part-test.true, c.len-part-end.ensures) in
    let each = (c.in_ok-parts.ensures.each c.loop-part.part done inside).1 in
    let gave : IsPartOf of (map (λ (t : Bor Text). t.now) each.argument.now) done.known done.codes =
    subst (λ p. IsPartOf of (map (λ (t : Bor Text). t.now) each.argument.now) p.known p.codes) (sym c.index-done.ensures) each.call in
    let coded =
    ok_at (λ codes. AreCodes (list_of of done.known.notes) (map (λ (t : Bor Text). t.now) each.argument.now) codes.items) (λ error. IsRefusalIn of.opening (history done.known.notes) (map (λ (t : Bor Text). t.now) each.argument.now) error) done.codes c.in-Ok.part_codes gave.1 c.in-Ok.is in
    let joined = shared_join of c.loop-part.pass.notes done.known.notes after _ _ c.loop-part.added.items c.in-Ok.part_codes.items (known.since.rest, known.since.begins) known.known c.loop-part.invariant.codes coded in
    let put = c.in_ok-extend_from_slice-in-Ok.ensures.items ∙ ap (λ cs. c.loop-part.added.items ++ cs) c.deref.ensures.value in
    let mine = known.same.1 ∙ c.loop-part.invariant.same.1 ∙ c.requires in
    record {
      same = (known.same.0 ∙ c.loop-part.invariant.same.0, known.same.1 ∙ c.loop-part.invariant.same.1);
      codes =
          subst (λ (cs : List ℕ). AreCodes (list_of of after) (take ((c.loop-part.part + 1) * c.max-size.result) (map (λ (t : Bor Text). t.now) c.args.texts.now)) cs) (sym put)
          (subst (λ (ts : List Text). AreCodes (list_of of after) ts (c.loop-part.added.items ++ c.in-Ok.part_codes.items)) (part_texts c.args.texts.now each.argument.now c.loop-part.part c.max-size.result each.argument_is.value) joined);
      since = since_trans c.args.pass.now.number c.args.pass.now.notes c.loop-part.pass.notes after [] c.loop-part.invariant.since (subst (λ (p : ℕ). Since p c.loop-part.pass.notes after []) c.loop-part.invariant.same.0 known.since);
      legal = subst (λ (i : InternerId). IsLegal spur_at i.opening (seen c.learn.new.self)) mine known.legal;
    }

pub returns-clause-codes : goal.returns-clause-codes
returns-clause-codes g c =
    let all = map (λ (t : Bor Text). t.now) c.args.texts.now in
    let list = list_of c.args.rodeo.now c.loop-part.pass.notes in
    let some : 0 < c.max-size.result = omega (arith, c.max-size.ensures) in
    let reach = parts_reach (length c.args.texts.now) c.max-size.result c.loop-part.part some (omega (arith, c.in_ok-parts.ensures.len, c.len-part-end.ensures, c.loop-part-test.false)) in
    let long : length all ≤ c.loop-part.part * c.max-size.result = omega (arith, reach, length-map c.args.texts.now (λ (t : Bor Text). t.now)) in
    let put = c.in_ok-extend_from_slice.ensures.items ∙ ap (λ cs. c.args.codes.now.items ++ cs) c.deref-2.ensures.value in
    (c.loop-part.added.items, put, subst (λ (ts : List Text). AreCodes list ts c.loop-part.added.items) (take_all (c.loop-part.part * c.max-size.result) all long) c.loop-part.invariant.codes)

pub returns-in_err-extend_from_slice-in-Ok-clause-since : goal.returns-in_err-extend_from_slice-in-Ok-clause-since
returns-in_err-extend_from_slice-in-Ok-clause-since g c =
    let known = c.learn.ensures in
    since_trans c.args.pass.now.number c.args.pass.now.notes c.loop-part.pass.notes c.learn.new.self.notes [] c.loop-part.invariant.since (subst (λ (p : ℕ). Since p c.loop-part.pass.notes c.learn.new.self.notes []) c.loop-part.invariant.same.0 known.since)

pub returns-in-Err-clause-since : goal.returns-in-Err-clause-since
returns-in-Err-clause-since g c =
    let known = c.learn.ensures in
    since_trans c.args.pass.now.number c.args.pass.now.notes c.loop-part.pass.notes c.learn.new.self.notes [] c.loop-part.invariant.since (subst (λ (p : ℕ). Since p c.loop-part.pass.notes c.learn.new.self.notes []) c.loop-part.invariant.same.0 known.since)

pub returns-in-Err-clause-reason : goal.returns-in-Err-clause-reason
returns-in-Err-clause-reason g c =
    let of = c.args.rodeo.now in
    let all = map (λ (t : Bor Text). t.now) c.args.texts.now in
    let done = c.index-done.result.now in
    let after = c.learn.new.self.notes in
    let inside : c.loop-part.part < length c.in_ok-parts.parts.items = omega (arith, c.loop-part-test.true, c.len-part-end.ensures) in
    let each = (c.in_ok-parts.ensures.each c.loop-part.part done inside).1 in
    let part = map (λ (t : Bor Text). t.now) each.argument.now in
    let gave : IsPartOf of part done.known done.codes = subst (λ p. IsPartOf of part p.known p.codes) (sym c.index-done.ensures) each.call in
    let why = err_at (λ codes. AreCodes (list_of of done.known.notes) part codes.items) (λ error. IsRefusalIn of.opening (history done.known.notes) part error) done.codes c.in-Err.error gave.1 c.in-Err.is in
    let told : IsRefusalIn of.opening (history after) all c.in-Err.error =
    refused_more of.opening done.known.notes after part all c.in-Err.error c.learn.ensures.known (λ t there. part_contained c.args.texts.now each.argument.now c.loop-part.part c.max-size.result t each.argument_is.value there) why in
    rw (c.new.ensures, c.kind.ensures) told
