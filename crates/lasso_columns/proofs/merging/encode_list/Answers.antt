use Rattle.std.proofs.Common.{◌≡◌, ◌<◌, List, vec_len, vec_capacity, sym, subst, arith}
use Rattle.std.proofs.lemmas.Result.{err_from_is_err_and}
use Rattle.std.proofs.lemmas.Option.{slice_get_within}
use Rattle.lasso_parts.proofs.TextLemmas.{take_more_at}
use Rattle.lasso_parts.specs.Texts.{Text}
use Rattle.lasso_parts.specs.declared.util.LassoErrorKind.TheVariants.{FailedAllocation}
use Rattle.lasso_single.proofs.Encoded.{Encoded, encoded_push, encoded_still}
use Rattle.lasso_columns.proofs.PartLists.{ListEncoded, list_encoded, list_next, not_full}
use Rattle.lasso_single.specs.Coding.{IsRefused, IsAdmitted}
use Rattle.lasso_columns.proofs.merging.encode_list.Given.{Over}
use Rattle.lasso_columns.proofs.merging.encode_list.Goals as goal

pub loop-position-preserved : goal.loop-position-preserved
loop-position-preserved g c =
    let told = c.in_ok-encode_next.ensures in
    let more = encoded_push c.args.into.now c.loop-position.into c.encode_next.new.rodeo _ _ told.0.0 told.1.0 c.args.codes.now.items c.loop-position.codes.items c.encode_next.new.codes.items c.loop-position.invariant.encoded told.0.1 told.1.1 told.1.2 in
    record {
      encoded = subst (λ (ts : List Text). Encoded c.args.into.now ts c.args.codes.now.items c.encode_next.new.rodeo c.encode_next.new.codes.items) (sym (take_more_at c.args.from.now c.loop-position.position _ c.text_at.ensures)) more;
      room = omega (arith, c.loop-position.invariant.room, told.2);
    }

stopped : (g : Over) (c : goal.After-from_residual g) → ListEncoded c.args.into.now c.encode_next.new.rodeo c.args.from.now c.loop-position.position c.encode_next.new.codes.items
stopped g c =
    let told = c.in_err-encode_next.ensures in
    list_encoded _ _ _ _ _ _ c.requires.empty (encoded_still c.args.into.now c.loop-position.into c.encode_next.new.rodeo _ c.args.codes.now.items c.loop-position.codes.items c.encode_next.new.codes.items c.loop-position.invariant.encoded told.0 told.1)

ended : (g : Over) (c : goal.After-loop-position g) → ListEncoded c.args.into.now c.loop-position.into c.args.from.now c.loop-position.position c.loop-position.codes.items
ended g c = list_encoded _ _ _ _ _ _ c.requires.empty c.loop-position.invariant.encoded

pub returns-in_err-encode_next-clause-list : goal.returns-in_err-encode_next-clause-list
returns-in_err-encode_next-clause-list g c = (stopped g c).list

pub returns-in_err-encode_next-clause-codes : goal.returns-in_err-encode_next-clause-codes
returns-in_err-encode_next-clause-codes g c = (stopped g c).codes

pub returns-in_err-encode_next-clause-refused : goal.returns-in_err-encode_next-clause-refused
returns-in_err-encode_next-clause-refused g c =
    let p = err_from_is_err_and c.from_residual.result c.from_residual.ensures.1 in
    let told = c.in_err-encode_next.ensures in
    let here = list_next _ _ _ _ _ (stopped g c) _ c.text_at.ensures (λ text. IsRefused c.loop-position.into text c.in_err-encode_next.field-0.0) told.2 in
    rw (p.1, p.2, told.0) here

-- the codes have room for one more, so memory can have run out only for the text
pub returns-in_err-encode_next-clause-memory : goal.returns-in_err-encode_next-clause-memory
returns-in_err-encode_next-clause-memory g c =
    let p = err_from_is_err_and c.from_residual.result c.from_residual.ensures.1 in
    let told = c.in_err-encode_next.ensures in
    let long = (stopped g c).long in
    let inside = slice_get_within c.args.from.now c.loop-position.position _ c.text_at.ensures in
    let room : vec_len c.encode_next.new.codes < vec_capacity c.encode_next.new.codes = omega (arith, c.loop-position.invariant.room, told.4, long, inside) in
    rw (p.1, p.2, told.0) (list_next _ _ _ _ _ (stopped g c) _ c.text_at.ensures (λ text. c.in_err-encode_next.field-0.0 ≡ FailedAllocation → IsAdmitted c.loop-position.into text) (λ lacks. not_full _ _ _ (told.3 lacks) room))

pub returns-clause-list : goal.returns-clause-list
returns-clause-list g c = (ended g c).list

pub returns-clause-codes : goal.returns-clause-codes
returns-clause-codes g c = (ended g c).codes

pub returns-clause-whole : goal.returns-clause-whole
returns-clause-whole g c = omega (arith, (ended g c).long, c.loop-position-test.false, c.len-count.ensures.value)
