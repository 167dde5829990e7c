use Rattle.std.proofs.Common.{◌≡◌, ◌+◌, ◌<◌, ◌∙◌, ◌^◌, [], length, get_or, set, ap, refl, arith}
use Rattle.std.proofs.lemmas.List.{length-set}
use Rattle.lasso_parts.specs.Texts.{position_of}
use Rattle.lasso_single.proofs.Coded.{map_some_length}
use Rattle.lasso_columns.proofs.Added.{amounts_more, amounts_all, at_index, total_more, total_fits, value_at}
use Rattle.lasso_columns.proofs.counts.parts.add_counts.Goals as goal

pub overflow_add-index_mut : goal.overflow_add-index_mut
overflow_add-index_mut c =
    let at = c.loop-position in
    let amounts = c.args.amounts.now in
    let place = get_or c.args.places.now at.position 0 in
    let small : at.position < length amounts = omega (arith, c.loop-position-test.true, c.requires.each) in
    let below = c.requires.inside at.position 0 c.loop-position-test.true in
    let within : place < length at.counts.items = omega (arith, below, c.args.counts.now.ok.0, at.invariant.long) in
    let value = value_at at.counts.items place c.index_mut.result.now within c.index_mut.ensures.value in
    let fits = total_fits c.args.counts.now.items at.counts.items amounts at.position place c.index_mut.result.now (get_or amounts at.position 0) (2 ^ 64) value refl within small at.invariant.total c.requires.fits in omega (arith, fits)

pub loop-position-preserved : goal.loop-position-preserved
loop-position-preserved c =
    let at = c.loop-position in
    let places = c.args.places.now in
    let amounts = c.args.amounts.now in
    let old = c.args.counts.now.items in
    let now = at.counts.items in
    let place = get_or places at.position 0 in
    let amount = get_or amounts at.position 0 in
    let small : at.position < length amounts = omega (arith, c.loop-position-test.true, c.requires.each) in
    let below = c.requires.inside at.position 0 c.loop-position-test.true in
    let within : place < length now = omega (arith, below, c.args.counts.now.ok.0, at.invariant.long) in
    let value = value_at now place c.index_mut.result.now within c.index_mut.ensures.value in
    let is = ap (λ v. set now place (v + amount)) value in
    record {
      added = λ list from lengths distinct are.
          let long = map_some_length (position_of list) from places are in
          let same : length amounts ≡ length from = omega (arith, long, c.requires.each) in
          amounts_more list from places amounts old now (set now place (c.index_mut.result.now + amount)) at.position place amount (get_or from at.position []) lengths distinct are same (at.invariant.added list from lengths distinct are) (at_index from at.position [] (omega (arith, small, same))) (at_index places at.position 0 c.loop-position-test.true) refl small is;
      long = length-set now place (c.index_mut.result.now + amount) ∙ at.invariant.long;
      total = total_more old now amounts at.position place c.index_mut.result.now amount value refl within small at.invariant.total;
      capacity = at.invariant.capacity;
    }

pub returns-clause-added : goal.returns-clause-added
returns-clause-added c = λ list from lengths distinct are.
    let at = c.loop-position in
    amounts_all list from c.args.places.now c.args.amounts.now c.args.counts.now.items at.counts.items at.position are c.requires.each c.loop-position-test.false (at.invariant.added list from lengths distinct are)
