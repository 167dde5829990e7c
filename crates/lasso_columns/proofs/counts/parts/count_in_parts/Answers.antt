use Rattle.std.proofs.Common.{ℕ, ◌≡◌, ◌+◌, ◌-◌, ◌*◌, ◌<◌, ◌≤◌, ◌++◌, List, Bor, IsSomeAnd, map, take, drop, length, sym, ap, subst, ◌∙◌, arith}
use Rattle.std.specs.Prelude.{slice_get}
use Rattle.std.proofs.Math.Seq.{take-add}
use Rattle.std.proofs.lemmas.List.{length-drop, length-map, length-take-le, take_all}
use Rattle.lasso_parts.specs.Texts.{Text}
use Rattle.lasso_single.specs.Filling.{extend}
use Rattle.lasso_single.proofs.Filled.{accepted}
use Rattle.lasso_columns.proofs.PartSizes.{parts_reach}
use Rattle.lasso_single.specs.Coding.{spur_at, IsRefused}
use Rattle.lasso_columns.specs.Adding.{AddsCounts, RefusesNew}
use Rattle.lasso_columns.proofs.Added.{adds_join}
use Rattle.lasso_columns.proofs.PartLists.{extend_append}
use Rattle.lasso_columns.proofs.Rest.{part_here, first_here, within, next_here}
use Rattle.lasso_columns.proofs.counts.parts.count_in_parts.Given.{Over}
use Rattle.lasso_columns.proofs.counts.parts.count_in_parts.Goals as goal

-- a part has as many texts as its count
part_many : (texts : List (Bor Text)) (start count : ℕ) → start + count ≤ length texts → length (take (start + count - start) (drop start texts)) ≡ count
part_many texts start count within =
    length-take-le (start + count - start) (drop start texts) (omega (arith, length-drop start texts, within)) ∙ omega arith

pub overflow_sub-texts : goal.overflow_sub-texts
overflow_sub-texts g c = omega (arith, c.loop-part.invariant.start)

pub put_part-requires-clause-lengths : goal.put_part-requires-clause-lengths
put_part-requires-clause-lengths g c = c.loop-part.counts.ok.0 ∙ c.loop-part.invariant.counts.lengths

pub put_part-requires-clause-fits : goal.put_part-requires-clause-fits
put_part-requires-clause-fits g c =
    let all = map (λ (t : Bor Text). t.now) c.args.texts.now in
    let at = c.loop-part in
    let count = c.min-count.result in
    let within : at.start + count ≤ length c.args.texts.now = omega (arith, at.invariant.start, c.min-count.ensures) in
    let many = length-map c.args.texts.now (λ (t : Bor Text). t.now) in
    let before = length-take-le at.start all (omega (arith, within, many)) in
    omega (arith, at.invariant.counts.total, before, part_many c.args.texts.now at.start count within, within, c.requires.fits)

pub returns-in-Err-clause-room : goal.returns-in-Err-clause-room
returns-in-Err-clause-room g c = omega (arith, c.loop-part.invariant.room, c.in-Err.ensures.room)

pub returns-clause-room : goal.returns-clause-room
returns-clause-room g c = c.loop-part.invariant.room

pub loop-part-preserved : goal.loop-part-preserved
loop-part-preserved g c =
    let all = map (λ (t : Bor Text). t.now) c.args.texts.now in
    let at = c.loop-part in
    let start = at.start in
    let count = c.min-count.result in
    let new = c.put_part.new in
    let here = part_here c.args.texts.now start count in
    let told = c.in_default-put_part.ensures in
    let list = subst (λ (ts : List Text). extend spur_at at.rodeo ts accepted new.rodeo) here told.list in
    let counts = subst (λ (ts : List Text). AddsCounts ts at.rodeo.texts at.counts.items new.rodeo.texts new.counts.items) here told.counts in
    let more : take (start + count) all ≡ take start all ++ take count (drop start all) = take-add start count all in
    let next : (at.part + 1) * c.max-size.result ≡ at.part * c.max-size.result + c.max-size.result = omega arith in
    record {
      start = omega (arith, at.invariant.start, c.min-count.ensures, next);
      list = subst (λ (ts : List Text). extend spur_at c.args.rodeo.now ts accepted new.rodeo) (sym more) (extend_append c.args.rodeo.now at.rodeo new.rodeo (take start all) (take count (drop start all)) at.invariant.list list);
      counts = subst (λ (ts : List Text). AddsCounts ts c.args.rodeo.now.texts c.args.counts.now.items new.rodeo.texts new.counts.items) (sym more) (adds_join (take start all) (take count (drop start all)) c.args.rodeo.now.texts at.rodeo.texts new.rodeo.texts c.args.counts.now.items at.counts.items new.counts.items at.invariant.counts counts);
      room = omega (arith, at.invariant.room, told.room);
    }

pub returns-in-Err-clause-list : goal.returns-in-Err-clause-list
returns-in-Err-clause-list g c =
    let all = map (λ (t : Bor Text). t.now) c.args.texts.now in
    let at = c.loop-part in
    let start = at.start in
    let count = c.min-count.result in
    let k = c.in-Err.error.position in
    let new = c.put_part.new in
    let here = part_here c.args.texts.now start count in
    let refused = subst (λ (ts : List Text). IsSomeAnd (slice_get ts k) (λ text. IsRefused new.rodeo text c.in-Err.error.error)) here c.in-Err.ensures.refused in
    let small = within (λ text. IsRefused new.rodeo text c.in-Err.error.error) (take count (drop start all)) k refused in
    let first : take k (take count (drop start all)) ≡ take k (drop start all) = first_here (drop start all) count k (omega (arith, small)) in
    let list = subst (λ (ts : List Text). extend spur_at at.rodeo ts accepted new.rodeo) (ap (take k) here ∙ first) c.in-Err.ensures.list in
    let whole = subst (λ (ts : List Text). extend spur_at c.args.rodeo.now ts accepted new.rodeo) (sym (take-add start k all)) (extend_append c.args.rodeo.now at.rodeo new.rodeo (take start all) (take k (drop start all)) at.invariant.list list) in
    subst (λ n. extend spur_at c.args.rodeo.now (take n all) accepted new.rodeo) (sym c.after.ensures.position) whole

pub returns-in-Err-clause-counts : goal.returns-in-Err-clause-counts
returns-in-Err-clause-counts g c =
    let all = map (λ (t : Bor Text). t.now) c.args.texts.now in
    let at = c.loop-part in
    let start = at.start in
    let count = c.min-count.result in
    let k = c.in-Err.error.position in
    let new = c.put_part.new in
    let here = part_here c.args.texts.now start count in
    let refused = subst (λ (ts : List Text). IsSomeAnd (slice_get ts k) (λ text. IsRefused new.rodeo text c.in-Err.error.error)) here c.in-Err.ensures.refused in
    let small = within (λ text. IsRefused new.rodeo text c.in-Err.error.error) (take count (drop start all)) k refused in
    let first : take k (take count (drop start all)) ≡ take k (drop start all) = first_here (drop start all) count k (omega (arith, small)) in
    let counts = subst (λ (ts : List Text). AddsCounts ts at.rodeo.texts at.counts.items new.rodeo.texts new.counts.items) (ap (take k) here ∙ first) c.in-Err.ensures.counts in
    let whole = subst (λ (ts : List Text). AddsCounts ts c.args.rodeo.now.texts c.args.counts.now.items new.rodeo.texts new.counts.items) (sym (take-add start k all)) (adds_join (take start all) (take k (drop start all)) c.args.rodeo.now.texts at.rodeo.texts new.rodeo.texts c.args.counts.now.items at.counts.items new.counts.items at.invariant.counts counts) in
    subst (λ n. AddsCounts (take n all) c.args.rodeo.now.texts c.args.counts.now.items new.rodeo.texts new.counts.items) (sym c.after.ensures.position) whole

pub returns-in-Err-clause-refused : goal.returns-in-Err-clause-refused
returns-in-Err-clause-refused g c =
    let all = map (λ (t : Bor Text). t.now) c.args.texts.now in
    let start = c.loop-part.start in
    let count = c.min-count.result in
    let k = c.in-Err.error.position in
    let new = c.put_part.new in
    let here = part_here c.args.texts.now start count in
    let refused = subst (λ (ts : List Text). IsSomeAnd (slice_get ts k) (λ text. IsRefused new.rodeo text c.in-Err.error.error)) here c.in-Err.ensures.refused in
    let there = next_here (λ text. IsRefused new.rodeo text c.in-Err.error.error) all start count k refused in
    rw (c.after.ensures.position, c.after.ensures.error) there

pub returns-in-Err-clause-memory : goal.returns-in-Err-clause-memory
returns-in-Err-clause-memory g c =
    let all = map (λ (t : Bor Text). t.now) c.args.texts.now in
    let start = c.loop-part.start in
    let count = c.min-count.result in
    let k = c.in-Err.error.position in
    let new = c.put_part.new in
    let here = part_here c.args.texts.now start count in
    let refused = subst (λ (ts : List Text). IsSomeAnd (slice_get ts k) (λ text. RefusesNew new.rodeo new.counts text c.in-Err.error.error)) here c.in-Err.ensures.memory in
    let there = next_here (λ text. RefusesNew new.rodeo new.counts text c.in-Err.error.error) all start count k refused in
    rw (c.after.ensures.position, c.after.ensures.error) there

-- the parts reach to the end
all_taken : (g : Over) (c : goal.After-drop-parts-2 g) → take c.loop-part.start (map (λ (t : Bor Text). t.now) c.args.texts.now) ≡ map (λ (t : Bor Text). t.now) c.args.texts.now
all_taken g c =
    let all = map (λ (t : Bor Text). t.now) c.args.texts.now in
    let some : 0 < c.max-size.result = omega (arith, c.max-size.ensures) in
    let reach = parts_reach (length c.args.texts.now) c.max-size.result c.loop-part.part some (omega (arith, c.in-Ok.ensures.len, c.len-part-end.ensures, c.loop-part-test.false)) in
    take_all c.loop-part.start all (omega (arith, reach, c.loop-part.invariant.start, length-map c.args.texts.now (λ (t : Bor Text). t.now)))

pub returns-clause-list : goal.returns-clause-list
returns-clause-list g c =
    subst (λ (ts : List Text). extend spur_at c.args.rodeo.now ts accepted c.loop-part.rodeo) (all_taken g c) c.loop-part.invariant.list

pub returns-clause-counts : goal.returns-clause-counts
returns-clause-counts g c =
    subst (λ (ts : List Text). AddsCounts ts c.args.rodeo.now.texts c.args.counts.now.items c.loop-part.rodeo.texts c.loop-part.counts.items) (all_taken g c) c.loop-part.invariant.counts
