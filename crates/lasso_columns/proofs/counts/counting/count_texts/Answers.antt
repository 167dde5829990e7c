use Rattle.std.proofs.Common.{ℕ, ◌≡◌, ◌≤◌, ◌∙◌, List, Bor, Ok, map, take, length, refl, sym, subst, arith}
use Rattle.std.proofs.lemmas.List.{length-map, length-take-le, take_all}
use Rattle.lasso_parts.specs.Texts.{Text}
use Rattle.lasso_single.specs.Filling.{extend}
use Rattle.lasso_single.specs.Interner.{InternerView}
use Rattle.lasso_single.proofs.Filled.{accepted, extend_push}
use Rattle.lasso_columns.proofs.Interned.{list_interned}
use Rattle.lasso_single.proofs.Encoded.{texts_more}
use Rattle.lasso_single.specs.Coding.{spur_at}
use Rattle.lasso_columns.specs.Adding.{AddsCounts}
use Rattle.lasso_columns.proofs.Added.{adds_push}
use Rattle.lasso_columns.proofs.counts.counting.count_texts.Given.{Over}
use Rattle.lasso_columns.proofs.counts.counting.count_texts.Goals as goal

-- how many texts come before a position
first_many : (texts : List (Bor Text)) (n : ℕ) → n ≤ length texts → length (take n (map (λ t. t.now) texts)) ≡ n
first_many texts n within = length-take-le n (map (λ (t : Bor Text). t.now) texts) (omega (arith, within, length-map texts (λ (t : Bor Text). t.now)))

pub count_next-requires-clause-lengths : goal.count_next-requires-clause-lengths
count_next-requires-clause-lengths g c = c.loop-position.counts.ok.0 ∙ c.loop-position.invariant.counts.lengths

pub count_next-requires-clause-fits : goal.count_next-requires-clause-fits
count_next-requires-clause-fits g c =
    let at = c.loop-position in
    omega (arith, at.invariant.counts.total, first_many c.args.texts.now at.position at.auto.position-end, c.loop-position-test.true, c.requires.fits)

pub returns-in-Err-clause-list : goal.returns-in-Err-clause-list
returns-in-Err-clause-list g c =
    let at = c.loop-position in
    subst (λ (i : InternerView). extend spur_at c.args.rodeo.now (take at.position (map (λ (t : Bor Text). t.now) c.args.texts.now)) accepted i) (sym c.in-Err.ensures.kept) at.invariant.list

pub returns-in-Err-clause-counts : goal.returns-in-Err-clause-counts
returns-in-Err-clause-counts g c =
    let at = c.loop-position in
    let new = c.count_next.new in
    let before = take at.position (map (λ (t : Bor Text). t.now) c.args.texts.now) in
    let counts = subst (λ (cs : List ℕ). AddsCounts before c.args.rodeo.now.texts c.args.counts.now.items at.rodeo.texts cs) (sym c.in-Err.ensures.kept_counts) at.invariant.counts in
    subst (λ (i : InternerView). AddsCounts before c.args.rodeo.now.texts c.args.counts.now.items i.texts new.counts.items) (sym c.in-Err.ensures.kept) counts

pub returns-in-Err-clause-room : goal.returns-in-Err-clause-room
returns-in-Err-clause-room g c = omega (arith, c.loop-position.invariant.room, c.in-Err.ensures.room.0)

pub loop-position-preserved : goal.loop-position-preserved
loop-position-preserved g c =
    let told = c.in_default.ensures in
    let at = c.loop-position in
    let now = c.count_next.new in
    let more = texts_more c.args.texts.now at.position _ c.loop-position-test.true in
    let list = extend_push spur_at c.args.rodeo.now at.rodeo now.rodeo _ _ (Ok told.interns.0) accepted at.invariant.list told.interns.1 refl in
    let counts = adds_push _ c.args.rodeo.now.texts at.rodeo.texts now.rodeo.texts c.args.counts.now.items at.counts.items now.counts.items _ at.invariant.counts told.step (list_interned spur_at at.rodeo now.rodeo _ told.interns.0 told.interns.1) in
    record {
      list = subst (λ (ts : List Text). extend spur_at c.args.rodeo.now ts accepted now.rodeo) (sym more) list;
      counts = subst (λ (ts : List Text). AddsCounts ts c.args.rodeo.now.texts c.args.counts.now.items now.rodeo.texts now.counts.items) (sym more) counts;
      room = omega (arith, at.invariant.room, told.room.0);
    }

-- all texts come before the end
all_texts : (g : Over) (c : goal.After-loop-position g) → take c.loop-position.position (map (λ (t : Bor Text). t.now) c.args.texts.now) ≡ map (λ (t : Bor Text). t.now) c.args.texts.now
all_texts g c =
    let all = map (λ (t : Bor Text). t.now) c.args.texts.now in
    take_all c.loop-position.position all (omega (arith, c.loop-position-test.false, length-map c.args.texts.now (λ (t : Bor Text). t.now)))

pub returns-clause-list : goal.returns-clause-list
returns-clause-list g c =
    subst (λ (ts : List Text). extend spur_at c.args.rodeo.now ts accepted c.loop-position.rodeo) (all_texts g c) c.loop-position.invariant.list

pub returns-clause-counts : goal.returns-clause-counts
returns-clause-counts g c =
    subst (λ (ts : List Text). AddsCounts ts c.args.rodeo.now.texts c.args.counts.now.items c.loop-position.rodeo.texts c.loop-position.counts.items) (all_texts g c) c.loop-position.invariant.counts

pub returns-clause-room : goal.returns-clause-room
returns-clause-room g c = c.loop-position.invariant.room
