use Rattle.std.proofs.Common.{◌<◌, length, [], refl, sym, ap, ◌∙◌, subst, arith}
use Rattle.std.specs.Option.{option_map}
use Rattle.std.proofs.lemmas.Option.{slice_get-get_or}
use Rattle.lasso_parts.specs.Hashing.{hash_by}
use Rattle.lasso_parts.specs.Index.{Table, IsFiled}
use Rattle.lasso_parts.specs.IndexTable.{IsEntered, KnowsHashes}
use Rattle.lasso_parts.specs.declared.index.hashes_ahead.HashesAhead.{HashesAhead}
use Rattle.lasso_parts.proofs.IndexSlots.{slot_has, slot-nil}
use Rattle.lasso_parts.proofs.IndexTables.{used-take-le, holds_skip, used_skip, holds_more, used_more, IsRefilled-start, IsRefilled-same, IsRefilled-more}
use Rattle.lasso_parts.proofs.index.table.refill.Goals.{in-Some, in_default}
use Rattle.lasso_parts.proofs.index.table.refill.Goals as goal

pub loop-j-init : goal.loop-j-init
loop-j-init g c = record {
  refilled = IsRefilled-start _ _ _ _ _ c.requires.empty (λ k h. slot-nil h.0 k h.1);
  long = refl;
  known = record {
    all = c.new-ahead.ensures.1;
    few = omega (arith, c.new-ahead.ensures.0);
    hashed = λ i n text l. absurd (omega (arith, l, c.new-ahead.ensures.0));
  };
}

pub enter-requires : goal.enter-requires
enter-requires g c = omega (arith, c.requires.load, c.loop-j.invariant.refilled.counted, c.loop-j.invariant.long, used-take-le c.loop-j.j c.args.old.now.slots)

pub loop-j-preserved : goal.loop-j-preserved
loop-j-preserved g c =
    let old = c.args.old.now.slots in
    let l : c.loop-j.j < length old = subst (λ n. c.loop-j.j < n) c.len-j-end.ensures c.loop-j-test.true in
    elim c.match-get.branch [
      | in-Some w ↦
          let here = slot_has g.K.Key.number _ _ _ _ c.get.ensures w.in-Some.is refl in
          let texts = g.T.Texts.list c.args.texts.now in
          let m = g.K.Key.number w.in-Some.key in
          let its = slice_get-get_or texts m [] (c.requires.in_list _ _ here) in
          let e = subst (λ (t : Table). IsEntered m c.loop-j.slots t) (sym w.slots-is) w.enter.ensures.entered in
          record {
            refilled = IsRefilled-more _ _ _ _ _ _ _ _ _ c.loop-j.invariant.refilled e (λ f. subst (λ (t : Table). IsFiled _ _ t) (sym w.slots-is) (w.enter.ensures.filed _ _ _ f its (w.hash_at-hash.ensures.hash _ _ here its))) (holds_more old c.loop-j.j l _ here) (used_more old c.loop-j.j l _ here);
            long = e.len ∙ c.loop-j.invariant.long;
            known = subst (λ (a : HashesAhead). KnowsHashes (hash_by g.S.BuildHasher g.S.Hasher.Hasher c.args.hasher.now) (g.T.Texts.list c.args.texts.now) old a.first a.size a.each) (sym w.ahead-is) w.hash_at-hash.ensures.known;
          }
      | in_default w ↦
          let here = sym c.get.ensures ∙ ap (option_map g.K.Key.number) w.in_default.is in
          record {
            refilled = IsRefilled-same _ _ _ _ _ _ _ _ c.loop-j.invariant.refilled w.slots-is (holds_skip old c.loop-j.j l here) (used_skip old c.loop-j.j l here);
            long = ap (λ (t : Table). length t.slots) w.slots-is ∙ c.loop-j.invariant.long;
            known = subst (λ (a : HashesAhead). KnowsHashes (hash_by g.S.BuildHasher g.S.Hasher.Hasher c.args.hasher.now) (g.T.Texts.list c.args.texts.now) old a.first a.size a.each) (sym w.ahead-is) c.loop-j.invariant.known;
          }
    ]
