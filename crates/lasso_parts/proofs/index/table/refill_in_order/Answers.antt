use Rattle.std.proofs.Common.{◌≡◌, ◌<◌, refl, sym, ◌∙◌, subst, arith}
use Rattle.lasso_parts.specs.Hashing.{hash_by}
use Rattle.lasso_parts.specs.IndexTable.{IsRefilled}
use Rattle.lasso_parts.proofs.IndexTables.{below_more, IsRefilled-start, IsRefilled-more}
use Rattle.lasso_parts.proofs.index.table.refill_in_order.Goals as goal

pub loop-position-init : goal.loop-position-init
loop-position-init g c = record { refilled = IsRefilled-start _ _ _ _ _ c.requires.empty (λ k l. absurd (omega arith)); long = refl }

pub loop-position-preserved : goal.loop-position-preserved
loop-position-preserved g c =
    let at = c.loop-position.position in
    let number : g.K.Key.number c.in-Some.key ≡ at = (g.met.K.Key.made at c.in-Some.key (sym c.in-Some.ensures)).2 in
    let e = c.enter_again.ensures.entered in
    record {
      refilled = IsRefilled-more _ _ _ _ _ _ _ _ _ c.loop-position.invariant.refilled e c.enter_again.ensures.filed (λ n. below_more at _ n number) refl;
      long = e.len ∙ c.loop-position.invariant.long;
    }

pub returns-clause-refilled : goal.returns-clause-refilled
returns-clause-refilled g c =
    let all : c.loop-position.position ≡ c.args.len = omega (arith, c.loop-position-test.false, c.loop-position.auto.position-end) in
    subst (λ k. IsRefilled (hash_by g.S.BuildHasher g.S.Hasher.Hasher c.args.hasher.now) (g.T.Texts.list c.args.texts.now) c.loop-position.slots (λ n. n < k) k) all c.loop-position.invariant.refilled
