use Rattle.std.proofs.Common.{◌≡◌, ℕ, ◌*◌, ◌/◌, ◌^◌, ◌<◌, suc, subst, sym, arith}
use Rattle.std.proofs.lemmas.Grind.{common_steps}
use Rattle.lasso_parts.specs.Index.{load_limit}
use Rattle.lasso_parts.proofs.index.table.slot_count.Goals as goal

double_pow : (n k : ℕ) → n ≡ 2 ^ k → n * 2 ≡ 2 ^ suc k
double_pow n k e = grind (arith, common_steps)

too_few : (n capacity : ℕ) → n / 4 * 3 < capacity → load_limit (n * 2 / 2) < capacity
too_few n capacity few = let e : n * 2 / 2 ≡ n = omega arith in subst (λ m. load_limit m < capacity) (sym e) (omega arith)

pub loop-count-preserved : goal.loop-count-preserved
loop-count-preserved c = let w = c.loop-count.invariant.power in record {
  power = (suc w.0, omega (arith, w.1), double_pow _ w.0 w.2);
  needed = λ many. too_few _ _ c.loop-count-test.true;
}
