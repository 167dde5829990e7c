use Rattle.std.proofs.Common.{ℕ, ◌≡◌, ◌+◌, Some, Ok, ap, sym, subst, arith, ◌∙◌}
use Rattle.lasso_single.specs.Intern.{InternsIn}
use Rattle.lasso_single.specs.Coding.{spur_at}
use Rattle.lasso_single.proofs.Encoded.{interned_at, key_kept}
use Rattle.lasso_single.proofs.coding.intern_code_next.Goals as goal

pub returns-clause-interns : goal.returns-clause-interns
returns-clause-interns g c =
    let interns = c.in_ok-key.ensures in
    let kept = key_kept _ c.in_ok-key.key interns.0.1 in
    let more : c.in_ok-key.key ≡ c.into_position.result + 1 = omega (arith, kept.0, c.into_position.ensures.position) in
    subst (λ (k : ℕ). InternsIn {K = ℕ} spur_at c.args.rodeo.now c.args.text.now (Ok k) c.intern_next.new.rodeo) more interns

pub returns-clause-code : goal.returns-clause-code
returns-clause-code g c =
    interned_at c.args.rodeo.now c.intern_next.new.rodeo c.args.text.now c.in_ok-key.key c.in_ok-key.ensures ∙ ap (λ n. Some n) (sym c.into_position.ensures.position)

pub returns-clause-range : goal.returns-clause-range
returns-clause-range g c =
    let kept = key_kept _ c.in_ok-key.key c.in_ok-key.ensures.0.1 in
    omega (arith, kept.0, kept.1, c.into_position.ensures.position)
