-- What a clear keeps of the regions takes no more bytes than all of them took.
--
-- It keeps the first region and some of the others, each with its size.
use Rattle.std.proofs.Common.{◌≡◌, ℕ, ◌+◌, ◌*◌, ◌≤◌, inl, inr, List, [], ◌∷◌, map, ap, ◌∙◌, sym, refl, arith}
use Rattle.std.proofs.lemmas.Bool.{cases_eq}
use Rattle.std.proofs.lemmas.Bool.Decides.{nat_tests}
use Rattle.std.proofs.lemmas.List.Sums.{sum_by-cons}
use Rattle.lasso_parts.specs.Arena.{emptied, usage_of}
use Rattle.lasso_parts.specs.Bucket.{Extent}
use Rattle.lasso_parts.specs.Doubled.{doubled_from, kept_of}

usage_cons : (r : Extent) (rs : List Extent) → usage_of (r ∷ rs) ≡ r.capacity + usage_of rs
usage_cons r rs = sum_by-cons (λ (x : Extent). x.capacity) r rs

usage_emptied : (rs : List Extent) → usage_of (map emptied rs) ≡ usage_of rs
usage_emptied [] = refl
usage_emptied (r ∷ rs) =
    usage_cons (emptied r) (map emptied rs) ∙ ap (λ (n : ℕ). r.capacity + n) (usage_emptied rs) ∙ sym (usage_cons r rs)

doubled_hit : (z : ℕ) (r : Extent) (rs : List Extent) → r.capacity ≡ z → doubled_from z (r ∷ rs) ≡ r ∷ doubled_from (2 * z) rs
doubled_hit z r rs e = grind (arith, nat_tests, e)

doubled_miss : (z : ℕ) (r : Extent) (rs : List Extent) → (r.capacity ≡ z → ⊥) → doubled_from z (r ∷ rs) ≡ doubled_from z rs
doubled_miss z r rs ne = grind (arith, nat_tests, ne)

usage_doubled : (z : ℕ) (rs : List Extent) → usage_of (doubled_from z rs) ≤ usage_of rs
usage_doubled z [] = omega arith
usage_doubled z (r ∷ rs) =
    let all = usage_cons r rs in
    elim (cases_eq r.capacity z) [
      | inl e ↦
          let kept = ap usage_of (doubled_hit z r rs e) ∙ usage_cons r (doubled_from (2 * z) rs) in
          let others = usage_doubled (2 * z) rs in
          omega (arith, all, kept, others)
      | inr ne ↦
          let kept = ap usage_of (doubled_miss z r rs ne) in
          let others = usage_doubled z rs in
          omega (arith, all, kept, others)
    ]

pub usage_kept : (rs : List Extent) → usage_of (map emptied (kept_of rs)) ≤ usage_of rs
usage_kept [] = omega arith
usage_kept (r ∷ rs) =
    let all = usage_cons r rs in
    let kept = usage_emptied (r ∷ doubled_from (2 * r.capacity) rs) ∙ usage_cons r (doubled_from (2 * r.capacity) rs) in
    let others = usage_doubled (2 * r.capacity) rs in
    omega (arith, all, kept, others)
