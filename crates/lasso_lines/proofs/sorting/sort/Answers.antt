use Rattle.std.proofs.Common.{ℕ, ◌≡◌, ◌++◌, ◌∙◌, Bor, List, take, drop, length, sym, ap, subst}
use Rattle.std.specs.Prelude.{IsPermutation}
use Rattle.std.proofs.lemmas.List.Sorted.{IsPermutation-trans}
use Rattle.lasso_lines.proofs.Parts.{lent_back}
use Rattle.lasso_lines.proofs.sorting.sort.Goals.{then-threads-gt1+else-is_ok, else-threads-gt1}
use Rattle.lasso_lines.proofs.sorting.sort.Goals as goal

-- the vector has the elements of the sorted parts
lent : (n : ℕ) (xs slice parts : List (ℕ × Bor (List ℕ))) → n ≡ length xs → slice ≡ xs → length parts ≡ length slice → IsPermutation slice parts → IsPermutation xs (take n (parts ++ drop (length parts) xs))
lent n xs slice parts whole is long moved =
    let same : length parts ≡ length xs = long ∙ ap length is in
    subst (λ zs. IsPermutation xs zs) (sym (lent_back n parts xs whole same)) (subst (λ zs. IsPermutation zs parts) is moved)

pub returns-then-is_ok-clause-permutation : goal.returns-then-is_ok-clause-permutation
returns-then-is_ok-clause-permutation g c =
    let vec = c.args.texts.now in
    IsPermutation-trans _ _ _ (lent vec.len vec.items c.deref_mut.result.now c.sort_parts.new.texts vec.ok.0 c.deref_mut.ensures.value c.sort_parts.auto.texts c.sort_parts.ensures) c.sort.ensures.permutation

pub returns-clause-permutation : goal.returns-clause-permutation
returns-clause-permutation g c =
    let vec = c.args.texts.now in
    elim c.if-threads-gt1.branch [
      | then-threads-gt1+else-is_ok w ↦
          let parts = lent vec.len vec.items w.deref_mut.result.now w.sort_parts.new.texts vec.ok.0 w.deref_mut.ensures.value w.sort_parts.auto.texts w.sort_parts.ensures in
          let merged = IsPermutation-trans _ _ _ parts w.sort.ensures.permutation in
          IsPermutation-trans _ _ _ (rw w.texts-is merged) c.sort_unstable.ensures.permutation
      | else-threads-gt1 w ↦ rw w.texts-is at c.sort_unstable.ensures.permutation
    ]
