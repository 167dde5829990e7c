use Rattle.std.proofs.Common.{subst, map}
use Rattle.std.specs.Prelude.{IsPermutation}
use Rattle.std.specs.Ordering.{is_lt}
use Rattle.std.proofs.lemmas.List.Sorted.{IsPermutation-map}
use Rattle.lasso_columns.specs.Counts.{pair_of, ranked_cmp}
use Rattle.lasso_columns.proofs.Ranks.{sorted_map, pairs_total}
use Rattle.lasso_codes.proofs.ranking.lines_by_frequency.Goals as goal

pub returns-clause-pairs : goal.returns-clause-pairs
returns-clause-pairs g c =
    subst (λ pairs. IsPermutation pairs (map pair_of c.sort_in_parts.new.elements.items)) c.in_ok-ranked.ensures (IsPermutation-map pair_of _ _ c.sort_in_parts.ensures.permutation)

pub returns-clause-total : goal.returns-clause-total
returns-clause-total g c =
    let order = subst (λ pairs. IsPermutation pairs (map pair_of c.sort_in_parts.new.elements.items)) c.in_ok-ranked.ensures (IsPermutation-map pair_of _ _ c.sort_in_parts.ensures.permutation) in
    pairs_total c.args.counts.now c.args.table.now (map pair_of c.sort_in_parts.new.elements.items) c.requires order

pub returns-clause-order : goal.returns-clause-order
returns-clause-order g c = sorted_map pair_of (λ a b. is_lt (ranked_cmp a b)) c.sort_in_parts.new.elements.items c.sort_in_parts.ensures.sorted
