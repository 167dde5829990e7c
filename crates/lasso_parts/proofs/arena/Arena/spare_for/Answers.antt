use Rattle.std.proofs.Common.{◌≡◌, ◌+◌, subst, List, Some, None, refl}
use Rattle.std.specs.Prelude.{slice_range}
use Rattle.lasso_parts.specs.Account.{spare_for}
use Rattle.lasso_parts.specs.Arena.{Regions, account_of, first_of, region_at}
use Rattle.lasso_parts.specs.Bucket.{Extent}
use Rattle.lasso_parts.specs.Doubled.{IsFirstToTake, NoneTakes}
use Rattle.lasso_parts.specs.Placements.{IsSpareAt}
use Rattle.lasso_parts.specs.Waste.{HasNoSpare}
use Rattle.lasso_parts.proofs.RegionSpares.{spare_found, none_found}
use Rattle.lasso_parts.proofs.arena.Arena.spare_for.Goals as goal

pub returns-in-Some-clause-found : goal.returns-in-Some-clause-found
returns-in-Some-clause-found g c =
    let i = c.self.inside in
    let a : Regions = record { all = i.regions; current = i.current; kept = i.kept; doubling = i.doubling; limit = i.limit; most = i.most } in
    let first = subst (λ (l : List Extent). IsFirstToTake c.args.n (slice_range l 1 i.kept) c.in-Some.at) c.as_slice.ensures c.in-Some.ensures.found in
    subst (λ (v : Regions). IsSpareAt v c.args.n (c.in-Some.at + 1) × (spare_for (first_of v) (account_of v) c.args.n ≡ Some (region_at v.all (c.in-Some.at + 1)).capacity)) c.self.view_is (spare_found a c.args.n c.in-Some.at c.self.invariant.1.order first)

pub returns-in-None-clause-missing : goal.returns-in-None-clause-missing
returns-in-None-clause-missing g c _ =
    let i = c.self.inside in
    let a : Regions = record { all = i.regions; current = i.current; kept = i.kept; doubling = i.doubling; limit = i.limit; most = i.most } in
    let none = subst (λ (l : List Extent). NoneTakes c.args.n (slice_range l 1 i.kept)) c.as_slice.ensures (c.in-None.ensures.missing refl) in
    subst (λ (v : Regions). HasNoSpare (account_of v) c.args.n × (spare_for (first_of v) (account_of v) c.args.n ≡ None)) c.self.view_is (none_found a c.args.n c.self.invariant.1.order none)
