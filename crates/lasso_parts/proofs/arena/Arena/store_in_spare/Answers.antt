use Rattle.std.proofs.Common.{◌≡◌, ◌∙◌, sym, ap, subst, List, length}
use Rattle.lasso_parts.specs.Account.{store_in_spare}
use Rattle.lasso_parts.specs.Arena.{Regions, account_of, usage_of, region_at}
use Rattle.lasso_parts.specs.Bucket.{Extent}
use Rattle.lasso_parts.specs.Doubled.{IsSound}
use Rattle.lasso_parts.specs.Placements.{IsPlacementFor, StoresTo}
use Rattle.lasso_parts.specs.declared.arena.Placement.TheVariants.{Spare}
use Rattle.lasso_parts.proofs.RegionOrder.{spare_account, spare_sound, usage_set}
use Rattle.lasso_parts.proofs.arena.Arena.store_in_spare.Goals as goal

pub invariant_of-self : goal.invariant_of-self
invariant_of-self g c =
    let i = c.self.inside in
    let a : Regions = record { all = i.regions; current = i.current; kept = i.kept; doubling = i.doubling; limit = i.limit; most = i.most } in
    let placement = subst (λ (v : Regions). IsPlacementFor v (length c.args.text.now) (Spare c.args.at)) (sym c.self.view_is) c.requires.placement in
    let pushed = c.push_text-start.ensures.pushed in (
      c.self.invariant.0 ∙ sym (usage_set i.regions c.args.at c.args.text.now) ∙ ap usage_of (sym pushed),
      subst (λ (l : List Extent). IsSound (record a { all = l; current = c.args.at })) (sym pushed) (spare_sound a c.args.at c.args.text.now c.self.invariant.1 c.requires.some placement.0 placement.1),
    )

pub returns-clause-account : goal.returns-clause-account
returns-clause-account g c =
    let i = c.self.inside in
    let n = length c.args.text.now in
    let a : Regions = record { all = i.regions; current = i.current; kept = i.kept; doubling = i.doubling; limit = i.limit; most = i.most } in
    let placement = subst (λ (v : Regions). IsPlacementFor v n (Spare c.args.at)) (sym c.self.view_is) c.requires.placement in
    let new : Regions = record a { all = c.push_text-start.new.self; current = c.args.at } in
    let account : store_in_spare (account_of a) (region_at a.all c.args.at).capacity n ≡ account_of new = sym (spare_account a c.args.at c.args.text.now c.self.invariant.1.order c.requires.some placement.1) ∙ ap (λ (l : List Extent). account_of (record a { all = l; current = c.args.at })) (sym c.push_text-start.ensures.pushed) in
    subst (λ (v : Regions). StoresTo v n (account_of new)) c.self.view_is (subst (StoresTo a n) account placement.2)
