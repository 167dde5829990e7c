use Rattle.std.proofs.Common.{◌≡◌, ◌∙◌, sym, ap, subst, List, length}
use Rattle.lasso_parts.specs.Account.{store_in_current}
use Rattle.lasso_parts.specs.Arena.{Regions, account_of, usage_of}
use Rattle.lasso_parts.specs.Bucket.{Extent}
use Rattle.lasso_parts.specs.Doubled.{IsSound}
use Rattle.lasso_parts.specs.Placements.{IsPlacementFor, StoresTo}
use Rattle.lasso_parts.specs.declared.arena.Placement.TheVariants.{Current}
use Rattle.lasso_parts.proofs.RegionOrder.{current_account, current_sound, usage_set}
use Rattle.lasso_parts.proofs.arena.Arena.store_in_current.Goals as goal

pub invariant_of-self : goal.invariant_of-self
invariant_of-self g c =
    let i = c.self.inside in
    let a : Regions = record { all = i.regions; current = i.current; kept = i.kept; doubling = i.doubling; limit = i.limit; most = i.most } in
    let placement = subst (λ (v : Regions). IsPlacementFor v (length c.args.text.now) Current) (sym c.self.view_is) c.requires.placement in
    let pushed = c.push_text-start.ensures.pushed in (
      c.self.invariant.0 ∙ sym (usage_set i.regions i.current c.args.text.now) ∙ ap usage_of (sym pushed),
      subst (λ (l : List Extent). IsSound (record a { all = l })) (sym pushed) (current_sound a c.args.text.now c.self.invariant.1 c.requires.some placement.0),
    )

pub returns-clause-account : goal.returns-clause-account
returns-clause-account g c =
    let i = c.self.inside in
    let n = length c.args.text.now in
    let a : Regions = record { all = i.regions; current = i.current; kept = i.kept; doubling = i.doubling; limit = i.limit; most = i.most } in
    let placement = subst (λ (v : Regions). IsPlacementFor v n Current) (sym c.self.view_is) c.requires.placement in
    let new : Regions = record a { all = c.push_text-start.new.self } in
    let account : store_in_current (account_of a) n ≡ account_of new = sym (current_account a c.args.text.now c.self.invariant.1.order) ∙ ap (λ (l : List Extent). account_of (record a { all = l })) (sym c.push_text-start.ensures.pushed) in
    subst (λ (v : Regions). StoresTo v n (account_of new)) c.self.view_is (subst (StoresTo a n) account placement.1)
