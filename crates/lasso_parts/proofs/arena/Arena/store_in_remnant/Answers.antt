use Rattle.std.proofs.Common.{◌∙◌, ◌+◌, ℕ, sym, ap, subst, refl, true, List, length}
use Rattle.lasso_parts.specs.Arena.{Regions, account_of, usage_of}
use Rattle.lasso_parts.specs.Bucket.{Extent}
use Rattle.lasso_parts.specs.Doubled.{IsSound}
use Rattle.lasso_parts.specs.Placements.{IsPlacementFor, StoresTo}
use Rattle.lasso_parts.specs.declared.arena.Placement.TheVariants.{Remnant}
use Rattle.lasso_parts.proofs.Regions.{filled}
use Rattle.lasso_parts.proofs.RegionOrder.{remnant_sound, new_account, usage_push}
use Rattle.lasso_parts.proofs.arena.Arena.store_in_remnant.Goals as goal

pub invariant_of-self-2 : goal.invariant_of-self-2
invariant_of-self-2 g c =
    let i = c.self.inside in
    let t = c.args.text.now in
    let a : Regions = record { all = i.regions; current = i.current; kept = i.kept; doubling = i.doubling; limit = i.limit; most = i.most } in
    let placement = subst (λ (v : Regions). IsPlacementFor v (length t) (Remnant c.args.size)) (sym c.self.view_is) c.requires.placement in
    let added = c.in_ok-push_filled.ensures.added (refl {a = true}) in
    let sound = remnant_sound a added.0 t c.args.size c.self.invariant.1 placement.0 placement.1 placement.2 in (
      ap (λ (u : ℕ). u + c.args.size) c.self.invariant.0 ∙ sym (usage_push a (filled added.0 t c.args.size)) ∙ ap usage_of (sym added.1),
      subst (λ (n : ℕ). IsSound (record a { all = c.push_filled.new.self; current = n })) (sym (ap length c.as_slice-region.ensures))
          (subst (λ (l : List Extent). IsSound (record a { all = l; current = length i.regions })) (sym added.1) sound),
    )

pub returns-clause-account : goal.returns-clause-account
returns-clause-account g c _ =
    let i = c.self.inside in
    let t = c.args.text.now in
    let a : Regions = record { all = i.regions; current = i.current; kept = i.kept; doubling = i.doubling; limit = i.limit; most = i.most } in
    let placement = subst (λ (v : Regions). IsPlacementFor v (length t) (Remnant c.args.size)) (sym c.self.view_is) c.requires.placement in
    let added = c.in_ok-push_filled.ensures.added (refl {a = true}) in
    let new : Regions = record a { all = c.push_filled.new.self; current = length c.as_slice-region.result.now } in
    let account = sym (new_account a added.0 t c.args.size i.doubling c.self.invariant.1.order)
    ∙ ap (λ (l : List Extent). account_of (record a { all = l; current = length i.regions })) (sym added.1)
    ∙ ap (λ (n : ℕ). account_of (record a { all = c.push_filled.new.self; current = n })) (sym (ap length c.as_slice-region.ensures)) in
    subst (λ (v : Regions). StoresTo v (length t) (account_of new)) c.self.view_is (subst (StoresTo a (length t)) account placement.4)
