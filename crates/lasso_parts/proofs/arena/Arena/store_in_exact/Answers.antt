use Rattle.std.proofs.Common.{◌∙◌, ◌+◌, ℕ, sym, ap, subst, refl, true, List, length}
use Rattle.lasso_parts.specs.Arena.{Regions, account_of, usage_of}
use Rattle.lasso_parts.specs.Bucket.{Extent}
use Rattle.lasso_parts.specs.Doubled.{IsSound}
use Rattle.lasso_parts.specs.Placements.{IsPlacementFor, StoresTo}
use Rattle.lasso_parts.specs.declared.arena.Placement.TheVariants.{Exact}
use Rattle.lasso_parts.proofs.Regions.{filled}
use Rattle.lasso_parts.proofs.RegionOrder.{exact_sound, exact_account, usage_push}
use Rattle.lasso_parts.proofs.arena.Arena.store_in_exact.Goals as goal

pub invariant_of-self-2 : goal.invariant_of-self-2
invariant_of-self-2 g c =
    let i = c.self.inside in
    let t = c.args.text.now in
    let a : Regions = record { all = i.regions; current = i.current; kept = i.kept; doubling = i.doubling; limit = i.limit; most = i.most } in
    let placement = subst (λ (v : Regions). IsPlacementFor v (length t) Exact) (sym c.self.view_is) c.requires.placement in
    let added = c.in_ok-push_filled.ensures.added (refl {a = true}) in
    let sound = exact_sound a added.0 t c.self.invariant.1 placement.1 in (
      ap (λ (u : ℕ). u + length t) c.self.invariant.0 ∙ sym (usage_push a (filled added.0 t (length t))) ∙ ap usage_of (sym added.1),
      subst (λ (l : List Extent). IsSound (record a { all = l })) (sym added.1) sound,
    )

pub returns-clause-account : goal.returns-clause-account
returns-clause-account g c _ =
    let i = c.self.inside in
    let t = c.args.text.now in
    let a : Regions = record { all = i.regions; current = i.current; kept = i.kept; doubling = i.doubling; limit = i.limit; most = i.most } in
    let placement = subst (λ (v : Regions). IsPlacementFor v (length t) Exact) (sym c.self.view_is) c.requires.placement in
    let added = c.in_ok-push_filled.ensures.added (refl {a = true}) in
    let new : Regions = record a { all = c.push_filled.new.self } in
    let account = sym (exact_account a added.0 t c.self.invariant.1.order) ∙ ap (λ (l : List Extent). account_of (record a { all = l })) (sym added.1) in
    subst (λ (v : Regions). StoresTo v (length t) (account_of new)) c.self.view_is (subst (StoresTo a (length t)) account placement.3)
