use Rattle.std.proofs.Common.{◌≡◌, ◌∙◌, ◌<◌, length, get_or, sym, ap, subst, refl, List, arith}
use Rattle.std.specs.Prelude.{max}
use Rattle.lasso_parts.specs.Account.{Account, clear}
use Rattle.lasso_parts.specs.Arena.{Regions, account_of, first_of, copied_of, most_of, usage_of}
use Rattle.lasso_parts.specs.Bucket.{Extent}
use Rattle.lasso_parts.specs.Doubled.{IsSound}
use Rattle.lasso_parts.proofs.RegionOrder.{cleared, cleared_account, cleared_copied, cleared_sound}
use Rattle.lasso_parts.proofs.Gathered.{read_is}
use Rattle.lasso_parts.proofs.arena.Arena.clear.Goals as goal

-- the arena that is left is the one that the definition of a clear leaves
left : (a b : Regions) → b.all ≡ (cleared a).all → b.current ≡ 0 → b.kept ≡ (cleared a).kept → b.doubling ≡ a.doubling → b.limit ≡ a.limit → b.most ≡ most_of a → cleared a ≡ b
left a b all current kept doubling limit most = λ i. record { all = sym all i; current = sym current i; kept = sym kept i; doubling = sym doubling i; limit = sym limit i; most = sym most i }

pub invariant_of-self : goal.invariant_of-self
invariant_of-self g c =
    let i = c.self.inside in
    let a : Regions = record { all = i.regions; current = i.current; kept = i.kept; doubling = i.doubling; limit = i.limit; most = i.most } in
    let b : Regions = record { all = c.clear-self-inside.new.self; current = 0; kept = c.clear-self-inside.result; doubling = i.doubling; limit = i.limit; most = c.max-self-inside.result } in
    let order = c.self.invariant.1.order in
    let same : cleared a ≡ b = left a b c.clear-self-inside.ensures.kept refl c.clear-self-inside.ensures.count refl refl (c.max-self-inside.ensures ∙ ap (max i.most) c.copied.ensures) in
    let some : 0 < length i.regions = omega (arith, order.kept.0, order.kept.1) in
    let read = subst (λ (l : List Extent). c.index-as_slice-0.result ≡ get_or l 0 c.index-as_slice-0.result) c.as_slice.ensures c.index-as_slice-0.is in
    let first = c.capacity-first.ensures ∙ ap (λ (r : Extent). r.capacity) (read_is i.regions 0 c.index-as_slice-0.result some read) in
    let usage = ap (λ (v : Regions). usage_of v.all) (sym same) ∙ ap (λ (x : Account). x.usage) (cleared_account a order) in
    let grown = c.self.invariant.1.thrift.grown in
    (omega (arith, first, usage, grown), subst IsSound same (cleared_sound a c.self.invariant.1))

pub returns-clause-account : goal.returns-clause-account
returns-clause-account g c =
    let i = c.self.inside in
    let a : Regions = record { all = i.regions; current = i.current; kept = i.kept; doubling = i.doubling; limit = i.limit; most = i.most } in
    let b : Regions = record { all = c.clear-self-inside.new.self; current = 0; kept = c.clear-self-inside.result; doubling = i.doubling; limit = i.limit; most = c.max-self-inside.result } in
    let order = c.self.invariant.1.order in
    let same : cleared a ≡ b = left a b c.clear-self-inside.ensures.kept refl c.clear-self-inside.ensures.count refl refl (c.max-self-inside.ensures ∙ ap (max i.most) c.copied.ensures) in
    subst (λ (v : Regions). account_of b ≡ clear (first_of v) (account_of v)) c.self.view_is (ap account_of (sym same) ∙ cleared_account a order)

pub returns-clause-copied : goal.returns-clause-copied
returns-clause-copied g c =
    let i = c.self.inside in
    let a : Regions = record { all = i.regions; current = i.current; kept = i.kept; doubling = i.doubling; limit = i.limit; most = i.most } in
    let b : Regions = record { all = c.clear-self-inside.new.self; current = 0; kept = c.clear-self-inside.result; doubling = i.doubling; limit = i.limit; most = c.max-self-inside.result } in
    let order = c.self.invariant.1.order in
    let same : cleared a ≡ b = left a b c.clear-self-inside.ensures.kept refl c.clear-self-inside.ensures.count refl refl (c.max-self-inside.ensures ∙ ap (max i.most) c.copied.ensures) in
    ap copied_of (sym same) ∙ cleared_copied a

pub returns-clause-most : goal.returns-clause-most
returns-clause-most g c =
    let i = c.self.inside in
    let a : Regions = record { all = i.regions; current = i.current; kept = i.kept; doubling = i.doubling; limit = i.limit; most = i.most } in
    let b : Regions = record { all = c.clear-self-inside.new.self; current = 0; kept = c.clear-self-inside.result; doubling = i.doubling; limit = i.limit; most = c.max-self-inside.result } in
    let order = c.self.invariant.1.order in
    let same : cleared a ≡ b = left a b c.clear-self-inside.ensures.kept refl c.clear-self-inside.ensures.count refl refl (c.max-self-inside.ensures ∙ ap (max i.most) c.copied.ensures) in
    let copied = cleared_copied a in
    let most : most_of (cleared a) ≡ most_of a = omega (arith, copied) in
    subst (λ (v : Regions). most_of b ≡ most_of v) c.self.view_is (ap most_of (sym same) ∙ most)
