-- A long text that an arena stored where it had room goes to the end of the list, as its entry does.
use Rattle.std.proofs.Common.{◌≡◌, ◌∙◌, List, [], ◌∷◌, ◌++◌, length, refl, sym, ap, subst}
use Rattle.lasso_parts.specs.Arena.{text_at}
use Rattle.lasso_parts.specs.Bucket.{Extent}
use Rattle.lasso_parts.specs.Entries.{EntryView, IsThere, IsLent, entry_text, lent_bytes}
use Rattle.lasso_single.specs.Interner.{InternerView}
use Rattle.lasso_single.proofs.PushedText.{kept_pushed, text_pushed}
use Rattle.lasso_single.proofs.text_list.TextList.push_long_in_room.Goals as goal

pub invariant_of-self-2 : goal.invariant_of-self-2
invariant_of-self-2 g c =
    let i = c.self.inside in
    let now : List Extent = c.store_in_room.new.self.all in
    let long = c.copied-long.result in
    let grown = c.push_reserved.ensures.items in
    let lent = subst (λ (rs : List Extent). IsLent rs long) c.regions.ensures c.copied-long.ensures.lent in
    let there = subst (IsThere now i.vast.items) (sym c.outside.ensures) lent in
    kept_pushed i.arena c.store_in_room.new.self i.vast.items i.entries.items c.push_reserved.new.self.items c.outside.result c.args.text.now i.is_cleared c.self.invariant c.in-Some.ensures.kept grown there c.in-Some.ensures.first (c.in-Some.ensures.copied refl) (c.in-Some.ensures.account refl)

pub returns-clause-texts : goal.returns-clause-texts
returns-clause-texts g c _ =
    let i = c.self.inside in
    let now : List Extent = c.store_in_room.new.self.all in
    let long = c.copied-long.result in
    let bytes = ap (λ (rs : List Extent). lent_bytes rs long) (sym c.regions.ensures) ∙ c.copied-long.ensures.bytes ∙ ap (λ (rs : List Extent). text_at rs c.in-Some.span) c.regions.ensures ∙ c.in-Some.ensures.stored.1 in
    let text = ap (entry_text now i.vast.items) c.outside.ensures ∙ bytes in
    text_pushed i.arena c.store_in_room.new.self i.vast.items i.entries.items c.push_reserved.new.self.items c.outside.result c.args.text.now i.is_cleared c.self.invariant c.in-Some.ensures.kept c.push_reserved.ensures.items text
    ∙ ap (λ (h : InternerView). h.texts ++ c.args.text.now ∷ []) c.self.view_is
