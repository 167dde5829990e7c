-- A short text goes to the end of the list: its bytes are stored, and its entry has them too. The regions keep the
-- texts that they had, so the entries before it stand for the same texts.
use Rattle.std.proofs.Common.{◌≡◌, ◌∙◌, List, [], ◌∷◌, ◌++◌, length, true, refl, sym, ap, subst}
use Rattle.lasso_parts.specs.Arena.{account_of, copied_of, first_of}
use Rattle.lasso_parts.specs.Bucket.{Extent}
use Rattle.lasso_parts.specs.Entries.{EntryView, IsThere, entry_text}
use Rattle.lasso_parts.proofs.EntryTexts.{there_pushed, texts_pushed, places_same}
use Rattle.lasso_parts.proofs.Wasted.{thrifty_store}
use Rattle.lasso_single.specs.Interner.{InternerView}
use Rattle.lasso_single.proofs.text_list.TextList.push_growing.Goals as goal

pub invariant_of-self-in-Some : goal.invariant_of-self-in-Some
invariant_of-self-in-Some g c =
    let now : List Extent = c.store_str.new.self.all in
    let i = c.self.inside in
    let grown = c.push_reserved.ensures.items ∙ ap (λ (xs : List EntryView). xs ++ c.inside.result ∷ []) c.in_ok-reserve.ensures.items in
    let new : IsThere now i.vast.items c.inside.result = subst (IsThere now i.vast.items) (sym c.inside.ensures) tt in
    let there = there_pushed i.arena.all now i.vast.items i.vast.items i.entries.items c.push_reserved.new.self.items c.inside.result c.self.invariant.0 c.in_ok-store_str.ensures.kept (places_same i.vast.items) grown new in
    let ok = refl {a = true} in
    (there, λ h. rw (c.store_str.ensures.first, c.in_ok-store_str.ensures.copied ok) (thrifty_store (first_of i.arena) (copied_of i.arena) (length c.args.text.now) (account_of i.arena) (account_of c.store_str.new.self) (c.self.invariant.1 h) (c.in_ok-store_str.ensures.account ok)))

pub returns-in-Some-clause-texts : goal.returns-in-Some-clause-texts
returns-in-Some-clause-texts g c =
    let now : List Extent = c.store_str.new.self.all in
    let i = c.self.inside in
    let grown = c.push_reserved.ensures.items ∙ ap (λ (xs : List EntryView). xs ++ c.inside.result ∷ []) c.in_ok-reserve.ensures.items in
    let text = ap (entry_text now i.vast.items) c.inside.ensures ∙ c.in-Some.ensures.short in
    texts_pushed i.arena.all now i.vast.items i.vast.items i.entries.items c.push_reserved.new.self.items c.inside.result c.self.invariant.0 c.in_ok-store_str.ensures.kept (places_same i.vast.items) grown c.args.text.now text
    ∙ ap (λ (h : InternerView). h.texts ++ c.args.text.now ∷ []) c.self.view_is
