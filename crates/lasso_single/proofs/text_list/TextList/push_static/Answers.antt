-- A text of the program that is too long for an entry goes to the end of the list of such texts, and its entry to the
-- end of the entries. The regions stay as they are.
use Rattle.std.proofs.Common.{◌∙◌, List, [], ◌∷◌, ◌++◌, length, sym, subst, ap}
use Rattle.lasso_parts.specs.Entries.{EntryView, LentText, IsThere, entry_text}
use Rattle.lasso_parts.proofs.Regions.{kept_same}
use Rattle.lasso_parts.proofs.EntryTexts.{there_pushed, texts_pushed, places_same, places_push, listed_there, listed_text}
use Rattle.lasso_single.specs.Interner.{InternerView}
use Rattle.lasso_single.proofs.text_list.TextList.push_static.Goals as goal

pub returns-then-is_vast-clause-texts : goal.returns-then-is_vast-clause-texts
returns-then-is_vast-clause-texts g c =
    let i = c.self.inside in
    let regions = i.arena.all in
    let long = c.from_static-long.result in
    let vast = c.push_reserved-then-is_vast.new.self.items in
    let more = c.push_reserved-then-is_vast.ensures.items ∙ ap (λ (ts : List LentText). ts ++ long ∷ []) c.in_ok-reserve-2.ensures.items in
    let grown = c.push_reserved-then-is_vast-2.ensures.items ∙ ap (λ (xs : List EntryView). xs ++ c.listed.result ∷ []) c.in_ok-reserve.ensures.items in
    let last = c.len-index.ensures ∙ c.reserve-then-is_vast.new.self.ok.0 ∙ ap length c.in_ok-reserve-2.ensures.items in
    let text = listed_text i.vast.items vast long c.listed.result c.len-index.result more last c.listed.ensures regions ∙ c.from_static-long.ensures.bytes regions in
    texts_pushed regions regions i.vast.items vast i.entries.items c.push_reserved-then-is_vast-2.new.self.items c.listed.result c.self.invariant.0 (kept_same regions) (places_push i.vast.items vast long more) grown c.args.text.now text
    ∙ ap (λ (h : InternerView). h.texts ++ c.args.text.now ∷ []) c.self.view_is

pub invariant_of-self-then-is_vast : goal.invariant_of-self-then-is_vast
invariant_of-self-then-is_vast g c =
    let i = c.self.inside in
    let regions = i.arena.all in
    let long = c.from_static-long.result in
    let vast = c.push_reserved-then-is_vast.new.self.items in
    let more = c.push_reserved-then-is_vast.ensures.items ∙ ap (λ (ts : List LentText). ts ++ long ∷ []) c.in_ok-reserve-2.ensures.items in
    let grown = c.push_reserved-then-is_vast-2.ensures.items ∙ ap (λ (xs : List EntryView). xs ++ c.listed.result ∷ []) c.in_ok-reserve.ensures.items in
    let last = c.len-index.ensures ∙ c.reserve-then-is_vast.new.self.ok.0 ∙ ap length c.in_ok-reserve-2.ensures.items in
    let new = listed_there i.vast.items vast long c.listed.result c.len-index.result more last c.listed.ensures regions (c.from_static-long.ensures.lent regions) in
    (there_pushed regions regions i.vast.items vast i.entries.items c.push_reserved-then-is_vast-2.new.self.items c.listed.result c.self.invariant.0 (kept_same regions) (places_push i.vast.items vast long more) grown new, c.self.invariant.1)

pub invariant_of-self-in-Some : goal.invariant_of-self-in-Some
invariant_of-self-in-Some g c =
    let i = c.self.inside in
    let regions = i.arena.all in
    let grown = c.push_reserved.ensures.items ∙ ap (λ (xs : List EntryView). xs ++ c.inside.result ∷ []) c.in_ok-reserve.ensures.items in
    let new = subst (IsThere regions i.vast.items) (sym c.inside.ensures) tt in
    (there_pushed regions regions i.vast.items i.vast.items i.entries.items c.push_reserved.new.self.items c.inside.result c.self.invariant.0 (kept_same regions) (places_same i.vast.items) grown new, c.self.invariant.1)

pub returns-in-Some-clause-texts : goal.returns-in-Some-clause-texts
returns-in-Some-clause-texts g c =
    let i = c.self.inside in
    let regions = i.arena.all in
    let grown = c.push_reserved.ensures.items ∙ ap (λ (xs : List EntryView). xs ++ c.inside.result ∷ []) c.in_ok-reserve.ensures.items in
    let text = ap (entry_text regions i.vast.items) c.inside.ensures ∙ c.in-Some.ensures.short in
    texts_pushed regions regions i.vast.items i.vast.items i.entries.items c.push_reserved.new.self.items c.inside.result c.self.invariant.0 (kept_same regions) (places_same i.vast.items) grown c.args.text.now text
    ∙ ap (λ (h : InternerView). h.texts ++ c.args.text.now ∷ []) c.self.view_is

pub invariant_of-self-2 : goal.invariant_of-self-2
invariant_of-self-2 g c =
    let i = c.self.inside in
    let regions = i.arena.all in
    let grown = c.push_reserved-2.ensures.items ∙ ap (λ (xs : List EntryView). xs ++ c.outside.result ∷ []) c.in_ok-reserve.ensures.items in
    let new = subst (IsThere regions i.vast.items) (sym c.outside.ensures) (c.from_static-long.ensures.lent regions) in
    (there_pushed regions regions i.vast.items i.vast.items i.entries.items c.push_reserved-2.new.self.items c.outside.result c.self.invariant.0 (kept_same regions) (places_same i.vast.items) grown new, c.self.invariant.1)

pub returns-clause-texts : goal.returns-clause-texts
returns-clause-texts g c =
    let i = c.self.inside in
    let regions = i.arena.all in
    let grown = c.push_reserved-2.ensures.items ∙ ap (λ (xs : List EntryView). xs ++ c.outside.result ∷ []) c.in_ok-reserve.ensures.items in
    let text = ap (entry_text regions i.vast.items) c.outside.ensures ∙ c.from_static-long.ensures.bytes regions in
    texts_pushed regions regions i.vast.items i.vast.items i.entries.items c.push_reserved-2.new.self.items c.outside.result c.self.invariant.0 (kept_same regions) (places_same i.vast.items) grown c.args.text.now text
    ∙ ap (λ (h : InternerView). h.texts ++ c.args.text.now ∷ []) c.self.view_is

pub invariant_of-self : goal.invariant_of-self
invariant_of-self g c = rw c.in_err-reserve.ensures.items c.self.invariant

pub invariant_of-self-in_err-reserve-2 : goal.invariant_of-self-in_err-reserve-2
invariant_of-self-in_err-reserve-2 g c = rw (c.in_err-reserve-2.ensures.items, c.in_ok-reserve.ensures.items) c.self.invariant
