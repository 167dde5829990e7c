-- A text that is not short goes to the end of the list. The regions keep the texts that they had, and the list of the
-- longest ones is the same or has one more; so the entries stand for the same texts as before, and the new one for
-- the text that was stored.
use Rattle.std.proofs.Common.{◌≡◌, ◌∙◌, ◌+◌, List, [], ◌∷◌, ◌++◌, length, Some, Result, Ok, Err, OnErr, true, refl, sym, ap, subst}
use Rattle.lasso_parts.specs.Arena.{account_of, copied_of, first_of, text_at}
use Rattle.lasso_parts.specs.Bucket.{Extent}
use Rattle.lasso_parts.specs.Entries.{EntryView, LentText, IsThere, IsLent, entry_text, lent_bytes}
use Rattle.lasso_parts.proofs.EntryTexts.{there_pushed, texts_pushed, places_same, places_push, listed_there, listed_text}
use Rattle.lasso_parts.proofs.Wasted.{thrifty_store}
use Rattle.lasso_parts.specs.Account.{store}
use Rattle.lasso_single.specs.Interner.{InternerView}
use Rattle.lasso_single.proofs.PushedText.{shown, shown_same, origin_same}
use Rattle.lasso_single.proofs.text_list.TextList.push_long.Goals as goal

-- what holds whatever the result is
whatever : {T E P : Type 0} (result : Result T E) → P → OnErr result P
whatever (Ok value) holds = tt
whatever (Err error) holds = holds

pub invariant_of-self-then-is_vast : goal.invariant_of-self-then-is_vast
invariant_of-self-then-is_vast g c =
    let now : List Extent = c.store_str.new.self.all in
    let i = c.self.inside in
    let long = c.copied-long.result in
    let more = c.push_reserved.ensures.items ∙ ap (λ (ts : List LentText). ts ++ long ∷ []) c.in_ok-reserve-2.ensures.items in
    let grown = c.push_reserved-then-is_vast.ensures.items ∙ ap (λ (xs : List EntryView). xs ++ c.listed.result ∷ []) c.in_ok-reserve.ensures.items in
    let last = c.len-index.ensures ∙ c.reserve-then-is_vast.new.self.ok.0 ∙ ap length c.in_ok-reserve-2.ensures.items in
    let new = listed_there i.vast.items c.push_reserved.new.self.items long c.listed.result c.len-index.result more last c.listed.ensures now (subst (λ (rs : List Extent). IsLent rs long) c.regions.ensures c.copied-long.ensures.lent) in
    let there = there_pushed i.arena.all now i.vast.items c.push_reserved.new.self.items i.entries.items c.push_reserved-then-is_vast.new.self.items c.listed.result c.self.invariant.0 c.in_ok-span.ensures.kept (places_push i.vast.items c.push_reserved.new.self.items long more) grown new in
    let ok = refl {a = true} in
    (there, λ h. rw (c.store_str.ensures.first, c.in_ok-span.ensures.copied ok) (thrifty_store (first_of i.arena) (copied_of i.arena) (length c.args.text.now) (account_of i.arena) (account_of c.store_str.new.self) (c.self.invariant.1 h) (c.in_ok-span.ensures.account ok)))

pub returns-then-is_vast-clause-texts : goal.returns-then-is_vast-clause-texts
returns-then-is_vast-clause-texts g c =
    let now : List Extent = c.store_str.new.self.all in
    let i = c.self.inside in
    let long = c.copied-long.result in
    let more = c.push_reserved.ensures.items ∙ ap (λ (ts : List LentText). ts ++ long ∷ []) c.in_ok-reserve-2.ensures.items in
    let grown = c.push_reserved-then-is_vast.ensures.items ∙ ap (λ (xs : List EntryView). xs ++ c.listed.result ∷ []) c.in_ok-reserve.ensures.items in
    let last = c.len-index.ensures ∙ c.reserve-then-is_vast.new.self.ok.0 ∙ ap length c.in_ok-reserve-2.ensures.items in
    let bytes = ap (λ (rs : List Extent). lent_bytes rs long) (sym c.regions.ensures) ∙ c.copied-long.ensures.bytes ∙ ap (λ (rs : List Extent). text_at rs c.in_ok-span.span) c.regions.ensures ∙ c.in_ok-span.ensures.stored.1 in
    let text = listed_text i.vast.items c.push_reserved.new.self.items long c.listed.result c.len-index.result more last c.listed.ensures now ∙ bytes in
    texts_pushed i.arena.all now i.vast.items c.push_reserved.new.self.items i.entries.items c.push_reserved-then-is_vast.new.self.items c.listed.result c.self.invariant.0 c.in_ok-span.ensures.kept (places_push i.vast.items c.push_reserved.new.self.items long more) grown c.args.text.now text
    ∙ ap (λ (h : InternerView). h.texts ++ c.args.text.now ∷ []) c.self.view_is

pub invariant_of-self-2 : goal.invariant_of-self-2
invariant_of-self-2 g c =
    let now : List Extent = c.store_str-2.new.self.all in
    let i = c.self.inside in
    let long = c.copied-long-2.result in
    let grown = c.push_reserved-2.ensures.items ∙ ap (λ (xs : List EntryView). xs ++ c.outside.result ∷ []) c.in_ok-reserve.ensures.items in
    let lent = subst (λ (rs : List Extent). IsLent rs long) c.regions-2.ensures c.copied-long-2.ensures.lent in
    let new = subst (IsThere now i.vast.items) (sym c.outside.ensures) lent in
    let there = there_pushed i.arena.all now i.vast.items i.vast.items i.entries.items c.push_reserved-2.new.self.items c.outside.result c.self.invariant.0 c.in_ok-span-2.ensures.kept (places_same i.vast.items) grown new in
    let ok = refl {a = true} in
    (there, λ h. rw (c.store_str-2.ensures.first, c.in_ok-span-2.ensures.copied ok) (thrifty_store (first_of i.arena) (copied_of i.arena) (length c.args.text.now) (account_of i.arena) (account_of c.store_str-2.new.self) (c.self.invariant.1 h) (c.in_ok-span-2.ensures.account ok)))

pub returns-clause-texts : goal.returns-clause-texts
returns-clause-texts g c =
    let now : List Extent = c.store_str-2.new.self.all in
    let i = c.self.inside in
    let long = c.copied-long-2.result in
    let grown = c.push_reserved-2.ensures.items ∙ ap (λ (xs : List EntryView). xs ++ c.outside.result ∷ []) c.in_ok-reserve.ensures.items in
    let bytes = ap (λ (rs : List Extent). lent_bytes rs long) (sym c.regions-2.ensures) ∙ c.copied-long-2.ensures.bytes ∙ ap (λ (rs : List Extent). text_at rs c.in_ok-span-2.span) c.regions-2.ensures ∙ c.in_ok-span-2.ensures.stored.1 in
    let text = ap (entry_text now i.vast.items) c.outside.ensures ∙ bytes in
    texts_pushed i.arena.all now i.vast.items i.vast.items i.entries.items c.push_reserved-2.new.self.items c.outside.result c.self.invariant.0 c.in_ok-span-2.ensures.kept (places_same i.vast.items) grown c.args.text.now text
    ∙ ap (λ (h : InternerView). h.texts ++ c.args.text.now ∷ []) c.self.view_is

pub returns-in_err-reserve-clause-origin : goal.returns-in_err-reserve-clause-origin
returns-in_err-reserve-clause-origin g c = let i = c.self.inside in origin_same c.args.self.now (shown i.arena i.vast.items c.reserve.new.self.items i.is_cleared) (shown_same i.arena i.arena i.vast.items i.vast.items i.entries.items c.reserve.new.self.items i.is_cleared c.args.self.now refl refl c.in_err-reserve.ensures.items c.self.view_is)

pub returns-in_err-reserve-clause-same_texts : goal.returns-in_err-reserve-clause-same_texts
returns-in_err-reserve-clause-same_texts g c = let i = c.self.inside in whatever c.from_residual.result (ap (λ (v : InternerView). v.texts) (shown_same i.arena i.arena i.vast.items i.vast.items i.entries.items c.reserve.new.self.items i.is_cleared c.args.self.now refl refl c.in_err-reserve.ensures.items c.self.view_is))

pub returns-in_err-reserve-clause-same_account : goal.returns-in_err-reserve-clause-same_account
returns-in_err-reserve-clause-same_account g c = let i = c.self.inside in whatever c.from_residual.result (ap (λ (v : InternerView). v.account) (shown_same i.arena i.arena i.vast.items i.vast.items i.entries.items c.reserve.new.self.items i.is_cleared c.args.self.now refl refl c.in_err-reserve.ensures.items c.self.view_is))

pub returns-in_err-reserve-clause-same_copied : goal.returns-in_err-reserve-clause-same_copied
returns-in_err-reserve-clause-same_copied g c = let i = c.self.inside in whatever c.from_residual.result (ap (λ (v : InternerView). v.copied) (shown_same i.arena i.arena i.vast.items i.vast.items i.entries.items c.reserve.new.self.items i.is_cleared c.args.self.now refl refl c.in_err-reserve.ensures.items c.self.view_is))

pub returns-in_err-reserve-2-clause-origin : goal.returns-in_err-reserve-2-clause-origin
returns-in_err-reserve-2-clause-origin g c = let i = c.self.inside in origin_same c.args.self.now (shown i.arena c.reserve-then-is_vast.new.self.items c.reserve.new.self.items i.is_cleared) (shown_same i.arena i.arena i.vast.items c.reserve-then-is_vast.new.self.items i.entries.items c.reserve.new.self.items i.is_cleared c.args.self.now refl c.in_err-reserve-2.ensures.items c.in_ok-reserve.ensures.items c.self.view_is)

pub returns-in_err-reserve-2-clause-same_texts : goal.returns-in_err-reserve-2-clause-same_texts
returns-in_err-reserve-2-clause-same_texts g c = let i = c.self.inside in whatever c.from_residual-in_err-reserve-2.result (ap (λ (v : InternerView). v.texts) (shown_same i.arena i.arena i.vast.items c.reserve-then-is_vast.new.self.items i.entries.items c.reserve.new.self.items i.is_cleared c.args.self.now refl c.in_err-reserve-2.ensures.items c.in_ok-reserve.ensures.items c.self.view_is))

pub returns-in_err-reserve-2-clause-same_account : goal.returns-in_err-reserve-2-clause-same_account
returns-in_err-reserve-2-clause-same_account g c = let i = c.self.inside in whatever c.from_residual-in_err-reserve-2.result (ap (λ (v : InternerView). v.account) (shown_same i.arena i.arena i.vast.items c.reserve-then-is_vast.new.self.items i.entries.items c.reserve.new.self.items i.is_cleared c.args.self.now refl c.in_err-reserve-2.ensures.items c.in_ok-reserve.ensures.items c.self.view_is))

pub returns-in_err-reserve-2-clause-same_copied : goal.returns-in_err-reserve-2-clause-same_copied
returns-in_err-reserve-2-clause-same_copied g c = let i = c.self.inside in whatever c.from_residual-in_err-reserve-2.result (ap (λ (v : InternerView). v.copied) (shown_same i.arena i.arena i.vast.items c.reserve-then-is_vast.new.self.items i.entries.items c.reserve.new.self.items i.is_cleared c.args.self.now refl c.in_err-reserve-2.ensures.items c.in_ok-reserve.ensures.items c.self.view_is))

pub returns-in_err-span-clause-origin : goal.returns-in_err-span-clause-origin
returns-in_err-span-clause-origin g c = let i = c.self.inside in origin_same c.args.self.now (shown c.store_str.new.self c.reserve-then-is_vast.new.self.items c.reserve.new.self.items i.is_cleared) (shown_same i.arena c.store_str.new.self i.vast.items c.reserve-then-is_vast.new.self.items i.entries.items c.reserve.new.self.items i.is_cleared c.args.self.now c.in_err-span.ensures.err c.in_ok-reserve-2.ensures.items c.in_ok-reserve.ensures.items c.self.view_is)

pub returns-in_err-span-clause-same_texts : goal.returns-in_err-span-clause-same_texts
returns-in_err-span-clause-same_texts g c = let i = c.self.inside in whatever c.from_residual-in_err-span.result (ap (λ (v : InternerView). v.texts) (shown_same i.arena c.store_str.new.self i.vast.items c.reserve-then-is_vast.new.self.items i.entries.items c.reserve.new.self.items i.is_cleared c.args.self.now c.in_err-span.ensures.err c.in_ok-reserve-2.ensures.items c.in_ok-reserve.ensures.items c.self.view_is))

pub returns-in_err-span-clause-same_account : goal.returns-in_err-span-clause-same_account
returns-in_err-span-clause-same_account g c = let i = c.self.inside in whatever c.from_residual-in_err-span.result (ap (λ (v : InternerView). v.account) (shown_same i.arena c.store_str.new.self i.vast.items c.reserve-then-is_vast.new.self.items i.entries.items c.reserve.new.self.items i.is_cleared c.args.self.now c.in_err-span.ensures.err c.in_ok-reserve-2.ensures.items c.in_ok-reserve.ensures.items c.self.view_is))

pub returns-in_err-span-clause-same_copied : goal.returns-in_err-span-clause-same_copied
returns-in_err-span-clause-same_copied g c = let i = c.self.inside in whatever c.from_residual-in_err-span.result (ap (λ (v : InternerView). v.copied) (shown_same i.arena c.store_str.new.self i.vast.items c.reserve-then-is_vast.new.self.items i.entries.items c.reserve.new.self.items i.is_cleared c.args.self.now c.in_err-span.ensures.err c.in_ok-reserve-2.ensures.items c.in_ok-reserve.ensures.items c.self.view_is))

pub returns-in_err-span-2-clause-origin : goal.returns-in_err-span-2-clause-origin
returns-in_err-span-2-clause-origin g c = let i = c.self.inside in origin_same c.args.self.now (shown c.store_str-2.new.self i.vast.items c.reserve.new.self.items i.is_cleared) (shown_same i.arena c.store_str-2.new.self i.vast.items i.vast.items i.entries.items c.reserve.new.self.items i.is_cleared c.args.self.now c.in_err-span-2.ensures.err refl c.in_ok-reserve.ensures.items c.self.view_is)

pub returns-in_err-span-2-clause-same_texts : goal.returns-in_err-span-2-clause-same_texts
returns-in_err-span-2-clause-same_texts g c = let i = c.self.inside in whatever c.from_residual-in_err-span-2.result (ap (λ (v : InternerView). v.texts) (shown_same i.arena c.store_str-2.new.self i.vast.items i.vast.items i.entries.items c.reserve.new.self.items i.is_cleared c.args.self.now c.in_err-span-2.ensures.err refl c.in_ok-reserve.ensures.items c.self.view_is))

pub returns-in_err-span-2-clause-same_account : goal.returns-in_err-span-2-clause-same_account
returns-in_err-span-2-clause-same_account g c = let i = c.self.inside in whatever c.from_residual-in_err-span-2.result (ap (λ (v : InternerView). v.account) (shown_same i.arena c.store_str-2.new.self i.vast.items i.vast.items i.entries.items c.reserve.new.self.items i.is_cleared c.args.self.now c.in_err-span-2.ensures.err refl c.in_ok-reserve.ensures.items c.self.view_is))

pub returns-in_err-span-2-clause-same_copied : goal.returns-in_err-span-2-clause-same_copied
returns-in_err-span-2-clause-same_copied g c = let i = c.self.inside in whatever c.from_residual-in_err-span-2.result (ap (λ (v : InternerView). v.copied) (shown_same i.arena c.store_str-2.new.self i.vast.items i.vast.items i.entries.items c.reserve.new.self.items i.is_cleared c.args.self.now c.in_err-span-2.ensures.err refl c.in_ok-reserve.ensures.items c.self.view_is))

pub returns-then-is_vast-clause-account : goal.returns-then-is_vast-clause-account
returns-then-is_vast-clause-account g c = subst (λ (v : InternerView). store v.first v.account (length c.args.text.now) ≡ Some (account_of c.store_str.new.self)) c.self.view_is (c.in_ok-span.ensures.account refl)

pub returns-then-is_vast-clause-copied : goal.returns-then-is_vast-clause-copied
returns-then-is_vast-clause-copied g c = c.in_ok-span.ensures.copied refl ∙ ap (λ (v : InternerView). v.copied + length c.args.text.now) c.self.view_is

pub returns-then-is_vast-clause-origin : goal.returns-then-is_vast-clause-origin
returns-then-is_vast-clause-origin g c =
    let same = origin_same c.args.self.now (shown c.self.inside.arena c.self.inside.vast.items c.self.inside.entries.items c.self.inside.is_cleared) c.self.view_is in
    (c.store_str.ensures.first ∙ same.0, same.1, c.store_str.ensures.most ∙ same.2)

pub returns-clause-account : goal.returns-clause-account
returns-clause-account g c = subst (λ (v : InternerView). store v.first v.account (length c.args.text.now) ≡ Some (account_of c.store_str-2.new.self)) c.self.view_is (c.in_ok-span-2.ensures.account refl)

pub returns-clause-copied : goal.returns-clause-copied
returns-clause-copied g c = c.in_ok-span-2.ensures.copied refl ∙ ap (λ (v : InternerView). v.copied + length c.args.text.now) c.self.view_is

pub returns-clause-origin : goal.returns-clause-origin
returns-clause-origin g c =
    let same = origin_same c.args.self.now (shown c.self.inside.arena c.self.inside.vast.items c.self.inside.entries.items c.self.inside.is_cleared) c.self.view_is in
    (c.store_str-2.ensures.first ∙ same.0, same.1, c.store_str-2.ensures.most ∙ same.2)
