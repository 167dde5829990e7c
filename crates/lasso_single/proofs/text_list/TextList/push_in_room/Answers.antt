-- A short text that an arena stored where it had room goes to the end of the list, in its entry.
use Rattle.std.proofs.Common.{◌≡◌, ◌∙◌, List, [], ◌∷◌, ◌++◌, length, refl, sym, ap, subst}
use Rattle.lasso_parts.specs.Arena.{text_at}
use Rattle.lasso_parts.specs.Bucket.{Extent}
use Rattle.lasso_parts.specs.Entries.{EntryView, Inside, IsThere, IsLent, entry_text, lent_bytes}
use Rattle.lasso_single.specs.Interner.{InternerView}
use Rattle.lasso_single.proofs.PushedText.{kept_pushed, text_pushed}
use Rattle.lasso_single.proofs.text_list.TextList.push_in_room.Goals as goal

pub invariant_of-self-2 : goal.invariant_of-self-2
invariant_of-self-2 g c =
    let i = c.self.inside in
    kept_pushed i.arena c.store_in_room.new.self i.vast.items i.entries.items c.push_short.new.entries.items (Inside c.args.text.now) c.args.text.now i.is_cleared c.self.invariant c.in-Some.ensures.kept c.push_short.ensures tt c.in-Some.ensures.first (c.in-Some.ensures.copied refl) (c.in-Some.ensures.account refl)

pub returns-clause-texts : goal.returns-clause-texts
returns-clause-texts g c _ =
    let i = c.self.inside in
    text_pushed i.arena c.store_in_room.new.self i.vast.items i.entries.items c.push_short.new.entries.items (Inside c.args.text.now) c.args.text.now i.is_cleared c.self.invariant c.in-Some.ensures.kept c.push_short.ensures refl
    ∙ ap (λ (h : InternerView). h.texts ++ c.args.text.now ∷ []) c.self.view_is
