-- The entries get the empty text at their end, and then the last one gets the text.
use Rattle.std.proofs.Common.{◌≡◌, ◌∙◌, ℕ, List, [], ◌∷◌, ◌++◌, length, ap}
use Rattle.std.specs.Prelude.{slice_set}
use Rattle.lasso_parts.specs.Entries.{EntryView, Inside}
use Rattle.lasso_parts.specs.Texts.{Text}
use Rattle.lasso_single.proofs.PushedText.{last_put}
use Rattle.lasso_single.proofs.text_list.push_short.Goals as goal

pub returns : goal.returns
returns g c =
    let entries : List EntryView = c.args.entries.now.items in
    let more : List EntryView = c.push_reserved.new.self.items in
    let empty : c.inside.result ≡ Inside [] = c.inside.ensures ∙ ap Inside c.empty.ensures in
    let grown : more ≡ entries ++ Inside [] ∷ [] = c.push_reserved.ensures.items ∙ ap (λ (e : EntryView). entries ++ e ∷ []) empty in
    let at : c.len-last.result ≡ length entries = c.len-last.ensures ∙ c.args.entries.now.ok.0 in
    ap (λ (k : ℕ). slice_set more k c.put.new.self) at ∙ ap (λ (e : EntryView). slice_set more (length entries) e) c.put.ensures ∙ last_put entries more (Inside []) (Inside c.args.text.now) grown
