-- The list that a new pass has read, as the reply of a plain call.
use Rattle.std.proofs.Common.{◌≡◌, ℕ, List, [], Option, Ok, refl, ap, ◌∙◌, subst}
use Rattle.lasso_parts.specs.Texts.{Text}
use Rattle.lasso_log.specs.Calls.{IsPlainCall}
use Rattle.lasso_log.specs.History.{IsLegal}
use Rattle.lasso_log.specs.Notes.{Since}
use Rattle.lasso_log.specs.Replies.{Strings, Listed}
use Rattle.lasso_log.specs.Views.{InternerId, PassView, IsSamePass, list_of, seen}
use Rattle.lasso_shared.proofs.Called.{explained_last, plain}

pub listed : {K : Type 0} (key_at : ℕ → Option K) (of : InternerId) (before after : PassView) (texts : List Text) → before.of ≡ of → before.notes ≡ [] → IsSamePass after before → Since before.number before.notes after.notes [] → texts ≡ list_of after.of after.notes → IsLegal key_at after.of.opening (seen after) → IsPlainCall key_at of.opening Strings (Listed (Ok texts))
listed key_at of before after texts mine none same since is legal =
    let its_own : after.of ≡ of = same.1 ∙ mine in
    let list : texts ≡ list_of of after.notes = is ∙ ap (λ (i : InternerId). list_of i after.notes) its_own in
    let lawful : IsLegal key_at of.opening (seen after) = subst (λ (i : InternerId). IsLegal key_at i.opening (seen after)) its_own legal in
    let call = explained_last key_at of.opening before.number before.notes after.notes [] Strings (Listed (Ok texts)) since refl (ap (λ (ts : List Text). Ok ts) list) refl in
    plain key_at of.opening before.number before.notes after.notes Strings (Listed (Ok texts)) none call lawful
