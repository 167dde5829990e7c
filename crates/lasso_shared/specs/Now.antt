-- Calls that do not wait: what one that interns a copied text leaves if others are in the way.
use Rattle.std.specs.Prelude.{◌≡◌, ◌⊎◌, List, []}
use Rattle.lasso_parts.specs.Texts.{Text}
use Rattle.lasso_log.specs.Calls.{Stores}
use Rattle.lasso_log.specs.History.{Event}
use Rattle.lasso_log.specs.Notes.{Since}
use Rattle.lasso_log.specs.Replies.{Copied}
use Rattle.lasso_log.specs.Views.{PassView}

-- the pass put no text last: it made no event, or what stores the text's bytes
abbrev pub MayStore : Text → (before after : PassView) → Type 0
MayStore text before after = (own : List Event) × ((own ≡ []) ⊎ Stores Copied text own) × Since before.number before.notes after.notes own
