-- A text to intern, and how it is kept.
use Rattle.std.specs.Prelude.{◌≢◌, List, [], length}
use Rattle.lasso_parts.specs.Texts.{Text}
use Rattle.lasso_parts.specs.declared.util.LassoErrorKind.{LassoErrorKind}
use Rattle.lasso_log.specs.Calls.{Stores}
use Rattle.lasso_log.specs.Charges.{IsRefusal}
use Rattle.lasso_log.specs.History.{Event}
use Rattle.lasso_log.specs.Notes.{NoteView, Since}
use Rattle.lasso_log.specs.Replies.{Keeping, Question, Intern}
use Rattle.lasso_log.specs.Views.{InternerId, PassView}
use Rattle.lasso_shared.specs.declared.shards.new_text.NewText.{NewText}
use Rattle.lasso_shared.specs.declared.shards.new_text.NewText.TheVariants.{Static, Copied}

-- how the text is kept
abbrev pub keeping_of : NewText → Keeping
keeping_of (Static text) = Keeping.Static
keeping_of (Copied text) = Keeping.Copied

-- the text
abbrev pub text_of : NewText → Text
text_of (Static text) = text.now
text_of (Copied text) = text.now

-- the question that interns the text
abbrev pub intern_of : NewText → Question
intern_of text = Intern (keeping_of text) (text_of text)

-- the events of the pass from `before` to `after` are those that store the text's bytes
abbrev pub StoresText : NewText → (before after : PassView) → Type 0
StoresText text before after = (own : List Event) × Stores (keeping_of text) (text_of text) own × Since before.number before.notes after.notes own

-- the ground of an error of what stores a copied text: it has bytes, and they are refused as `IsRefusal` says
abbrev pub IsUnstored : InternerId → (list before after : List NoteView) → Text → LassoErrorKind → Type 0
IsUnstored of list before after text error = (text ≢ []) × IsRefusal of list before after (length text) error
