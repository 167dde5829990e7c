-- What a call of a pass is, with codes for keys, and what it copies.
use Rattle.std.specs.Prelude.{◌≡◌, ℕ, List, [], Option, Some}
use Rattle.lasso_parts.specs.Texts.{Text}
use Rattle.lasso_log.specs.History.{IsLegal}
use Rattle.lasso_log.specs.Notes.{Since}
use Rattle.lasso_log.specs.Replies.{Question, Reply, Resolve, Resolved}
use Rattle.lasso_log.specs.Views.{IsSamePass, PassView, SnapshotView, list_of, seen}
use Rattle.lasso_shared.specs.Now.{MayStore}
use Rattle.lasso_shared.specs.PassCalls.{IsPassCall}
use Rattle.lasso_c.specs.Interning.{key_of_code}
use Rattle.lasso_c.specs.Layout.{CopiesFront}

-- the pass made one call, with this reply, and its history is legal
abbrev pub IsCallOf : (before after : PassView) → Question → Reply ℕ → Type 0
IsCallOf before after question reply =
    IsSamePass after before × IsPassCall key_of_code before.of before after question reply × IsLegal key_of_code after.of.opening (seen after)

-- the pass made no event
abbrev pub IsQuiet : (before after : PassView) → Type 0
IsQuiet before after = IsSamePass after before × Since before.number before.notes after.notes []

-- the pass put no text last: it made no event, or what stores this text's bytes
abbrev pub AppendsNone : Text → (before after : PassView) → Type 0
AppendsNone text before after = IsSamePass after before × MayStore text before after

-- the pass resolved the code, and its text was copied over the front of a buffer
abbrev pub CopiesCall : (before after : PassView) → (code : ℕ) → (whole : ℕ) → (room_before room_after : List ℕ) → Type 0
CopiesCall before after code whole room_before room_after =
    (text : Text) × IsCallOf before after (Resolve code) (Resolved (Some text)) × CopiesFront text whole room_before room_after

-- the texts of a list that was seen
abbrev pub texts_of : SnapshotView → List Text
texts_of known = list_of known.of known.notes
