-- Calls that intern a line with a pass: the code of its text, and why it was refused.
--
-- The key that a call returns is the text's key in the list that the pass has seen then, so its code is the
-- text's position there. That list only grows, so earlier codes stay. What explains a refused text in a
-- history also explains it in each history that begins with this one.
use Rattle.std.proofs.Common.{ℕ, Err, inl, inr, append_assoc, ◌≡◌, ◌-◌, List, [], ◌∷◌, ◌++◌, Some, Ok, sym, ap, ◌∙◌}
use Rattle.std.specs.Prelude.{Contains}
use mathlib.Core.List.{IsPrefix}
use Rattle.lasso_parts.specs.Texts.{Text, position_of, key_of}
use Rattle.lasso_parts.specs.declared.util.LassoErrorKind.{LassoErrorKind}
use Rattle.lasso_log.specs.History.{History, Totals, totals}
use Rattle.lasso_log.specs.Replies.{Copied, Intern, Interned}
use Rattle.lasso_log.specs.Calls.{IsCall}
use Rattle.lasso_log.specs.Notes.{NoteView, history}
use Rattle.lasso_log.proofs.Histories.{history_append}
use Rattle.lasso_shared.proofs.CallerLaws.{tells_keys}
use Rattle.lasso_single.proofs.Coded.{codes_past, map_some_push}
use Rattle.lasso_single.proofs.Encoded.{found_at}
use Rattle.lasso_single.specs.Codes.{AreCodes}
use Rattle.lasso_single.specs.Coding.{spur_at}
use Rattle.lasso_lines.specs.Shares.{IsRefusalIn}
use Rattle.lasso_lines.proofs.Listed.{call_grows}

-- a call that interns one more text
pub shared_push : (o : Totals) (before after : History) (pass : ℕ) (texts : List Text) (text : Text) (codes : List ℕ) (key : ℕ) → AreCodes (totals o before).texts texts codes → IsCall spur_at o before after pass (Intern Copied text) (Interned (Ok key)) → AreCodes (totals o after).texts (texts ++ text ∷ []) (codes ++ (key - 1) ∷ [])
shared_push o before after pass texts text codes key are call =
    let list = (totals o after).texts in
    let has : key_of spur_at list text ≡ Some key = (tells_keys spur_at o before after pass).interned Copied text key call in
    let kept = codes_past (totals o before).texts list texts codes (call_grows o before after pass (Intern Copied text) (Interned (Ok key)) call) are in
    map_some_push (position_of list) texts codes text (key - 1) kept (found_at (position_of list text) key has)

-- a call that is refused
pub shared_refused : (o : Totals) (before after : History) (pass : ℕ) (texts : List Text) (text : Text) (error : LassoErrorKind) → Contains texts text → IsCall {K = ℕ} spur_at o before after pass (Intern Copied text) (Interned (Err error)) → IsRefusalIn o after texts error
shared_refused o before after pass texts text error there call =
    let why = call.explained in
    inr (text, before ++ why.0, why.1, there, append_assoc before why.0 why.1 ∙ ap (λ past. before ++ past) why.2 ∙ call.begins, why.4)

-- what explains an error also explains it in each history that begins with this one
pub refused_later : (o : Totals) (known after : List NoteView) (texts : List Text) (error : LassoErrorKind) → IsPrefix known after → IsRefusalIn o (history known) texts error → IsRefusalIn o (history after) texts error
refused_later o known after texts error knows (inl e) = inl e
refused_later o known after texts error knows (inr why) =
    let whole : why.1 ++ (why.2 ++ history knows.0) ≡ history after =
    sym (append_assoc why.1 why.2 (history knows.0)) ∙ ap (λ past. past ++ history knows.0) why.4 ∙ sym (history_append known knows.0) ∙ ap history knows.1 in
    inr (why.0, why.1, why.2 ++ history knows.0, why.3, whole, why.5)
