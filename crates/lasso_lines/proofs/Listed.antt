-- The list that a pass has seen.
--
-- A walk over the texts gives the whole list at the end of its call, since no event of the call may come
-- after the reading of the list. What a pass has seen only grows, so each list that it saw is a beginning
-- of each later one. In the list of a legal history no text comes twice.
use Rattle.std.proofs.Common.{ℕ, ◌≡◌, List, ◌++◌, Ok, append-nil, sym, ap, subst, ◌∙◌}
use mathlib.Core.List.{IsPrefix}
use Rattle.lasso_parts.specs.Texts.{Text, IsDistinct}
use Rattle.lasso_log.specs.History.{History, Totals, totals, IsOpening, IsLegal}
use Rattle.lasso_log.specs.Calls.{IsCall}
use Rattle.lasso_log.specs.Replies.{Question, Reply, Strings, Listed}
use Rattle.lasso_log.proofs.Legal.{totals_append, list_grows, list_kept}
use Rattle.lasso_single.specs.Coding.{spur_at}

-- the list before a call is a beginning of the list after it
pub call_grows : (o : Totals) (before after : History) (pass : ℕ) (question : Question) (reply : Reply ℕ) → IsCall {K = ℕ} spur_at o before after pass question reply → IsPrefix (totals o before).texts (totals o after).texts
call_grows o before after pass question reply call =
    subst (λ (s : Totals). IsPrefix (totals o before).texts s.texts) (sym (totals_append o before call.past) ∙ ap (totals o) call.begins) (list_grows (totals o before) call.past)

-- a walk gives the whole list
pub walk_listed : (o : Totals) (before after : History) (pass : ℕ) (texts : List Text) → IsCall {K = ℕ} spur_at o before after pass Strings (Listed (Ok texts)) → texts ≡ (totals o after).texts
walk_listed o before after pass texts call =
    let why = call.explained in
    let whole : why.0 ≡ call.past = sym (append-nil why.0) ∙ ap (λ back. why.0 ++ back) (sym why.3) ∙ why.2 in
    let read : Ok texts ≡ Ok (totals o (before ++ why.0)).texts = why.4 in
    let there : texts ≡ (totals o (before ++ why.0)).texts = cc in
    there ∙ ap (λ h. (totals o h).texts) (ap (λ past. before ++ past) whole ∙ call.begins)

-- in the list of a legal history no text comes twice
pub legal_distinct : (o : Totals) (seen : History) → IsOpening spur_at o → IsLegal spur_at o seen → IsDistinct (totals o seen).texts
legal_distinct o seen opening legal = (list_kept spur_at o seen opening.distinct opening.fits legal).0
