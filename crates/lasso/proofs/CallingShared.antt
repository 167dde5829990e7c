-- What callers of an interner that threads share cite of a call with a pass.
--
-- A key that a call returned is its text's key in what the pass has then seen, so it resolves to the text there. What a pass has seen
-- only grows, and its list grows with it. So each text keeps its position: in a later call, and in a pass that learned what this one has seen.
use Rattle.std.proofs.Common.{ℕ, ◌≡◌, ◌≤◌, ◌++◌, List, length, Option, Some, Result, Ok, Err, IfOk, refl, ap, sym, subst, ◌∙◌, arith}
use Rattle.std.specs.Prelude.{slice_get}
use Rattle.std.proofs.lemmas.List.{length-append}
use mathlib.Core.List.{IsPrefix}
use Rattle.lasso_parts.specs.Texts.{Text}
use Rattle.lasso_parts.specs.declared.util.LassoErrorKind.{LassoErrorKind}
use Rattle.lasso_log.specs.History.{History, Totals, totals}
use Rattle.lasso_log.specs.Replies.{Keeping, Question, Intern, Len, Reply, Interned, Number}
use Rattle.lasso_log.specs.Calls.{IsCall}
use Rattle.lasso_log.specs.Notes.{NoteView}
use Rattle.lasso_log.specs.Views.{InternerId, list_of}
use Rattle.lasso_log.proofs.Legal.{totals_append, list_grows}
use Rattle.lasso_log.proofs.Lengths.{texts_past}
use Rattle.lasso_shared.proofs.CallerLaws.{tells_keys, read_past}
use Rattle.lasso.proofs.Interned.{key_resolves}

list_past : (opening : Totals) (before past after : History) → before ++ past ≡ after → IsPrefix (totals opening before).texts (totals opening after).texts
list_past opening before past after is =
    subst (λ (s : Totals). IsPrefix (totals opening before).texts s.texts) (sym (totals_append opening before past) ∙ ap (totals opening) is) (list_grows (totals opening before) past)

-- what has been seen later has each text at the position at which it was seen before
pub seen_texts_stay : (of : InternerId) (before later : List NoteView) → IsPrefix before later → (n : ℕ) (text : Text) → slice_get (list_of of before) n ≡ Some text → slice_get (list_of of later) n ≡ Some text
seen_texts_stay of before later past n text at = read_past (list_of of before) (list_of of later) text n (texts_past of.opening before later past) at

module _ {K : Type 0} (key_at : ℕ → Option K) where
  -- a call leaves each text that the pass had seen at its position
  pub call_keeps_texts : (opening : Totals) (before after : History) (pass : ℕ) (question : Question) (reply : Reply K) → IsCall key_at opening before after pass question reply → (n : ℕ) (text : Text) → slice_get (totals opening before).texts n ≡ Some text → slice_get (totals opening after).texts n ≡ Some text
  call_keeps_texts opening before after pass question reply call n text at =
      read_past (totals opening before).texts (totals opening after).texts text n (list_past opening before call.past after call.begins) at

  -- a count of the texts reaches each text that the pass had seen before
  pub count_reaches : (opening : Totals) (before after : History) (pass count : ℕ) → IsCall key_at opening before after pass Len (Number count) → length (totals opening before).texts ≤ count
  count_reaches opening before after pass count call =
      let front = call.explained.0 in
      let more = list_past opening before front (before ++ front) refl in
      let sum = length-append (totals opening before).texts more.0 in
      let whole = ap length more.1 in
      let told = call.explained.4 in
      omega (arith, sum, whole, told)

  module _ (number : K → ℕ) (made : (n : ℕ) (k : K) → key_at n ≡ Some k → number k ≡ n) where
    -- the key that interning a text returned resolves to it in what the pass has then seen
    pub shared_answer_resolves : (opening : Totals) (before after : History) (pass : ℕ) (keeping : Keeping) (text : Text) (reply : Result K LassoErrorKind) → IsCall key_at opening before after pass (Intern keeping text) (Interned reply) → IfOk reply (λ k. slice_get (totals opening after).texts (number k) ≡ Some text)
    shared_answer_resolves opening before after pass keeping text (Ok k) call =
        key_resolves key_at number made (totals opening after).texts text k ((tells_keys key_at opening before after pass).interned keeping text k call)
    shared_answer_resolves opening before after pass keeping text (Err error) call = tt
