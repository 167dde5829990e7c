-- Calls of a pass, from what it had seen and has seen: a reply that is explained at the end of it.
use Rattle.std.proofs.Common.{◌≡◌, ◌≤◌, ◌+◌, ◌==◌, suc, if◌then◌else◌, false, arith, ℕ, List, [], ◌∷◌, ◌++◌, length, slice_get, Option, Result, Ok, Err, inl, inr, refl, ap, sym, ◌∙◌, subst, append_assoc, append-nil}
use Rattle.std.proofs.lemmas.Bool.Decides.{nat_tests}
use Rattle.std.specs.Prelude.{Bool, nat_eq, nat_lt, is_some}
use Rattle.lasso_parts.specs.Texts.{Text, Fits, position_of, key_of}
use Rattle.lasso_parts.specs.declared.util.LassoErrorKind.TheVariants.{FailedAllocation}
use Rattle.lasso_parts.proofs.TextLemmas.{key_of_present}
use Rattle.lasso_log.specs.History.{Event, Limit, History, Totals, totals, IsLegal, IsOpening}
use Rattle.lasso_log.specs.Replies.{Question, Get, Contains, ContainsKey, Resolve, Len, IsEmpty, Usage, MaxUsage, SetLimit, Serialize, Listed, Reply, Found, Flag, Resolved, Number, Done, MayReply}
use Rattle.lasso_log.specs.Calls.{events_of, Makes, MayComeAfter, IsCall, IsPlainCall}
use Rattle.lasso_log.specs.Notes.{NoteView, history, state, Since}
use Rattle.lasso_shared.specs.Json.{written_of}
use Rattle.lasso_log.proofs.Histories.{history_append, events_append}
use Rattle.lasso_log.proofs.Legal.{legal_parts, list_kept}

module _ {K : Type 0} (key_at : ℕ → Option K) (o : Totals) (p : ℕ) where
  -- the reply is that of the list at the end
  pub explained_last : (before after : List NoteView) (own : List Event) (q : Question) (r : Reply K) → Since p before after own → MayComeAfter q [] → MayReply key_at (state o after) q r → Makes q r own → IsCall key_at o (history before) (history after) p q r
  explained_last before after own q r s last reply makes =
      let whole : history before ++ history s.rest ≡ history after = sym (history_append before s.rest) ∙ ap history s.begins in record {
        past = history s.rest;
        begins = whole;
        explained = (history s.rest, [], append-nil (history s.rest), last, subst (λ (h : History). MayReply key_at (totals o h) q r) (sym whole) reply);
        makes = subst (Makes q r) (sym s.events) makes;
      }

  -- what the pass saw before the call, without an event of its own, may be counted to the call
  pub called_later : (before mid : List NoteView) (after : History) (q : Question) (r : Reply K) → Since p before mid [] → IsCall key_at o (history mid) after p q r → IsCall key_at o (history before) after p q r
  called_later before mid after q r s c =
      let whole : history before ++ history s.rest ≡ history mid = sym (history_append before s.rest) ∙ ap history s.begins in
      let x = c.explained in record {
        past = history s.rest ++ c.past;
        begins = sym (append_assoc (history before) (history s.rest) c.past) ∙ (ap (λ (h : History). h ++ c.past) whole ∙ c.begins);
        explained = (
          history s.rest ++ x.0,
          x.1,
          append_assoc (history s.rest) x.0 x.1 ∙ ap (λ (h : History). history s.rest ++ h) x.2,
          x.3,
          subst (λ (h : History). MayReply key_at (totals o h) q r) (sym (sym (append_assoc (history before) (history s.rest) x.0) ∙ ap (λ (h : History). h ++ x.0) whole)) x.4,
        );
        makes = subst (Makes q r) (sym (events_append p (history s.rest) c.past ∙ ap (λ (es : List Event). es ++ events_of p c.past) s.events)) c.makes;
      }

  pub resolved : (before after : List NoteView) (n : ℕ) (r : Option Text) → Since p before after [] → r ≡ slice_get (state o after).texts n → IsCall key_at o (history before) (history after) p (Resolve n) (Resolved r)
  resolved before after n r s is = explained_last before after [] (Resolve n) (Resolved r) s tt is refl

  -- the key of a text that was looked up, or none
  pub got : (before after : List NoteView) (t : Text) (r : Option K) → Since p before after [] → r ≡ key_of key_at (state o after).texts t → IsCall key_at o (history before) (history after) p (Get t) (Found r)
  got before after t r s is = explained_last before after [] (Get t) (Found r) s tt is refl

  -- whether a key has a text
  pub key_tested : (before after : List NoteView) (n : ℕ) (r : Bool) → Since p before after [] → r ≡ nat_lt n (length (state o after).texts) → IsCall key_at o (history before) (history after) p (ContainsKey n) (Flag r)
  key_tested before after n r s is = explained_last before after [] (ContainsKey n) (Flag r) s tt is refl

  pub measured : (before after : List NoteView) (r : ℕ) → Since p before after [] → r ≡ length (state o after).texts → IsCall key_at o (history before) (history after) p Len (Number r)
  measured before after r s is = explained_last before after [] Len (Number r) s tt is refl

  pub weighed : (before after : List NoteView) (r : ℕ) → Since p before after [] → r ≡ (state o after).usage → IsCall key_at o (history before) (history after) p Usage (Number r)
  weighed before after r s is = explained_last before after [] Usage (Number r) s tt is refl

  pub limited : (before after : List NoteView) (r : ℕ) → Since p before after [] → r ≡ (state o after).limit → IsCall key_at o (history before) (history after) p MaxUsage (Number r)
  limited before after r s is = explained_last before after [] MaxUsage (Number r) s tt is refl

  -- the limit was replaced
  pub replaced : (before after : List NoteView) (m : ℕ) → Since p before after (Limit m ∷ []) → IsCall key_at o (history before) (history after) p (SetLimit m) Done
  replaced before after m s = explained_last before after (Limit m ∷ []) (SetLimit m) Done s tt tt refl

  -- the list at the end was written, or memory ran out
  pub serialized : {A E : Type 0} (before after : List NoteView) (r : Result A E) → Since p before after [] → IsCall key_at o (history before) (history after) p Serialize (Listed (written_of (state o after).texts r))
  serialized before after (Ok value) s = explained_last before after [] Serialize (Listed (Ok (state o after).texts)) s refl (inl refl) refl
  serialized before after (Err error) s = explained_last before after [] Serialize (Listed (Err FailedAllocation)) s refl (inr refl) refl

-- ---- plain calls

-- a number above those of all passes that made an event
abbrev pub unused : History → ℕ
unused [] = 0
unused (e ∷ es) = suc (e.0 + unused es)

none_above : (h : History) (p : ℕ) → unused h ≤ p → events_of p h ≡ []
none_above [] p above = refl
none_above (e ∷ es) p above =
    let other : (e.0 == p) ≡ false = grind (arith, nat_tests) in
    ap (λ (b : Bool). if b then e.1 ∷ events_of p es else events_of p es) other ∙ none_above es p (omega (arith, above))

-- a pass of that number has seen the history, and added no event
pub seen_alone : (notes : List NoteView) → Since (unused (history notes)) [] notes []
seen_alone notes = record { rest = notes; begins = refl; events = none_above (history notes) (unused (history notes)) (omega arith) }

-- the call of a pass that had seen nothing
pub plain : {K : Type 0} (key_at : ℕ → Option K) (o : Totals) (p : ℕ) (before after : List NoteView) (q : Question) (r : Reply K) → before ≡ [] → IsCall key_at o (history before) (history after) p q r → IsLegal key_at o (history after) → IsPlainCall key_at o q r
plain key_at o p before after q r none call legal = record {
  pass = p;
  seen = history after;
  call = subst (λ (b : List NoteView). IsCall key_at o (history b) (history after) p q r) none call;
  legal = legal;
}

-- the list of a legal history has a key for each of its texts: so a text has a key exactly where it is
-- present
has_key : {K : Type 0} (key_at : ℕ → Option K) (texts : List Text) (t : Text) → Fits key_at (length texts) → is_some (key_of key_at texts t) ≡ is_some (position_of texts t)
has_key key_at texts t fits = key_of_present key_at texts t fits

-- one who was told a text's key, or that it has none, was told whether the text is present
pub told_whether : {K : Type 0} (key_at : ℕ → Option K) (o : Totals) (t : Text) (r : Option K) → IsOpening key_at o → IsPlainCall key_at o (Get t) (Found r) → IsPlainCall key_at o (Contains t) (Flag (is_some r))
told_whether key_at o t r opens c =
    let x = c.call.explained in
    let whole : x.0 ++ x.1 ≡ c.seen = x.2 ∙ c.call.begins in
    let legal : IsLegal key_at o x.0 = (legal_parts key_at o x.0 x.1 (subst (IsLegal key_at o) (sym whole) c.legal)).0 in
    let fits = (list_kept key_at o x.0 opens.distinct opens.fits legal).1 in record {
      pass = c.pass;
      seen = c.seen;
      call = record {
        past = c.call.past;
        begins = c.call.begins;
        explained = (x.0, x.1, x.2, tt, ap is_some x.4 ∙ has_key key_at (totals o x.0).texts t fits);
        makes = c.call.makes;
      };
      legal = c.legal;
    }

-- one who was told the length was told whether it is 0
pub told_empty : {K : Type 0} (key_at : ℕ → Option K) (o : Totals) (n : ℕ) → IsPlainCall key_at o Len (Number n) → IsPlainCall key_at o IsEmpty (Flag (nat_eq n 0))
told_empty key_at o n c =
    let x = c.call.explained in record {
      pass = c.pass;
      seen = c.seen;
      call = record {
        past = c.call.past;
        begins = c.call.begins;
        explained = (x.0, x.1, x.2, tt, ap (λ (m : ℕ). nat_eq m 0) x.4);
        makes = c.call.makes;
      };
      legal = c.legal;
    }
