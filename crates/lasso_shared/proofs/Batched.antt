-- One call more of a pass, after its calls for the texts of a list.
--
-- The definition goes through the list from its first text, and a loop adds texts at the end. So each text of the list is stepped
-- over, and the one more comes after the last.
use Rattle.std.proofs.Common.{◌≡◌, ℕ, List, [], ◌∷◌, ◌++◌, map, Option, Ok, Err, refl, sym, ap, ◌∙◌, subst, append_assoc, append-nil}
use Rattle.std.proofs.lemmas.List.{map_push}
use Rattle.lasso_parts.specs.Texts.{Text}
use Rattle.lasso_parts.specs.declared.util.LassoErrorKind.{LassoErrorKind}
use Rattle.lasso_log.specs.History.{History, Totals}
use Rattle.lasso_log.specs.Replies.{Copied, Question, Intern, Get, Reply, Interned, Found}
use Rattle.lasso_log.specs.Calls.{IsCall}
use Rattle.lasso_log.specs.Notes.{Since}
use Rattle.lasso_log.specs.Views.{PassView, IsSamePass, seen}
use Rattle.lasso_shared.specs.Batches.{CallsEach, AddsInterned, AddsGot, StopsAtText}
use Rattle.lasso_shared.proofs.Called.{called_later}

module _ {K : Type 0} (key_at : ℕ → Option K) (o : Totals) where
  calls_push : (before mid after : History) (p : ℕ) (qs : List Question) (rs : List (Reply K)) (q : Question) (r : Reply K) → CallsEach key_at o before mid p qs rs → IsCall key_at o mid after p q r → CallsEach key_at o before after p (qs ++ q ∷ []) (rs ++ r ∷ [])
  calls_push before mid after p [] [] q r each call = (after, subst (λ (h : History). IsCall key_at o h after p q r) each call, refl)
  calls_push before mid after p (x ∷ qs) (y ∷ rs) q r each call = (each.0, each.1, calls_push each.0 mid after p qs rs q r each.2 call)
  calls_push before mid after p [] (y ∷ rs) q r each call = absurd each
  calls_push before mid after p (x ∷ qs) [] q r each call = absurd each

  -- these texts were interned by calls of the pass, and their keys put after those from before
  pub record InternedSo (old now : PassView) (texts : List Text) (before after : List K) : Type 0 where
    pub same : IsSamePass now old
    pub added : AddsInterned key_at o (seen old) (seen now) old.number texts before after

  pub interned_none : (old : PassView) (before after : List K) → after ≡ before → InternedSo old old [] before after
  interned_none old before after is = record { same = (refl, refl); added = ([], is ∙ sym (append-nil before), refl) }

  -- one text more
  pub interned_push : (old mid now : PassView) (texts : List Text) (text : Text) (k : K) (before keys after : List K) → InternedSo old mid texts before keys → IsSamePass now mid → IsCall key_at o (seen mid) (seen now) mid.number (Intern Copied text) (Interned (Ok k)) → after ≡ keys ++ k ∷ [] → InternedSo old now (texts ++ text ∷ []) before after
  interned_push old mid now texts text k before keys after so_far same call is =
      let added : List K = so_far.added.0 in
      let reply : K → Reply K = λ k. Interned (Ok k) in
      let mine = subst (λ (p : ℕ). IsCall key_at o (seen mid) (seen now) p (Intern Copied text) (Interned (Ok k))) so_far.same.0 call in
      let more = calls_push (seen old) (seen mid) (seen now) old.number (map (Intern Copied) texts) (map reply added) (Intern Copied text) (reply k) so_far.added.2 mine in record {
        same = (same.0 ∙ so_far.same.0, same.1 ∙ so_far.same.1);
        added = (
          added ++ k ∷ [],
          is ∙ ap (λ (ks : List K). ks ++ k ∷ []) so_far.added.1 ∙ append_assoc before added (k ∷ []),
          subst (λ (qs : List Question). CallsEach key_at o (seen old) (seen now) old.number qs (map reply (added ++ k ∷ []))) (sym (map_push (Intern Copied) texts text))
              (subst (λ (rs : List (Reply K)). CallsEach key_at o (seen old) (seen now) old.number (map (Intern Copied) texts ++ Intern Copied text ∷ []) rs) (sym (map_push reply added k)) more),
        );
      }

  -- the next one was refused
  pub stopped_at : (old mid now : PassView) (all texts rest : List Text) (text : Text) (error : LassoErrorKind) (before after : List K) → all ≡ texts ++ text ∷ rest → InternedSo old mid texts before after → IsCall {K = K} key_at o (seen mid) (seen now) mid.number (Intern Copied text) (Interned (Err error)) → StopsAtText key_at o (seen old) (seen now) old.number all before after error
  stopped_at old mid now all texts rest text error before after split so_far call =
      let mine = subst (λ (p : ℕ). IsCall {K = K} key_at o (seen mid) (seen now) p (Intern Copied text) (Interned (Err error))) so_far.same.0 call in
      (texts, text, rest, seen mid, split, so_far.added, mine)

  -- these texts were looked up by calls of the pass, and what was found put after what was there before
  pub record GotSo (old now : PassView) (texts : List Text) (before after : List (Option K)) : Type 0 where
    pub same : IsSamePass now old
    pub added : AddsGot key_at o (seen old) (seen now) old.number texts before after

  pub got_none : (old : PassView) (before after : List (Option K)) → after ≡ before → GotSo old old [] before after
  got_none old before after is = record { same = (refl, refl); added = ([], is ∙ sym (append-nil before), refl) }

  -- one text more
  pub got_push : (old mid now : PassView) (texts : List Text) (text : Text) (found : Option K) (before keys after : List (Option K)) → GotSo old mid texts before keys → IsSamePass now mid → IsCall key_at o (seen mid) (seen now) mid.number (Get text) (Found found) → after ≡ keys ++ found ∷ [] → GotSo old now (texts ++ text ∷ []) before after
  got_push old mid now texts text found before keys after so_far same call is =
      let added : List (Option K) = so_far.added.0 in
      let mine = subst (λ (p : ℕ). IsCall key_at o (seen mid) (seen now) p (Get text) (Found found)) so_far.same.0 call in
      let more = calls_push (seen old) (seen mid) (seen now) old.number (map Get texts) (map Found added) (Get text) (Found found) so_far.added.2 mine in record {
        same = (same.0 ∙ so_far.same.0, same.1 ∙ so_far.same.1);
        added = (
          added ++ found ∷ [],
          is ∙ ap (λ (ks : List (Option K)). ks ++ found ∷ []) so_far.added.1 ∙ append_assoc before added (found ∷ []),
          subst (λ (qs : List Question). CallsEach key_at o (seen old) (seen now) old.number qs (map Found (added ++ found ∷ []))) (sym (map_push Get texts text))
              (subst (λ (rs : List (Reply K)). CallsEach key_at o (seen old) (seen now) old.number (map Get texts ++ Get text ∷ []) rs) (sym (map_push Found added found)) more),
        );
      }

  -- what the pass saw before a call, without an event of its own, may be counted to the call
  pub called_after : (old mid : PassView) (after : History) (q : Question) (r : Reply K) → IsSamePass mid old → Since old.number old.notes mid.notes [] → IsCall key_at o (seen mid) after mid.number q r → IsCall key_at o (seen old) after old.number q r
  called_after old mid after q r same since call =
      called_later key_at o old.number old.notes mid.notes after q r since (subst (λ (p : ℕ). IsCall key_at o (seen mid) after p q r) same.0 call)
