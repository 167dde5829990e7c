-- Texts that a pass has interned in order, and what it has seen after them.
use Rattle.std.proofs.Common.{◌≡◌, ◌≢◌, ◌≤◌, ℕ, List, [], ◌∷◌, ◌++◌, length, map, take, Option, Ok, Err, arith, refl, sym, ap, ◌∙◌, subst, append_assoc, append-nil}
use Rattle.std.proofs.lemmas.List.{length-map, take_all}
use Rattle.lasso_parts.specs.Texts.{Text}
use Rattle.lasso_parts.specs.declared.util.LassoErrorKind.{LassoErrorKind}
use Rattle.lasso_log.specs.Calls.{events_of, Makes, IsCall}
use Rattle.lasso_log.specs.History.{Event, History}
use Rattle.lasso_log.specs.Notes.{Since, history}
use Rattle.lasso_log.specs.Replies.{Copied, Intern, Reply, Interned}
use Rattle.lasso_log.specs.Views.{InternerId, PassView, IsSamePass, seen}
use Rattle.lasso_log.proofs.Histories.{events_append, history_append}
use Rattle.lasso_shared.specs.Batches.{CallsEach}
use Rattle.lasso_shared.specs.PassCalls.{HasInterned, PassInterns, PassStopsAt}
use Rattle.lasso_shared.proofs.Batched.{InternedSo, interned_none, interned_push, stopped_at, called_after}
use Rattle.lasso_shared.proofs.Whole.{since_both, since_self}

module _ {K : Type 0} (key_at : ℕ → Option K) (of : InternerId) where
  -- what the pass saw after a call that interned a text, without an event of its own, may be counted to the call
  extended : (before mid after rest : History) (p : ℕ) (text : Text) (r : Reply K) → mid ++ rest ≡ after → events_of p rest ≡ [] → IsCall key_at of.opening before mid p (Intern Copied text) r → IsCall key_at of.opening before after p (Intern Copied text) r
  extended before mid after rest p text r whole none c =
      let x = c.explained in record {
        past = c.past ++ rest;
        begins = sym (append_assoc before c.past rest) ∙ (ap (λ (h : History). h ++ rest) c.begins ∙ whole);
        explained = (x.0, x.1 ++ rest, sym (append_assoc x.0 x.1 rest) ∙ ap (λ (h : History). h ++ rest) x.2, tt, x.4);
        makes = subst (Makes (Intern Copied text) r) (sym (events_append p c.past rest ∙ (ap (λ (es : List Event). events_of p c.past ++ es) none ∙ append-nil (events_of p c.past)))) c.makes;
      }

  -- so may what it saw after the calls for a text at least be counted to the last of them
  all_extended : (before mid after rest : History) (p : ℕ) (text : Text) (texts : List Text) (keys : List K) → mid ++ rest ≡ after → events_of p rest ≡ []
      → CallsEach key_at of.opening before mid p (map (Intern Copied) (text ∷ texts)) (map (λ (k : K). Interned (Ok k)) keys) → CallsEach key_at of.opening before after p (map (Intern Copied) (text ∷ texts)) (map (λ (k : K). Interned (Ok k)) keys)
  all_extended before mid after rest p text texts [] whole none each = absurd each
  all_extended before mid after rest p text [] (k ∷ []) whole none each =
      let call = subst (λ (h : History). IsCall key_at of.opening before h p (Intern Copied text) (Interned (Ok k))) (sym each.2) each.1 in
      (after, extended before mid after rest p text (Interned (Ok k)) whole none call, refl)
  all_extended before mid after rest p text [] (k ∷ l ∷ keys) whole none each = absurd each.2
  all_extended before mid after rest p text (other ∷ texts) (k ∷ keys) whole none each = (each.0, each.1, all_extended each.0 mid after rest p other texts keys whole none each.2)

  -- no text was interned yet
  pub begun_with : (first : PassView) (begun keys : List K) → keys ≡ begun → HasInterned key_at of first first [] begun keys
  begun_with first begun keys is =
      let none = interned_none key_at of.opening first begun keys is in
      record { mid = first; was = (refl, refl); added = none.added; same = (refl, refl); since = since_self first.number first.notes }

  -- of no texts none was interned
  pub interned_none_of : {A : Type 0} (f : A → Text) (first : PassView) (texts : List A) (begun keys : List K) → length texts ≡ 0 → keys ≡ begun → PassInterns key_at of first first (map f texts) begun keys
  interned_none_of f first [] begun keys none is = (interned_none key_at of.opening first begun keys is).added
  interned_none_of f first (text ∷ texts) begun keys none is = absurd (omega (arith, none))

  -- the pass has seen more, without an event
  pub seen_more : (first mid now : PassView) (texts : List Text) (begun keys : List K) → HasInterned key_at of first mid texts begun keys → IsSamePass now mid → Since mid.number mid.notes now.notes [] → HasInterned key_at of first now texts begun keys
  seen_more first mid now texts begun keys h same since = record {
    mid = h.mid;
    was = h.was;
    added = h.added;
    same = (same.0 ∙ h.same.0, same.1 ∙ h.same.1);
    since = since_both h.mid.number mid.number h.mid.notes mid.notes now.notes h.same.0 h.since since;
  }

  -- one text more
  pub interned_more : (first mid now : PassView) (texts : List Text) (text : Text) (k : K) (begun keys after : List K) → HasInterned key_at of first mid texts begun keys → IsSamePass now mid
      → IsCall key_at of.opening (seen mid) (seen now) mid.number (Intern Copied text) (Interned (Ok k)) → after ≡ keys ++ k ∷ [] → HasInterned key_at of first now (texts ++ text ∷ []) begun after
  interned_more first mid now texts text k begun keys after h same call is =
      let whole = called_after key_at of.opening h.mid mid (seen now) (Intern Copied text) (Interned (Ok k)) h.same h.since call in
      let so_far : InternedSo key_at of.opening first h.mid texts begun keys = record { same = h.was; added = h.added } in
      let more = interned_push key_at of.opening first h.mid now texts text k begun keys after so_far (same.0 ∙ h.same.0, same.1 ∙ h.same.1) whole is in
      record { mid = now; was = more.same; added = more.added; same = (refl, refl); since = since_self now.number now.notes }

  -- the next one was refused
  pub refused_next : (first mid now : PassView) (all texts rest : List Text) (text : Text) (error : LassoErrorKind) (begun keys : List K) → all ≡ texts ++ text ∷ rest → HasInterned key_at of first mid texts begun keys
      → IsCall {K = K} key_at of.opening (seen mid) (seen now) mid.number (Intern Copied text) (Interned (Err error)) → PassStopsAt key_at of first now all begun keys error
  refused_next first mid now all texts rest text error begun keys split h call =
      let whole = called_after key_at of.opening h.mid mid (seen now) (Intern Copied text) (Interned (Err error)) h.same h.since call in
      let so_far : InternedSo key_at of.opening first h.mid texts begun keys = record { same = h.was; added = h.added } in
      stopped_at key_at of.opening first h.mid now all texts rest text error begun keys split so_far whole

  -- what the pass has then seen may be counted to the last call, if there is one
  pub interned_all : (first now : PassView) (texts : List Text) (begun keys : List K) → texts ≢ [] → HasInterned key_at of first now texts begun keys → PassInterns key_at of first now texts begun keys
  interned_all first now [] begun keys some h = absurd (some refl)
  interned_all first now (text ∷ texts) begun keys some h =
      let s = subst (λ (p : ℕ). Since p h.mid.notes now.notes []) h.was.0 h.since in
      let whole : seen h.mid ++ history s.rest ≡ seen now = sym (history_append h.mid.notes s.rest) ∙ ap history s.begins in
      (h.added.0, h.added.1, all_extended (seen first) (seen h.mid) (seen now) (history s.rest) first.number text texts h.added.0 whole s.events h.added.2)

  -- so it is where all texts are done, and there is one at least
  pub interned_whole : {A : Type 0} (f : A → Text) (first now : PassView) (texts : List A) (done : ℕ) (begun keys : List K) → length texts ≢ 0 → length texts ≤ done → HasInterned key_at of first now (take done (map f texts)) begun keys → PassInterns key_at of first now (map f texts) begun keys
  interned_whole f first now [] done begun keys some all h = absurd (some refl)
  interned_whole f first now (text ∷ texts) done begun keys some all h =
      let long : length (map f (text ∷ texts)) ≤ done = omega (arith, all, length-map (text ∷ texts) f) in
      interned_all first now (f text ∷ map f texts) begun keys (λ e. absurd (cc e)) (subst (λ (ts : List Text). HasInterned key_at of first now ts begun keys) (take_all done (map f (text ∷ texts)) long) h)
