-- What the calls of a pass for a list say of its keys, and of what the pass has then seen.
--
-- Each call that returns a key shows that it is its text's, and what a pass has seen only grows. So at the end each text has its
-- key. A text that the pass had seen at the beginning has a key before each call: it is never refused, and always found.
use Rattle.std.proofs.Common.{◌≡◌, ◌⊎◌, inl, inr, ℕ, ◌+◌, ◌-◌, List, [], ◌∷◌, ◌++◌, length, map, take, Option, Some, None, Result, Ok, Err, IsSomeAnd, refl, sym, ap, ◌∙◌, subst, arith, append-nil, length-append}
use Rattle.std.specs.Prelude.{IfErr, IfSome, OnErr, OnOk, slice_get}
use Rattle.std.proofs.Math.Seq.{take-append_seam}
use Rattle.std.proofs.lemmas.List.{length-map}
use mathlib.Core.List.{IsPrefix}
use Rattle.lasso_parts.specs.Texts.{Text, key_of}
use Rattle.lasso_parts.specs.declared.util.LassoErrorKind.{LassoErrorKind}
use Rattle.lasso_single.specs.KeyLists.{AddsKeys, AddsKeysOfFirst, AreKeys, NextIs, keyed_texts}
use Rattle.lasso_log.specs.History.{History, Totals, totals}
use Rattle.lasso_log.specs.Calls.{IsCall}
use Rattle.lasso_log.specs.Replies.{Copied, Question, Intern, Get, Reply, Interned, Found}
use Rattle.lasso_log.proofs.Histories.{prefix_self, prefix_trans}
use Rattle.lasso_shared.specs.BatchKeys.{AddsFoundBetween, AreFoundBetween}
use Rattle.lasso_shared.specs.Batches.{AddsGot, AddsInterned, CallsEach, StopsAtText}
use Rattle.lasso_shared.specs.CallerLaws.{HasKey}
use Rattle.lasso_shared.proofs.CallerLaws.{has_key_later, tells_keys}
use Rattle.lasso_shared.proofs.PassFacts.{call_grows, found_key, seen_found, seen_interned}

at_seam : (done : List Text) (text : Text) (rest : List Text) → slice_get (done ++ text ∷ rest) (length done) ≡ Some text
at_seam [] text rest = refl
at_seam (t ∷ done) text rest = at_seam done text rest

none_of : {K : Type 0} (o : Option K) → ((k : K) → o ≡ Some k → ⊥) → o ≡ None
none_of None lacks = refl
none_of (Some k) lacks = absurd (lacks k refl)

module _ {K : Type 0} (key_at : ℕ → Option K) (o : Totals) (p : ℕ) where
  calls_grow : (before after : History) (qs : List Question) (rs : List (Reply K)) → CallsEach key_at o before after p qs rs → IsPrefix before after
  calls_grow before after [] [] each = subst (IsPrefix before) (sym each) (prefix_self before)
  calls_grow before after (q ∷ qs) (r ∷ rs) each = prefix_trans before each.0 after (call_grows key_at o before each.0 p q r each.1) (calls_grow each.0 after qs rs each.2)
  calls_grow before after [] (r ∷ rs) each = absurd each
  calls_grow before after (q ∷ qs) [] each = absurd each

  abbrev accept : K → Reply K
  accept k = Interned (Ok k)

  calls_keyed : (before after : History) (texts : List Text) (keys : List K) → CallsEach key_at o before after p (map (Intern Copied) texts) (map accept keys) → AreKeys key_at (totals o after).texts texts keys
  calls_keyed before after [] [] each = refl
  calls_keyed before after [] (k ∷ keys) each = absurd each
  calls_keyed before after (text ∷ texts) [] each = absurd each
  calls_keyed before after (text ∷ texts) (k ∷ keys) each =
      let here : HasKey key_at o each.0 text k = (tells_keys key_at o before each.0 p).interned Copied text k each.1 in
      let later : IsPrefix each.0 after = calls_grow each.0 after (map (Intern Copied) texts) (map accept keys) each.2 in
      let key : key_of key_at (totals o after).texts text ≡ Some k = has_key_later key_at o each.0 after text k here later in
      let others : map (key_of key_at (totals o after).texts) texts ≡ map Some keys = calls_keyed each.0 after texts keys each.2 in
      cc

  -- keys stay in what is seen later
  keys_later : (before after : History) (texts : List Text) (keys : List K) → IsPrefix before after → AreKeys key_at (totals o before).texts texts keys → AreKeys key_at (totals o after).texts texts keys
  keys_later before after [] [] later are = refl
  keys_later before after [] (k ∷ keys) later are = cc
  keys_later before after (text ∷ texts) [] later are = cc
  keys_later before after (text ∷ texts) (k ∷ keys) later are =
      let here : HasKey key_at o before text k = cc in
      let key : key_of key_at (totals o after).texts text ≡ Some k = has_key_later key_at o before after text k here later in
      let before_others : AreKeys key_at (totals o before).texts texts keys = cc in
      let others : map (key_of key_at (totals o after).texts) texts ≡ map Some keys = keys_later before after texts keys later before_others in
      cc

  -- ---- which texts have keys

  -- one key was added for each of these texts
  added_length : (list done : List Text) (old new : List K) → AddsKeys key_at list done old new → length new - length old ≡ length done
  added_length list done old new added =
      let many : length done ≡ length added.0 = sym (length-map done (key_of key_at list)) ∙ ap length added.2 ∙ length-map added.0 Some in
      omega (arith, ap length added.1, length-append old added.0, many)

  -- these texts are the first of a list, so the keys are those of its first
  first_keys : (list all done rest : List Text) (old new : List K) → all ≡ done ++ rest → AddsKeys key_at list done old new → AddsKeysOfFirst key_at list all old new
  first_keys list all done rest old new split added =
      let keyed : keyed_texts old new all ≡ done = ap (λ (n : ℕ). take n all) (added_length list done old new added) ∙ ap (take (length done)) split ∙ take-append_seam done rest in
      subst (λ (ts : List Text). AddsKeys key_at list ts old new) (sym keyed) added

  -- the next text of the list is the one after them
  next_text : (list all done : List Text) (text : Text) (rest : List Text) (old new : List K) (P : Text → Type 0) → all ≡ done ++ text ∷ rest → AddsKeys key_at list done old new → P text → NextIs old new all P
  next_text list all done text rest old new P split added holds =
      let at : slice_get all (length new - length old) ≡ Some text = ap (slice_get all) (added_length list done old new added) ∙ ap (λ (ts : List Text). slice_get ts (length done)) split ∙ at_seam done text rest in
      subst (λ (t : Option Text). IsSomeAnd t P) (sym at) holds

  module _ (before after : History) (texts : List Text) (old new : List K) where
    interned_keys : AddsInterned key_at o before after p texts old new → AddsKeys key_at (totals o after).texts texts old new
    interned_keys added = (added.0, added.1, calls_keyed before after texts added.0 added.2)

    stopped_keys : (error : LassoErrorKind) (h : StopsAtText key_at o before after p texts old new error) → AddsKeys key_at (totals o after).texts h.0 old new
    stopped_keys error h =
        let done = h.5 in
        (done.0, done.1, keys_later h.3 after h.0 done.0 (call_grows key_at o h.3 after p (Intern Copied h.1) (Interned (Err error)) h.6) (calls_keyed before h.3 h.0 done.0 done.2))

    stopped_before : (error : LassoErrorKind) (h : StopsAtText key_at o before after p texts old new error) → IsPrefix before h.3
    stopped_before error h = let done = h.5 in calls_grow before h.3 (map (Intern Copied) h.0) (map accept done.0) done.2

    -- ---- of the result of a call

    -- one key more for each text, by the lengths that the lists have
    pub batch_whole : {X E : Type 0} (n length_old length_new : ℕ) → length texts ≡ n → length_old ≡ length old → length_new ≡ length new → (result : Result X E) → OnOk result (AddsInterned key_at o before after p texts old new) → OnOk result (length_new ≡ length_old + n)
    batch_whole n length_old length_new many is_old is_new (Ok x) interned =
        let keys : AddsKeys key_at (totals o after).texts texts old new = interned_keys interned in
        let each : length texts ≡ length keys.0 = sym (length-map texts (key_of key_at (totals o after).texts)) ∙ ap length keys.2 ∙ length-map keys.0 Some in
        omega (arith, ap length keys.1, length-append old keys.0, each, many, is_old, is_new)
    batch_whole n length_old length_new many is_old is_new (Err error) interned = tt

    -- a text that was seen at the beginning is not refused
    unseen : (number : K → ℕ) (made : (n : ℕ) (k : K) → key_at n ≡ Some k → number k ≡ n) (mid end : History) (text : Text) (error : LassoErrorKind) → IsPrefix before mid → IsCall key_at o mid end p (Intern Copied text) (Interned (Err error)) → key_of key_at (totals o before).texts text ≡ None
    unseen number made mid end text error grown call = none_of (key_of key_at (totals o before).texts text) (λ k has.
        let accepted : Err error ≡ Ok k = seen_interned key_at number made o mid end p Copied text (Err error) call k (has_key_later key_at o before mid text k has grown) in
        cc accepted)

    -- `same` says that nothing was seen and no key was added
    module _ {X : Type 0} (early : LassoErrorKind → Type 0) (same : (error : LassoErrorKind) → early error → (after ≡ before) × (new ≡ old)) where
      pub batch_keys : (result : Result X LassoErrorKind) → OnOk result (AddsInterned key_at o before after p texts old new) → IfErr result (λ error. early error ⊎ StopsAtText key_at o before after p texts old new error) → AddsKeysOfFirst key_at (totals o after).texts texts old new
      batch_keys (Ok x) interned refused = first_keys (totals o after).texts texts texts [] old new (sym (append-nil texts)) (interned_keys interned)
      batch_keys (Err error) interned refused = elim refused [
        | inl soon ↦ first_keys (totals o after).texts texts [] texts old new refl ([], (same error soon).1 ∙ sym (append-nil old), refl)
        | inr stops ↦ first_keys (totals o after).texts texts stops.0 (stops.1 ∷ stops.2) old new stops.4 (stopped_keys error stops)
      ]

      pub batch_grows : (result : Result X LassoErrorKind) → OnOk result (AddsInterned key_at o before after p texts old new) → IfErr result (λ error. early error ⊎ StopsAtText key_at o before after p texts old new error) → IsPrefix before after
      batch_grows (Ok x) interned refused = calls_grow before after (map (Intern Copied) texts) (map accept interned.0) interned.2
      batch_grows (Err error) interned refused = elim refused [
        | inl soon ↦ subst (IsPrefix before) (sym (same error soon).0) (prefix_self before)
        | inr stops ↦ prefix_trans before stops.3 after (stopped_before error stops) (call_grows key_at o stops.3 after p (Intern Copied stops.1) (Interned (Err error)) stops.6)
      ]

      -- `W` is what an early refusal leaves
      module _ (W : Type 0) (left : (error : LassoErrorKind) → early error → W) (number : K → ℕ) (made : (n : ℕ) (k : K) → key_at n ≡ Some k → number k ≡ n) where
        pub batch_stopped : (result : Result X LassoErrorKind) → IfErr result (λ error. early error ⊎ StopsAtText key_at o before after p texts old new error) → OnErr result (W ⊎ NextIs old new texts (λ text. key_of key_at (totals o before).texts text ≡ None))
        batch_stopped (Ok x) refused = tt
        batch_stopped (Err error) refused = elim refused [
          | inl soon ↦ inl (left error soon)
          | inr stops ↦ inr (next_text (totals o after).texts texts stops.0 stops.1 stops.2 old new (λ text. key_of key_at (totals o before).texts text ≡ None) stops.4 (stopped_keys error stops)
              (unseen number made stops.3 after stops.1 error (stopped_before error stops) stops.6))
        ]

  -- ---- of looking up

  found_later : (mid after : History) (text : Text) (found : Option K) → IsPrefix mid after → IfSome found (λ key. HasKey key_at o mid text key) → IfSome found (λ key. HasKey key_at o after text key)
  found_later mid after text None later key = tt
  found_later mid after text (Some k) later key = has_key_later key_at o mid after text k key later

  module _ (number : K → ℕ) (made : (n : ℕ) (k : K) → key_at n ≡ Some k → number k ≡ n) where
    -- `first` is what the pass had seen before all of the calls
    got_each : (first before after : History) (texts : List Text) (found : List (Option K)) → IsPrefix first before → CallsEach key_at o before after p (map Get texts) (map Found found) → AreFoundBetween key_at (totals o first).texts (totals o after).texts texts found
    got_each first before after [] [] grown each = tt
    got_each first before after [] (f ∷ others) grown each = absurd each
    got_each first before after (text ∷ texts) [] grown each = absurd each
    got_each first before after (text ∷ texts) (f ∷ others) grown each =
        let mid = each.0 in
        let call : IsCall key_at o before mid p (Get text) (Found f) = each.1 in
        let later : IsPrefix mid after = calls_grow mid after (map Get texts) (map Found others) each.2 in
        let past : IsPrefix first mid = prefix_trans first before mid grown (call_grows key_at o before mid p (Get text) (Found f) call) in
        let key = found_later mid after text f later (found_key key_at o before mid p text f call) in
        ((key, λ k had. seen_found key_at number made o before mid p text f call k (has_key_later key_at o first before text k had grown)), got_each first mid after texts others past each.2)

    pub got_keys : {X E : Type 0} (before after : History) (texts : List Text) (old new : List (Option K)) (result : Result X E) → OnOk result (AddsGot key_at o before after p texts old new) → OnOk result (AddsFoundBetween key_at (totals o before).texts (totals o after).texts texts old new)
    got_keys before after texts old new (Ok x) got = (got.0, got.1, got_each before before after texts got.0 (prefix_self before) got.2)
    got_keys before after texts old new (Err error) got = tt

  pub got_grows : {X E : Type 0} (before after : History) (texts : List Text) (old new : List (Option K)) (result : Result X E) → OnOk result (AddsGot key_at o before after p texts old new) → OnErr result (after ≡ before) → IsPrefix before after
  got_grows before after texts old new (Ok x) got same = calls_grow before after (map Get texts) (map Found got.0) got.2
  got_grows before after texts old new (Err error) got same = subst (IsPrefix before) (sym same) (prefix_self before)
