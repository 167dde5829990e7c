-- What callers can rely on.
--
-- A text stays at its position when its list grows, so it keeps its key. A call's reply is that of a history between the call's
-- beginning and its end: what the list has at the beginning it has there too, and what it has there it has at the end. Where a history is legal,
-- no append in it is of a text that the list had before: so a call on such a text made no event. A key that a list gives to a
-- text has the text's position for its number, so equal keys are of equal texts.
use Rattle.std.proofs.Common.{◌≡◌, ◌↔◌, ℕ, ◌<◌, Bool, cond, List, [], ◌∷◌, ◌++◌, length, slice_get, Option, Some, None, refl, sym, ap, ◌∙◌, subst, inl, inr, ⊎_elim, arith, append_assoc}
use Rattle.std.specs.Prelude.{◌==◌, if◌then◌else◌, IsSome, is_some, Result, Ok, Err, option_and_then}
use Rattle.std.specs.List.{position_or_len}
use Rattle.std.specs.Str.{bytes_eq}
use Rattle.std.proofs.lemmas.Bool.{lt-ltb}
use Rattle.std.proofs.lemmas.List.{length-append, get_or_append_left}
use Rattle.std.proofs.lemmas.List.Quantifiers.{position-Some}
use Rattle.std.proofs.lemmas.List.Sums.{position_or_len_is}
use Rattle.std.proofs.lemmas.Option.{none-some, option_and_then_some, slice_get_within}
use mathlib.Core.List.{IsPrefix}
use Rattle.lasso_parts.specs.Texts.{Text, position_of, key_of}
use Rattle.lasso_parts.specs.declared.util.LassoErrorKind.{LassoErrorKind}
use Rattle.lasso_parts.specs.declared.util.LassoErrorKind.TheVariants.{MemoryLimitReached, KeySpaceExhaustion, FailedAllocation}
use Rattle.lasso_parts.proofs.IndexLaws.{position_of_at}
use Rattle.lasso_log.specs.History.{Event, Append, History, Totals, totals, counted, MayFollow, IsLegal}
use Rattle.lasso_log.specs.Replies.{Keeping, Question, Intern, Get, Resolve, Reply, Interned, Found, Resolved, MayIntern}
use Rattle.lasso_log.specs.Calls.{events_of, StoresAndAppends, Makes, IsCall}
use Rattle.lasso_log.specs.Notes.{NoteView, history}
use Rattle.lasso_log.specs.Views.{InternerId, seen}
use Rattle.lasso_shared.specs.CallerLaws.{HasKey, CallsTellKeys, SeenTextsKeepKeys, AnsweredKeysResolve, ResolvedTextsStay, KeysAreEqualWhereTextsAre, PassesShare}
use Rattle.lasso_log.proofs.Legal.{totals_append, legal_parts, list_kept, list_grows}
use Rattle.lasso_log.proofs.Histories.{history_append, prefix_trans}
use Rattle.lasso_parts.proofs.TextLemmas.{position_here}
use Rattle.lasso_shared.proofs.Positions.{get_front}
use Rattle.lasso_log.proofs.Tickets.{by_cases}

-- ---- lists that grow

position_grows : (texts more : List Text) (text : Text) (n : ℕ) → position_of texts text ≡ Some n → position_of (texts ++ more) text ≡ Some n
position_grows texts more text n at =
    let here = position-Some (λ t. bytes_eq t text) texts n [] at in
    let long : n < length (texts ++ more) = omega (arith, length-append texts more, here.0) in
    let first : position_or_len (λ t. bytes_eq t text) (texts ++ more) ≡ n = position_or_len_is (λ t. bytes_eq t text) (texts ++ more) n [] (omega (arith, long))
    (λ k below. ap (λ t. bytes_eq t text) (get_or_append_left texts more [] k (omega (arith, here.0, below))) ∙ here.2 k below)
    (λ within. ap (λ t. bytes_eq t text) (get_or_append_left texts more [] n here.0) ∙ here.1) in
    ap (λ b. cond b (Some (position_or_len (λ t. bytes_eq t text) (texts ++ more))) None) (lt-ltb _ _ (subst (λ k. k < length (texts ++ more)) (sym first) long)) ∙ ap Some first

pub position_past : (texts later : List Text) (text : Text) (n : ℕ) → IsPrefix texts later → position_of texts text ≡ Some n → position_of later text ≡ Some n
position_past texts later text n more at = subst (λ (ts : List Text). position_of ts text ≡ Some n) more.1 (position_grows texts more.0 text n at)

pub read_past : (texts later : List Text) (text : Text) (n : ℕ) → IsPrefix texts later → slice_get texts n ≡ Some text → slice_get later n ≡ Some text
read_past texts later text n more at = subst (λ (ts : List Text). slice_get ts n ≡ Some text) more.1 (get_front texts more.0 n text at)

-- the list of a longer history is longer
list_past : (o : Totals) (h g : History) → IsPrefix h g → IsPrefix (totals o h).texts (totals o g).texts
list_past o h g more =
    let is : totals o g ≡ totals (totals o h) more.0 = ap (totals o) (sym more.1) ∙ totals_append o h more.0 in
    subst (λ (s : Totals). IsPrefix (totals o h).texts s.texts) (sym is) (list_grows (totals o h) more.0)

-- what passes have seen, as histories
pub history_past : (xs ys : List NoteView) → IsPrefix xs ys → IsPrefix (history xs) (history ys)
history_past xs ys more = (history more.0, sym (history_append xs more.0) ∙ ap history more.1)

-- ---- appends of a legal history

-- no event of a legal history appends a text that the list had before it
none_appended : {K : Type 0} (key_at : ℕ → Option K) (s : Totals) (past : History) (pass n : ℕ) (text : Text) (stored : List Event) → position_of s.texts text ≡ Some n → IsLegal key_at s past → events_of pass past ≡ stored ++ Append text ∷ [] → ⊥
none_appended key_at s [] pass n text [] at legal is = absurd (cc is)
none_appended key_at s [] pass n text (x ∷ stored) at legal is = absurd (cc is)
none_appended key_at s (e ∷ past) pass n text [] at legal is = by_cases (e.0 == pass)
    (λ own.
    let first : e.1 ∷ events_of pass past ≡ Append text ∷ [] = sym (ap (λ (b : Bool). if b then e.1 ∷ events_of pass past else events_of pass past) own) ∙ is in
    let same : e.1 ≡ Append text = cc first in
    let lacks = subst (MayFollow key_at s) same legal.0 in
    none-some n (sym lacks.0 ∙ at))
    (λ other.
    let rest : events_of pass past ≡ Append text ∷ [] = sym (ap (λ (b : Bool). if b then e.1 ∷ events_of pass past else events_of pass past) other) ∙ is in
    none_appended key_at (counted s e.1) past pass n text [] (position_past s.texts (counted s e.1).texts text n (list_grows s (e ∷ [])) at) legal.1 rest)
none_appended key_at s (e ∷ past) pass n text (x ∷ stored) at legal is = by_cases (e.0 == pass)
    (λ own.
    let first : e.1 ∷ events_of pass past ≡ x ∷ (stored ++ Append text ∷ []) = sym (ap (λ (b : Bool). if b then e.1 ∷ events_of pass past else events_of pass past) own) ∙ is in
    none_appended key_at (counted s e.1) past pass n text stored (position_past s.texts (counted s e.1).texts text n (list_grows s (e ∷ [])) at) legal.1 (cc first))
    (λ other.
    let rest : events_of pass past ≡ x ∷ (stored ++ Append text ∷ []) = sym (ap (λ (b : Bool). if b then e.1 ∷ events_of pass past else events_of pass past) other) ∙ is in
    none_appended key_at (counted s e.1) past pass n text (x ∷ stored) (position_past s.texts (counted s e.1).texts text n (list_grows s (e ∷ [])) at) legal.1 rest)

-- ---- keys

-- the position of a text with a key
record HasPosition {K : Type 0} (key_at : ℕ → Option K) (texts : List Text) (text : Text) (k : K) : Type 0 where
  position : ℕ
  at : position_of texts text ≡ Some position
  key : key_at position ≡ Some k

position_of_key : {K : Type 0} (key_at : ℕ → Option K) (texts : List Text) (text : Text) (k : K) → key_of key_at texts text ≡ Some k → HasPosition key_at texts text k
position_of_key key_at texts text k has = option_and_then_some key_at (position_of texts text) k has (λ n at key. record { position = n; at = at; key = key })

pub some_there : {K : Type 0} (o : Option K) → IsSome o → (k : K) × (o ≡ Some k)
some_there None there = absurd (cc there)
some_there (Some k) there = (k, refl)

module _ {K : Type 0} (key_at : ℕ → Option K) where
  -- a text keeps its key while the history grows
  pub has_key_later : (o : Totals) (h g : History) (text : Text) (k : K) → HasKey key_at o h text k → IsPrefix h g → HasKey key_at o g text k
  has_key_later o h g text k has more =
      let p = position_of_key key_at (totals o h).texts text k has in
      ap (option_and_then key_at) (position_past (totals o h).texts (totals o g).texts text p.position (list_past o h g more) p.at) ∙ p.key

  pub end_past : (o : Totals) (before after : History) (pass : ℕ) (q : Question) (r : Reply K) (c : IsCall key_at o before after pass q r) → IsPrefix (before ++ c.explained.0) after
  end_past o before after pass q r c = (c.explained.1, append_assoc before c.explained.0 c.explained.1 ∙ ap (λ (h : History). before ++ h) c.explained.2 ∙ c.begins)

  pub tells_keys : CallsTellKeys key_at
  tells_keys o before after pass = record {
    interned = λ keeping text k c. has_key_later o (before ++ c.explained.0) after text k c.explained.4 (end_past o before after pass (Intern keeping text) (Interned (Ok k)) c);
    found = λ text k c. has_key_later o (before ++ c.explained.0) after text k (sym c.explained.4) (end_past o before after pass (Get text) (Found (Some k)) c);
    resolved = λ number text opens legal c.
        let texts = (totals o after).texts in
        let kept = list_kept key_at o after opens.distinct opens.fits legal in
        let at : slice_get texts number ≡ Some text = read_past (totals o (before ++ c.explained.0)).texts texts text number (list_past o (before ++ c.explained.0) after (end_past o before after pass (Resolve number) (Resolved (Some text)) c)) (sym c.explained.4) in
        let key = some_there (key_at number) (kept.1 number (slice_get_within texts number text at)) in
        (key.0, key.1, ap (option_and_then key_at) (position_of_at texts text number kept.0 at) ∙ key.1);
  }

  -- an intern of a present text returns its key
  interned_there : (s : Totals) (keeping : Keeping) (text : Text) (k : K) (r : Result K LassoErrorKind) → key_of key_at s.texts text ≡ Some k → MayIntern key_at s keeping text r → r ≡ Ok k
  interned_there s keeping text k (Ok l) has may = let same : Some l ≡ Some k = sym may ∙ has in cc same
  interned_there s keeping text k (Err KeySpaceExhaustion) has may = absurd (none-some k (ap (option_and_then key_at) (sym may.0) ∙ has))
  interned_there s keeping text k (Err MemoryLimitReached) has may = absurd (none-some k (ap (option_and_then key_at) (sym may.0) ∙ has))
  interned_there s keeping text k (Err FailedAllocation) has may = absurd (none-some k (ap (option_and_then key_at) (sym may) ∙ has))

  pub resolved_texts_stay : ResolvedTextsStay key_at
  resolved_texts_stay o before after later end pass other number text reply c more d =
      let from = totals o (before ++ c.explained.0) in
      let to = totals o (later ++ d.explained.0) in
      let grown = prefix_trans (before ++ c.explained.0) after (later ++ d.explained.0) (end_past o before after pass (Resolve number) (Resolved (Some text)) c) (prefix_trans after later (later ++ d.explained.0) more (d.explained.0, refl)) in
      d.explained.4 ∙ read_past from.texts to.texts text number (list_past o (before ++ c.explained.0) (later ++ d.explained.0) grown) (sym c.explained.4)

  module _ (number : K → ℕ) (made : (n : ℕ) (k : K) → key_at n ≡ Some k → number k ≡ n) where
    -- a key's number is its text's position
    key_resolves : (texts : List Text) (text : Text) (k : K) → key_of key_at texts text ≡ Some k → slice_get texts (number k) ≡ Some text
    key_resolves texts text k has =
        let p = position_of_key key_at texts text k has in
        subst (λ (n : ℕ). slice_get texts n ≡ Some text) (sym (made p.position k p.key)) (position_here texts text p.position p.at)

    pub seen_texts_keep_keys : SeenTextsKeepKeys key_at number
    seen_texts_keep_keys o h before after pass text k had more = record {
      interned = interned;
      idle = λ keeping reply c legal.
          let p = position_of_key key_at (totals o before).texts text k has in
          let parts = legal_parts key_at o before c.past (subst (IsLegal key_at o) (sym c.begins) legal) in
          ⊎_elim (λ none. none) (λ (added : StoresAndAppends keeping text (events_of pass c.past)). absurd (none_appended key_at (totals o before) c.past pass p.position text added.0 p.at parts.1 added.2))
          (subst (λ (r : Result K LassoErrorKind). Makes (Intern keeping text) (Interned r) (events_of pass c.past)) (interned keeping reply c) c.makes);
      found = λ reply c. c.explained.4 ∙ there c.explained.0;
      contained = λ reply c. let p = position_of_key key_at (totals o (before ++ c.explained.0)).texts text k (there c.explained.0) in c.explained.4 ∙ ap is_some p.at;
      key_contained = λ reply c. c.explained.4 ∙ lt-ltb _ _ (slice_get_within (totals o (before ++ c.explained.0)).texts (number k) text (key_resolves (totals o (before ++ c.explained.0)).texts text k (there c.explained.0)));
      resolved = λ reply c. c.explained.4 ∙ key_resolves (totals o (before ++ c.explained.0)).texts text k (there c.explained.0);
    }
      where
        has : HasKey key_at o before text k
        has = has_key_later o h before text k had more

        there : (front : History) → HasKey key_at o (before ++ front) text k
        there front = has_key_later o before (before ++ front) text k has (front, refl)

        interned : (keeping : Keeping) (reply : Result K LassoErrorKind) → IsCall key_at o before after pass (Intern keeping text) (Interned reply) → reply ≡ Ok k
        interned keeping reply c = interned_there (totals o (before ++ c.explained.0)) keeping text k reply (there c.explained.0) c.explained.4

    pub answered_keys_resolve : AnsweredKeysResolve key_at number
    answered_keys_resolve o before after later end pass other keeping text k reply c more d =
        let has = (tells_keys o before after pass).interned keeping text k c in
        (seen_texts_keep_keys o after later end other text k has more).resolved reply d

    -- two keys of one list
    equal_there : (texts : List Text) (one other : Text) (k l : K) → key_of key_at texts one ≡ Some k → key_of key_at texts other ≡ Some l → (k ≡ l) ↔ (one ≡ other)
    equal_there texts one other k l has holds = (
      λ same. let read : Some one ≡ Some other = sym (key_resolves texts one k has) ∙ ap (λ (m : K). slice_get texts (number m)) same ∙ key_resolves texts other l holds in cc read,
      λ same. let found : Some k ≡ Some l = sym has ∙ ap (key_of key_at texts) same ∙ holds in cc found,
    )

    pub keys_are_equal_where_texts_are : KeysAreEqualWhereTextsAre key_at
    keys_are_equal_where_texts_are o h g one other k l (inl more) has holds = equal_there (totals o g).texts one other k l (has_key_later o h g one k has more) holds
    keys_are_equal_where_texts_are o h g one other k l (inr more) has holds = equal_there (totals o h).texts one other k l has (has_key_later o g h other l holds more)

  pub passes_share : PassesShare key_at
  passes_share one other same = record {
    met = λ text k more has. subst (λ (of : InternerId). HasKey key_at of.opening (seen one) text k) (sym same) (has_key_later other.of.opening (seen other) (seen one) text k has (history_past other.notes one.notes more));
    compared = ⊎_elim (λ more. inl (history_past one.notes other.notes more)) (λ more. inr (history_past other.notes one.notes more));
  }
