-- A plain call's reply was read off some totals: those of a history from the opening on. Their list begins with the opening's texts, and their
-- usage is at least the opening's. So a text of the opening keeps its position there, and a reply that lacks it was read off no totals.
use Rattle.std.proofs.Common.{◌≡◌, ℕ, suc, ◌≤◌, true, false, List, [], ◌∷◌, ◌++◌, length, Option, Some, None, Result, Ok, Err, refl, sym, ap, ◌∙◌, subst, ⊎_elim, arith, nat_eq, nat_lt}
use Rattle.std.proofs.lemmas.Bool.{lt-ltb, true≢false}
use Rattle.std.proofs.lemmas.Bool.Decides.{nat_tests}
use Rattle.std.proofs.lemmas.Option.{none-some}
use Rattle.std.specs.Prelude.{option_and_then, is_some}
use Rattle.lasso_parts.specs.Texts.{Text, position_of}
use Rattle.lasso_parts.specs.declared.util.LassoErrorKind.{LassoErrorKind}
use Rattle.lasso_parts.specs.declared.util.LassoErrorKind.TheVariants.{MemoryLimitReached, KeySpaceExhaustion, FailedAllocation}
use Rattle.lasso_log.proofs.Legal.{list_grows}
use Rattle.lasso_log.specs.Calls.{IsPlainCall}
use Rattle.lasso_log.specs.History.{Reserve, Charge, Append, Limit, History, Totals, totals, counted}
use Rattle.lasso_log.specs.Replies.{Static, Question, Intern, Get, Contains, ContainsKey, Resolve, Len, IsEmpty, Usage, Iterate, Strings, Serialize, Freeze, Reply, Interned, Found, Flag, Resolved, Number, Pairs, Listed, IsWalkOf, MayCopy, MayReply}
use Rattle.lasso_shared.specs.Example.{three_keys, a, bc, ddd}
use Rattle.lasso_shared.specs.ExampleCalls.{opening, opening_with_texts}
use Rattle.lasso_shared.specs.ExamplePlain.{opening_with_one, opening_turned}
use Rattle.lasso_shared.proofs.CallerLaws.{position_past, read_past}
use Rattle.lasso_shared.proofs.laws.wrong_plain_calls_are_none.Goals as goal

usage_grows : (s : Totals) (h : History) → s.usage ≤ (totals s h).usage
usage_grows s [] = omega arith
usage_grows s ((p, Reserve bucket n) ∷ h) = usage_grows (counted s (Reserve bucket n)) h
usage_grows s ((p, Charge size n) ∷ h) = let more = usage_grows (counted s (Charge size n)) h in omega (arith, more)
usage_grows s ((p, Append text) ∷ h) = usage_grows (counted s (Append text)) h
usage_grows s ((p, Limit limit) ∷ h) = usage_grows (counted s (Limit limit)) h

-- what the list of the totals meets is met by the opening's texts and more
begins : (s : Totals) (h : History) (P : List Text → Type 0) → P (totals s h).texts → (rest : List Text) × P (s.texts ++ rest)
begins s h P p = let more = list_grows s h in (more.0, subst P (sym more.1) p)

-- the totals that a reply was read off
there : (question : Question) (reply : Reply ℕ) → IsPlainCall three_keys opening_with_texts question reply → (h : History) × MayReply three_keys (totals opening_with_texts h) question reply
there question reply x = (x.call.explained.0, x.call.explained.4)

-- the first text keeps its position
first : (h : History) → position_of (totals opening_with_texts h).texts bc ≡ Some 0
first h = position_past (bc ∷ a ∷ []) (totals opening_with_texts h).texts bc 0 (list_grows opening_with_texts h) refl

-- and no call finds that the list lacks it
not_lacked : (h : History) → position_of (totals opening_with_texts h).texts bc ≡ None → ⊥
not_lacked h lacks = none-some 0 (sym lacks ∙ first h)

-- a list that may be copied is the present one
copied_whole : (texts copy : List Text) → MayCopy texts (Ok copy) → copy ≡ texts
copied_whole texts copy may = ⊎_elim (λ same. cc same) (λ other. absurd (cc other)) may

-- a list that is read whole is the present one
abbrev whole : List Text → Result (List Text) LassoErrorKind
whole texts = Ok texts

read_whole : (list texts : List Text) → whole list ≡ whole texts → list ≡ texts
read_whole list texts same = cc same

not_empty : (n : ℕ) → true ≡ nat_eq (suc n) 0 → ⊥
not_empty n is = true≢false (is ∙ grind (arith, nat_tests))

-- copying fails only out of memory
not_refused : (texts : List Text) (error : LassoErrorKind) → (error ≡ FailedAllocation → ⊥) → MayCopy texts (Err error) → ⊥
not_refused texts error other may = ⊎_elim (λ same. absurd (cc same)) (λ same. other (cc same)) may

not_memory : MemoryLimitReached ≡ FailedAllocation → ⊥
not_memory same = absurd (cc same)

not_keys : KeySpaceExhaustion ≡ FailedAllocation → ⊥
not_keys same = absurd (cc same)

-- a type without keys has none for any position
no_key : (keys : ℕ → Option ℕ) → ((n : ℕ) → keys n ≡ None) → (position : Option ℕ) → option_and_then keys position ≡ None
no_key keys none None = refl
no_key keys none (Some p) = none p

pub returns : goal.returns
returns c = record {
  length_halved = λ x. let r = there Len (Number 1) x in let l = begins opening_with_texts r.0 (λ texts. 1 ≡ length texts) r.1 in absurd (cc l.1);
  too_small_for_the_texts = λ n small x.
      let r = there Len (Number n) x in
      let l = begins opening_with_texts r.0 (λ texts. n ≡ length texts) r.1 in
      let long : n ≡ suc (suc (length l.0)) = l.1 in
      absurd (omega (arith, small, long));
  two_are_none = λ x. let r = there IsEmpty (Flag true) x in let l = begins opening_with_texts r.0 (λ texts. true ≡ nat_eq (length texts) 0) r.1 in not_empty (suc (length l.0)) l.1;
  one_is_none = λ x. let l = begins opening_with_one x.call.explained.0 (λ texts. true ≡ nat_eq (length texts) 0) x.call.explained.4 in not_empty (length l.0) l.1;
  usage_halved = λ x.
      let r = there Usage (Number 2) x in
      let half : 2 ≡ (totals opening_with_texts r.0).usage = r.1 in
      let whole : 4 ≤ (totals opening_with_texts r.0).usage = usage_grows opening_with_texts r.0 in
      absurd (omega (arith, half, whole));
  not_found = λ x. let r = there (Get bc) (Found None) x in none-some 0 (r.1 ∙ ap (option_and_then three_keys) (first r.0));
  not_contained = λ x. let r = there (Contains bc) (Flag false) x in true≢false (sym (r.1 ∙ ap is_some (first r.0)));
  key_not_contained = λ x.
      let r = there (ContainsKey 1) (Flag false) x in
      let l = begins opening_with_texts r.0 (λ texts. false ≡ nat_lt 1 (length texts)) r.1 in
      true≢false (sym (l.1 ∙ lt-ltb 1 (suc (suc (length l.0))) (omega arith)));
  not_resolved = λ x.
      let r = there (Resolve 0) (Resolved None) x in
      none-some bc (r.1 ∙ read_past (bc ∷ a ∷ []) (totals opening_with_texts r.0).texts bc 0 (list_grows opening_with_texts r.0) refl);
  other_key = λ keeping x.
      let r = there (Intern keeping bc) (Interned (Ok 2)) x in
      let same : Some 2 ≡ Some 0 = sym r.1 ∙ ap (option_and_then three_keys) (first r.0) in
      absurd (cc same);
  present_past_limit = λ keeping x. let r = there (Intern keeping bc) (Interned (Err MemoryLimitReached)) x in not_lacked r.0 r.1.0;
  present_without_key = λ keeping x. let r = there (Intern keeping bc) (Interned (Err KeySpaceExhaustion)) x in not_lacked r.0 r.1.0;
  present_without_memory = λ keeping x. let r = there (Intern keeping bc) (Interned (Err FailedAllocation)) x in not_lacked r.0 r.1;
  static_past_limit = λ x. let copied = (there (Intern Static ddd) (Interned (Err MemoryLimitReached)) x).1.1 in absurd (grind (arith, copied));
  walk_without_first = λ x. let r = there Iterate (Pairs ((1, a) ∷ [])) x in let l = begins opening_with_texts r.0 (λ texts. IsWalkOf three_keys texts ((1, a) ∷ [])) r.1 in absurd (cc l.1);
  list_without_first = λ x. let r = there Strings (Listed (Ok (a ∷ []))) x in let l = begins opening_with_texts r.0 (λ texts. a ∷ [] ≡ texts) (read_whole (a ∷ []) (totals opening_with_texts r.0).texts r.1) in absurd (cc l.1);
  other_list = λ x. let r = there Strings (Listed (Ok (ddd ∷ a ∷ []))) x in let l = begins opening_with_texts r.0 (λ texts. ddd ∷ a ∷ [] ≡ texts) (read_whole (ddd ∷ a ∷ []) (totals opening_with_texts r.0).texts r.1) in absurd (cc l.1);
  two_openings = λ list x y.
      let h = x.call.explained.0 in
      let turned = begins opening_turned h (λ texts. list ≡ texts) (read_whole list (totals opening_turned h).texts x.call.explained.4) in
      let r = there Strings (Listed (Ok list)) y in
      let l = begins opening_with_texts r.0 (λ texts. list ≡ texts) (read_whole list (totals opening_with_texts r.0).texts r.1) in
      let same = sym turned.1 ∙ l.1 in
      absurd (cc same);
  written_empty = λ x.
      let r = there Serialize (Listed (Ok [])) x in
      let l = begins opening_with_texts r.0 (λ texts. [] ≡ texts) (copied_whole (totals opening_with_texts r.0).texts [] r.1) in
      absurd (cc l.1);
  written_as_null = λ list same. absurd (cc same);
  frozen_empty = λ x.
      let r = there Freeze (Listed (Ok [])) x in
      let l = begins opening_with_texts r.0 (λ texts. [] ≡ texts) (copied_whole (totals opening_with_texts r.0).texts [] r.1) in
      absurd (cc l.1);
  frozen_past_limit = λ x. let r = there Freeze (Listed (Err MemoryLimitReached)) x in not_refused (totals opening_with_texts r.0).texts MemoryLimitReached not_memory r.1;
  frozen_without_key = λ x. let r = there Freeze (Listed (Err KeySpaceExhaustion)) x in not_refused (totals opening_with_texts r.0).texts KeySpaceExhaustion not_keys r.1;
  filled_without_key = λ x.
      let s = totals opening x.calls.2.explained.0 in
      none-some x.calls.0 (sym (no_key (λ n. None) (λ n. refl) (position_of s.texts a)) ∙ x.calls.2.explained.4);
}
