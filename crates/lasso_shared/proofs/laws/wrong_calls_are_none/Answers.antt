-- What is past the beginning is what the end has more. So own events are those, and where there is none the reply is read at the beginning.
use Rattle.std.proofs.Common.{◌≡◌, ℕ, List, [], ◌∷◌, ◌++◌, None, Ok, Err, refl, sym, ap, ◌∙◌, subst, ⊎_elim, arith, append-nil}
use Rattle.std.proofs.lemmas.List.{append_cancel_left}
use Rattle.std.proofs.lemmas.Option.{none-some}
use Rattle.std.proofs.lemmas.Bool.{true≢false}
use Rattle.std.proofs.lemmas.Map.Keys.{apart_from_distinct}
use Rattle.std.specs.Str.{bytes_eq}
use Rattle.lasso_log.specs.Buckets.{CountedBucket}
use Rattle.lasso_log.specs.History.{Append, Limit, History, Totals, totals}
use Rattle.lasso_parts.specs.Texts.{Text}
use Rattle.lasso_parts.specs.declared.util.LassoErrorKind.TheVariants.{MemoryLimitReached, KeySpaceExhaustion, FailedAllocation}
use Rattle.lasso_log.specs.Replies.{Copied, Static, Question, Intern, Get, Iterate, Strings, Serialize, Freeze, SetLimit, Reply, Interned, Found, Done, Pairs, Listed, MayCopy, MayReply}
use Rattle.lasso_log.specs.Calls.{StoresAndAppends, Makes, events_of}
use Rattle.lasso_shared.specs.Example.{three_keys, a, bc, ddd, e}
use Rattle.lasso_shared.specs.ExampleCalls.{opening, two, three, wider, Calls}
use Rattle.lasso_shared.proofs.laws.wrong_calls_are_none.Goals as goal

-- the own events are those that the end has more
made : (h more : History) (pass : ℕ) (question : Question) (reply : Reply ℕ) → Calls h (h ++ more) pass question reply → Makes question reply (events_of pass more)
made h more pass question reply c = subst (λ (p : History). Makes question reply (events_of pass p)) (append_cancel_left h c.past more c.begins) c.makes

none_front : (front back : History) → front ++ back ≡ [] → front ≡ []
none_front [] back e = refl
none_front (x ∷ front) back e = absurd (cc e)

-- where the end has nothing more, the reply is read at the beginning
read_there : (h : History) (pass : ℕ) (question : Question) (reply : Reply ℕ) → Calls h h pass question reply → MayReply three_keys (totals opening h) question reply
read_there h pass question reply c =
    let past = append_cancel_left h c.past [] (c.begins ∙ sym (append-nil h)) in
    let front = none_front c.explained.0 c.explained.1 (c.explained.2 ∙ past) in
    subst (λ (g : History). MayReply three_keys (totals opening g) question reply) (ap (λ (f : History). h ++ f) front ∙ append-nil h) c.explained.4

-- two calls that set a limit and make the same event set the same one
same_limit : (m n : ℕ) → Limit m ∷ [] ≡ Limit n ∷ [] → m ≡ n
same_limit m n same = cc

-- the first of the buckets
abbrev first_bucket : List CountedBucket → CountedBucket
first_bucket [] = record { size = 0; used = 0 }
first_bucket (b ∷ bs) = b

twice : StoresAndAppends Static a (Append a ∷ Append a ∷ []) → ⊥
twice added = absurd (cc (ap (λ es. es ++ Append a ∷ []) added.1, added.2))

-- where nothing comes after the step at which the reply is read, it is read at the end
read_last : (after : History) (question : Question) (reply : Reply ℕ) (x : Calls [] after 9 question reply) → x.explained.1 ≡ [] → MayReply three_keys (totals opening after) question reply
read_last after question reply x none =
    let front = sym (append-nil x.explained.0) ∙ ap (λ (back : History). x.explained.0 ++ back) (sym none) ∙ x.explained.2 ∙ x.begins in
    subst (λ (h : History). MayReply three_keys (totals opening h) question reply) front x.explained.4

-- a list that may be copied is the present one
copied_whole : (texts copy : List Text) → MayCopy texts (Ok copy) → copy ≡ texts
copied_whole texts copy may = ⊎_elim (λ same. cc same) (λ other. absurd (cc other)) may

pub returns : goal.returns
returns c = record {
  dropped = λ x. none-some 0 (read_there [] 7 (Intern Static a) (Interned (Ok 0)) x);
  doubled = λ x. ⊎_elim (λ es. absurd (cc es)) twice (made [] ((7, Append a) ∷ (7, Append a) ∷ []) 7 (Intern Static a) (Interned (Ok 0)) x);
  refusal_appends = λ x. absurd (cc (made two ((9, Append ddd) ∷ []) 9 (Intern Copied ddd) (Interned (Err MemoryLimitReached)) x));
  static_refused = λ x. let copied = (read_there two 9 (Intern Static ddd) (Interned (Err MemoryLimitReached)) x).1 in absurd (grind (arith, copied));
  keys_before_limit = λ x. ⊎_elim (λ stored. absurd (cc stored.1)) (λ stored. absurd (cc stored.1)) (made three [] 9 (Intern Copied e) (Interned (Err KeySpaceExhaustion)) x);
  opening_read = λ x. none-some 0 (read_there two 9 (Get bc) (Found None) x);
  old_list = λ x. let same = read_last two Strings (Listed (Ok [])) x x.explained.3 in absurd (cc same);
  old_walk = λ x. let same = read_last two Iterate (Pairs []) x x.explained.3 in absurd (cc same);
  old_json = λ x. let same = copied_whole (totals opening two).texts [] (read_last two Serialize (Listed (Ok [])) x x.explained.3) in absurd (cc same);
  old_frozen = λ x. let same = copied_whole (totals opening two).texts [] (read_last two Freeze (Listed (Ok [])) x x.explained.3) in absurd (cc same);
  limit_dropped = λ x. absurd (cc (made two [] 9 (SetLimit 100) Done x));
  limit_doubled = λ x. absurd (cc (made two ((9, Limit 100) ∷ (9, Limit 100) ∷ []) 9 (SetLimit 100) Done x));
  limit_other = λ x. let same = same_limit 100 7 (made two ((9, Limit 100) ∷ []) 9 (SetLimit 7) Done x) in absurd (omega (arith, same));
  bucket_has_room = λ x. let full = (read_there two 9 (Intern Copied e) (Interned (Err MemoryLimitReached)) x).3 0 (record { size = 2; used = 1 }) (omega arith) in absurd (omega (arith, full));
  limit_leaves_room = λ x. let past = (read_there wider 9 (Intern Copied ddd) (Interned (Err MemoryLimitReached)) x).4 in absurd (omega (arith, past));
  empty_refused = λ x. (read_there two 9 (Intern Copied []) (Interned (Err MemoryLimitReached)) x).2 refl;
  there_without_key = λ x. none-some 1 (sym (read_there three 9 (Intern Static a) (Interned (Err KeySpaceExhaustion)) x).0);
  there_without_memory = λ x. none-some 1 (sym (read_there two 9 (Intern Copied a) (Interned (Err FailedAllocation)) x));
  there_past_limit = λ x. none-some 1 (sym (read_there two 9 (Intern Copied a) (Interned (Err MemoryLimitReached)) x).0);
  key_is_left = λ x. none-some 2 (sym (read_there two 9 (Intern Static ddd) (Interned (Err KeySpaceExhaustion)) x).1);
  forgotten = λ x. absurd (cc x.begins);
  charged_early = λ x. let full = x.0.1 0 (record { size = 2; used = 0 }) (omega arith) in absurd (omega (arith, full));
  appended_twice = λ x. none-some 0 (sym x.1.0.0);
  opened_twice = λ o. true≢false (apart_from_distinct bytes_eq (a ∷ a ∷ []) 0 1 [] o.distinct (omega arith) (omega arith));
  opened_keyless = λ o. true≢false (sym (o.fits 3 (omega arith)));
  opened_overfull = λ o.
      let same = ap (λ (t : Totals). first_bucket t.buckets) o.bucket.4 in
      let within = o.bucket.3 in
      absurd (omega (arith, ap (λ (b : CountedBucket). b.size) same, ap (λ (b : CountedBucket). b.used) same, within));
  opened_without_bucket = λ o.
      let same = ap (λ (t : Totals). first_bucket t.buckets) o.bucket.4 in
      o.bucket.2 (sym (ap (λ (b : CountedBucket). b.size) same));
}
