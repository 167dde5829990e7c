-- The turn word: while it has one value, no charge and no limit comes. So usage, limit, doubling size and the number of buckets stay, and
-- a bucket that had no room for some bytes has none for them later.
use Rattle.std.proofs.Common.{◌≡◌, ◌≢◌, ℕ, zero, suc, ◌+◌, ◌≤◌, ◌<◌, List, [], ◌∷◌, ◌++◌, length, length-append, refl, ap, sym, ◌∙◌, subst, arith, Option, Some, slice_get, inl, inr, append_assoc}
use Rattle.std.specs.Prelude.{IsSomeAnd}
use Rattle.std.specs.List.{AllByRecursion}
use Rattle.std.proofs.lemmas.List.Elements.{All-from_recursion}
use mathlib.Core.List.{IsPrefix}
use native.Mathlib.Decide.{ℕ_discrete}
use Rattle.lasso_log.specs.Buckets.{CountedBucket, with_taken, changed_at, HasNoRoom, bucket_size, doubling_after}
use Rattle.lasso_log.specs.History.{Event, Reserve, Charge, Append, Limit, History, Totals, totals, counted}
use Rattle.lasso_log.specs.Notes.{NoteView, history, state, bumped, worded, words_after, words_of, first_words, IsWord, IsWordWith}
use Rattle.lasso_log.specs.Book.{May, Moving, IsDone}
use Rattle.lasso_log.specs.SharedBuckets.{LacksRoom}
use Rattle.lasso_log.specs.Turns.{IsTurned, IsSameTurn, LackFrom, NoneHasRoom, IsPastLimit}
use Rattle.lasso_log.proofs.BucketWords.{elsewhere, just_here, one_behind}
use Rattle.lasso_log.proofs.Histories.{state_past}
use Rattle.lasso_log.proofs.Lengths.{one_more}
use Rattle.lasso_log.proofs.LogWords.{words_append, word_later}

-- every history has the turn word, at position 1 and with key 1
pub has_turns : (notes : List NoteView) → IsWord notes 1 1
has_turns notes = let r = word_later [] notes 1 1 0 (notes, refl) refl in (r.0, r.1)

-- ---- one bucket as the history counts it

bucket_grows : (s : Totals) (e : Event) (i : ℕ) (b : CountedBucket) → slice_get s.buckets i ≡ Some b → (m : ℕ) × (slice_get (counted s e).buckets i ≡ Some (with_taken m b))
bucket_grows s (Append text) i b at = let u : b.used ≡ b.used + 0 = omega arith in (0, at ∙ ap (λ (n : ℕ). Some (record b { used = n })) u)
bucket_grows s (Limit m) i b at = let u : b.used ≡ b.used + 0 = omega arith in (0, at ∙ ap (λ (n : ℕ). Some (record b { used = n })) u)
bucket_grows s (Charge size n) i b at = let u : b.used ≡ b.used + 0 = omega arith in (0, one_behind i b record { size = size; used = n } s.buckets at ∙ ap (λ (k : ℕ). Some (record b { used = k })) u)
bucket_grows s (Reserve j n) i b at = here (ℕ_discrete j i)
  where
    here : Dec (j ≡ i) → (m : ℕ) × (slice_get (changed_at j (with_taken n) s.buckets) i ≡ Some (with_taken m b))
    here (yes is) = (n, subst (λ (k : ℕ). slice_get (changed_at k (with_taken n) s.buckets) i ≡ Some (with_taken n b)) (sym is) (just_here (with_taken n) i b s.buckets at))
    here (no ne) = let u : b.used ≡ b.used + 0 = omega arith in (0, elsewhere (with_taken n) j i b s.buckets ne at ∙ ap (λ (k : ℕ). Some (record b { used = k })) u)

bucket_grown : (s : Totals) (h : History) (i : ℕ) (b : CountedBucket) → slice_get s.buckets i ≡ Some b → (m : ℕ) × (slice_get (totals s h).buckets i ≡ Some (with_taken m b))
bucket_grown s [] i b at = let u : b.used ≡ b.used + 0 = omega arith in (0, at ∙ ap (λ (n : ℕ). Some (record b { used = n })) u)
bucket_grown s (e ∷ h) i b at =
    let one = bucket_grows s e.1 i b at in let more = bucket_grown (counted s e.1) h i (with_taken one.0 b) one.1 in let u : b.used + one.0 + more.0 ≡ b.used + (one.0 + more.0) = omega arith in
    (one.0 + more.0, more.1 ∙ ap (λ (n : ℕ). Some (record b { used = n })) u)

found : (i : ℕ) (bs : List CountedBucket) (P : CountedBucket → Type 0) → IsSomeAnd (slice_get bs i) P → (b : CountedBucket) × (slice_get bs i ≡ Some b) × P b
found i [] P h = absurd h
found zero (b ∷ bs) P h = (b, refl, h)
found (suc i) (b ∷ bs) P h = found i bs P h

-- a bucket that has no room for n bytes has none later
pub lacks_later : (o : Totals) (v log : List NoteView) (i n : ℕ) → IsPrefix v log → LacksRoom (state o v) i n → LacksRoom (state o log) i n
lacks_later o v log i n begins lacks =
    let was = found i (state o v).buckets (λ (b : CountedBucket). b.size < b.used + n) lacks in
    let now = bucket_grown (state o v) (history begins.0) i was.0 was.1 in
    let all : totals (state o v) (history begins.0) ≡ state o log = sym (state_past o v begins.0) ∙ ap (state o) begins.1 in
    let at : slice_get (state o log).buckets i ≡ Some (with_taken now.0 was.0) = ap (λ (s : Totals). slice_get s.buckets i) (sym all) ∙ now.1 in
    let past = was.2 in subst (λ (q : Option CountedBucket). IsSomeAnd q (λ (b : CountedBucket). b.size < b.used + n)) (sym at) (omega (arith, past))

-- one bucket more that has no room, where none before it had any
pub lacks_one_more : (o : Totals) (v log : List NoteView) (count n : ℕ) → IsPrefix v log → NoneHasRoom (state o v) count n → LacksRoom (state o log) count n → NoneHasRoom (state o log) (count + 1) n
lacks_one_more o v log count n begins none here i low = by (ℕ_discrete i count)
  where
    by : Dec (i ≡ count) → LacksRoom (state o log) i n
    by (yes is) = subst (λ (k : ℕ). LacksRoom (state o log) k n) (sym is) here
    by (no ne) = lacks_later o v log i n begins (none i (omega (arith, low, ne)))

-- one bucket more that has no room, where none after it has any
pub lacks_one_less : (o : Totals) (v log : List NoteView) (first count n : ℕ) → IsPrefix v log → LackFrom (state o v) (first + 1) count n → LacksRoom (state o log) first n → LackFrom (state o log) first count n
lacks_one_less o v log first count n begins none here i high low = by (ℕ_discrete i first)
  where
    by : Dec (i ≡ first) → LacksRoom (state o log) i n
    by (yes is) = subst (λ (k : ℕ). LacksRoom (state o log) k n) (sym is) here
    by (no ne) = lacks_later o v log i n begins (none i (omega (arith, high, ne)) low)

each_lacks : (bs : List CountedBucket) (n : ℕ) → ((i : ℕ) → i < length bs → IsSomeAnd (slice_get bs i) (λ (b : CountedBucket). b.size < b.used + n)) → AllByRecursion (λ (b : CountedBucket). b.size < b.used + n) bs
each_lacks [] n each = tt
each_lacks (b ∷ bs) n each = (each zero (omega arith), each_lacks bs n (λ i low. each (suc i) (omega (arith, low))))

-- if each of the history's buckets lacks room, none has room
pub none_has_room : (s : Totals) (count n : ℕ) → count ≡ length s.buckets → NoneHasRoom s count n → HasNoRoom s.buckets n
none_has_room s count n all none = All-from_recursion (λ (b : CountedBucket). b.size < b.used + n) s.buckets (each_lacks s.buckets n (λ i low. none i (omega (arith, low, all))))

-- ---- while the turn word stays

second_stays : (j n : ℕ) (ws : List (ℕ × ℕ)) → slice_get (bumped (suc (suc j)) n ws) 1 ≡ slice_get ws 1
second_stays j n [] = refl
second_stays j n (x ∷ []) = refl
second_stays j n (x ∷ y ∷ ws) = refl

after_head : (ws : List (ℕ × ℕ)) → slice_get (bumped 0 1 ws) 1 ≡ slice_get ws 1
after_head [] = refl
after_head (x ∷ ws) = refl

one_turn : (k v : ℕ) (ws : List (ℕ × ℕ)) → slice_get ws 1 ≡ Some (k, v) → slice_get (bumped 1 1 ws) 1 ≡ Some (k, v + 1)
one_turn k v [] at = absurd (cc at)
one_turn k v (x ∷ []) at = absurd (cc at)
one_turn k v (x ∷ y ∷ ws) at = let is : y ≡ (k, v) = cc at in ap (λ (z : ℕ × ℕ). Some (z.0, z.1 + 1)) is

-- a word only grows: one event, and then any number
less_by : (ws : List (ℕ × ℕ)) (es : List NoteView) (ticket k v w : ℕ) (e : Event) → ((us : List (ℕ × ℕ)) (u : ℕ) → slice_get us 1 ≡ Some (k, u) → slice_get (words_after us es) 1 ≡ Some (k, w) → u ≤ w)
    → slice_get ws 1 ≡ Some (k, v) → slice_get (words_after (worded ws ticket e) es) 1 ≡ Some (k, w) → v ≤ w
less_by ws es ticket k v w (Reserve j n) rest at end = rest (bumped (suc (suc j)) n ws) v (second_stays j n ws ∙ at) end
less_by ws es ticket k v w (Append t) rest at end = rest (bumped 0 1 ws) v (after_head ws ∙ at) end
less_by ws es ticket k v w (Charge size n) rest at end = let more = rest (bumped 1 1 ws ++ (ticket, n) ∷ []) (v + 1) (one_behind 1 (k, v + 1) (ticket, n) (bumped 1 1 ws) (one_turn k v ws at)) end in omega (arith, more)
less_by ws es ticket k v w (Limit m) rest at end = let more = rest (bumped 1 1 ws) (v + 1) (one_turn k v ws at) end in omega (arith, more)

stays_less : (ws : List (ℕ × ℕ)) (es : List NoteView) (k v w : ℕ) → slice_get ws 1 ≡ Some (k, v) → slice_get (words_after ws es) 1 ≡ Some (k, w) → v ≤ w
stays_less ws [] k v w at end = let both : Some (k, v) ≡ Some (k, w) = sym at ∙ end in let pair : (k, v) ≡ (k, w) = cc both in let is : v ≡ w = ap (λ (y : ℕ × ℕ). y.1) pair in omega (arith, is)
stays_less ws (e ∷ es) k v w at end = less_by ws es e.ticket k v w e.event (λ us u a b. stays_less us es k u w a b) at end

pub length_changed : {A : Type 0} (j : ℕ) (f : A → A) (xs : List A) → length (changed_at j f xs) ≡ length xs
length_changed j f [] = refl
length_changed zero f (x ∷ xs) = refl
length_changed (suc j) f (x ∷ xs) = ap suc (length_changed j f xs)

same_by : (s : Totals) (ws : List (ℕ × ℕ)) (es : List NoteView) (ticket k v : ℕ) (e : Event)
    → ((r : Totals) (us : List (ℕ × ℕ)) → slice_get us 1 ≡ Some (k, v) → slice_get (words_after us es) 1 ≡ Some (k, v) → IsSameTurn r (totals r (history es)))
    → slice_get ws 1 ≡ Some (k, v) → slice_get (words_after (worded ws ticket e) es) 1 ≡ Some (k, v) → IsSameTurn s (totals (counted s e) (history es))
same_by s ws es ticket k v (Reserve j n) rest at end =
    let r = rest (counted s (Reserve j n)) (bumped (suc (suc j)) n ws) (second_stays j n ws ∙ at) end in
    record { usage = r.usage; limit = r.limit; doubling = r.doubling; count = r.count ∙ length_changed j (with_taken n) s.buckets }
same_by s ws es ticket k v (Append t) rest at end =
    let r = rest (counted s (Append t)) (bumped 0 1 ws) (after_head ws ∙ at) end in record { usage = r.usage; limit = r.limit; doubling = r.doubling; count = r.count }
same_by s ws es ticket k v (Charge size n) rest at end =
    absurd (let more = stays_less (bumped 1 1 ws ++ (ticket, n) ∷ []) es k (v + 1) v (one_behind 1 (k, v + 1) (ticket, n) (bumped 1 1 ws) (one_turn k v ws at)) end in omega (arith, more))
same_by s ws es ticket k v (Limit m) rest at end = absurd (let more = stays_less (bumped 1 1 ws) es k (v + 1) v (one_turn k v ws at) end in omega (arith, more))

same_while : (s : Totals) (ws : List (ℕ × ℕ)) (es : List NoteView) (k v : ℕ) → slice_get ws 1 ≡ Some (k, v) → slice_get (words_after ws es) 1 ≡ Some (k, v) → IsSameTurn s (totals s (history es))
same_while s ws [] k v at end = record { usage = refl; limit = refl; doubling = refl; count = refl }
same_while s ws (e ∷ es) k v at end = same_by s ws es e.ticket k v e.event (λ r us a b. same_while r us es k v a b) at end

-- at one value of the turn word
pub same_turn : (o : Totals) (v log : List NoteView) (n : ℕ) → IsPrefix v log → IsWordWith v 1 1 n → IsWordWith log 1 1 n → IsSameTurn (state o v) (state o log)
same_turn o v log n begins here there =
    let all : totals (state o v) (history begins.0) ≡ state o log = sym (state_past o v begins.0) ∙ ap (state o) begins.1 in
    let words : words_of log ≡ words_after (words_of v) begins.0 = ap words_of (sym begins.1) ∙ words_append first_words v begins.0 in
    subst (λ (s : Totals). IsSameTurn (state o v) s) all (same_while (state o v) (words_of v) begins.0 1 n here (ap (λ (ws : List (ℕ × ℕ)). slice_get ws 1) (sym words) ∙ there))

-- a log between two with one value of the turn word has that value too
pub turn_between : (v mid log : List NoteView) (n : ℕ) → IsPrefix v mid → IsPrefix mid log → IsWordWith v 1 1 n → IsWordWith log 1 1 n → IsWordWith mid 1 1 n
turn_between v mid log n first second here there =
    let at = has_turns mid in
    let up : n ≤ at.0 = stays_less (words_of v) first.0 1 n at.0 here (ap (λ (ws : List (ℕ × ℕ)). slice_get ws 1) (sym (words_append first_words v first.0) ∙ ap words_of first.1) ∙ at.1) in
    let down : at.0 ≤ n = stays_less (words_of mid) second.0 1 at.0 n at.1 (ap (λ (ws : List (ℕ × ℕ)). slice_get ws 1) (sym (words_append first_words mid second.0) ∙ ap words_of second.1) ∙ there) in
    let same : at.0 ≡ n = omega (arith, up, down) in subst (IsWordWith mid 1 1) same at.1

pub moving_limit : (ticket m value : ℕ) → Moving ticket (Limit m) 1 1 value
moving_limit ticket m value words = inl refl

pub moving_charge : (ticket size n : ℕ) → Moving ticket (Charge size n) 1 1 n
moving_charge ticket size n words = inr refl

module _ {Key : Type 0} (keys : ℕ → Option Key) where
  pub may_limit : (o : Totals) (v : List NoteView) (m old : ℕ) → May keys o v 1 1 old (Limit m)
  may_limit o v m old cells log kept begins word = (tt, kept.short)

  -- a bucket may come where none that was seen has room, and its size is that of the spine's numbers
  pub may_charge : (o : Totals) (v seen : List NoteView) (size n turns doubling usage limit count : ℕ) → IsTurned keys o v turns doubling usage limit count → IsPrefix v seen → NoneHasRoom (state o seen) count n → n ≢ 0
      → bucket_size doubling usage limit n ≡ Some size → usage + size ≤ limit → May keys o seen 1 1 turns (Charge size n)
  may_charge o v seen size n turns doubling usage limit count t past none some fits within cells log kept begins word =
      let all : IsPrefix v log = (past.0 ++ begins.0, sym (append_assoc v past.0 begins.0) ∙ (ap (λ l. l ++ begins.0) past.1 ∙ begins.1)) in
      let c = same_turn o v log turns all t.word word in
      let d : doubling ≡ (state o log).doubling = t.doubled ∙ sym c.doubling in let u : usage ≡ (state o log).usage = t.used ∙ sym c.usage in let l : limit ≡ (state o log).limit = t.most ∙ sym c.limit in
      let rooms : HasNoRoom (state o log).buckets n = none_has_room (state o log) count n (t.all ∙ sym c.count) (λ i low. lacks_later o seen log i n begins (none i low)) in (
        (some, rooms, ap (λ (x : ℕ). bucket_size x (state o log).usage (state o log).limit n) (sym d) ∙ (ap (λ (x : ℕ). bucket_size doubling x (state o log).limit n) (sym u) ∙ (ap (λ (x : ℕ). bucket_size doubling usage x n) (sym l) ∙ fits)), omega (arith, within, u, l)),
        kept.short,
      )

  module _ (o : Totals) (p : ℕ) (before given after : List NoteView) (e : Event) (old used_up : ℕ) (d : IsDone keys o p before given after e 1 1 old used_up) where
    state_is : state o after ≡ counted (state o d.mid) e
    state_is = ap (state o) d.last ∙ (one_more o d.mid d.note ∙ ap (counted (state o d.mid)) d.is)

    words_are : words_of after ≡ worded (words_of d.mid) used_up e
    words_are = ap words_of d.last ∙ (words_append first_words d.mid (d.note ∷ []) ∙ (ap (λ (t : ℕ). worded (words_of d.mid) t d.note.event) d.ticket ∙ ap (worded (words_of d.mid) used_up) d.is))

  -- the numbers after a limit
  pub limit_turned : (o : Totals) (p : ℕ) (before given after v : List NoteView) (m old used_up doubling usage limit count : ℕ) → IsDone keys o p before given after (Limit m) 1 1 old used_up → IsPrefix v given
      → IsTurned keys o v old doubling usage limit count → IsTurned keys o after (old + 1) doubling usage m count
  limit_turned o p before given after v m old used_up doubling usage limit count d past t =
      let all : IsPrefix v d.mid = (past.0 ++ d.begins.0, sym (append_assoc v past.0 d.begins.0) ∙ (ap (λ l. l ++ d.begins.0) past.1 ∙ d.begins.1)) in
      let c = same_turn o v d.mid old all t.word d.value in let st = state_is o p before given after (Limit m) old used_up d in record {
        word = ap (λ (ws : List (ℕ × ℕ)). slice_get ws 1) (words_are o p before given after (Limit m) old used_up d) ∙ one_turn 1 old (words_of d.mid) d.value;
        kept = d.kept;
        doubled = t.doubled ∙ (sym c.doubling ∙ sym (ap (λ (x : Totals). x.doubling) st));
        used = t.used ∙ (sym c.usage ∙ sym (ap (λ (x : Totals). x.usage) st));
        most = sym (ap (λ (x : Totals). x.limit) st);
        all = t.all ∙ (sym c.count ∙ sym (ap (λ (x : Totals). length x.buckets) st));
      }

  -- the numbers after a charge
  pub charge_turned : (o : Totals) (p : ℕ) (before given after v : List NoteView) (size n old used_up doubling usage limit count : ℕ) → IsDone keys o p before given after (Charge size n) 1 1 old used_up → IsPrefix v given
      → IsTurned keys o v old doubling usage limit count → IsTurned keys o after (old + 1) (doubling_after doubling usage limit n) (usage + size) limit (count + 1)
  charge_turned o p before given after v size n old used_up doubling usage limit count d past t =
      let all : IsPrefix v d.mid = (past.0 ++ d.begins.0, sym (append_assoc v past.0 d.begins.0) ∙ (ap (λ l. l ++ d.begins.0) past.1 ∙ d.begins.1)) in
      let c = same_turn o v d.mid old all t.word d.value in let st = state_is o p before given after (Charge size n) old used_up d in
      let ds : doubling ≡ (state o d.mid).doubling = t.doubled ∙ sym c.doubling in let us : usage ≡ (state o d.mid).usage = t.used ∙ sym c.usage in let ls : limit ≡ (state o d.mid).limit = t.most ∙ sym c.limit in
      let cs : count ≡ length (state o d.mid).buckets = t.all ∙ sym c.count in
      let more : length ((state o d.mid).buckets ++ record { size = size; used = n } ∷ []) ≡ length (state o d.mid).buckets + 1 = length-append (state o d.mid).buckets (record { size = size; used = n } ∷ []) in record {
        word = ap (λ (ws : List (ℕ × ℕ)). slice_get ws 1) (words_are o p before given after (Charge size n) old used_up d) ∙ one_behind 1 (1, old + 1) (used_up, n) (bumped 1 1 (words_of d.mid)) (one_turn 1 old (words_of d.mid) d.value);
        kept = d.kept;
        doubled = ap (λ (x : ℕ). doubling_after x usage limit n) ds ∙ (ap (λ (x : ℕ). doubling_after (state o d.mid).doubling x limit n) us ∙ (ap (λ (x : ℕ). doubling_after (state o d.mid).doubling (state o d.mid).usage x n) ls ∙ sym (ap (λ (x : Totals). x.doubling) st)));
        used = ap (λ (x : ℕ). x + size) us ∙ sym (ap (λ (x : Totals). x.usage) st);
        most = ls ∙ sym (ap (λ (x : Totals). x.limit) st);
        all = ap (λ (x : ℕ). x + 1) cs ∙ (sym more ∙ sym (ap (λ (x : Totals). length x.buckets) st));
      }

  -- bytes that are above the limit of the turns are past it at a log between the turns and one that has their turn word, if none had room before
  pub is_past_limit : (o : Totals) (v before mid after : List NoteView) (n len turns doubling usage limit count : ℕ) → IsTurned keys o v turns doubling usage limit count → IsPrefix v mid → IsPrefix before mid → IsPrefix mid after → IsWordWith after 1 1 turns
      → NoneHasRoom (state o before) count n → limit < usage + n → length (state o mid).texts ≡ len → IsPastLimit o before after len n
  is_past_limit o v before mid after n len turns doubling usage limit count t first was second there none above long =
      let here = turn_between v mid after turns first second t.word there in let c = same_turn o v mid turns first t.word here in record {
        notes = mid;
        past = was;
        begins = second;
        list = long;
        room = none_has_room (state o mid) count n (t.all ∙ sym c.count) (λ i low. lacks_later o before mid i n was (none i low));
        limit = omega (arith, above, t.used, t.most, c.usage, c.limit);
      }
