-- A bucket of a history: by as much as its word has grown since the bucket was seen, so have the bytes that the history counts, and
-- those that the book has given out.
--
-- A word, a counted bucket and a lent one have one position, and each event changes the three alike: a
-- reservation in this bucket adds as much to each, and any other event leaves them, since a charge puts its
-- bucket last. So whoever knows the bucket in a beginning of the log knows it in the whole log, with another
-- value of the word, which is then the one that is found.
use Rattle.std.proofs.Common.{◌≡◌, ◌≢◌, ℕ, zero, suc, ◌+◌, ◌≤◌, ◌<◌, List, [], ◌∷◌, ◌++◌, refl, ap, sym, ◌∙◌, subst, arith, Option, Some, None, slice_get, inl, inr}
use Rattle.std.specs.Prelude.{IsSomeAnd}
use Rattle.std.specs.List.{AllByRecursion}
use Rattle.std.proofs.lemmas.List.Elements.{recursion_from_All}
use mathlib.Core.List.{IsPrefix}
use native.Mathlib.Decide.{ℕ_discrete}
use Rattle.logbook.specs.Pages.{Cell}
use Rattle.lasso_log.specs.Buckets.{CountedBucket, with_taken, changed_at}
use Rattle.lasso_log.specs.History.{Event, Reserve, Charge, Append, Limit, Totals, totals, counted}
use Rattle.lasso_log.specs.Notes.{NoteView, history, state, bumped, worded, words_after, words_of, first_words, IsWordWith, lent_by, lent_after, bucket_in, lent_shown}
use Rattle.lasso_log.specs.LentBuckets.{LentBucket, TakesBytesAt, more_taken}
use Rattle.lasso_log.specs.Events.{bucket_at}
use Rattle.lasso_log.specs.SharedBuckets.{Stands, StandsIn, IsBucketAt, HasTaken, LacksRoom}
use Rattle.lasso_log.specs.Book.{KeepsRule, May, Lets, Moving, MovesBy, shown_of}
use Rattle.lasso_log.proofs.Histories.{state_past}
use Rattle.lasso_log.proofs.Legal.{holds_of_history}
use Rattle.lasso_log.proofs.Lengths.{lent_more, one_more}
use Rattle.lasso_log.proofs.LogWords.{words_append}

-- ---- lists of which one item changes, or which have one more

pub elsewhere : {A : Type 0} (f : A → A) (i j : ℕ) (x : A) (xs : List A) → i ≢ j → slice_get xs j ≡ Some x → slice_get (changed_at i f xs) j ≡ Some x
elsewhere f i j x [] ne at = absurd (cc at)
elsewhere f zero zero x (y ∷ xs) ne at = absurd (ne refl)
elsewhere f zero (suc j) x (y ∷ xs) ne at = at
elsewhere f (suc i) zero x (y ∷ xs) ne at = at
elsewhere f (suc i) (suc j) x (y ∷ xs) ne at = elsewhere f i j x xs (λ same. ne (ap suc same)) at

pub just_here : {A : Type 0} (f : A → A) (j : ℕ) (x : A) (xs : List A) → slice_get xs j ≡ Some x → slice_get (changed_at j f xs) j ≡ Some (f x)
just_here f j x [] at = absurd (cc at)
just_here f zero x (y ∷ xs) at = let is : y ≡ x = cc at in ap (λ z. Some (f z)) is
just_here f (suc j) x (y ∷ xs) at = just_here f j x xs at

pub one_behind : {A : Type 0} (j : ℕ) (x y : A) (xs : List A) → slice_get xs j ≡ Some x → slice_get (xs ++ y ∷ []) j ≡ Some x
one_behind j x y [] at = absurd (cc at)
one_behind zero x y (z ∷ xs) at = at
one_behind (suc j) x y (z ∷ xs) at = one_behind j x y xs at

-- ---- one event, and then any number

-- the three of a bucket, each with `n` bytes more
abbrev Grown : List (ℕ × ℕ) → List CountedBucket → List LentBucket → ℕ → ℕ → ℕ → CountedBucket → LentBucket → Type 0
Grown words counted lent position key value b x = (m : ℕ) × Stands words counted lent position key (value + m) (with_taken m b) (more_taken m x)

as_before : (words : List (ℕ × ℕ)) (counted : List CountedBucket) (lent : List LentBucket) (position key value : ℕ) (b : CountedBucket) (x : LentBucket) → Stands words counted lent position key value b x → Grown words counted lent position key value b x
as_before words counted lent position key value b x at =
    let v : value ≡ value + 0 = omega arith in let u : b.used ≡ b.used + 0 = omega arith in let w : x.used ≡ x.used + 0 = omega arith in
    (0, record { word = at.word ∙ ap (λ (n : ℕ). Some (key, n)) v; counted = at.counted ∙ ap (λ (n : ℕ). Some (record b { used = n })) u; lent = at.lent ∙ ap (λ (n : ℕ). Some (record x { used = n })) w })

not_first_two : (i position : ℕ) → i < 2 → i ≢ suc (suc position)
not_first_two i position low same = absurd (omega (arith, low, same))

by_event : (words : List (ℕ × ℕ)) (s : Totals) (lent : List LentBucket) (position key value ticket : ℕ) (b : CountedBucket) (x : LentBucket) (e : Event) (own : List LentBucket)
    → Stands words s.buckets lent position key value b x → Grown (worded words ticket e) (counted s e).buckets (lent_by lent e own) position key value b x
by_event words s lent position key value ticket b x (Append text) own at =
    as_before (bumped 0 1 words) s.buckets lent position key value b x record { word = elsewhere (λ w. (w.0, w.1 + 1)) 0 (suc (suc position)) (key, value) words (not_first_two 0 position (omega arith)) at.word; counted = at.counted; lent = at.lent }
by_event words s lent position key value ticket b x (Limit m) own at =
    as_before (bumped 1 1 words) s.buckets lent position key value b x record { word = elsewhere (λ w. (w.0, w.1 + 1)) 1 (suc (suc position)) (key, value) words (not_first_two 1 position (omega arith)) at.word; counted = at.counted; lent = at.lent }
by_event words s lent position key value ticket b x (Charge size n) own at =
    as_before (bumped 1 1 words ++ (ticket, n) ∷ []) (s.buckets ++ record { size = size; used = n } ∷ []) (lent ++ record (bucket_in own) { size = size; used = n } ∷ []) position key value b x record {
      word = one_behind (suc (suc position)) (key, value) (ticket, n) (bumped 1 1 words) (elsewhere (λ w. (w.0, w.1 + 1)) 1 (suc (suc position)) (key, value) words (not_first_two 1 position (omega arith)) at.word);
      counted = one_behind position b record { size = size; used = n } s.buckets at.counted;
      lent = one_behind position x (record (bucket_in own) { size = size; used = n }) lent at.lent;
    }
by_event words s lent position key value ticket b x (Reserve i n) own at = here (ℕ_discrete i position)
  where
    here : Dec (i ≡ position) → Grown (bumped (suc (suc i)) n words) (changed_at i (with_taken n) s.buckets) (changed_at i (more_taken n) lent) position key value b x
    here (yes is) = subst (λ (j : ℕ). Grown (bumped (suc (suc j)) n words) (changed_at j (with_taken n) s.buckets) (changed_at j (more_taken n) lent) position key value b x) (sym is) (
      n,
      record {
        word = just_here (λ w. (w.0, w.1 + n)) (suc (suc position)) (key, value) words at.word;
        counted = just_here (with_taken n) position b s.buckets at.counted;
        lent = just_here (more_taken n) position x lent at.lent;
      },
    )
    here (no ne) = as_before (bumped (suc (suc i)) n words) (changed_at i (with_taken n) s.buckets) (changed_at i (more_taken n) lent) position key value b x record {
      word = elsewhere (λ w. (w.0, w.1 + n)) (suc (suc i)) (suc (suc position)) (key, value) words (λ same. ne (omega (arith, same))) at.word;
      counted = elsewhere (with_taken n) i position b s.buckets ne at.counted;
      lent = elsewhere (more_taken n) i position x lent ne at.lent;
    }

by_events : (words : List (ℕ × ℕ)) (s : Totals) (lent : List LentBucket) (es : List NoteView) (position key value : ℕ) (b : CountedBucket) (x : LentBucket)
    → Stands words s.buckets lent position key value b x → Grown (words_after words es) (totals s (history es)).buckets (lent_after lent es) position key value b x
by_events words s lent [] position key value b x at = as_before words s.buckets lent position key value b x at
by_events words s lent (e ∷ es) position key value b x at =
    let one = by_event words s lent position key value e.ticket b x e.event e.lent at in
    let more = by_events (worded words e.ticket e.event) (counted s e.event) (lent_by lent e.event e.lent) es position key (value + one.0) (with_taken one.0 b) (more_taken one.0 x) one.1 in
    let v : value + one.0 + more.0 ≡ value + (one.0 + more.0) = omega arith in let u : b.used + one.0 + more.0 ≡ b.used + (one.0 + more.0) = omega arith in let w : x.used + one.0 + more.0 ≡ x.used + (one.0 + more.0) = omega arith in (
      one.0 + more.0,
      record {
        word = more.1.word ∙ ap (λ (n : ℕ). Some (key, n)) v;
        counted = more.1.counted ∙ ap (λ (n : ℕ). Some (record b { used = n })) u;
        lent = more.1.lent ∙ ap (λ (n : ℕ). Some (record x { used = n })) w;
      },
    )

lent_past : (lent : List LentBucket) (v rest : List NoteView) → lent_after lent (v ++ rest) ≡ lent_after (lent_after lent v) rest
lent_past lent [] rest = refl
lent_past lent (e ∷ v) rest = lent_past (lent_by lent e.event e.lent) v rest

-- ---- the bucket of a beginning in a longer log; `f` is the log's first note

pub bucket_later : (f : NoteView) (v log : List NoteView) (position key base size : ℕ) (numbers : List ℕ) → IsPrefix v log → IsBucketAt f v position key base size numbers → IsBucketAt f log position key base size numbers
bucket_later f v log position key base size numbers begins at =
    let rest = begins.0 in let b : CountedBucket = record { size = size; used = base + at.value } in let x : LentBucket = bucket_at numbers size (base + at.value) in
    let more = by_events (words_of v) (state f.opening v) (lent_after f.lent v) rest position key at.value b x at.stands in
    let words : words_after (words_of v) rest ≡ words_of log = sym (words_append first_words v rest) ∙ ap words_of begins.1 in
    let sums : totals (state f.opening v) (history rest) ≡ state f.opening log = sym (state_past f.opening v rest) ∙ ap (state f.opening) begins.1 in
    let lent : lent_after (lent_after f.lent v) rest ≡ lent_after f.lent log = sym (lent_past f.lent v rest) ∙ ap (lent_after f.lent) begins.1 in
    let all : base + at.value + more.0 ≡ base + (at.value + more.0) = omega arith in record {
      value = at.value + more.0;
      stands = record {
        word = ap (λ (ws : List (ℕ × ℕ)). slice_get ws (suc (suc position))) (sym words) ∙ more.1.word;
        counted = ap (λ (s : Totals). slice_get s.buckets position) (sym sums) ∙ more.1.counted ∙ ap (λ (n : ℕ). Some (record b { used = n })) all;
        lent = ap (λ (bs : List LentBucket). slice_get bs position) (sym lent) ∙ more.1.lent ∙ ap (λ (n : ℕ). Some (record x { used = n })) all;
      };
    }

-- where its word has this value
pub bucket_with : (f : NoteView) (log : List NoteView) (position key base size n : ℕ) (numbers : List ℕ) → IsBucketAt f log position key base size numbers → IsWordWith log (suc (suc position)) key n
    → StandsIn f log position key n record { size = size; used = base + n } (bucket_at numbers size (base + n))
bucket_with f log position key base size n numbers at word =
    let both : Some (key, at.value) ≡ Some (key, n) = sym at.stands.word ∙ word in
    let pair : (key, at.value) ≡ (key, n) = cc both in
    let is : at.value ≡ n = ap (λ (y : ℕ × ℕ). y.1) pair in
    subst (λ (m : ℕ). StandsIn f log position key m record { size = size; used = base + m } (bucket_at numbers size (base + m))) is at.stands

-- ---- what its word tells

pub has_taken : (f : NoteView) (v log : List NoteView) (position key base size n : ℕ) (numbers : List ℕ) → IsPrefix v log → IsBucketAt f v position key base size numbers → IsWordWith log (suc (suc position)) key n
    → HasTaken (state f.opening log) position (base + n)
has_taken f v log position key base size n numbers begins at word =
    let here = bucket_with f log position key base size n numbers (bucket_later f v log position key base size numbers begins at) word in
    subst (λ (o : Option CountedBucket). IsSomeAnd o (λ (b : CountedBucket). b.used ≡ base + n)) (sym here.counted) refl

pub lacks_room : (f : NoteView) (v log : List NoteView) (position key base size n bytes : ℕ) (numbers : List ℕ) → IsPrefix v log → IsBucketAt f v position key base size numbers → IsWordWith log (suc (suc position)) key n
    → size < base + n + bytes → LacksRoom (state f.opening log) position bytes
lacks_room f v log position key base size n bytes numbers begins at word past =
    let here = bucket_with f log position key base size n numbers (bucket_later f v log position key base size numbers begins at) word in
    subst (λ (o : Option CountedBucket). IsSomeAnd o (λ (b : CountedBucket). b.size < b.used + bytes)) (sym here.counted) past

-- what a reservation leaves, `e` being its note
pub taken_more : (f : NoteView) (v mid after : List NoteView) (e : NoteView) (position key base size old n : ℕ) (numbers : List ℕ) → IsPrefix v mid → IsBucketAt f v position key base size numbers → IsWordWith mid (suc (suc position)) key old
    → e.event ≡ Reserve position n → after ≡ mid ++ e ∷ [] → HasTaken (state f.opening after) position (base + old + n)
taken_more f v mid after e position key base size old n numbers begins at word is last =
    let here = bucket_with f mid position key base size old numbers (bucket_later f v mid position key base size numbers begins at) word in
    let b : CountedBucket = record { size = size; used = base + old } in
    let buckets : (state f.opening after).buckets ≡ changed_at position (with_taken n) (state f.opening mid).buckets =
    ap (λ (l : List NoteView). (state f.opening l).buckets) last ∙ (ap (λ (s : Totals). s.buckets) (one_more f.opening mid e) ∙ ap (λ (d : Event). (counted (state f.opening mid) d).buckets) is) in
    subst (λ (o : Option CountedBucket). IsSomeAnd o (λ (c : CountedBucket). c.used ≡ base + old + n)) (sym (ap (λ (bs : List CountedBucket). slice_get bs position) buckets ∙ just_here (with_taken n) position b (state f.opening mid).buckets here.counted)) refl

one_within : (j : ℕ) (b : CountedBucket) (bs : List CountedBucket) → AllByRecursion (λ (c : CountedBucket). c.used ≤ c.size) bs → slice_get bs j ≡ Some b → b.used ≤ b.size
one_within j b [] all at = absurd (cc at)
one_within zero b (c ∷ bs) all at = let is : c ≡ b = cc at in subst (λ (d : CountedBucket). d.used ≤ d.size) is all.0
one_within (suc j) b (c ∷ bs) all at = one_within j b bs all.1 at

-- no more bytes are taken than it has
pub taken_within : {Key : Type 0} (keys : ℕ → Option Key) (f : NoteView) (v log : List NoteView) (cells : List Cell) (position key base size n : ℕ) (numbers : List ℕ) → KeepsRule keys cells f.opening log → IsPrefix v log
    → IsBucketAt f v position key base size numbers → IsWordWith log (suc (suc position)) key n → base + n ≤ size
taken_within keys f v log cells position key base size n numbers kept begins at word =
    let here = bucket_with f log position key base size n numbers (bucket_later f v log position key base size numbers begins at) word in
    let sound = (holds_of_history keys f.opening (history log) kept.opened kept.legal).kept in
    one_within position record { size = size; used = base + n } (state f.opening log).buckets (recursion_from_All (λ (c : CountedBucket). c.used ≤ c.size) (state f.opening log).buckets sound.within) here.counted

-- ---- a reservation in it

pub moving_reserve : (ticket position n value : ℕ) → Moving ticket (Reserve position n) (suc (suc position)) n value
moving_reserve ticket position n value words = inl refl

module _ {Key : Type 0} (keys : ℕ → Option Key) (f : NoteView) (v : List NoteView) (position key base size n old : ℕ) (numbers : List ℕ) (at : IsBucketAt f v position key base size numbers) (some : n ≢ 0) (fits : base + old + n ≤ size) where
  at_old : (log : List NoteView) → IsPrefix v log → IsWordWith log (suc (suc position)) key old → StandsIn f log position key old record { size = size; used = base + old } (bucket_at numbers size (base + old))
  at_old log begins word = bucket_with f log position key base size old numbers (bucket_later f v log position key base size numbers begins at) word

  -- bytes that fit may be taken
  pub may_reserve : May keys f.opening v (suc (suc position)) key old (Reserve position n)
  may_reserve cells log kept begins word = ((some, subst (λ (o : Option CountedBucket). IsSomeAnd o (λ (b : CountedBucket). b.used + n ≤ b.size)) (sym (at_old log begins word).counted) fits), kept.short)

  -- and its update takes the bucket's next bytes
  pub lets_reserve : (e : NoteView) → e.event ≡ Reserve position n → e.lent ≡ bucket_at numbers size (base + old) ∷ [] → Lets keys f v (suc (suc position)) key old e None
  lets_reserve e is own cells log kept begins word =
      let here = at_old log begins word in let x : LentBucket = bucket_at numbers size (base + old) in let o : Totals = f.opening in
      let texts : (state o (log ++ e ∷ [])).texts ≡ (state o log).texts = ap (λ (s : Totals). s.texts) (one_more o log e) ∙ ap (λ (d : Event). (counted (state o log) d).texts) is in
      let done : lent_after f.lent (log ++ e ∷ []) ≡ changed_at position (more_taken n) (lent_after f.lent log) = lent_more f.lent log e ∙ ap (λ (d : Event). lent_by (lent_after f.lent log) d e.lent) is in
      let takes : TakesBytesAt lent_shown position x n (shown_of (f ∷ log)) (shown_of (f ∷ (log ++ e ∷ []))) = record { bucket = here.lent; fits = fits; done = done } in
      let owned : bucket_in e.lent ≡ x = ap bucket_in own in
      inr (
        0,
        refl,
        refl,
        subst (λ (d : Event). MovesBy d e (shown_of (f ∷ log)) (shown_of (f ∷ (log ++ e ∷ [])))) (sym is)
            (texts, subst (λ (y : LentBucket). TakesBytesAt lent_shown position y n (shown_of (f ∷ log)) (shown_of (f ∷ (log ++ e ∷ [])))) (sym owned) takes),
      )
