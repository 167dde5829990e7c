-- A bucket that a charge added is last: its word, what the history counts of it, and where it lies.
--
-- The words of a history are two more than its buckets, and the book keeps the right to the bytes of each
-- bucket that the history counts: a charge adds one to each, and no other event adds any. So the three that a
-- charge puts last have one position.
use Rattle.std.proofs.Common.{inr, None, ◌≡◌, ℕ, suc, ◌+◌, List, [], ◌∷◌, ◌++◌, length, length-append, refl, ap, sym, ◌∙◌, subst, arith, Option, Some, slice_get}
use Rattle.lasso_log.specs.Buckets.{CountedBucket, with_taken}
use Rattle.lasso_log.specs.History.{Event, Reserve, Charge, Append, Limit, Totals, totals, counted}
use Rattle.lasso_log.specs.Book.{Lets, MovesBy, shown_of}
use Rattle.lasso_log.specs.Notes.{NoteView, history, state, bumped, worded, words_after, words_of, first_words, lent_by, lent_after, bucket_in}
use Rattle.lasso_log.specs.LentBuckets.{LentBucket, more_taken}
use Rattle.lasso_log.specs.Events.{bucket_at}
use Rattle.lasso_log.specs.SharedBuckets.{IsBucketAt}
use Rattle.lasso_log.proofs.Lengths.{lent_more, one_more}
use Rattle.lasso_log.proofs.TurnWords.{length_changed}
use Rattle.lasso_log.proofs.LogWords.{words_append}

last_of : {A : Type 0} (xs : List A) (y : A) → slice_get (xs ++ y ∷ []) (length xs) ≡ Some y
last_of [] y = refl
last_of (x ∷ xs) y = last_of xs y

one_longer : {A : Type 0} (xs : List A) (y : A) → length (xs ++ y ∷ []) ≡ suc (length xs)
one_longer xs y = let l = length-append xs (y ∷ []) in omega (arith, l)

-- ---- the numbers of words and of lent buckets

words_by : (ws : List (ℕ × ℕ)) (s : Totals) (t : ℕ) (e : Event) → length ws ≡ suc (suc (length s.buckets)) → length (worded ws t e) ≡ suc (suc (length (counted s e).buckets))
words_by ws s t (Reserve j n) h = length_changed (suc (suc j)) (λ w. (w.0, w.1 + n)) ws ∙ (h ∙ ap (λ (k : ℕ). suc (suc k)) (sym (length_changed j (with_taken n) s.buckets)))
words_by ws s t (Charge size n) h = one_longer (bumped 1 1 ws) (t, n) ∙ (ap suc (length_changed 1 (λ w. (w.0, w.1 + 1)) ws ∙ h) ∙ ap (λ (k : ℕ). suc (suc k)) (sym (one_longer s.buckets record { size = size; used = n })))
words_by ws s t (Append x) h = length_changed 0 (λ w. (w.0, w.1 + 1)) ws ∙ h
words_by ws s t (Limit m) h = length_changed 1 (λ w. (w.0, w.1 + 1)) ws ∙ h

words_all : (ws : List (ℕ × ℕ)) (s : Totals) (es : List NoteView) → length ws ≡ suc (suc (length s.buckets)) → length (words_after ws es) ≡ suc (suc (length (totals s (history es)).buckets))
words_all ws s [] h = h
words_all ws s (e ∷ es) h = words_all (worded ws e.ticket e.event) (counted s e.event) es (words_by ws s e.ticket e.event h)

pub words_count : (o : Totals) (notes : List NoteView) → length o.buckets ≡ 1 → length (words_of notes) ≡ suc (suc (length (state o notes).buckets))
words_count o notes one = words_all first_words o notes (ap (λ (k : ℕ). suc (suc k)) (sym one))

lent_all : (bs : List LentBucket) (s : Totals) (es : List NoteView) → length bs ≡ length s.buckets → length (lent_after bs es) ≡ length (totals s (history es)).buckets
lent_all bs s [] h = h
lent_all bs s (e ∷ es) h = lent_all (lent_by bs e.event e.lent) (counted s e.event) es (step e.event e.lent)
  where
    step : (x : Event) (own : List LentBucket) → length (lent_by bs x own) ≡ length (counted s x).buckets
    step (Reserve j n) own = length_changed j (more_taken n) bs ∙ (h ∙ sym (length_changed j (with_taken n) s.buckets))
    step (Charge size n) own = one_longer bs (record (bucket_in own) { size = size; used = n }) ∙ (ap suc h ∙ sym (one_longer s.buckets record { size = size; used = n }))
    step (Append t) own = h
    step (Limit m) own = h

-- ---- what a charge puts last; `f` is the log's first note, and `e` the charge's

pub stands_last : (f : NoteView) (mid after : List NoteView) (e : NoteView) (size n count used_up : ℕ) (numbers : List ℕ) → length f.opening.buckets ≡ 1 → length f.lent ≡ 1 → count ≡ length (state f.opening mid).buckets
    → e.event ≡ Charge size n → e.ticket ≡ used_up → e.lent ≡ bucket_at numbers size n ∷ [] → after ≡ mid ++ e ∷ [] → IsBucketAt f after count used_up 0 size numbers
stands_last f mid after e size n count used_up numbers one lent all is ticket own last =
    let o : Totals = f.opening in let ws = bumped 1 1 (words_of mid) in let x : LentBucket = bucket_at numbers size n in let b : CountedBucket = record { size = size; used = n } in
    let words : words_of after ≡ ws ++ (used_up, n) ∷ [] = ap words_of last ∙ (words_append first_words mid (e ∷ []) ∙ (ap (worded (words_of mid) e.ticket) is ∙ ap (λ (t : ℕ). ws ++ (t, n) ∷ []) ticket)) in
    let buckets : (state o after).buckets ≡ (state o mid).buckets ++ b ∷ [] = ap (λ (l : List NoteView). (state o l).buckets) last ∙ (ap (λ (s : Totals). s.buckets) (one_more o mid e) ∙ ap (λ (d : Event). (counted (state o mid) d).buckets) is) in
    let rights : lent_after f.lent after ≡ lent_after f.lent mid ++ x ∷ [] = ap (lent_after f.lent) last ∙ (lent_more f.lent mid e ∙ (ap (λ (d : Event). lent_by (lent_after f.lent mid) d e.lent) is ∙ ap (λ (bs : List LentBucket). lent_after f.lent mid ++ record (bucket_in bs) { size = size; used = n } ∷ []) own)) in
    let at_word : suc (suc count) ≡ length ws = ap (λ (k : ℕ). suc (suc k)) all ∙ sym (length_changed 1 (λ w. (w.0, w.1 + 1)) (words_of mid) ∙ words_count o mid one) in
    let at_right : count ≡ length (lent_after f.lent mid) = all ∙ sym (lent_all f.lent o mid (lent ∙ sym one)) in
    let z : n ≡ 0 + n = omega arith in
    record {
      value = n;
      stands = record {
        word = ap (λ (l : List (ℕ × ℕ)). slice_get l (suc (suc count))) words ∙ (ap (slice_get (ws ++ (used_up, n) ∷ [])) at_word ∙ last_of ws (used_up, n));
        counted = ap (λ (l : List CountedBucket). slice_get l count) buckets ∙ (ap (slice_get ((state o mid).buckets ++ b ∷ [])) all ∙ (last_of (state o mid).buckets b ∙ ap (λ (k : ℕ). Some (record b { used = k })) z));
        lent = ap (λ (l : List LentBucket). slice_get l count) rights ∙ (ap (slice_get (lent_after f.lent mid ++ x ∷ [])) at_right ∙ (last_of (lent_after f.lent mid) x ∙ ap (λ (k : ℕ). Some (bucket_at numbers size k)) z));
      };
    }

-- the update of a charge puts its bucket last
pub lets_charge : {Key : Type 0} (keys : ℕ → Option Key) (f : NoteView) (v : List NoteView) (key old size n : ℕ) (numbers : List ℕ) (e : NoteView) → e.event ≡ Charge size n → e.lent ≡ bucket_at numbers size n ∷ [] → Lets keys f v 1 key old e None
lets_charge keys f v key old size n numbers e is own cells log kept begins word =
    let o : Totals = f.opening in
    let texts : (state o (log ++ e ∷ [])).texts ≡ (state o log).texts = ap (λ (s : Totals). s.texts) (one_more o log e) ∙ ap (λ (d : Event). (counted (state o log) d).texts) is in
    let buckets : lent_after f.lent (log ++ e ∷ []) ≡ lent_after f.lent log ++ bucket_in e.lent ∷ [] =
    lent_more f.lent log e ∙ (ap (λ (d : Event). lent_by (lent_after f.lent log) d e.lent) is ∙ (ap (λ (bs : List LentBucket). lent_after f.lent log ++ record (bucket_in bs) { size = size; used = n } ∷ []) own ∙ ap (λ (bs : List LentBucket). lent_after f.lent log ++ bucket_in bs ∷ []) (sym own))) in
    inr (0, refl, refl, subst (λ (d : Event). MovesBy d e (shown_of (f ∷ log)) (shown_of (f ∷ (log ++ e ∷ [])))) (sym is) (texts, buckets))
