-- The length word: the list is as long as the opening's, and one longer for each append.
use Rattle.std.proofs.Common.{◌≡◌, ℕ, ◌+◌, ◌^◌, ◌<◌, List, [], ◌∷◌, ◌++◌, length, refl, ap, sym, ◌∙◌, subst, arith, length-append, Option, Some, None, slice_get, inl, inr}
use Rattle.std.specs.Prelude.{IsSome, MatchOption}
use mathlib.Core.List.{IsPrefix}
use Rattle.lasso_parts.specs.Texts.{Text}
use Rattle.lasso_log.specs.History.{Event, Reserve, Charge, Append, Limit, Totals, totals, counted, Lacks, MayFollow}
use Rattle.lasso_log.specs.Chunks.{ListOnlyGrows}
use Rattle.lasso_log.specs.Notes.{NoteView, history, state, worded, words_after, words_of, first_words, IsWord, IsWordWith, shown_note, texts_shown, lent_after, lent_by}
use Rattle.lasso_log.specs.LentBuckets.{LentBucket}
use Rattle.lasso_log.specs.Book.{May, Moving, MovesBy, Lets, shown_of}
use Rattle.lasso_log.specs.Events.{IsQuiet, ready}
use Rattle.lasso_log.proofs.Histories.{state_past, prefix_whole, prefix_tail}
use Rattle.lasso_log.proofs.Legal.{list_grows}
use Rattle.lasso_log.proofs.LogWords.{word_later}

abbrev HasLength : ℕ → ℕ → List (ℕ × ℕ) → Type 0
HasLength first now [] = ⊥
HasLength first now (w ∷ ws) = now ≡ first + w.1

event_length : (first : ℕ) (s : Totals) (ws : List (ℕ × ℕ)) (t : ℕ) (e : Event) → HasLength first (length s.texts) ws → HasLength first (length (counted s e).texts) (worded ws t e)
event_length first s [] t e h = absurd h
event_length first s (w ∷ ws) t (Reserve bucket n) h = h
event_length first s (w ∷ ws) t (Charge size n) h = h
event_length first s (w ∷ ws) t (Append x) h = let one = length-append s.texts (x ∷ []) in omega (arith, h, one)
event_length first s (w ∷ ws) t (Limit m) h = h

length_after : (first : ℕ) (s : Totals) (ws : List (ℕ × ℕ)) (es : List NoteView) → HasLength first (length s.texts) ws → HasLength first (length (totals s (history es)).texts) (words_after ws es)
length_after first s ws [] h = h
length_after first s ws (e ∷ es) h = length_after first (counted s e.event) (worded ws e.ticket e.event) es (event_length first s ws e.ticket e.event h)

length_get : (first now k n : ℕ) (ws : List (ℕ × ℕ)) → HasLength first now ws → slice_get ws 0 ≡ Some (k, n) → now ≡ first + n
length_get first now k n [] h e = absurd h
length_get first now k n (w ∷ ws) h e = let is : w ≡ (k, n) = cc e in h ∙ ap (λ (y : ℕ × ℕ). first + y.1) is

-- the length of the list is what the first word says
pub length_of : (o : Totals) (log : List NoteView) (k n : ℕ) → IsWordWith log 0 k n → length (state o log).texts ≡ length o.texts + n
length_of o log k n word = length_get (length o.texts) (length (state o log).texts) k n (words_of log) (length_after (length o.texts) o first_words log (omega arith)) word

pub texts_past : (o : Totals) (v log : List NoteView) → IsPrefix v log → IsPrefix (state o v).texts (state o log).texts
texts_past o v log p =
    let is : state o log ≡ totals (state o v) (history p.0) = ap (state o) (sym p.1) ∙ state_past o v p.0 in
    subst (λ (s : Totals). IsPrefix (state o v).texts s.texts) (sym is) (list_grows (state o v) (history p.0))

-- a longer log with a list of the same length has the same list
pub same_texts : (o : Totals) (v log : List NoteView) → IsPrefix v log → length (state o v).texts ≡ length (state o log).texts → (state o v).texts ≡ (state o log).texts
same_texts o v log p len = prefix_whole (state o v).texts (state o log).texts (texts_past o v log p) (sym len)

-- what the cells of the texts see only grows
pub only_grows : ListOnlyGrows shown_of texts_shown
only_grows [] after p = (texts_shown (shown_of after), refl)
only_grows (x ∷ xs) [] p = absurd (cc (p.1))
only_grows (x ∷ xs) (y ∷ ys) p =
    let r = prefix_tail x y xs ys p in
    subst (λ (f : NoteView). IsPrefix (state x.opening xs).texts (state f.opening ys).texts) r.0 (texts_past x.opening xs ys r.1)

pub text_added : (s : Totals) (e : Event) (t : Text) → e ≡ Append t → (counted s e).texts ≡ s.texts ++ t ∷ []
text_added s e t is = ap (λ (f : Event). (counted s f).texts) is

-- the lent buckets with one note more
pub lent_more : (bs : List LentBucket) (log : List NoteView) (e : NoteView) → lent_after bs (log ++ e ∷ []) ≡ lent_by (lent_after bs log) e.event e.lent
lent_more bs [] e = refl
lent_more bs (f ∷ log) e = lent_more (lent_by bs f.event f.lent) log e

-- the state with one note more
pub one_more : (o : Totals) (log : List NoteView) (e : NoteView) → state o (log ++ e ∷ []) ≡ counted (state o log) e.event
one_more o log e = state_past o log (e ∷ [])

module _ {Key : Type 0} (keys : ℕ → Option Key) where
  -- a text that the list lacked when it was seen may be appended wherever the list has still the same length
  pub may_append : (o : Totals) (v : List NoteView) (t : Text) (old : ℕ) → length (state o v).texts ≡ length o.texts + old → length o.texts + old + 1 < 2 ^ 64 → MayFollow keys (state o v) (Append t) → May keys o v 0 0 old (Append t)
  may_append o v t old len small may cells log kept begins word =
      let here = length_of o log 0 old word in
      let same = same_texts o v log begins (len ∙ sym here) in
      let more : length ((state o log).texts ++ t ∷ []) ≡ length (state o log).texts + 1 = length-append (state o log).texts (t ∷ []) in
      (subst (λ (ts : List Text). Lacks ts t × IsSome (keys (length ts))) same may, omega (arith, small, here, more))

  -- the update of an append puts the text at the position that was the length; `f` is the log's first note
  pub lets_append : (f : NoteView) (v : List NoteView) (e : NoteView) (old : ℕ) (t : Text) → e.event ≡ Append t → e.position ≡ length f.opening.texts + old → Lets keys f v 0 0 old e None
  lets_append f v e old t is position cells log kept begins word =
      let o : Totals = f.opening in
      let after : (state o (log ++ e ∷ [])).texts ≡ (state o log).texts ++ t ∷ [] = ap (λ (s : Totals). s.texts) (one_more o log e) ∙ text_added (state o log) e.event t is in
      let still : lent_after f.lent (log ++ e ∷ []) ≡ lent_after f.lent log = lent_more f.lent log e ∙ ap (λ (x : Event). lent_by (lent_after f.lent log) x e.lent) is in
      inr (0, refl, refl, subst (λ (x : Event). MovesBy x e (shown_of (f ∷ log)) (shown_of (f ∷ (log ++ e ∷ [])))) (sym is) ((after, length_of o log 0 old word ∙ sym position), still))

  -- an event that leaves the list and the buckets' bytes as they are needs no update
  pub lets_quiet : (f : NoteView) (v : List NoteView) (e : NoteView) (j k old : ℕ) → ((t : Totals) → (counted t e.event).texts ≡ t.texts) → ((bs : List LentBucket) → lent_by bs e.event e.lent ≡ bs) → Lets keys f v j k old e (Some 0)
  lets_quiet f v e j k old quiet still cells log kept begins word =
      let texts = ap (λ (x : Totals). x.texts) (one_more f.opening log e) ∙ quiet (state f.opening log) in
      let lent = lent_more f.lent log e ∙ still (lent_after f.lent log) in
      inl (refl, λ i. shown_note (texts i) (lent i))

pub moving_append : (t : ℕ) (x : Text) (y : ℕ) → Moving t (Append x) 0 1 y
moving_append t x y ws = inl refl

-- the update of a note that speaks of no bucket: it puts an appended text last, or has nothing to do
pub lets_cell_proof : {Key F : Type 0} (keys : ℕ → Option Key) (f : NoteView) (v : List NoteView) (e : NoteView) (j k old : ℕ) (cell_proof : Option F) (text : F → Text) (At Lasts : F → Type 0) → e.lent ≡ []
    → MatchOption cell_proof (IsQuiet e.event) (λ p. At p × (e.event ≡ Append (text p)) × Lasts p × (j ≡ 0) × (k ≡ 0) × (e.position ≡ length f.opening.texts + old)) → Lets keys f v j k old e (ready cell_proof)
lets_cell_proof keys f v e j k old None text At Lasts none quiet = lets_quiet keys f v e j k old quiet.0 (λ bs. subst (λ (own : List LentBucket). lent_by bs e.event own ≡ bs) (sym none) (quiet.1 bs))
lets_cell_proof keys f v e j k old (Some p) text At Lasts none is =
    subst (λ (i : ℕ). Lets keys f v i k old e None) (sym is.3) (subst (λ (i : ℕ). Lets keys f v 0 i old e None) (sym is.4) (lets_append keys f v e old (text p) is.1 is.5))

-- every history has the length word, at position 0 and with key 0
pub has_head : (notes : List NoteView) → IsWord notes 0 0
has_head notes = let r = word_later [] notes 0 0 0 (notes, refl) refl in (r.0, r.1)
