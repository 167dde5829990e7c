-- The words of a log, and what one more event does to them: their cells keep their values and stay apart,
-- a word stays at its position, and its value only grows.
use Rattle.std.proofs.Common.{◌≡◌, ◌≢◌, ℕ, zero, suc, ◌+◌, ◌≤◌, ◌<◌, true, false, List, [], ◌∷◌, ◌++◌, length, set, inl, inr, refl, ap, sym, ◌∙◌, subst, arith, Some, slice_get, get_or-set_other, get_or-set_same, length-set}
use mathlib.Core.List.{IsPrefix}
use Rattle.logbook.specs.Pages.{Cell, cell}
use Rattle.lasso_log.specs.History.{Event, Reserve, Charge, Append, Limit}
use Rattle.lasso_log.specs.Notes.{NoteView, bumped, worded, words_after, words_of, first_words, IsWordWith}
use Rattle.lasso_log.specs.Book.{Words, Others, Apart, Bumps}

-- a word's cell is at home with its value
pub words_get : (cells : List Cell) (ws : List (ℕ × ℕ)) (j k n : ℕ) → Words cells ws → slice_get ws j ≡ Some (k, n) → cell cells k ≡ (n, true)
words_get cells [] j k n w h = absurd cc
words_get cells (x ∷ ws) zero k n w h = let e : x ≡ (k, n) = cc h in subst (λ (y : ℕ × ℕ). cell cells y.0 ≡ (y.1, true)) e w.0
words_get cells (x ∷ ws) (suc j) k n w h = words_get cells ws j k n w.1 h

others_get : (a : ℕ) (ws : List (ℕ × ℕ)) (j k n : ℕ) → Others a ws → slice_get ws j ≡ Some (k, n) → k ≢ a
others_get a [] j k n o h = absurd cc
others_get a (x ∷ ws) zero k n o h = let e : x ≡ (k, n) = cc h in subst (λ (y : ℕ × ℕ). y.0 ≢ a) e o.0
others_get a (x ∷ ws) (suc j) k n o h = others_get a ws j k n o.1 h

swap : (a b : ℕ) → a ≢ b → b ≢ a
swap a b ne e = ne (sym e)

-- a cell that no word has may change
words_other : (cells : List Cell) (ws : List (ℕ × ℕ)) (k : ℕ) (c : Cell) → Others k ws → Words cells ws → Words (set cells k c) ws
words_other cells [] k c o w = tt
words_other cells (x ∷ ws) k c o w = (get_or-set_other cells k x.0 c (0, false) o.0 ∙ w.0, words_other cells ws k c o.1 w.1)

-- a cell that is out is no word's
others_away : (cells : List Cell) (ws : List (ℕ × ℕ)) (t : ℕ) → Words cells ws → (cell cells t).1 ≡ false → Others t ws
others_away cells [] t w out = tt
others_away cells (x ∷ ws) t w out = ((λ e. absurd (let h : (cell cells t).1 ≡ true = subst (λ (k : ℕ). (cell cells k).1 ≡ true) e (ap (λ (c : Cell). c.1) w.0) in cc (h, out))), others_away cells ws t w.1 out)

words_bump : (cells : List Cell) (ws : List (ℕ × ℕ)) (j k v n : ℕ) → Words cells ws → Apart ws → slice_get ws j ≡ Some (k, v) → k < length cells → Words (set cells k (v + n, true)) (bumped j n ws)
words_bump cells [] j k v n w a h l = absurd cc
words_bump cells (x ∷ ws) zero k v n w a h l =
    let e : x ≡ (k, v) = cc h in
    let o : Others k ws = subst (λ (y : ℕ × ℕ). Others y.0 ws) e a.0 in
    (subst (λ (y : ℕ × ℕ). cell (set cells k (v + n, true)) y.0 ≡ (y.1 + n, true)) (sym e) (get_or-set_same cells k (v + n, true) (0, false) l), words_other cells ws k (v + n, true) o w.1)
words_bump cells (x ∷ ws) (suc j) k v n w a h l =
    let ne : x.0 ≢ k = swap k x.0 (others_get x.0 ws j k v a.0 h) in
    (get_or-set_other cells k x.0 (v + n, true) (0, false) ne ∙ w.0, words_bump cells ws j k v n w.1 a.1 h l)

others_bump : (a j n : ℕ) (ws : List (ℕ × ℕ)) → Others a ws → Others a (bumped j n ws)
others_bump a j n [] o = tt
others_bump a zero n (x ∷ ws) o = (o.0, o.1)
others_bump a (suc j) n (x ∷ ws) o = (o.0, others_bump a j n ws o.1)

apart_bump : (j n : ℕ) (ws : List (ℕ × ℕ)) → Apart ws → Apart (bumped j n ws)
apart_bump j n [] a = tt
apart_bump zero n (x ∷ ws) a = (a.0, a.1)
apart_bump (suc j) n (x ∷ ws) a = (others_bump x.0 j n ws a.0, apart_bump j n ws a.1)

words_push : (cells : List Cell) (ws : List (ℕ × ℕ)) (t x : ℕ) → Words cells ws → cell cells t ≡ (x, true) → Words cells (ws ++ (t, x) ∷ [])
words_push cells [] t x w e = (e, tt)
words_push cells (y ∷ ws) t x w e = (w.0, words_push cells ws t x w.1 e)

others_push : (a t x : ℕ) (ws : List (ℕ × ℕ)) → Others a ws → t ≢ a → Others a (ws ++ (t, x) ∷ [])
others_push a t x [] o ne = (ne, tt)
others_push a t x (y ∷ ws) o ne = (o.0, others_push a t x ws o.1 ne)

apart_push : (t x : ℕ) (ws : List (ℕ × ℕ)) → Apart ws → Others t ws → Apart (ws ++ (t, x) ∷ [])
apart_push t x [] a o = (tt, tt)
apart_push t x (y ∷ ws) a o = (others_push y.0 t x ws a.0 (swap y.0 t o.0), apart_push t x ws a.1 o.1)

away_still : (cells : List Cell) (k t : ℕ) (c : Cell) → (cell cells k).1 ≡ true → (cell cells t).1 ≡ false → (cell (set cells k c) t).1 ≡ false
away_still cells k t c home out = ap (λ (d : Cell). d.1) (get_or-set_other cells k t c (0, false) (λ e. absurd (let h : (cell cells t).1 ≡ true = subst (λ (m : ℕ). (cell cells m).1 ≡ true) (sym e) home in cc (h, out)))) ∙ out

-- one word grows and a ticket comes home, which may become a word of its own
pub words_more : (cells : List Cell) (ws more : List (ℕ × ℕ)) (j k v n t x : ℕ) → Words cells ws → Apart ws → slice_get ws j ≡ Some (k, v) → k < length cells → t < length cells → (cell cells t).1 ≡ false → Bumps ws more j n t x
    → Words (set (set cells k (v + n, true)) t (x, true)) more × Apart more
words_more cells ws more j k v n t x w a h l lt out bumps =
    let ds : List Cell = set cells k (v + n, true) in
    let home : (cell cells k).1 ≡ true = ap (λ (c : Cell). c.1) (words_get cells ws j k v w h) in
    let w' : Words ds (bumped j n ws) = words_bump cells ws j k v n w a h l in
    let o : Others t (bumped j n ws) = others_away ds (bumped j n ws) t w' (away_still cells k t (v + n, true) home out) in
    let len : length ds ≡ length cells = length-set cells k (v + n, true) in
    go (words_other ds (bumped j n ws) t (x, true) o w') (apart_bump j n ws a) o (get_or-set_same ds t (x, true) (0, false) (omega (arith, len, lt))) bumps
  where
    go : Words (set (set cells k (v + n, true)) t (x, true)) (bumped j n ws) → Apart (bumped j n ws) → Others t (bumped j n ws) → cell (set (set cells k (v + n, true)) t (x, true)) t ≡ (x, true) → Bumps ws more j n t x → Words (set (set cells k (v + n, true)) t (x, true)) more × Apart more
    go w a o at (inl e) = subst (λ (m : List (ℕ × ℕ)). Words (set (set cells k (v + n, true)) t (x, true)) m × Apart m) (sym e) (w, a)
    go w a o at (inr e) = subst (λ (m : List (ℕ × ℕ)). Words (set (set cells k (v + n, true)) t (x, true)) m × Apart m) (sym e) (words_push (set (set cells k (v + n, true)) t (x, true)) (bumped j n ws) t x w at, apart_push t x (bumped j n ws) a o)

pub words_append : (ws : List (ℕ × ℕ)) (xs ys : List NoteView) → words_after ws (xs ++ ys) ≡ words_after (words_after ws xs) ys
words_append ws [] ys = refl
words_append ws (e ∷ xs) ys = words_append (worded ws e.ticket e.event) xs ys

bump_stays : (j n i k v : ℕ) (ws : List (ℕ × ℕ)) → slice_get ws i ≡ Some (k, v) → (m : ℕ) × (slice_get (bumped j n ws) i ≡ Some (k, m)) × (v ≤ m)
bump_stays j n i k v [] h = absurd cc
bump_stays zero n zero k v (x ∷ ws) h = let e : x ≡ (k, v) = cc h in (v + n, ap (λ (y : ℕ × ℕ). Some (y.0, y.1 + n)) e, omega arith)
bump_stays zero n (suc i) k v (x ∷ ws) h = (v, h, omega arith)
bump_stays (suc j) n zero k v (x ∷ ws) h = (v, h, omega arith)
bump_stays (suc j) n (suc i) k v (x ∷ ws) h = bump_stays j n i k v ws h

push_stays : (i : ℕ) (w x : ℕ × ℕ) (ws : List (ℕ × ℕ)) → slice_get ws i ≡ Some w → slice_get (ws ++ x ∷ []) i ≡ Some w
push_stays i w x [] h = absurd cc
push_stays zero w x (y ∷ ws) h = h
push_stays (suc i) w x (y ∷ ws) h = push_stays i w x ws h

event_stays : (i k v t : ℕ) (ws : List (ℕ × ℕ)) (e : Event) → slice_get ws i ≡ Some (k, v) → (m : ℕ) × (slice_get (worded ws t e) i ≡ Some (k, m)) × (v ≤ m)
event_stays i k v t ws (Reserve b n) h = bump_stays (suc (suc b)) n i k v ws h
event_stays i k v t ws (Charge size n) h = let r = bump_stays 1 1 i k v ws h in (r.0, push_stays i (k, r.0) (t, n) (bumped 1 1 ws) r.1, r.2)
event_stays i k v t ws (Append x) h = bump_stays 0 1 i k v ws h
event_stays i k v t ws (Limit m) h = bump_stays 1 1 i k v ws h

words_stay : (i k v : ℕ) (ws : List (ℕ × ℕ)) (es : List NoteView) → slice_get ws i ≡ Some (k, v) → (m : ℕ) × (slice_get (words_after ws es) i ≡ Some (k, m)) × (v ≤ m)
words_stay i k v ws [] h = (v, h, omega arith)
words_stay i k v ws (e ∷ es) h =
    let a = event_stays i k v e.ticket ws e.event h in
    let b = words_stay i k a.0 (worded ws e.ticket e.event) es a.1 in
    (b.0, b.1, omega (arith, a.2, b.2))

-- a longer log has the word at the same position, with a value that is no less
pub word_later : (v log : List NoteView) (j k n : ℕ) → IsPrefix v log → IsWordWith v j k n → (m : ℕ) × IsWordWith log j k m × (n ≤ m)
word_later v log j k n p h =
    let r = words_stay j k n (words_of v) p.0 h in
    (r.0, subst (λ (l : List NoteView). slice_get (words_of l) j ≡ Some (k, r.0)) p.1 (ap (λ (ws : List (ℕ × ℕ)). slice_get ws j) (words_append first_words v p.0) ∙ r.1), r.2)

bump_head : (k n : ℕ) (ws : List (ℕ × ℕ)) → slice_get ws 0 ≡ Some (k, n) → slice_get (bumped 0 1 ws) 0 ≡ Some (k, n + 1)
bump_head k n [] h = absurd cc
bump_head k n (x ∷ ws) h = let e : x ≡ (k, n) = cc h in ap (λ (y : ℕ × ℕ). Some (y.0, y.1 + 1)) e

-- an append makes the length word one more
pub head_grown : (mid : List NoteView) (e : NoteView) (after : List NoteView) (k n : ℕ) (t : List ℕ) → after ≡ mid ++ e ∷ [] → e.event ≡ Append t → IsWordWith mid 0 k n → IsWordWith after 0 k (n + 1)
head_grown mid e after k n t last is word =
    let words : words_of after ≡ worded (words_of mid) e.ticket e.event = ap words_of last ∙ words_append first_words mid (e ∷ []) in
    let moved : worded (words_of mid) e.ticket e.event ≡ bumped 0 1 (words_of mid) = ap (worded (words_of mid) e.ticket) is in
    ap (λ (ws : List (ℕ × ℕ)). slice_get ws 0) (words ∙ moved) ∙ bump_head k n (words_of mid) word
