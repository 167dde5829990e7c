-- The three kinds of step keep the rule: a look, the fetching of a ticket, and the exchange that adds a note.
use Rattle.std.proofs.Common.{◌≡◌, ◌≢◌, ℕ, zero, suc, ◌+◌, ◌<◌, ◌==◌, Bool, true, false, List, [], ◌∷◌, ◌++◌, length, set, refl, ap, sym, ◌∙◌, subst, arith, inl, inr, length-set, Option, Some}
use Rattle.std.proofs.lemmas.List.{append-nil, set-get_or}
use Rattle.std.proofs.lemmas.Bool.Decides.{nat_tests}
use mathlib.Core.List.{IsPrefix}
use prog.Atomic.{either}
use Rattle.logbook.specs.Pages.{Cell, cell, keeps, gives, adds, Nib, no_nib, may_write, Away, step, Moves, Goes}
use Rattle.lasso_log.specs.History.{Totals, counted, MayFollow, IsLegal}
use Rattle.lasso_log.specs.Notes.{NoteView, history, state, ticket_of, worded, words_of, first_words, IsWord, IsWordWith}
use Rattle.lasso_log.specs.Book.{IsHome, Words, Apart, KeepsRule, LogKeepsRule, Peeks, Fetches, Adds, Bumps, Moving, May, Lets, Moved, IsShort, IsUsed, shown_of}
use Rattle.lasso_log.proofs.Histories.{history_append, state_past, prefix_tail, prefix_self, prefix_trans}
use Rattle.lasso_log.proofs.Legal.{legal_push}
use Rattle.lasso_log.proofs.Tickets.{by_cases, not_both, used_still, used_more, used_home, used_later, chained_more, still}
use Rattle.lasso_log.proofs.LogWords.{words_get, words_more, words_append, word_later}

untouched : (cells : List Cell) (k n : ℕ) → cell cells k ≡ (n, true) → set cells k (n, true) ≡ cells
untouched cells k n is = ap (set cells k) (sym is) ∙ set-get_or cells k (0, false)

cell_kept : (cells more : List Cell) (k : ℕ) → k < length cells → cell (cells ++ more) k ≡ cell cells k
cell_kept [] more k l = absurd (omega arith)
cell_kept (c ∷ cells) more zero l = refl
cell_kept (c ∷ cells) more (suc k) l = cell_kept cells more k (omega arith)

home_bound : (cells : List Cell) (k : ℕ) → IsHome cells k → k < length cells
home_bound [] k h = absurd cc
home_bound (c ∷ cells) zero h = omega arith
home_bound (c ∷ cells) (suc k) h = let rest = home_bound cells k h in omega arith

still_home : (cells : List Cell) (k j n : ℕ) → IsHome cells j → IsHome (set cells k (n, true)) j
still_home [] k j n h = h
still_home (c ∷ cells) zero zero n h = refl
still_home (c ∷ cells) zero (suc j) n h = h
still_home (c ∷ cells) (suc k) zero n h = h
still_home (c ∷ cells) (suc k) (suc j) n h = still_home cells k j n h

home_now : (cells : List Cell) (k n : ℕ) → k < length cells → IsHome (set cells k (n, true)) k
home_now [] k n l = absurd (omega arith)
home_now (c ∷ cells) zero n l = refl
home_now (c ∷ cells) (suc k) n l = home_now cells k n (omega arith)

words_longer : (cells more : List Cell) (ws : List (ℕ × ℕ)) → Words cells ws → Words (cells ++ more) ws
words_longer cells more [] w = tt
words_longer cells more (x ∷ ws) w = (cell_kept cells more x.0 (home_bound cells x.0 (ap (λ (c : Cell). c.1) w.0)) ∙ w.0, words_longer cells more ws w.1)

zero_stays : (n : ℕ) → either (n == 0) 0 n ≡ n
zero_stays n = by_cases (n == 0) (λ is. let z : n ≡ 0 = grind (arith, nat_tests) in rw is (sym z)) (λ is. rw is refl)

module _ {Key : Type 0} (keys : ℕ → Option Key) where
  -- a word that was seen is in the book
  pub stands : (cells : List Cell) (o : Totals) (v log : List NoteView) (j k : ℕ) → KeepsRule keys cells o log → IsPrefix v log → IsWord v j k → (m : ℕ) × IsWordWith log j k m × (cell cells k ≡ (m, true))
  stands cells o v log j k kept begins word =
      let later = word_later v log j k word.0 begins word.1 in
      (later.0, later.1, words_get cells (words_of log) j k later.0 kept.words later.1)

  pub peek_moves : (o : NoteView) (v : List NoteView) (e : NoteView) (s : Option ℕ) (j k : ℕ) → IsWord v j k → Moves (LogKeepsRule keys) shown_of (Moved e) k (o ∷ v, (no_nib, s)) (λ n. n) (Peeks keys (step k 0 0 e) (o ∷ v, (no_nib, s)))
  peek_moves o v e s j k word cells [] kept begins away = absurd kept
  peek_moves o v e s j k word cells (p ∷ log) kept begins away =
      let tail = prefix_tail o p v log begins in
      let at = stands cells p.opening v log j k kept tail.1 word in
      let n : (cell cells k).0 ≡ at.0 = ap (λ (c : Cell). c.0) at.2 in
      let home : IsHome cells k = ap (λ (c : Cell). c.1) at.2 in
      let same : set cells k ((cell cells k).0, true) ≡ cells = ap (λ (m : ℕ). set cells k (m, true)) n ∙ untouched cells k at.0 at.2 in
      let all : (p ∷ log) ++ [] ≡ p ∷ log = append-nil (p ∷ log) in
      let kept' : LogKeepsRule keys cells ((p ∷ log) ++ []) = subst (LogKeepsRule keys cells) (sym all) kept in (
        home_bound cells k home,
        home,
        (keeps, [], s, tt, subst (λ (ds : List Cell). LogKeepsRule keys ds ((p ∷ log) ++ [])) (sym same) kept', inl (refl, ap shown_of all), (cells, kept', refl)),
      )

  with_ticket : (cells : List Cell) (o : Totals) (log : List NoteView) → KeepsRule keys cells o log → KeepsRule keys (cells ++ (0, false) ∷ []) o log
  with_ticket cells o log kept = record {
    opened = kept.opened;
    used = used_still cells (cells ++ (0, false) ∷ []) log (λ k h. ap (λ (c : Cell). c.1) (cell_kept cells ((0, false) ∷ []) k (home_bound cells k h)) ∙ h) kept.used;
    chained = kept.chained;
    words = words_longer cells ((0, false) ∷ []) (words_of log) kept.words;
    apart = kept.apart;
    legal = kept.legal;
    short = kept.short;
  }

  -- a ticket is fetched by an exchange of the length word with itself
  pub fetch_moves : (o : NoteView) (v : List NoteView) (e : NoteView) (s : Option ℕ) → Moves (LogKeepsRule keys) shown_of (Moved e) 0 (o ∷ v, (no_nib, s)) (λ n. either (n == 0) 0 n) (Fetches keys (step 0 0 0 e) (o ∷ v, (no_nib, s)))
  fetch_moves o v e s cells [] kept begins away = absurd kept
  fetch_moves o v e s cells (p ∷ log) kept begins away =
      let at = stands cells p.opening [] log 0 0 kept (log, refl) (0, refl) in
      let n : (cell cells 0).0 ≡ at.0 = ap (λ (c : Cell). c.0) at.2 in
      let home : IsHome cells 0 = ap (λ (c : Cell). c.1) at.2 in
      let same : set cells 0 (either ((cell cells 0).0 == 0) 0 (cell cells 0).0, true) ≡ cells = ap (λ (m : ℕ). set cells 0 (m, true)) (zero_stays (cell cells 0).0 ∙ n) ∙ untouched cells 0 at.0 at.2 in
      let all : (p ∷ log) ++ [] ≡ p ∷ log = append-nil (p ∷ log) in
      let more : LogKeepsRule keys (cells ++ (0, false) ∷ []) ((p ∷ log) ++ []) = subst (LogKeepsRule keys (cells ++ (0, false) ∷ [])) (sym all) (with_ticket cells p.opening log kept) in (
        home_bound cells 0 home,
        home,
        (adds, [], s, tt, subst (λ (ds : List Cell). LogKeepsRule keys (ds ++ (0, false) ∷ []) ((p ∷ log) ++ [])) (sym same) more, inl (refl, ap shown_of all), (length cells, refl, (cells ++ (0, false) ∷ [], more))),
      )

  -- or by one of a used ticket's word with itself
  pub fetch_used : (o : NoteView) (v : List NoteView) (e : NoteView) (s : Option ℕ) (k : ℕ) → IsUsed k v → Moves (LogKeepsRule keys) shown_of (Moved e) k (o ∷ v, (no_nib, s)) (λ n. either (n == 0) 0 n) (Fetches keys (step k 0 0 e) (o ∷ v, (no_nib, s)))
  fetch_used o v e s k used cells [] kept begins away = absurd kept
  fetch_used o v e s k used cells (p ∷ log) kept begins away =
      let home : IsHome cells k = used_home cells log k kept.used (used_later v log k (prefix_tail o p v log begins).1 used) in
      let m : ℕ = (cell cells k).0 in
      let at : cell cells k ≡ (m, true) = ap (λ (b : Bool). (m, b)) home in
      let same : set cells k (either (m == 0) 0 m, true) ≡ cells = ap (λ (n : ℕ). set cells k (n, true)) (zero_stays m) ∙ untouched cells k m at in
      let all : (p ∷ log) ++ [] ≡ p ∷ log = append-nil (p ∷ log) in
      let more : LogKeepsRule keys (cells ++ (0, false) ∷ []) ((p ∷ log) ++ []) = subst (LogKeepsRule keys (cells ++ (0, false) ∷ [])) (sym all) (with_ticket cells p.opening log kept) in (
        home_bound cells k home,
        home,
        (adds, [], s, tt, subst (λ (ds : List Cell). LogKeepsRule keys (ds ++ (0, false) ∷ []) ((p ∷ log) ++ [])) (sym same) more, inl (refl, ap shown_of all), (length cells, refl, (cells ++ (0, false) ∷ [], more))),
      )

  with_event : (cells : List Cell) (o : Totals) (log : List NoteView) (e : NoteView) (j k v n t x : ℕ) → KeepsRule keys cells o log → IsWordWith log j k v → t < length cells → (cell cells t).1 ≡ false → e.ticket ≡ t
      → Bumps (words_of log) (worded (words_of log) e.ticket e.event) j n t x → e.ticket ≡ ticket_of e.by log → MayFollow keys (state o log) e.event → IsShort (counted (state o log) e.event)
      → KeepsRule keys (set (set cells k (v + n, true)) t (x, true)) o (log ++ e ∷ [])
  with_event cells o log e j k v n t x kept word l out is bumps at may small =
      let ds : List Cell = set cells k (v + n, true) in
      let w = words_get cells (words_of log) j k v kept.words word in
      let bound = home_bound cells k (ap (λ (c : Cell). c.1) w) in
      let more = words_more cells (words_of log) (worded (words_of log) e.ticket e.event) j k v n t x kept.words kept.apart word bound l out bumps in
      let same : words_of (log ++ e ∷ []) ≡ worded (words_of log) e.ticket e.event = words_append first_words log (e ∷ []) in
      let len : length ds ≡ length cells = length-set cells k (v + n, true) in
      let l' : t < length ds = omega (arith, len, l) in record {
        opened = kept.opened;
        used = used_more (set ds t (x, true)) log e (used_still cells (set ds t (x, true)) log (λ i h. still_home ds t i x (still_home cells k i (v + n) h)) kept.used) (subst (IsHome (set ds t (x, true))) (sym is) (home_now ds t x l'));
        chained = chained_more [] log e kept.chained at;
        words = subst (Words (set ds t (x, true))) (sym same) more.0;
        apart = subst Apart (sym same) more.1;
        legal = subst (IsLegal keys o) (sym (history_append log (e ∷ []))) (legal_push keys o (history log) (e.by, e.event) kept.legal may);
        short = subst IsShort (sym (state_past o log (e ∷ []))) small;
      }

  add_goes : (o : NoteView) (before v : List NoteView) (p : Nib) (e : NoteView) (s : Option ℕ) (j k old n : ℕ) → p.right ≡ may_write → e.ticket ≡ p.key → p.key ≡ ticket_of e.by before → IsPrefix before v
      → Moving e.ticket e.event j n p.value → May keys o.opening v j k old e.event → Lets keys o v j k old e s
      → (cells : List Cell) (log : List NoteView) → KeepsRule keys cells o.opening log → IsPrefix v log → Away p cells → (m : ℕ) → IsWordWith log j k m → cell cells k ≡ (m, true) → (b : Bool) → ((cell cells k).0 == old) ≡ b
      → Goes (LogKeepsRule keys) shown_of (Moved e) k (o ∷ v, (p, s)) (λ n'. either (n' == old) (old + n) n') (Adds keys (step k old (old + n) e) (o ∷ v, (p, s))) cells (o ∷ log)
  add_goes o before v p e s j k old n right is at begun moving may lets cells log kept begins away m word here true test =
      let found : (cell cells k).0 ≡ old = grind (arith, nat_tests) in
      let m_is : m ≡ old = sym (ap (λ (c : Cell). c.0) here) ∙ found in
      let word' : IsWordWith log j k old = subst (IsWordWith log j k) m_is word in
      let gone = away right in
      let alone = still keys cells o.opening e.by before log log (prefix_trans before v log begun begins) (prefix_self log) kept (subst (λ (i : ℕ). (cell cells i).1 ≡ false) at gone.1) in
      let at' : e.ticket ≡ ticket_of e.by log = is ∙ (at ∙ sym alone.1) in
      let bumps : Bumps (words_of log) (worded (words_of log) e.ticket e.event) j n p.key p.value = subst (λ (t : ℕ). Bumps (words_of log) (worded (words_of log) e.ticket e.event) j n t p.value) is (moving (words_of log)) in
      let kept' : LogKeepsRule keys (set (set cells k (old + n, true)) p.key (p.value, true)) ((o ∷ log) ++ e ∷ []) = with_event cells o.opening log e j k old n p.key p.value kept word' gone.0 gone.1 is bumps at' (may cells log kept begins word').0 (may cells log kept begins word').1 in
      let becomes : either ((cell cells k).0 == old) (old + n) (cell cells k).0 ≡ old + n = rw test refl in (
        gives,
        e ∷ [],
        Some 0,
        right,
        subst (λ (i : ℕ). LogKeepsRule keys (set (set cells k (i, true)) p.key (p.value, true)) ((o ∷ log) ++ e ∷ [])) (sym becomes) kept',
        lets cells log kept begins word',
        record {
          log = o ∷ log;
          cells = cells;
          begins = (begins.0, ap (λ (l : List NoteView). o ∷ l) begins.1);
          kept = kept;
          out = gone.1;
          value = refl;
          ran = λ is. refl;
          idle = λ other. absurd (other found);
          done = inl (found, refl, refl, (set (set cells k (old + n, true)) p.key (p.value, true), kept'));
        },
      )
  add_goes o before v p e s j k old n right is at begun moving may lets cells log kept begins away m word here false test =
      let all : (o ∷ log) ++ [] ≡ o ∷ log = append-nil (o ∷ log) in
      let becomes : either ((cell cells k).0 == old) (old + n) (cell cells k).0 ≡ m = rw test (ap (λ (c : Cell). c.0) here) in
      let same : set cells k (either ((cell cells k).0 == old) (old + n) (cell cells k).0, true) ≡ cells = ap (λ (i : ℕ). set cells k (i, true)) becomes ∙ untouched cells k m here in
      let kept' : LogKeepsRule keys cells ((o ∷ log) ++ []) = subst (LogKeepsRule keys cells) (sym all) kept in
      let ne : (cell cells k).0 ≢ old = λ found. let t : ((cell cells k).0 == old) ≡ true = grind (arith, nat_tests, found) in not_both ((cell cells k).0 == old) t test in (
        keeps,
        [],
        s,
        tt,
        subst (λ (ds : List Cell). LogKeepsRule keys ds ((o ∷ log) ++ [])) (sym same) kept',
        inl (refl, ap shown_of all),
        record {
          log = o ∷ log;
          cells = cells;
          begins = (begins.0, ap (λ (l : List NoteView). o ∷ l) begins.1);
          kept = kept;
          out = (away right).1;
          value = refl;
          ran = λ is. absurd (ne is);
          idle = λ other. refl;
          done = inr (ne, all, refl);
        },
      )

  -- the exchange of a word that adds a note, where `before` is what the pass had seen and `v` what is seen now
  pub add_moves : (o : NoteView) (before v : List NoteView) (p : Nib) (e : NoteView) (s : Option ℕ) (j k old n : ℕ) → p.right ≡ may_write → e.ticket ≡ p.key → p.key ≡ ticket_of e.by before → IsPrefix before v
      → IsWord v j k → Moving e.ticket e.event j n p.value → May keys o.opening v j k old e.event → Lets keys o v j k old e s
      → Moves (LogKeepsRule keys) shown_of (Moved e) k (o ∷ v, (p, s)) (λ m. either (m == old) (old + n) m) (Adds keys (step k old (old + n) e) (o ∷ v, (p, s)))
  add_moves o before v p e s j k old n right is at begun seen moving may lets cells [] kept begins away = absurd kept
  add_moves o before v p e s j k old n right is at begun seen moving may lets cells (f ∷ log) kept begins away =
      let tail = prefix_tail o f v log begins in
      let kept' : KeepsRule keys cells o.opening log = subst (λ (g : NoteView). KeepsRule keys cells g.opening log) (sym tail.0) kept in
      let w = stands cells o.opening v log j k kept' tail.1 seen in
      let home : IsHome cells k = ap (λ (c : Cell). c.1) w.2 in (
        home_bound cells k home,
        home,
        subst (λ (g : NoteView). Goes (LogKeepsRule keys) shown_of (Moved e) k (o ∷ v, (p, s)) (λ m. either (m == old) (old + n) m) (Adds keys (step k old (old + n) e) (o ∷ v, (p, s))) cells (g ∷ log)) tail.0
            (add_goes o before v p e s j k old n right is at begun moving may lets cells log kept' tail.1 away w.0 w.1 w.2 ((cell cells k).0 == old) refl),
      )
