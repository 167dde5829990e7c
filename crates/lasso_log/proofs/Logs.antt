-- The steps on whole logs, which begin with the note of their opening.
use Rattle.std.proofs.Common.{◌≡◌, ◌≢◌, ◌⊎◌, ℕ, ◌+◌, ◌==◌, false, List, [], ◌∷◌, ◌++◌, refl, ap, sym, ◌∙◌, subst, inl, inr, Option}
use mathlib.Core.List.{IsPrefix}
use prog.Atomic.{either}
use Rattle.logbook.specs.Pages.{Cell, cell, Nib, no_nib, may_write, step, View, Moves}
use Rattle.lasso_log.specs.History.{Totals, IsLegal}
use Rattle.lasso_log.specs.Notes.{NoteView, history, opening_of, first_note, notes_of, IsOpened, ticket_of, Since, IsWord, IsWordWith}
use Rattle.lasso_log.specs.Book.{IsUsed, KeepsRule, LogKeepsRule, Peeks, Fetches, Adds, Moving, May, Lets, Moved, IsIn, Reads, shown_of}
use Rattle.lasso_log.proofs.Histories.{prefix_tail, prefix_trans, prefix_self}
use Rattle.lasso_log.proofs.Tickets.{still, grown, next_ticket}
use Rattle.lasso_log.proofs.LogWords.{word_later}
use Rattle.lasso_log.proofs.Steps.{peek_moves, fetch_moves, fetch_used, add_moves, stands}

-- a longer log has the same opening, and more notes
pub tails : (xs ys : List NoteView) → IsOpened xs → IsPrefix xs ys → IsOpened ys × (opening_of xs ≡ opening_of ys) × IsPrefix (notes_of xs) (notes_of ys)
tails [] ys o p = absurd o
tails (x ∷ xs) [] o p = absurd (cc (p.1))
tails (x ∷ xs) (y ∷ ys) o p = let r = prefix_tail x y xs ys p in (tt, ap (λ (e : NoteView). e.opening) r.0, r.1)

pub opening_first : (xs : List NoteView) → opening_of xs ≡ (first_note xs).opening
opening_first [] = refl
opening_first (x ∷ xs) = refl

-- a longer log has the same first note
pub firsts : (xs ys : List NoteView) → IsOpened xs → IsPrefix xs ys → first_note xs ≡ first_note ys
firsts [] ys o p = absurd o
firsts (x ∷ xs) [] o p = absurd (cc (p.1))
firsts (x ∷ xs) (y ∷ ys) o p = (prefix_tail x y xs ys p).0

notes_push : (xs : List NoteView) (e : NoteView) → IsOpened xs → notes_of (xs ++ e ∷ []) ≡ notes_of xs ++ e ∷ []
notes_push [] e o = absurd o
notes_push (x ∷ xs) e o = refl

module _ {Key : Type 0} (keys : ℕ → Option Key) where
  pub kept_opened : (cells : List Cell) (log : List NoteView) → LogKeepsRule keys cells log → IsOpened log × KeepsRule keys cells (opening_of log) (notes_of log)
  kept_opened cells [] kept = absurd kept
  kept_opened cells (o ∷ log) kept = (tt, kept)

  pub peek_opened : (log : List NoteView) (e : NoteView) (s : Option ℕ) (j k : ℕ) → IsOpened log → IsWord (notes_of log) j k → Moves (LogKeepsRule keys) shown_of (Moved e) k (log, (no_nib, s)) (λ n. n) (Peeks keys (step k 0 0 e) (log, (no_nib, s)))
  peek_opened [] e s j k o word = absurd o
  peek_opened (f ∷ log) e s j k o word = peek_moves keys f log e s j k word

  pub fetch_opened : (log : List NoteView) (e : NoteView) (s : Option ℕ) → IsOpened log → Moves (LogKeepsRule keys) shown_of (Moved e) 0 (log, (no_nib, s)) (λ n. either (n == 0) 0 n) (Fetches keys (step 0 0 0 e) (log, (no_nib, s)))
  fetch_opened [] e s o = absurd o
  fetch_opened (f ∷ log) e s o = fetch_moves keys f log e s

  pub fetch_used_opened : (log : List NoteView) (e : NoteView) (s : Option ℕ) (k : ℕ) → IsOpened log → IsUsed k (notes_of log) → Moves (LogKeepsRule keys) shown_of (Moved e) k (log, (no_nib, s)) (λ n. either (n == 0) 0 n) (Fetches keys (step k 0 0 e) (log, (no_nib, s)))
  fetch_used_opened [] e s k o used = absurd o
  fetch_used_opened (f ∷ log) e s k o used = fetch_used keys f log e s k used

  -- what a pass knows of `b`, where its ticket was out at the later log `c`
  pub still_opened : (a b c : List NoteView) (p t : ℕ) → IsOpened a → IsPrefix a b → IsPrefix b c → t ≡ ticket_of p (notes_of a) → ((cells : List Cell) × LogKeepsRule keys cells c × ((cell cells t).1 ≡ false))
      → Since p (notes_of a) (notes_of b) [] × (ticket_of p (notes_of b) ≡ ticket_of p (notes_of a))
  still_opened a b c p t o ab bc is out =
      let r = tails a b o ab in
      let s = tails b c r.0 bc in
      let k = kept_opened out.0 c out.1 in
      still keys out.0 (opening_of c) p (notes_of a) (notes_of b) (notes_of c) r.2 s.2 k.1 (subst (λ (i : ℕ). (cell out.0 i).1 ≡ false) is out.2)

  -- a log that the rule held of has a legal history
  pub legal_opened : (a b : List NoteView) → IsOpened a → IsPrefix a b → ((cells : List Cell) × LogKeepsRule keys cells b) → IsLegal keys (opening_of a) (history (notes_of b))
  legal_opened a b o ab held =
      let r = tails a b o ab in
      subst (λ (t : Totals). IsLegal keys t (history (notes_of b))) (sym r.1) (kept_opened held.0 b held.1).1.legal

  pub read_value : (a b : List NoteView) (j k found : ℕ) → IsOpened a → IsPrefix a b → IsWord (notes_of a) j k → ((cells : List Cell) × LogKeepsRule keys cells b × ((cell cells k).0 ≡ found)) → Reads keys (opening_of a) (notes_of b) j k found
  read_value a b j k found o ab word at =
      let r = tails a b o ab in
      let kept : KeepsRule keys at.0 (opening_of a) (notes_of b) = subst (λ (t : Totals). KeepsRule keys at.0 t (notes_of b)) (sym r.1) (kept_opened at.0 b at.1).1 in
      let s = stands keys at.0 (opening_of a) (notes_of a) (notes_of b) j k kept r.2 word in
      let n : s.0 ≡ found = ap (λ (c : Cell). c.0) (sym s.2) ∙ at.2 in
      (subst (IsWordWith (notes_of b) j k) n s.1, (at.0, kept))

  -- the exchange, where `a` is what the pass had seen, `g` what was given, and `v` both
  pub add_opened : (a g v : List NoteView) (p : Nib) (e : NoteView) (s : Option ℕ) (j k old n : ℕ) → IsOpened a → IsPrefix a v → IsOpened g → IsPrefix g v → p.right ≡ may_write → e.ticket ≡ p.key → p.key ≡ ticket_of e.by (notes_of a)
      → IsWord (notes_of g) j k → Moving e.ticket e.event j n p.value → May keys (opening_of g) (notes_of g) j k old e.event → Lets keys (first_note g) (notes_of g) j k old e s
      → Moves (LogKeepsRule keys) shown_of (Moved e) k (v, (p, s)) (λ m. either (m == old) (old + n) m) (Adds keys (step k old (old + n) e) (v, (p, s)))
  add_opened a g [] p e s j k old n oa av og gv right is at word moving may lets = absurd ((tails a [] oa av).0)
  add_opened a g (f ∷ v) p e s j k old n oa av og gv right is at word moving may lets =
      let ra = tails a (f ∷ v) oa av in
      let rg = tails g (f ∷ v) og gv in
      let later = word_later (notes_of g) v j k word.0 rg.2 word.1 in
      let may1 : May keys f.opening (notes_of g) j k old e.event = subst (λ (t : Totals). May keys t (notes_of g) j k old e.event) rg.1 may in
      let lets1 : Lets keys f (notes_of g) j k old e s = subst (λ (t : NoteView). Lets keys t (notes_of g) j k old e s) (firsts g (f ∷ v) og gv) lets in
      add_moves keys f (notes_of a) v p e s j k old n right is at ra.2 (later.0, later.1) moving (λ cells log kept begins here. may1 cells log kept (prefix_trans (notes_of g) v log rg.2 begins) here)
      (λ cells log kept begins here. lets1 cells log kept (prefix_trans (notes_of g) v log rg.2 begins) here)

  -- what is known once the note is in
  pub added : (a g v : List NoteView) (p : Nib) (e : NoteView) (j k old new found : ℕ) (s : Option ℕ) (w : View NoteView ℕ) → IsOpened a → IsPrefix a v → IsOpened g → IsPrefix g v → p.key ≡ ticket_of e.by (notes_of a) → IsWord (notes_of g) j k
      → found ≡ old → Adds keys (step k old new e) (v, (p, s)) found w → IsIn keys (opening_of a) a g w.0 e j k old
  added a g v p e j k old new found s w oa av og gv at word here add = go add.done
    where
      go : ((found ≡ old) × (w.0 ≡ add.log ++ e ∷ []) × (w.1.0 ≡ no_nib) × ((after : List Cell) × LogKeepsRule keys after w.0)) ⊎ ((found ≢ old) × (w.0 ≡ add.log) × (w.1.0 ≡ p)) → IsIn keys (opening_of a) a g w.0 e j k old
      go (inr r) = absurd (r.0 here)
      go (inl r) =
          let al : IsPrefix a add.log = prefix_trans a v add.log av add.begins in
          let gl : IsPrefix g add.log = prefix_trans g v add.log gv add.begins in
          let ra = tails a add.log oa al in
          let rg = tails g add.log og gl in
          let aw : IsPrefix a w.0 = prefix_trans a add.log w.0 al (e ∷ [], sym r.1) in
          let rw' = tails a w.0 oa aw in
          let kept : KeepsRule keys add.cells (opening_of add.log) (notes_of add.log) = (kept_opened add.cells add.log add.kept).1 in
          let after : KeepsRule keys r.3.0 (opening_of a) (notes_of w.0) = subst (λ (t : Totals). KeepsRule keys r.3.0 t (notes_of w.0)) (sym rw'.1) (kept_opened r.3.0 w.0 r.3.1).1 in
          let st = stands keys add.cells (opening_of add.log) (notes_of g) (notes_of add.log) j k kept rg.2 word in
          let value : st.0 ≡ old = ap (λ (c : Cell). c.0) (sym st.2) ∙ (add.value ∙ here) in
          let notes : notes_of w.0 ≡ notes_of add.log ++ e ∷ [] = ap notes_of r.1 ∙ notes_push add.log e ra.0 in
          let alone = still keys add.cells (opening_of add.log) e.by (notes_of a) (notes_of add.log) (notes_of add.log) ra.2 (prefix_self (notes_of add.log)) kept (subst (λ (i : ℕ). (cell add.cells i).1 ≡ false) at add.out) in record {
            opened = rw'.0;
            opening = sym rw'.1;
            done = record {
              mid = notes_of add.log;
              note = e;
              own = refl;
              is = refl;
              ticket = refl;
              last = notes;
              begins = rg.2;
              since = subst (λ (l : List NoteView). Since e.by (notes_of a) l (e.event ∷ [])) (sym notes) (grown e.by (notes_of a) (notes_of add.log) e alone.0 refl);
              value = subst (IsWordWith (notes_of add.log) j k) value st.1;
              kept = (r.3.0, after);
            };
            note = refl;
            ticket = ap (ticket_of e.by) notes ∙ next_ticket e.by (notes_of add.log) e refl;
            legal = after.legal;
          }

  -- where another value was found, the pen stays
  pub refused : (v : List NoteView) (p : Nib) (e : NoteView) (k old new found : ℕ) (s : Option ℕ) (w : View NoteView ℕ) → found ≢ old → Adds keys (step k old new e) (v, (p, s)) found w → w.1.0 ≡ p
  refused v p e k old new found s w ne add = go add.done
    where
      go : ((found ≡ old) × (w.0 ≡ add.log ++ e ∷ []) × (w.1.0 ≡ no_nib) × ((after : List Cell) × LogKeepsRule keys after w.0)) ⊎ ((found ≢ old) × (w.0 ≡ add.log) × (w.1.0 ≡ p)) → w.1.0 ≡ p
      go (inl r) = absurd (ne r.0)
      go (inr r) = r.2

  -- and so does the update
  pub as_it_was : (v : List NoteView) (p : Nib) (e : NoteView) (k old new found : ℕ) (s : Option ℕ) (w : View NoteView ℕ) → found ≢ old → Adds keys (step k old new e) (v, (p, s)) found w → (w.1.0 ≡ p) × (w.1.1 ≡ s)
  as_it_was v p e k old new found s w ne add = (refused v p e k old new found s w ne add, add.idle ne)

-- of two beginnings of one list, one begins the other
pub either_begins : {A : Type 0} (xs ys zs : List A) → IsPrefix xs zs → IsPrefix ys zs → IsPrefix xs ys ⊎ IsPrefix ys xs
either_begins [] ys zs p q = inl (ys, refl)
either_begins (x ∷ xs) [] zs p q = inr (x ∷ xs, refl)
either_begins (x ∷ xs) (y ∷ ys) [] p q = absurd (cc (p.1))
either_begins (x ∷ xs) (y ∷ ys) (z ∷ zs) p q =
    let a = prefix_tail x z xs zs p in
    let b = prefix_tail y z ys zs q in
    longer (a.0 ∙ sym b.0) (either_begins xs ys zs a.1 b.1)
  where
    longer : x ≡ y → IsPrefix xs ys ⊎ IsPrefix ys xs → IsPrefix (x ∷ xs) (y ∷ ys) ⊎ IsPrefix (y ∷ ys) (x ∷ xs)
    longer e (inl r) = inl (r.0, cc (e, r.1))
    longer e (inr r) = inr (r.0, cc (e, r.1))
