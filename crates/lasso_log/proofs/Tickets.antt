-- Whose events a history has. Each event uses the ticket that its pass then has, and a used ticket is at home.
-- So a pass whose ticket is out has made no event past what it has seen: the first one would have used that ticket.
use Rattle.std.proofs.Common.{◌≡◌, ℕ, ◌==◌, Bool, true, false, List, [], ◌∷◌, ◌++◌, if◌then◌else◌, refl, ap, sym, ◌∙◌, subst, arith, append_assoc, inl, inr, Option, None, Some, IfSome}
use Rattle.std.proofs.lemmas.List.{append-nil}
use Rattle.std.proofs.lemmas.Bool.Decides.{nat_tests}
use mathlib.Core.List.{IsPrefix}
use Rattle.logbook.specs.Pages.{Cell, cell, Book, Named}
use Rattle.lasso_log.specs.History.{Event, Totals}
use Rattle.lasso_log.specs.Calls.{events_of}
use Rattle.lasso_log.specs.Notes.{NoteView, history, Since, ticket_after, ticket_of, Chained}
use Rattle.lasso_log.specs.Book.{IsHome, Used, IsUsed, IsUsedWord, KeepsRule}
use Rattle.lasso_log.proofs.Histories.{own_append}

pub not_both : {X : Type 0} (b : Bool) → b ≡ true → b ≡ false → X
not_both true t f = absurd cc
not_both false t f = absurd cc

pub by_cases : {X : Type 0} (b : Bool) → (b ≡ true → X) → (b ≡ false → X) → X
by_cases true t f = t refl
by_cases false t f = f refl

ticket_append : (p d : ℕ) (xs ys : List NoteView) → ticket_after p d (xs ++ ys) ≡ ticket_after p (ticket_after p d xs) ys
ticket_append p d [] ys = refl
ticket_append p d (e ∷ xs) ys = ticket_append p (if e.by == p then e.next else d) xs ys

-- chains and used tickets, of a part of the log and of a longer one
chained_past : (xs v rest : List NoteView) → Chained xs (v ++ rest) → Chained (xs ++ v) rest
chained_past xs [] rest c = subst (λ (l : List NoteView). Chained l rest) (sym (append-nil xs)) c
chained_past xs (e ∷ v) rest c = subst (λ (l : List NoteView). Chained l rest) (append_assoc xs (e ∷ []) v) (chained_past (xs ++ e ∷ []) v rest c.1)

chained_front : (xs v rest : List NoteView) → Chained xs (v ++ rest) → Chained xs v
chained_front xs [] rest c = tt
chained_front xs (e ∷ v) rest c = (c.0, chained_front (xs ++ e ∷ []) v rest c.1)

pub chained_more : (xs v : List NoteView) (e : NoteView) → Chained xs v → e.ticket ≡ ticket_of e.by (xs ++ v) → Chained xs (v ++ e ∷ [])
chained_more xs [] e c is = (is ∙ ap (ticket_of e.by) (append-nil xs), tt)
chained_more xs (f ∷ v) e c is = (c.0, chained_more (xs ++ f ∷ []) v e c.1 (is ∙ ap (ticket_of e.by) (sym (append_assoc xs (f ∷ []) v))))

used_past : (cells : List Cell) (v rest : List NoteView) → Used cells (v ++ rest) → Used cells rest
used_past cells [] rest u = u
used_past cells (e ∷ v) rest u = used_past cells v rest u.1

used_front : (cells : List Cell) (v rest : List NoteView) → Used cells (v ++ rest) → Used cells v
used_front cells [] rest u = tt
used_front cells (e ∷ v) rest u = (u.0, used_front cells v rest u.1)

pub used_more : (cells : List Cell) (v : List NoteView) (e : NoteView) → Used cells v → IsHome cells e.ticket → Used cells (v ++ e ∷ [])
used_more cells [] e u h = (h, tt)
used_more cells (f ∷ v) e u h = (u.0, used_more cells v e u.1 h)

pub used_still : (cells after : List Cell) (v : List NoteView) → ((k : ℕ) → IsHome cells k → IsHome after k) → Used cells v → Used after v
used_still cells after [] still u = tt
used_still cells after (e ∷ v) still u = (still e.ticket u.0, used_still cells after v still u.1)

-- a ticket that was used is at home, and stays used
pub used_home : (cells : List Cell) (v : List NoteView) (k : ℕ) → Used cells v → IsUsed k v → IsHome cells k
used_home cells [] k u is = absurd is
used_home cells (e ∷ v) k u (inl at) = subst (IsHome cells) at u.0
used_home cells (e ∷ v) k u (inr is) = used_home cells v k u.1 is

used_in : (v rest : List NoteView) (k : ℕ) → IsUsed k v → IsUsed k (v ++ rest)
used_in [] rest k is = absurd is
used_in (e ∷ v) rest k (inl at) = inl at
used_in (e ∷ v) rest k (inr is) = inr (used_in v rest k is)

pub used_later : (v log : List NoteView) (k : ℕ) → IsPrefix v log → IsUsed k v → IsUsed k log
used_later v log k p is = subst (IsUsed k) p.1 (used_in v p.0 k is)

-- and so does the word of one that a pass keeps
pub used_word_later : (b : Book) (v log : List NoteView) (word : Option Named) → IsPrefix v log → IfSome word (IsUsedWord b v) → IfSome word (IsUsedWord b log)
used_word_later b v log None p u = u
used_word_later b v log (Some word) p u = (u.0, used_later v log word.key p u.1)

pub used_last : (v : List NoteView) (e : NoteView) (k : ℕ) → e.ticket ≡ k → IsUsed k (v ++ e ∷ [])
used_last [] e k at = inl at
used_last (f ∷ v) e k at = inr (used_last v e k at)

-- while the ticket of a pass is out, no other event of the pass comes
none_of : (cells : List Cell) (p : ℕ) (v rest : List NoteView) → Chained v rest → Used cells rest → (cell cells (ticket_of p v)).1 ≡ false
    → (events_of p (history rest) ≡ []) × (ticket_of p (v ++ rest) ≡ ticket_of p v)
none_of cells p v [] c u out = (refl, ap (ticket_of p) (append-nil v))
none_of cells p v (e ∷ rest) c u out = by_cases (e.by == p)
    (λ is.
    let same : e.by ≡ p = grind (arith, nat_tests) in
    let at : e.ticket ≡ ticket_of p v = c.0 ∙ ap (λ (q : ℕ). ticket_of q v) same in
    not_both (cell cells (ticket_of p v)).1 (subst (λ (k : ℕ). (cell cells k).1 ≡ true) at u.0) out)
    (λ is.
    let on : ticket_of p (v ++ e ∷ []) ≡ ticket_of p v = ticket_append p p v (e ∷ []) ∙ ap (λ (b : Bool). if b then e.next else ticket_of p v) is in
    let more = none_of cells p (v ++ e ∷ []) rest c.1 u.1 (subst (λ (k : ℕ). (cell cells k).1 ≡ false) (sym on) out) in
    (ap (λ (b : Bool). if b then e.event ∷ events_of p (history rest) else events_of p (history rest)) is ∙ more.0, ap (ticket_of p) (sym (append_assoc v (e ∷ []) rest)) ∙ (more.1 ∙ on)))

module _ {Key : Type 0} (keys : ℕ → Option Key) where
  -- what a pass knows of a history `mid` past what it had seen, where its ticket was still out at a later one
  pub still : (cells : List Cell) (o : Totals) (p : ℕ) (before mid after : List NoteView) → IsPrefix before mid → IsPrefix mid after → KeepsRule keys cells o after → (cell cells (ticket_of p before)).1 ≡ false
      → Since p before mid [] × (ticket_of p mid ≡ ticket_of p before)
  still cells o p before mid after begins more kept out =
      let c : Chained [] mid = chained_front [] mid more.0 (subst (Chained []) (sym more.1) kept.chained) in
      let u : Used cells mid = used_front cells mid more.0 (subst (Used cells) (sym more.1) kept.used) in
      let none = none_of cells p before begins.0 (chained_past [] before begins.0 (subst (Chained []) (sym begins.1) c)) (used_past cells before begins.0 (subst (Used cells) (sym begins.1) u)) out in
      (record { rest = begins.0; begins = begins.1; events = none.0 }, ap (ticket_of p) (sym begins.1) ∙ none.1)

-- an event of its own comes after that
pub grown : (p : ℕ) (before after : List NoteView) (e : NoteView) → Since p before after [] → e.by ≡ p → Since p before (after ++ e ∷ []) (e.event ∷ [])
grown p before after e s is =
    let one : events_of p (history (e ∷ [])) ≡ e.event ∷ [] = grind (arith, nat_tests) in record {
      rest = s.rest ++ e ∷ [];
      begins = sym (append_assoc before s.rest (e ∷ [])) ∙ ap (λ (l : List NoteView). l ++ e ∷ []) s.begins;
      events = own_append p s.rest (e ∷ []) ∙ (ap (λ (l : List Event). l ++ events_of p (history (e ∷ []))) s.events ∙ one);
    }

pub next_ticket : (p : ℕ) (v : List NoteView) (e : NoteView) → e.by ≡ p → ticket_of p (v ++ e ∷ []) ≡ e.next
next_ticket p v e is =
    let t : (e.by == p) ≡ true = grind (arith, nat_tests) in
    ticket_append p p v (e ∷ []) ∙ ap (λ (b : Bool). if b then e.next else ticket_of p v) t

pub since_trans : (p : ℕ) (a b c : List NoteView) (own : List Event) → Since p a b [] → Since p b c own → Since p a c own
since_trans p a b c own s t = record {
  rest = s.rest ++ t.rest;
  begins = sym (append_assoc a s.rest t.rest) ∙ (ap (λ (l : List NoteView). l ++ t.rest) s.begins ∙ t.begins);
  events = own_append p s.rest t.rest ∙ (ap (λ (l : List Event). l ++ events_of p (history t.rest)) s.events ∙ t.events);
}
