-- Why a shard's index is exact for a longer history with the same number of texts of the shard.
use Rattle.std.proofs.Common.{◌≡◌, ◌≢◌, ℕ, zero, suc, ◌+◌, ◌<◌, ◌≤◌, ◌⊎◌, ◌↔◌, List, [], ◌∷◌, ◌++◌, Bool, true, false, Option, Some, None, IfSome, IfNone, length, slice_get, refl, sym, ap, ◌∙◌, subst, inl, inr, arith}
use Rattle.std.proofs.lemmas.Bool.{cases_lt, cases_Bool}
use Rattle.std.proofs.lemmas.List.{length_push, append-nil, get_or-set_same, get_or-set_other}
use Rattle.std.proofs.lemmas.Option.{slice_get_within}
use Rattle.std.specs.Prelude.{nat_eq, IsSome, slice_set}
use Rattle.std.proofs.lemmas.Bool.Decides.{nat_tests}
use mathlib.Core.List.{IsPrefix}
use Rattle.lasso_parts.specs.Texts.{Text, position_of, IsDistinct, Fits}
use Rattle.lasso_parts.specs.Index.{Table, Holds, HoldsNone, IsFiled, IsFiledAnywhere, StaysFiled}
use Rattle.lasso_parts.proofs.TextLemmas.{distinct_push}
use Rattle.lasso_parts.proofs.IndexLaws.{IsFiled-append, slice_get-append_left, slice_get_push, position_of_at, position_of_none}
use Rattle.lasso_log.specs.History.{Lacks, Totals, IsOpening, IsLegal}
use Rattle.lasso_log.specs.Notes.{NoteView, history, state, Since}
use Rattle.lasso_log.specs.Views.{InternerId, list_of}
use Rattle.lasso_shared.specs.Shards.{shard_of, is_in, count_where, count_in, IsShardOf, IsWholeShard, Counts}
use Rattle.lasso_log.proofs.Legal.{list_kept}
use Rattle.lasso_log.proofs.Reading.{none_distinct}
use Rattle.lasso_log.proofs.Tickets.{since_trans}
use Rattle.lasso_log.proofs.Lengths.{texts_past}

decide_nat : (i j : ℕ) → (i ≡ j) ⊎ (i ≢ j)
decide_nat i j = elim (cases_lt i j) [
  | inl below ↦ inr (λ e. omega (arith, below, e))
  | inr above ↦ elim (cases_lt j i) [ inl past ↦ inr (λ e. omega (arith, past, e)) | inr same ↦ inl (omega (arith, above, same)) ]
]

-- ---- how many

pub count_append : (p : Text → Bool) (xs ys : List Text) → count_where p (xs ++ ys) ≡ count_where p xs + count_where p ys
count_append p [] ys = omega arith
count_append p (x ∷ xs) ys = elim (cases_Bool (p x)) [
  | inl is_so ↦ (let r = count_append p xs ys in rw is_so (omega (arith, r)))
  | inr not_so ↦ rw not_so (count_append p xs ys)
]

pub count_short : (p : Text → Bool) (xs : List Text) → count_where p xs ≤ length xs
count_short p [] = omega arith
count_short p (x ∷ xs) = elim (cases_Bool (p x)) [
  | inl is_so ↦ (let r = count_short p xs in rw is_so (omega (arith, r)))
  | inr not_so ↦ (let r = count_short p xs in rw not_so (omega (arith, r)))
]

none_in : (p : Text → Bool) (xs : List Text) (m : ℕ) (t : Text) → count_where p xs ≡ 0 → p t ≡ true → slice_get xs m ≡ Some t → ⊥
none_in p [] m t none is at = absurd cc
none_in p (x ∷ xs) zero t none is at = grind (arith, none, is, at)
none_in p (x ∷ xs) (suc m) t none is at = elim (cases_Bool (p x)) [
  | inl is_so ↦ absurd (grind (arith, none, is_so))
  | inr not_so ↦ none_in p xs m t (grind (arith, none, not_so)) is at
]

only_in_front : (p : Text → Bool) (xs rest : List Text) (m : ℕ) (t : Text) → count_where p rest ≡ 0 → p t ≡ true → slice_get (xs ++ rest) m ≡ Some t → slice_get xs m ≡ Some t
only_in_front p [] rest m t none is at = absurd (none_in p rest m t none is at)
only_in_front p (x ∷ xs) rest zero t none is at = at
only_in_front p (x ∷ xs) rest (suc m) t none is at = only_in_front p xs rest m t none is at

-- the list of a legal history is distinct and fits the keys
pub list_good : {K : Type 0} (key_at : ℕ → Option K) (o : Totals) (notes : List NoteView) → IsOpening key_at o → IsLegal key_at o (history notes) → IsDistinct (state o notes).texts × Fits key_at (length (state o notes).texts)
list_good key_at o notes opens legal = list_kept key_at o (history notes) opens.distinct opens.fits legal

nat_eq-self : (n : ℕ) → nat_eq n n ≡ true
nat_eq-self n = grind (arith, nat_tests)

-- a text is of the shard of its hash
pub is_home : (hash_of : Text → ℕ) (hash : ℕ) (t : Text) → hash ≡ hash_of t → is_in hash_of (shard_of hash) t ≡ true
is_home hash_of hash t is = rw is (nat_eq-self (shard_of (hash_of t)))

pub is_some_at : {K : Type 0} (key_at : ℕ → Option K) (n m : ℕ) (k : K) → n ≡ m → Some k ≡ key_at n → IsSome (key_at m)
is_some_at key_at n m k e s = subst (λ (i : ℕ). IsSome (key_at i)) e (subst (λ (o : Option _). IsSome o) s refl)

-- an index that holds nothing is each shard's of the empty list
pub none_yet : (hash_of : Text → ℕ) (number : ℕ) (texts : List Text) (index : Table) → texts ≡ [] → HoldsNone index.slots → IsFiledAnywhere index → IsShardOf hash_of number texts index
none_yet hash_of number texts index is none filed = record {
  filed = filed hash_of texts;
  holds = λ m. (λ h. absurd (none m h), λ s. absurd (cc (sym (ap (λ (ts : List Text). slice_get ts m) is) ∙ s.1)));
  distinct = subst IsDistinct (sym is) none_distinct;
}

-- a longer list of things that each know their number
pub numbered_push : {A : Type 0} (f : ℕ → A) (xs : List A) (x : A) (n : ℕ) → length xs ≡ n → x ≡ f n → ((i : ℕ) → i < n → slice_get xs i ≡ Some (f i)) → (i : ℕ) → i < n + 1 → slice_get (xs ++ x ∷ []) i ≡ Some (f i)
numbered_push f xs x n long is each i below = elim (cases_lt i n) [
  | inl low ↦ slice_get-append_left xs (x ∷ []) i (omega (arith, low, long)) ∙ each i low
  | inr high ↦ (let at : i ≡ length xs = omega (arith, below, high, long) in
      rw at (slice_get_push xs x ∙ ap Some (is ∙ ap f (sym long))))
]

-- the pass has seen nothing more
pub since_self : (p : ℕ) (a : List NoteView) → Since p a a []
since_self p a = record { rest = []; begins = append-nil a; events = refl }

-- the same pass, later again
pub since_both : (p q : ℕ) (a b c : List NoteView) → q ≡ p → Since p a b [] → Since q b c [] → Since p a c []
since_both p q a b c is s t = since_trans p a b c [] s (subst (λ (n : ℕ). Since n b c []) is t)

pub count_in_one : (p : Text → Bool) (xs : List Text) (t : Text) → p t ≡ true → count_where p (xs ++ t ∷ []) ≡ count_where p xs + 1
count_in_one p xs t is =
    let sum = count_append p xs (t ∷ []) in
    let one : count_where p (t ∷ []) ≡ 1 = rw is refl in
    omega (arith, sum, one)

pub count_in_none : (p : Text → Bool) (xs : List Text) (t : Text) → p t ≡ false → count_where p (xs ++ t ∷ []) ≡ count_where p xs
count_in_none p xs t is =
    let sum = count_append p xs (t ∷ []) in
    let none : count_where p (t ∷ []) ≡ 0 = rw is refl in
    omega (arith, sum, none)

pub count_one_none : (p : Text → Bool) (t : Text) → p t ≡ false → count_where p (t ∷ []) ≡ 0
count_one_none p t is = rw is refl

away : (a i j : ℕ) → nat_eq a j ≡ true → (i ≡ j → ⊥) → nat_eq a i ≡ false
away a i j is ne = grind (arith, nat_tests, is, ne)

-- the shards' numbers with one text more
pub tally_pushed : (hash_of : Text → ℕ) (number : ℕ) (texts : List Text) (t : Text) (counts : List ℕ) (c : ℕ) → number < 16 → length counts ≡ 16 → is_in hash_of number t ≡ true → c ≡ count_in hash_of number texts + 1 → Counts hash_of texts counts → Counts hash_of (texts ++ t ∷ []) (slice_set counts number c)
tally_pushed hash_of number texts t counts c low long is more each i below = elim (decide_nat i number) [
  | inl same ↦ rw same (get_or-set_same counts number c 0 (omega (arith, low, long)) ∙ (more ∙ sym (count_in_one (is_in hash_of number) texts t is)))
  | inr other ↦ get_or-set_other counts number i c 0 other ∙ (each i below ∙ sym (count_in_none (is_in hash_of i) texts t (away (shard_of (hash_of t)) i number is other)))
]

module _ (hash_of : Text → ℕ) (number : ℕ) where
  -- the index of a shard of a list is that of a longer one that has no more of its texts
  pub later : (xs rest : List Text) (index : Table) → IsShardOf hash_of number xs index → count_in hash_of number rest ≡ 0 → IsDistinct (xs ++ rest) → IsShardOf hash_of number (xs ++ rest) index
  later xs rest index shard none distinct = record {
    filed = IsFiled-append hash_of xs rest index shard.filed;
    holds = λ m. (
      λ h. let s = (shard.holds m).0 h in (s.0, slice_get-append_left xs rest m (slice_get_within xs m s.0 s.1) ∙ s.1, s.2),
      λ s. (shard.holds m).1 (s.0, only_in_front (is_in hash_of number) xs rest m s.0 none s.2 s.1, s.2),
    );
    distinct = distinct;
  }

  lacks_later : (xs rest : List Text) (t : Text) → count_in hash_of number rest ≡ 0 → is_in hash_of number t ≡ true → IsDistinct xs → Lacks xs t → Lacks (xs ++ rest) t
  lacks_later xs rest t none is distinct lacks = position_of_none (xs ++ rest) t (λ m low at. absurd (cc (position_of_at xs t m distinct (only_in_front (is_in hash_of number) xs rest m t none is at), lacks)))

  -- an index stays that of the shard when it makes room, where a longer list was seen_texts to it
  pub reserved : (xs longer : List Text) (old new : Table) → IsPrefix xs longer → IsShardOf hash_of number xs old → IsFiled hash_of longer new → ((m : ℕ) → Holds new.slots m ↔ Holds old.slots m) → IsShardOf hash_of number xs new
  reserved xs longer old new p shard filed same =
      let low : (m : ℕ) → Holds new.slots m → m < length xs = λ m h. let s = (shard.holds m).0 ((same m).0 h) in slice_get_within xs m s.0 s.1 in record {
        filed = record {
          in_list = λ j m e. low m (j, e);
          reached = λ j m t e g. filed.reached j m t e (ap (λ (ts : List Text). slice_get ts m) (sym p.1) ∙ (slice_get-append_left xs p.0 m (low m (j, e)) ∙ g));
          fitting = λ j m t e g. filed.fitting j m t e (ap (λ (ts : List Text). slice_get ts m) (sym p.1) ∙ (slice_get-append_left xs p.0 m (low m (j, e)) ∙ g));
        };
        holds = λ m. (λ h. (shard.holds m).0 ((same m).0 h), λ l. (same m).1 ((shard.holds m).1 l));
        distinct = shard.distinct;
      }

  -- a new text of the shard goes last in the list, and its position is entered under its hash
  pub pushed : (xs : List Text) (t : Text) (hash n : ℕ) (old new : Table) → IsShardOf hash_of number xs old → Lacks xs t → is_in hash_of number t ≡ true → n ≡ length xs → hash ≡ hash_of t → ((m : ℕ) → Holds new.slots m ↔ (Holds old.slots m ⊎ (m ≡ n))) → StaysFiled hash n old new → IsShardOf hash_of number (xs ++ t ∷ []) new
  pushed xs t hash n old new shard lacks is last hashed held stays =
      let at : slice_get (xs ++ t ∷ []) n ≡ Some t = ap (slice_get (xs ++ t ∷ [])) last ∙ slice_get_push xs t in record {
        filed = stays hash_of (xs ++ t ∷ []) t (IsFiled-append hash_of xs (t ∷ []) old shard.filed) at hashed;
        holds = λ m. (
          λ h. elim ((held m).0 h) [
            | inl w ↦ (let s = (shard.holds m).0 w in (s.0, slice_get-append_left xs (t ∷ []) m (slice_get_within xs m s.0 s.1) ∙ s.1, s.2))
            | inr e ↦ (t, ap (slice_get (xs ++ t ∷ [])) e ∙ at, is)
          ],
          λ s. (held m).1 (elim (cases_lt m (length xs)) [
            | inl b ↦ inl ((shard.holds m).1 (s.0, sym (slice_get-append_left xs (t ∷ []) m b) ∙ s.1, s.2))
            | inr b ↦ inr (let w = slice_get_within (xs ++ t ∷ []) m s.0 s.1 in omega (arith, length_push xs t, w, b, last))
          ]),
        );
        distinct = distinct_push xs t shard.distinct lacks;
      }

  -- a search by a history that begins with the shard's: what it finds is the text's position there
  pub found_at : (longer : List Text) (index : Table) (t : Text) (r : Option ℕ) → IsDistinct longer → IfSome r (λ m. Holds index.slots m × (slice_get longer m ≡ Some t)) → IfSome r (λ m. (position_of longer t ≡ Some m) × (m < length longer))
  found_at longer index t None distinct found = tt
  found_at longer index t (Some m) distinct found = (position_of_at longer t m distinct found.1, slice_get_within longer m t found.1)

  -- and where it finds none the shard's own list lacks the text
  pub missed : (xs longer : List Text) (index : Table) (t : Text) (r : Option ℕ) → IsPrefix xs longer → IsShardOf hash_of number xs index → is_in hash_of number t ≡ true → IfNone r ((m : ℕ) → Holds index.slots m → slice_get longer m ≢ Some t) → IfNone r (Lacks xs t)
  missed xs longer index t None p shard is missing =
      position_of_none xs t (λ m low at. missing m ((shard.holds m).1 (t, at, is)) (ap (λ (ts : List Text). slice_get ts m) (sym p.1) ∙ (slice_get-append_left xs p.0 m low ∙ at)))
  missed xs longer index t (Some m) p shard is missing = tt

  -- the shard's index is filed under the list of a history that begins with the shard's
  pub filed_later : (of : InternerId) (known notes : List NoteView) (index : Table) → IsPrefix known notes → IsShardOf hash_of number (list_of of known) index → IsFiled hash_of (list_of of notes) index
  filed_later of known notes index begins shard =
      let p = texts_past of.opening known notes begins in
      subst (λ (ts : List Text). IsFiled hash_of ts index) p.1 (IsFiled-append hash_of (list_of of known) p.0 index shard.filed)

  -- ---- a history that has no more texts of the shard than the shard's own
  module _ (of : InternerId) (known notes : List NoteView) (whole : IsWholeShard hash_of number of known notes) where
    grows : IsPrefix (list_of of known) (list_of of notes)
    grows = texts_past of.opening known notes whole.begins

    no_more : count_in hash_of number grows.0 ≡ 0
    no_more =
        let sum = count_append (is_in hash_of number) (list_of of known) grows.0 in
        let same : count_in hash_of number (list_of of known ++ grows.0) ≡ count_in hash_of number (list_of of known) = ap (count_in hash_of number) grows.1 ∙ sym whole.counts in
        omega (arith, sum, same)

    -- the shard's index is the shard's of it
    pub exact_shard : (index : Table) → IsShardOf hash_of number (list_of of known) index → IsDistinct (list_of of notes) → IsShardOf hash_of number (list_of of notes) index
    exact_shard index shard distinct =
        subst (λ (ts : List Text). IsShardOf hash_of number ts index) grows.1 (later (list_of of known) grows.0 index shard no_more (subst IsDistinct (sym grows.1) distinct))

    -- a text of the shard that the shard's own list lacks is not in it
    pub exact_lacks : (t : Text) → is_in hash_of number t ≡ true → IsDistinct (list_of of known) → Lacks (list_of of known) t → Lacks (list_of of notes) t
    exact_lacks t is distinct lacks =
        subst (λ (ts : List Text). Lacks ts t) grows.1 (lacks_later (list_of of known) grows.0 t no_more is distinct lacks)

-- a text that the list of the held shard lacks is in none that has no more texts of the shard
pub still_lacks : (hash_of : Text → ℕ) (hash number : ℕ) (of : InternerId) (known notes : List NoteView) (t : Text) → IsWholeShard hash_of number of known notes → hash ≡ hash_of t → number ≡ shard_of hash → IsDistinct (list_of of known) → Lacks (list_of of known) t → Lacks (list_of of notes) t
still_lacks hash_of hash number of known notes t whole hashed home distinct lacks = exact_lacks hash_of number of known notes whole t (rw home (is_home hash_of hash t hashed)) distinct lacks
