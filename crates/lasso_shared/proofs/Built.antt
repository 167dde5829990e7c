-- Why an index that is filled position by position is a shard's of the whole list: after n positions it is exact for the first n texts. A
-- text of the shard is entered, one of another shard changes nothing. While it grows it may be asked for any text of the list.
use Rattle.std.proofs.Common.{◌≡◌, ℕ, ◌+◌, ◌<◌, ◌≤◌, ◌⊎◌, inl, inr, ◌↔◌, List, [], ◌∷◌, ◌++◌, true, false, Some, length, map, get_or, slice_get, take, drop, sym, ap, ◌∙◌, subst, arith}
use Rattle.std.specs.Prelude.{slice_set, nat_eq}
use Rattle.std.proofs.lemmas.Bool.{cases_lt}
use Rattle.std.proofs.lemmas.Bool.Decides.{nat_tests}
use Rattle.std.proofs.lemmas.List.{take-append-drop, length-take-le, length-map, map-append, get_or-map, get_or-set_same, get_or-set_other}
use Rattle.std.proofs.lemmas.Option.{slice_get_within, slice_get-get_or}
use Rattle.lasso_parts.specs.Texts.{Text, IsDistinct}
use Rattle.lasso_parts.specs.Index.{Table, Holds, StaysFiled, IsFiled}
use Rattle.lasso_parts.proofs.TextLemmas.{take_more_at, distinct_push}
use Rattle.lasso_parts.proofs.IndexLaws.{absent_before, IsFiled-append}
use Rattle.lasso_shared.specs.Shards.{shard_of, is_in, count_in, IsShardOf}
use Rattle.lasso_shared.proofs.Whole.{is_home, later, pushed, reserved, count_in_one, count_in_none, count_one_none, count_short}

module _ (hash_of : Text → ℕ) (number : ℕ) (texts : List Text) (distinct : IsDistinct texts) where
  -- the index of the first n texts is filed under the whole list
  pub filed_whole : (n : ℕ) (index : Table) → IsShardOf hash_of number (take n texts) index → IsFiled hash_of texts index
  filed_whole n index shard = subst (λ (ts : List Text). IsFiled hash_of ts index) (take-append-drop n texts) (IsFiled-append hash_of (take n texts) (drop n texts) index shard.filed)

  -- and stays that of the first n texts while it grows
  pub grown : (n : ℕ) (old new : Table) → IsShardOf hash_of number (take n texts) old → IsFiled hash_of texts new → ((m : ℕ) → Holds new.slots m ↔ Holds old.slots m) → IsShardOf hash_of number (take n texts) new
  grown n old new shard filed same = reserved hash_of number (take n texts) texts old new (drop n texts, take-append-drop n texts) shard filed same

  -- a text of the shard is entered
  pub entered : (n position hash : ℕ) (t : Text) (old new : Table) → position ≡ n → slice_get texts n ≡ Some t → is_in hash_of number t ≡ true → hash ≡ hash_of t → IsShardOf hash_of number (take n texts) old → ((m : ℕ) → Holds new.slots m ↔ (Holds old.slots m ⊎ (m ≡ position))) → StaysFiled hash position old new → IsShardOf hash_of number (take (n + 1) texts) new
  entered n position hash t old new here at is hashed shard held stays =
      let inside = slice_get_within texts n t at in
      let last : position ≡ length (take n texts) = here ∙ sym (length-take-le n texts (omega (arith, inside))) in
      subst (λ (ts : List Text). IsShardOf hash_of number ts new) (sym (take_more_at texts n t at))
      (pushed hash_of number (take n texts) t hash position old new shard (absent_before texts n t distinct at) is last hashed held stays)

  -- a text of another shard is passed over
  pub passed : (n : ℕ) (t : Text) (index : Table) → slice_get texts n ≡ Some t → is_in hash_of number t ≡ false → IsShardOf hash_of number (take n texts) index → IsShardOf hash_of number (take (n + 1) texts) index
  passed n t index at other shard =
      subst (λ (ts : List Text). IsShardOf hash_of number ts index) (sym (take_more_at texts n t at))
      (later hash_of number (take n texts) (t ∷ []) index shard (count_one_none (is_in hash_of number) t other) (distinct_push (take n texts) t shard.distinct (absent_before texts n t distinct at)))

  -- the number of the shard's texts goes up by one, or stays
  pub counted_one : (n c : ℕ) (t : Text) → slice_get texts n ≡ Some t → is_in hash_of number t ≡ true → c ≡ count_in hash_of number (take n texts) → c + 1 ≡ count_in hash_of number (take (n + 1) texts)
  counted_one n c t at is counts =
      ap (λ (m : ℕ). m + 1) counts ∙ (sym (count_in_one (is_in hash_of number) (take n texts) t is) ∙ ap (count_in hash_of number) (sym (take_more_at texts n t at)))

  pub counted_none : (n c : ℕ) (t : Text) → slice_get texts n ≡ Some t → is_in hash_of number t ≡ false → c ≡ count_in hash_of number (take n texts) → c ≡ count_in hash_of number (take (n + 1) texts)
  counted_none n c t at other counts =
      counts ∙ (sym (count_in_none (is_in hash_of number) (take n texts) t other) ∙ ap (count_in hash_of number) (sym (take_more_at texts n t at)))

  -- no more texts are of the shard than there are
  pub counted_short : (n c : ℕ) → n ≤ length texts → c ≡ count_in hash_of number (take n texts) → c ≤ n
  counted_short n c inside counts =
      let short = count_short (is_in hash_of number) (take n texts) in
      let long = length-take-le n texts inside in
      omega (arith, short, long, counts)

-- a text whose hash is one of the shard's number is of the shard
pub is_its : (hash_of : Text → ℕ) (number found hash : ℕ) (t : Text) → hash ≡ hash_of t → found ≡ shard_of hash → found ≡ number → is_in hash_of number t ≡ true
is_its hash_of number found hash t is which same = subst (λ (m : ℕ). is_in hash_of m t ≡ true) (sym which ∙ same) (is_home hash_of hash t is)

differ : (a b : ℕ) → (a ≡ b → ⊥) → nat_eq a b ≡ false
differ a b other = grind (arith, nat_tests, other)

-- and any other is not
pub is_others : (hash_of : Text → ℕ) (number found hash : ℕ) (t : Text) → hash ≡ hash_of t → found ≡ shard_of hash → (found ≡ number → ⊥) → is_in hash_of number t ≡ false
is_others hash_of number found hash t is which other = subst (λ (m : ℕ). nat_eq m number ≡ false) (which ∙ ap shard_of is) (differ found number other)

-- each text has a hash
pub as_many : (hash_of : Text → ℕ) (texts : List Text) (hashes : List ℕ) → hashes ≡ map hash_of texts → length hashes ≡ length texts
as_many hash_of texts hashes is = ap (λ (hs : List ℕ). length hs) is ∙ length-map texts hash_of

-- the text that a hash is of
pub hashed_at : (hash_of : Text → ℕ) (texts : List Text) (hashes : List ℕ) (n : ℕ) → hashes ≡ map hash_of texts → n < length hashes → (t : Text) × (slice_get texts n ≡ Some t) × (get_or hashes n 0 ≡ hash_of t)
hashed_at hash_of texts hashes n is inside =
    let long = as_many hash_of texts hashes is in
    let below : n < length texts = omega (arith, inside, long) in
    (get_or texts n [], slice_get-get_or texts n [] below, ap (λ (hs : List ℕ). get_or hs n 0) is ∙ get_or-map hash_of texts n [] 0 below)

-- the hashes of one text more
pub hashed_more : (hash_of : Text → ℕ) (texts : List Text) (n : ℕ) (t : Text) → slice_get texts n ≡ Some t → map hash_of (take n texts) ++ hash_of t ∷ [] ≡ map hash_of (take (n + 1) texts)
hashed_more hash_of texts n t at = sym (ap (map hash_of) (take_more_at texts n t at) ∙ map-append hash_of (take n texts) (t ∷ []))

-- the numbers of the first shards
abbrev pub CountedBelow : (hash_of : Text → ℕ) (texts : List Text) (n : ℕ) (counts : List ℕ) → Type 0
CountedBelow hash_of texts n counts = (i : ℕ) → i < n → get_or counts i 0 ≡ count_in hash_of i texts

-- and of one shard more
pub counted_below_more : (hash_of : Text → ℕ) (texts : List Text) (n c : ℕ) (counts : List ℕ) → n < length counts → c ≡ count_in hash_of n texts → CountedBelow hash_of texts n counts → CountedBelow hash_of texts (n + 1) (slice_set counts n c)
counted_below_more hash_of texts n c counts inside is each i below = elim (cases_lt i n) [
  | inl low ↦ get_or-set_other counts n i c 0 (λ same. omega (arith, low, same)) ∙ each i low
  | inr high ↦
      let same : i ≡ n = omega (arith, below, high) in
      rw same (get_or-set_same counts n c 0 inside ∙ is)
]
