-- Copying a distinct list of texts, one after another, to the end of an empty list.
--
-- The text at position i is none of those before it, since the list is distinct, and position i has a key,
-- since the list fits the keys. So interning it either puts it last and stores its bytes, or is refused by
-- the limit or out of memory: no text is found, and no key is lacking.
use Rattle.std.proofs.Common.{◌≡◌, ℕ, ◌+◌, ◌<◌, ◌≤◌, ◌⊎◌, inl, inr, List, [], ◌∷◌, ◌++◌, length, take, slice_get, Option, Some, None, IsSome, is_some, cond, IsOk, Result, Ok, Err, MatchResult, refl, sym, subst, ap, ◌∙◌, arith}
use Rattle.std.specs.Prelude.{IfOk, option_and_then}
use Rattle.std.proofs.lemmas.Grind.{common_steps}
use Rattle.std.proofs.lemmas.Bool.Decides.{nat_tests}
use Rattle.std.proofs.lemmas.List.{length-take-le}
use Rattle.std.proofs.lemmas.List.Sums.{sum_by_more, sum_by-cons, sum_by-take-le}
use Rattle.std.proofs.lemmas.Option.{option_and_then_some, slice_get_within, get_or_from_slice_get}
use Rattle.lasso_parts.specs.Account.{Account, fresh, store}
use Rattle.lasso_parts.specs.Held.{Held}
use Rattle.lasso_parts.specs.Texts.{Text, position_of, IsDistinct, Fits}
use Rattle.lasso_parts.specs.declared.util.LassoError.{LassoError}
use Rattle.lasso_parts.specs.declared.util.LassoErrorKind.TheVariants.{MemoryLimitReached, FailedAllocation}
use Rattle.lasso_parts.proofs.IndexLaws.{absent_before}
use Rattle.lasso_parts.proofs.TextLemmas.{take_more_at}
use Rattle.lasso_single.specs.Copies.{bytes_of, store_all, CopiesOne, StopsAt, clone_size, read_of}
use Rattle.lasso_single.specs.Intern.{Interns, InternsIn, interned, with_text, stored_or_refused, keyed_or_refused, found_or_new}
use Rattle.lasso_single.specs.Interner.{InternerView, KeepsOrigin, bytes_added}

-- ---- a new text

new_case : {K : Type 0} (key_at : ℕ → Option K) (first : ℕ) (held : Held) (text : Text) (p : Option ℕ) (r : Result Held LassoError) → p ≡ None → found_or_new key_at first held text p ≡ r → keyed_or_refused first held text (key_at (length held.texts)) ≡ r
new_case key_at first held text p r e h = subst (λ (q : Option ℕ). found_or_new key_at first held text q ≡ r) e h

keyed_case : {K : Type 0} (first : ℕ) (held : Held) (text : Text) (o : Option K) (r : Result Held LassoError) → IsSome o → keyed_or_refused first held text o ≡ r → stored_or_refused held text (store first held.account (length text)) ≡ r
keyed_case first held text None r some h = cc
keyed_case first held text (Some k) r some h = h

stored_ok : (held : Held) (text : Text) (s : Option Account) (b : Held) → stored_or_refused held text s ≡ Ok b → (b ≡ with_text held text b.account) × (s ≡ Some b.account)
stored_ok held text None b h = cc
stored_ok held text (Some a) b h = let e : with_text held text a ≡ b = cc in (subst (λ (x : Held). x ≡ with_text held text x.account) e refl, ap (λ (x : Held). Some x.account) e)

stored_err : (held : Held) (text : Text) (s : Option Account) (error : LassoError) → stored_or_refused held text s ≡ Err error → (error ≡ MemoryLimitReached) × (s ≡ None)
stored_err held text None error h = (cc, refl)
stored_err held text (Some a) error h = cc

-- where it goes in, the limit has room for it
stored_some : (held : Held) (text : Text) (s : Option Account) (r : Result Held LassoError) → stored_or_refused held text s ≡ r → IsOk r → IsSome s
stored_some held text None r h ok = cc
stored_some held text (Some a) r h ok = refl

-- what interning an absent text leaves that has a key
pub interns_new : {K : Type 0} (key_at : ℕ → Option K) (first : ℕ) (texts : List Text) (account : Account) (text : Text) (reply : Result K LassoError) (texts' : List Text) (account' : Account) → Interns key_at first texts account text reply texts' account' → position_of texts text ≡ None → IsSome (key_at (length texts))
    → MatchResult reply (λ _. (texts' ≡ texts ++ text ∷ []) × (store first account (length text) ≡ Some account'))
    (λ error. (texts' ≡ texts) × (account' ≡ account) × (((error ≡ FailedAllocation) × IsSome (store first account (length text))) ⊎ ((error ≡ MemoryLimitReached) × (store first account (length text) ≡ None))))
interns_new key_at first texts account text (Ok k) texts' account' h absent has_key =
    let held : Held = record { texts = texts; account = account } in
    let after : Held = record { texts = texts'; account = account' } in
    let e = keyed_case first held text (key_at (length texts)) (Ok after) has_key (new_case key_at first held text (position_of texts text) (Ok after) absent h.0) in
    let s = stored_ok held text (store first account (length text)) after e in
    (ap (λ (x : Held). x.texts) s.0, s.1)
interns_new key_at first texts account text (Err error) texts' account' h absent has_key =
    let held : Held = record { texts = texts; account = account } in (
      h.0,
      h.1,
      elim h.2 [
        | inl e ↦ inr (stored_err held text (store first account (length text)) error (keyed_case first held text (key_at (length texts)) (Err error) has_key (new_case key_at first held text (position_of texts text) (Err error) absent e)))
        | inr w ↦
            inl (
              w.0,
              stored_some held text (store first held.account (length text)) (interned key_at first held text) (keyed_case first held text (key_at (length texts)) (interned key_at first held text) has_key (new_case key_at first held text (position_of texts text) (interned key_at first held text) absent refl)) w.2,
            )
      ],
    )

-- ---- the text at a position of a list

-- the bytes of the texts before it and of it
pub bytes_more_at : (texts : List Text) (i : ℕ) (text : Text) → slice_get texts i ≡ Some text → bytes_of (take (i + 1) texts) ≡ bytes_of (take i texts) + length text
bytes_more_at texts i text at =
    sum_by_more (λ (t : Text). length t) texts i [] (slice_get_within texts i text at) ∙ ap (λ (t : Text). bytes_of (take i texts) + length t) (get_or_from_slice_get texts i text [] at)

-- ---- storing texts in order

-- one text more
pub store_all_push : (first : ℕ) (a b c : Account) (texts : List Text) (text : Text) → store_all first a texts ≡ Some b → store first b (length text) ≡ Some c → store_all first a (texts ++ text ∷ []) ≡ Some c
store_all_push first a b c [] text e h =
    let same : a ≡ b = cc in
    let at_a : store first a (length text) ≡ Some c = subst (λ (x : Account). store first x (length text) ≡ Some c) (sym same) h in
    subst (λ (o : Option Account). option_and_then (λ (x : Account). Some x) o ≡ Some c) (sym at_a) refl
store_all_push first a b c (t ∷ ts) text e h =
    option_and_then_some (λ (x : Account). store_all first x ts) (store first a (length t)) b e (λ x one others.
    subst (λ (o : Option Account). option_and_then (λ (y : Account). store_all first y (ts ++ text ∷ [])) o ≡ Some c) (sym one) (store_all_push first x b c ts text others h))

-- a text that has room takes it from the current bucket
store_room : (first : ℕ) (a b : Account) (n : ℕ) → store first a n ≡ Some b → n ≤ a.room → b.room + n ≡ a.room
store_room first a b n e fits = grind (arith, common_steps, e)

-- a text that has room is not refused
pub store_not_refused : (first : ℕ) (a : Account) (n : ℕ) → n ≤ a.room → store first a n ≡ None → ⊥
store_not_refused first a n fits e = grind (arith, common_steps, e)

-- texts that have room take it from the current bucket
pub store_all_room : (first : ℕ) (a b : Account) (texts : List Text) → store_all first a texts ≡ Some b → bytes_of texts ≤ a.room → b.room + bytes_of texts ≡ a.room
store_all_room first a b [] e fits = let same : a ≡ b = cc in omega (arith, ap (λ (x : Account). x.room) same)
store_all_room first a b (t ∷ ts) e fits =
    let sums = sum_by-cons (λ (u : Text). length u) t ts in
    option_and_then_some (λ (x : Account). store_all first x ts) (store first a (length t)) b e (λ x one others.
    let here = store_room first a x (length t) one (omega arith) in
    let rest = store_all_room first x b ts others (omega arith) in
    omega arith)

-- a text that has room changes neither the limit nor the usage
store_kept : (first : ℕ) (a b : Account) (n : ℕ) → store first a n ≡ Some b → n ≤ a.room → (b.limit ≡ a.limit) × (b.usage ≡ a.usage)
store_kept first a b n e fits = (grind (arith, common_steps, e), grind (arith, common_steps, e))

store_all_kept : (first : ℕ) (a b : Account) (texts : List Text) → store_all first a texts ≡ Some b → bytes_of texts ≤ a.room → (b.limit ≡ a.limit) × (b.usage ≡ a.usage)
store_all_kept first a b [] e fits = let same : b ≡ a = cc in (ap (λ (x : Account). x.limit) same, ap (λ (x : Account). x.usage) same)
store_all_kept first a b (t ∷ ts) e fits =
    let sums = sum_by-cons (λ (u : Text). length u) t ts in
    option_and_then_some (λ (x : Account). store_all first x ts) (store first a (length t)) b e (λ x one others.
    let here = store_kept first a x (length t) one (omega arith) in
    let room = store_room first a x (length t) one (omega arith) in
    let rest = store_all_kept first x b ts others (omega arith) in
    (rest.0 ∙ here.0, rest.1 ∙ here.1))

-- ---- one text more is copied

-- the texts before position i are copied to the end of a list that was empty
pub record CopiedTo (start : InternerView) (source : List Text) (i : ℕ) (now : InternerView) : Type 0 where
  pub texts : now.texts ≡ take i source
  pub account : store_all start.first start.account (take i source) ≡ Some now.account
  pub copied : now.copied ≡ start.copied + bytes_of (take i source)
  pub origin : KeepsOrigin start now

-- one text more went last and its bytes were stored; or copying stopped there
pub copied_more : (start : InternerView) (texts : List Text) (i : ℕ) (text : Text) (old : InternerView) (reply : Result (Unit {0}) LassoError) (new : InternerView) → slice_get texts i ≡ Some text → CopiedTo start texts i old → CopiesOne old text reply new
    → MatchResult reply (λ _. CopiedTo start texts (i + 1) new) (λ error. StopsAt start.first start.account texts i error new.account × (new.copied ≡ start.copied + bytes_of (take i texts)) × KeepsOrigin start new)
copied_more start texts i text old (Ok done) new at so_far one =
    let more : take (i + 1) texts ≡ take i texts ++ text ∷ [] = take_more_at texts i text at in
    let bytes = bytes_more_at texts i text at in
    let stored : store start.first old.account (length text) ≡ Some new.account = subst (λ (f : ℕ). store f old.account (length text) ≡ Some new.account) so_far.origin.0 one.0.1 in
    let all : store_all start.first start.account (take i texts ++ text ∷ []) ≡ Some new.account = store_all_push start.first start.account old.account new.account (take i texts) text so_far.account stored in
    record {
      texts = one.0.0 ∙ ap (λ (ts : List Text). ts ++ text ∷ []) so_far.texts ∙ sym more;
      account = subst (λ (ts : List Text). store_all start.first start.account ts ≡ Some new.account) (sym more) all;
      copied = omega (arith, one.0.2, so_far.copied, bytes);
      origin = (one.1.0 ∙ so_far.origin.0, one.1.1 ∙ so_far.origin.1, one.1.2 ∙ so_far.origin.2);
    }
copied_more start texts i text old (Err error) new at so_far one =
    let left = one.0 in
    let reached : store_all start.first start.account (take i texts) ≡ Some new.account = so_far.account ∙ ap (λ (a : Account). Some a) (sym left.1) in
    let inside : i < length texts = slice_get_within texts i text at in (
      (
        reached,
        elim left.3 [
          | inl memory ↦ inl (memory.0, inr (text, at, subst (λ (a : Account). IsSome (store start.first a (length text))) (sym left.1) (subst (λ (f : ℕ). IsSome (store f old.account (length text))) so_far.origin.0 memory.1)))
          | inr limit ↦ inr (limit.0, (text, at, subst (λ (a : Account). store start.first a (length text) ≡ None) (sym left.1) (subst (λ (f : ℕ). store f old.account (length text) ≡ None) so_far.origin.0 limit.1)))
        ],
      ),
      left.2 ∙ so_far.copied,
      (one.1.0 ∙ so_far.origin.0, one.1.1 ∙ so_far.origin.1, one.1.2 ∙ so_far.origin.2),
    )

-- ---- an interner that a text is copied to

-- the text at a position of a distinct list that fits the keys is none of those before it, and has a key
pub taken_at : {K : Type 0} (key_at : ℕ → Option K) (texts : List Text) → IsDistinct texts → Fits key_at (length texts) → (i : ℕ) (text : Text) → slice_get texts i ≡ Some text → (position_of (take i texts) text ≡ None) × IsSome (key_at (length (take i texts)))
taken_at key_at texts distinct fits i text at =
    let inside : i < length texts = slice_get_within texts i text at in
    (absent_before texts i text distinct at, subst (λ (n : ℕ). IsSome (key_at n)) (sym (length-take-le i texts (omega arith))) (fits i inside))

-- interning an absent text that has a key copies it
pub interned_copies : {K : Type 0} (key_at : ℕ → Option K) (old : InternerView) (text : Text) (k : K) (new : InternerView) → position_of old.texts text ≡ None → IsSome (key_at (length old.texts)) → InternsIn key_at old text (Ok k) new → CopiesOne old text (Ok tt) new
interned_copies key_at old text k new absent has_key interns =
    let left = interns_new key_at old.first old.texts old.account text (Ok k) new.texts new.account interns.0 absent has_key in
    let added : bytes_added old.texts text ≡ length text = ap (λ (o : Option ℕ). cond (is_some o) 0 (length text)) absent in
    ((left.0, left.1, interns.1 ∙ ap (λ (n : ℕ). old.copied + n) added), interns.2)

pub refused_copies : {K : Type 0} (key_at : ℕ → Option K) (old : InternerView) (text : Text) (error : LassoError) (new : InternerView) → position_of old.texts text ≡ None → IsSome (key_at (length old.texts)) → InternsIn {K = K} key_at old text (Err error) new → CopiesOne old text (Err error) new
refused_copies {K} key_at old text error new absent has_key interns =
    let left = interns_new {K = K} key_at old.first old.texts old.account text (Err error) new.texts new.account interns.0 absent has_key in
    ((left.0, left.1, interns.1, left.2), interns.2)

-- ---- a clone

-- one bucket of all bytes has room for each text, so that only out of memory stops
pub clone_stops : (first : ℕ) (a : Account) (texts : List Text) (j : ℕ) (error : LassoError) (stopped : Account) → bytes_of texts ≤ a.room → StopsAt first a texts j error stopped → error ≡ FailedAllocation
clone_stops first a texts j error stopped fits h = elim h.1 [
  | inl memory ↦ memory.0
  | inr limit ↦
      let text : Text = limit.1.0 in
      let more = bytes_more_at texts j text limit.1.1 in
      let all = sum_by-take-le (λ (t : Text). length t) texts (j + 1) in
      let room = store_all_room first a stopped (take j texts) h.0 (omega arith) in
      absurd (store_not_refused first stopped (length text) (omega arith) limit.1.2)
]

-- all bytes fit into the bucket
pub bytes-le-clone_size : (texts : List Text) → bytes_of texts ≤ clone_size texts
bytes-le-clone_size texts = grind (arith, common_steps, nat_tests)

-- a list that was read is in one bucket of its bytes, without a limit
read_kept : (texts : List Text) (account : Account) → read_of texts ≡ Some account → (account.limit ≡ 18446744073709551615) × (account.usage ≡ clone_size texts)
read_kept texts account is = store_all_kept (clone_size texts) (fresh (clone_size texts) 18446744073709551615) account texts is (bytes-le-clone_size texts)

pub read_limit : {E : Type 0} (reply : Result InternerView E) → IfOk reply (λ r. read_of r.texts ≡ Some r.account) → IfOk reply (λ r. r.account.limit ≡ 18446744073709551615)
read_limit (Ok r) is = (read_kept r.texts r.account is).0
read_limit (Err error) is = tt

pub read_usage : {E : Type 0} (reply : Result InternerView E) → IfOk reply (λ r. read_of r.texts ≡ Some r.account) → IfOk reply (λ r. r.account.usage ≡ clone_size r.texts)
read_usage (Ok r) is = (read_kept r.texts r.account is).1
read_usage (Err error) is = tt
