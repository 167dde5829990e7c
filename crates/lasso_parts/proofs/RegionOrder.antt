-- The order of an arena's regions, its account, and the bound on its waste, through its changes: bytes in the current region or in a
-- spare, a new region, and a clear.
--
-- Bytes in a region change no region's size, so the order stays; they take from the spares' sum just where the region was one. A new
-- region of exact size has more than twice the doubling size, and a remnant fewer: neither counts as doubled, and the next size
-- stays. A clear keeps the first region and the doubled ones, which then are in order again.
use Rattle.std.proofs.Common.{◌≡◌, ℕ, zero, suc, ◌+◌, ◌-◌, ◌*◌, ◌<◌, ◌≤◌, ◌⊎◌, inl, inr, List, [], ◌∷◌, ◌++◌, length, set, take, drop, map, sym, ap, subst, refl, ◌∙◌, arith}
use Rattle.std.specs.Prelude.{slice_range}
use Rattle.std.proofs.lemmas.List.{take-append-le, length-append, get_or_append_left, get_or_at, get_or-set_same, length-set, length-map, take_all}
use Rattle.std.proofs.lemmas.List.Sums.{sum_by-cons, sum_by_push}
use denote.RawPtr.{Ptr}
use Rattle.lasso_parts.specs.Account.{Account, clear, store_in_current, store_in_spare}
use Rattle.lasso_parts.specs.Bucket.{Extent}
use Rattle.lasso_parts.specs.Arena.{Regions, no_region, region_at, emptied, with_bytes, usage_of, first_of, copied_in, copied_of, most_of, spare_part, spare_in, spares_at_clear, spare_of, account_of}
use Rattle.lasso_parts.specs.Doubled.{AreDoubled, doubled_from, next_of, kept_of, IsOrdered, IsSound}
use Rattle.lasso_parts.specs.Placements.{with_bucket, IsSpareAt, NeedsNew}
use Rattle.lasso_parts.specs.Waste.{IsThriftySince}
use Rattle.lasso_parts.proofs.Doubled.{next_hit, next_miss, next_append, next_set, usage_doubled, part_taken, spare_emptied, doubled_set, spare_set, spare_taken, kept_doubled, kept_next}
use Rattle.lasso_parts.proofs.Regions.{filled, copied_emptied}
use Rattle.lasso_parts.proofs.WastedSince.{since_clear, since_current, since_spare, since_exact, since_remnant, since_doubled}

-- ---- accounts

same_account : (a b : Account) → a.room ≡ b.room → a.spare ≡ b.spare → a.doubling ≡ b.doubling → a.usage ≡ b.usage → a.limit ≡ b.limit → a ≡ b
same_account a b r s d u l = λ i. record { room = r i; spare = s i; doubling = d i; usage = u i; limit = l i }

moved : (first first' copied copied' most : ℕ) (a b : Account) → first ≡ first' → copied ≡ copied' → a ≡ b → IsThriftySince first copied most a → IsThriftySince first' copied' most b
moved first first' copied copied' most a b f c e h = subst (λ (p : ℕ). IsThriftySince p copied' most b) f (subst (λ (p : ℕ). IsThriftySince first p most b) c (subst (IsThriftySince first copied most) e h))

-- ---- bytes in one region

-- the list with more bytes in one region
abbrev pub filled_at : List Extent → ℕ → List ℕ → List Extent
filled_at xs at t = set xs at (with_bytes (region_at xs at) t)

pub first_set : (xs : List Extent) (at : ℕ) (t : List ℕ) → (region_at (filled_at xs at t) 0).capacity ≡ (region_at xs 0).capacity
first_set [] at t = refl
first_set (x ∷ xs) zero t = refl
first_set (x ∷ xs) (suc at) t = refl

pub usage_set : (xs : List Extent) (at : ℕ) (t : List ℕ) → usage_of (filled_at xs at t) ≡ usage_of xs
usage_set [] at t = refl
usage_set (x ∷ xs) zero t = sum_by-cons (λ (r : Extent). r.capacity) (with_bytes x t) xs ∙ sym (sum_by-cons (λ (r : Extent). r.capacity) x xs)
usage_set (x ∷ xs) (suc at) t =
    sum_by-cons (λ (r : Extent). r.capacity) x (filled_at xs at t) ∙ ap (λ (n : ℕ). x.capacity + n) (usage_set xs at t) ∙ sym (sum_by-cons (λ (r : Extent). r.capacity) x xs)

pub copied_set : (xs : List Extent) (at : ℕ) (t : List ℕ) → at < length xs → copied_in (filled_at xs at t) ≡ copied_in xs + length t
copied_set [] at t inside = absurd (omega (arith, inside))
copied_set (x ∷ xs) zero t inside =
    let new = sum_by-cons (λ (r : Extent). length r.bytes) (with_bytes x t) xs in
    let old = sum_by-cons (λ (r : Extent). length r.bytes) x xs in
    omega (arith, new, old, length-append x.bytes t)
copied_set (x ∷ xs) (suc at) t inside =
    let new = sum_by-cons (λ (r : Extent). length r.bytes) x (filled_at xs at t) in
    let old = sum_by-cons (λ (r : Extent). length r.bytes) x xs in
    omega (arith, new, old, copied_set xs at t (omega (arith, inside)))

drop_next_set : (z : ℕ) (xs : List Extent) (at : ℕ) (t : List ℕ) → next_of z (drop 1 (filled_at xs at t)) ≡ next_of z (drop 1 xs)
drop_next_set z [] at t = refl
drop_next_set z (x ∷ xs) zero t = refl
drop_next_set z (x ∷ xs) (suc at) t = next_set z xs at t

doubled_kept_set : (z k : ℕ) (xs : List Extent) (at : ℕ) (t : List ℕ) → AreDoubled z (slice_range xs 1 k) → AreDoubled z (slice_range (filled_at xs at t) 1 k)
doubled_kept_set z k [] at t h = h
doubled_kept_set z k (x ∷ xs) zero t h = h
doubled_kept_set z k (x ∷ xs) (suc at) t h = doubled_set z (k - 1) xs at t h

spare_kept_set : (k : ℕ) (xs : List Extent) (at : ℕ) (t : List ℕ) → (at ≡ 0) ⊎ ((k ≤ at) ⊎ (spare_part (region_at xs at) ≡ 0)) → spare_in (slice_range (filled_at xs at t) 1 k) ≡ spare_in (slice_range xs 1 k)
spare_kept_set k [] at t h = refl
spare_kept_set k (x ∷ xs) zero t h = refl
spare_kept_set k (x ∷ xs) (suc at) t h =
    spare_set (k - 1) xs at t (elim h [ inl e ↦ absurd (omega (arith, e)) | inr (inl low) ↦ inl (omega (arith, low)) | inr (inr none) ↦ inr none ])

spare_taken_set : (k : ℕ) (xs : List Extent) (at : ℕ) (t : List ℕ) → 0 < at → at < k → at < length xs → length (region_at xs at).bytes ≡ 0 → 0 < length t
    → spare_in (slice_range (filled_at xs at t) 1 k) + (region_at xs at).capacity ≡ spare_in (slice_range xs 1 k)
spare_taken_set k [] at t after below inside e some = absurd (omega (arith, inside))
spare_taken_set k (x ∷ xs) zero t after below inside e some = absurd (omega (arith, after))
spare_taken_set k (x ∷ xs) (suc at) t after below inside e some = spare_taken (k - 1) xs at t (omega (arith, below)) (omega (arith, inside)) e some

-- the room that is left
room_set : (xs : List Extent) (at : ℕ) (t : List ℕ) → at < length xs → (region_at (filled_at xs at t) at).capacity - length (region_at (filled_at xs at t) at).bytes ≡ (region_at xs at).capacity - length (region_at xs at).bytes - length t
room_set xs at t inside =
    let new = with_bytes (region_at xs at) t in
    let there : region_at (filled_at xs at t) at ≡ new = get_or-set_same xs at new no_region inside in
    ap (λ (r : Extent). r.capacity - length r.bytes) there ∙ (omega (arith, length-append (region_at xs at).bytes t))

-- the arena with more bytes in a region, which is the current one
abbrev pub with_text : Regions → ℕ → List ℕ → Regions
with_text a at t = record a { all = filled_at a.all at t; current = at }

pub current_account : (a : Regions) (t : List ℕ) → IsOrdered a → account_of (with_text a a.current t) ≡ store_in_current (account_of a) (length t)
current_account a t order =
    same_account (account_of (with_text a a.current t)) (store_in_current (account_of a) (length t)) (room_set a.all a.current t order.current) (spare_kept_set a.kept a.all a.current t order.filled) refl (usage_set a.all a.current t) refl

pub order_set : (a : Regions) (at : ℕ) (t : List ℕ) → IsOrdered a → at < length a.all → ((at ≡ 0) ⊎ ((a.kept ≤ at) ⊎ (spare_part (region_at (filled_at a.all at t) at) ≡ 0))) → IsOrdered (with_text a at t)
order_set a at t order inside none =
    let first : first_of a ≡ first_of (with_text a at t) = sym (first_set a.all at t) in
    let count = length-set a.all at (with_bytes (region_at a.all at) t) in
    record {
      some = omega (arith, order.some, first);
      kept = (order.kept.0, omega (arith, order.kept.1, count));
      doubled = subst (λ (z : ℕ). AreDoubled (2 * z) (spares_at_clear (with_text a at t))) first (doubled_kept_set (2 * first_of a) a.kept a.all at t order.doubled);
      next = subst (λ (z : ℕ). next_of (2 * z) (drop 1 (filled_at a.all at t)) ≡ 2 * a.doubling) first (drop_next_set (2 * first_of a) a.all at t ∙ order.next);
      current = omega (arith, inside, count);
      filled = none;
    }

still_none : (xs : List Extent) (at k : ℕ) (t : List ℕ) → at < length xs → (at ≡ 0) ⊎ ((k ≤ at) ⊎ (spare_part (region_at xs at) ≡ 0)) → 0 < length t → (at ≡ 0) ⊎ ((k ≤ at) ⊎ (spare_part (region_at (filled_at xs at t) at) ≡ 0))
still_none xs at k t inside h some =
    let new = with_bytes (region_at xs at) t in
    inr (inr (ap spare_part (get_or-set_same xs at new no_region inside) ∙ part_taken (region_at xs at) t some))

pub current_sound : (a : Regions) (t : List ℕ) → IsSound a → 0 < length t → length t ≤ (account_of a).room → IsSound (with_text a a.current t)
current_sound a t sound some fits =
    let order = sound.order in
    let copied = copied_set a.all a.current t order.current in
    record {
      order = order_set a a.current t order order.current (still_none a.all a.current a.kept t order.current order.filled some);
      thrift = moved (first_of a) (first_of (with_text a a.current t)) (copied_of a + length t) (copied_of (with_text a a.current t)) (most_of (with_text a a.current t)) _ _ (sym (first_set a.all a.current t)) (sym copied) (sym (current_account a t order))
          (since_current (first_of a) (copied_of a) (most_of a) (most_of (with_text a a.current t)) (length t) (account_of a) (omega (arith, copied)) (omega (arith, copied)) fits sound.thrift);
    }

pub spare_account : (a : Regions) (at : ℕ) (t : List ℕ) → IsOrdered a → 0 < length t → IsSpareAt a (length t) at → account_of (with_text a at t) ≡ store_in_spare (account_of a) (region_at a.all at).capacity (length t)
spare_account a at t order some is =
    let inside : at < length a.all = omega (arith, is.before, order.kept.1) in
    let takes = is.takes in
    let taken = spare_taken_set a.kept a.all at t is.after is.before inside takes.0 some in
    let room = room_set a.all at t inside in
    same_account (account_of (with_text a at t)) (store_in_spare (account_of a) (region_at a.all at).capacity (length t)) (omega (arith, room, takes.0)) (omega (arith, taken)) refl (usage_set a.all at t) refl

pub spare_sound : (a : Regions) (at : ℕ) (t : List ℕ) → IsSound a → 0 < length t → (account_of a).room < length t → IsSpareAt a (length t) at → IsSound (with_text a at t)
spare_sound a at t sound some full is =
    let order = sound.order in
    let inside : at < length a.all = omega (arith, is.before, order.kept.1) in
    let copied = copied_set a.all at t inside in
    let new = with_bytes (region_at a.all at) t in
    record {
      order = order_set a at t order inside (inr (inr (ap spare_part (get_or-set_same a.all at new no_region inside) ∙ part_taken (region_at a.all at) t some)));
      thrift = moved (first_of a) (first_of (with_text a at t)) (copied_of a + length t) (copied_of (with_text a at t)) (most_of (with_text a at t)) _ _ (sym (first_set a.all at t)) (sym copied) (sym (spare_account a at t order some is))
          (since_spare (first_of a) (copied_of a) (most_of a) (most_of (with_text a at t)) (length t) (region_at a.all at).capacity (account_of a) (omega (arith, copied)) (omega (arith, copied)) full is.spare is.takes.1 sound.thrift);
    }

-- ---- a new region

kept_push : (k : ℕ) (xs : List Extent) (x : Extent) → k ≤ length xs → 0 < k → slice_range (xs ++ x ∷ []) 1 k ≡ slice_range xs 1 k
kept_push k [] x within some = absurd (omega (arith, within, some))
kept_push k (r ∷ rs) x within some = take-append-le (k - 1) rs (x ∷ []) (omega (arith, within))

drop_next_push : (z : ℕ) (xs : List Extent) (x : Extent) → 0 < length xs → next_of z (drop 1 (xs ++ x ∷ [])) ≡ next_of (next_of z (drop 1 xs)) (x ∷ [])
drop_next_push z [] x some = absurd (omega (arith, some))
drop_next_push z (r ∷ rs) x some = next_append z rs (x ∷ [])

-- the arena with a region more, with that current region and doubling size
abbrev pub with_region : Regions → Extent → ℕ → ℕ → Regions
with_region a r current doubling = record a { all = a.all ++ r ∷ []; current = current; doubling = doubling }

first_push : (a : Regions) (r : Extent) (current doubling : ℕ) → IsOrdered a → first_of a ≡ first_of (with_region a r current doubling)
first_push a r current doubling order =
    let some : 0 < length a.all = omega (arith, order.kept.0, order.kept.1) in
    ap (λ (x : Extent). x.capacity) (sym (get_or_append_left a.all (r ∷ []) no_region 0 some))

order_push : (a : Regions) (r : Extent) (current doubling : ℕ) → IsOrdered a → next_of (2 * a.doubling) (r ∷ []) ≡ 2 * doubling → current < length a.all + 1
    → (current ≡ 0) ⊎ ((a.kept ≤ current) ⊎ (spare_part (region_at (a.all ++ r ∷ []) current) ≡ 0)) → IsOrdered (with_region a r current doubling)
order_push a r current doubling order next inside none =
    let some : 0 < length a.all = omega (arith, order.kept.0, order.kept.1) in
    let first = first_push a r current doubling order in
    let count = length-append a.all (r ∷ []) in
    let same = kept_push a.kept a.all r order.kept.1 order.kept.0 in
    record {
      some = omega (arith, order.some, first);
      kept = (order.kept.0, omega (arith, order.kept.1, count));
      doubled = subst (λ (z : ℕ). AreDoubled (2 * z) (spares_at_clear (with_region a r current doubling))) first (subst (AreDoubled (2 * first_of a)) (sym same) order.doubled);
      next = subst (λ (z : ℕ). next_of (2 * z) (drop 1 (a.all ++ r ∷ [])) ≡ 2 * doubling) first (drop_next_push (2 * first_of a) a.all r some ∙ ap (λ (z : ℕ). next_of z (r ∷ [])) order.next ∙ next);
      current = omega (arith, inside, count);
      filled = none;
    }

pub usage_push : (a : Regions) (r : Extent) → usage_of (a.all ++ r ∷ []) ≡ usage_of a.all + r.capacity
usage_push a r = sum_by_push (λ (x : Extent). x.capacity) a.all r

pub copied_push : (a : Regions) (r : Extent) → copied_in (a.all ++ r ∷ []) ≡ copied_of a + length r.bytes
copied_push a r = sum_by_push (λ (x : Extent). length x.bytes) a.all r

spare_push : (a : Regions) (r : Extent) → IsOrdered a → spare_in (slice_range (a.all ++ r ∷ []) 1 a.kept) ≡ spare_of a
spare_push a r order = ap spare_in (kept_push a.kept a.all r order.kept.1 order.kept.0)

-- of exact size
pub exact_account : (a : Regions) (p : Ptr) (t : List ℕ) → IsOrdered a → account_of (with_region a (filled p t (length t)) a.current a.doubling) ≡ record (account_of a) { usage = (account_of a).usage + length t }
exact_account a p t order =
    let r = filled p t (length t) in
    same_account (account_of (with_region a r a.current a.doubling)) (record (account_of a) { usage = (account_of a).usage + length t }) (ap (λ (x : Extent). x.capacity - length x.bytes) (get_or_append_left a.all (r ∷ []) no_region a.current order.current)) (spare_push a r order) refl (usage_push a r) refl

pub exact_sound : (a : Regions) (p : Ptr) (t : List ℕ) → IsSound a → 2 * a.doubling < length t → IsSound (with_region a (filled p t (length t)) a.current a.doubling)
exact_sound a p t sound long =
    let order = sound.order in
    let r = filled p t (length t) in
    let new = with_region a r a.current a.doubling in
    let copied = copied_push a r in
    let same : region_at (a.all ++ r ∷ []) a.current ≡ region_at a.all a.current = get_or_append_left a.all (r ∷ []) no_region a.current order.current in
    record {
      order = order_push a r a.current a.doubling order (next_miss (2 * a.doubling) r [] (λ e. omega (arith, e, long))) (omega (arith, order.current))
          (elim order.filled [ inl e ↦ inl e | inr (inl late) ↦ inr (inl late) | inr (inr none) ↦ inr (inr (ap spare_part same ∙ none)) ]);
      thrift = moved (first_of a) (first_of new) (copied_of a + length t) (copied_of new) (most_of new) _ _ (first_push a r a.current a.doubling order) (sym copied) (sym (exact_account a p t order))
          (since_exact (first_of a) (copied_of a) (most_of a) (most_of new) (length t) (account_of a) (omega (arith, copied)) (omega (arith, copied)) sound.thrift);
    }

-- a new region that becomes the current one
pub new_account : (a : Regions) (p : Ptr) (t : List ℕ) (size doubling : ℕ) → IsOrdered a → account_of (with_region a (filled p t size) (length a.all) doubling) ≡ with_bucket (record (account_of a) { doubling = doubling }) size (length t)
new_account a p t size doubling order =
    let r = filled p t size in
    same_account (account_of (with_region a r (length a.all) doubling)) (with_bucket (record (account_of a) { doubling = doubling }) size (length t)) (ap (λ (x : Extent). x.capacity - length x.bytes) (get_or_at a.all r [] no_region (length a.all) refl)) (spare_push a r order) refl (usage_push a r) refl

pub remnant_sound : (a : Regions) (p : Ptr) (t : List ℕ) (size : ℕ) → IsSound a → NeedsNew a (length t) → length t ≤ size → size < 2 * a.doubling → IsSound (with_region a (filled p t size) (length a.all) a.doubling)
remnant_sound a p t size sound needs fits small =
    let order = sound.order in
    let r = filled p t size in
    let new = with_region a r (length a.all) a.doubling in
    let copied = copied_push a r in
    record {
      order = order_push a r (length a.all) a.doubling order (next_miss (2 * a.doubling) r [] (λ e. omega (arith, e, small))) (omega arith) (inr (inl order.kept.1));
      thrift = moved (first_of a) (first_of new) (copied_of a + length t) (copied_of new) (most_of new) _ _ (first_push a r (length a.all) a.doubling order) (sym copied) (sym (new_account a p t size a.doubling order))
          (since_remnant (first_of a) (copied_of a) (most_of a) (most_of new) (length t) size (account_of a) (omega (arith, copied)) (omega (arith, copied)) needs.room needs.spare fits (omega (arith, small)) sound.thrift);
    }

pub doubled_sound : (a : Regions) (p : Ptr) (t : List ℕ) (size : ℕ) → IsSound a → NeedsNew a (length t) → length t ≤ size → size ≡ 2 * a.doubling → IsSound (with_region a (filled p t size) (length a.all) size)
doubled_sound a p t size sound needs fits is =
    let order = sound.order in
    let r = filled p t size in
    let new = with_region a r (length a.all) size in
    let copied = copied_push a r in
    let account : with_bucket (record (account_of a) { doubling = size }) size (length t) ≡ record (account_of a) { room = 2 * a.doubling - length t; doubling = 2 * a.doubling; usage = (account_of a).usage + 2 * a.doubling } =
    same_account (with_bucket (record (account_of a) { doubling = size }) size (length t)) (record (account_of a) { room = 2 * a.doubling - length t; doubling = 2 * a.doubling; usage = (account_of a).usage + 2 * a.doubling }) (omega (arith, is)) refl is (omega (arith, is)) refl in
    record {
      order = order_push a r (length a.all) size order (next_hit (2 * a.doubling) r [] is ∙ ap (λ (n : ℕ). 2 * n) (sym is)) (omega arith) (inr (inl order.kept.1));
      thrift = moved (first_of a) (first_of new) (copied_of a + length t) (copied_of new) (most_of new) _ _ (first_push a r (length a.all) size order) (sym copied) (sym (new_account a p t size size order ∙ account))
          (since_doubled (first_of a) (copied_of a) (most_of a) (most_of new) (length t) (account_of a) (omega (arith, copied)) (omega (arith, copied)) needs.room needs.spare (omega (arith, fits, is)) sound.thrift);
    }

-- ---- a clear

-- the arena after a clear
abbrev pub cleared : Regions → Regions
cleared a = record a { all = map emptied (kept_of a.all); current = 0; kept = length (kept_of a.all); most = most_of a }

pub cleared_account : (a : Regions) → IsOrdered a → account_of (cleared a) ≡ clear (first_of a) (account_of a)
cleared_account a order = of a.all (omega (arith, order.kept.0, order.kept.1)) order.next
  where
    of : (xs : List Extent) → 0 < length xs → next_of (2 * (region_at xs 0).capacity) (drop 1 xs) ≡ 2 * a.doubling
        → account_of (record a { all = map emptied (kept_of xs); current = 0; kept = length (kept_of xs); most = most_of a }) ≡ clear (region_at xs 0).capacity (account_of a)
    of [] some next = absurd (omega (arith, some))
    of (x ∷ xs) some next =
        let rest = map emptied (doubled_from (2 * x.capacity) xs) in
        let count : length rest ≡ length (kept_of (x ∷ xs)) - 1 = length-map (doubled_from (2 * x.capacity) xs) emptied ∙ omega arith in
        let whole : take (length (kept_of (x ∷ xs)) - 1) rest ≡ rest = take_all (length (kept_of (x ∷ xs)) - 1) rest (omega (arith, count)) in
        let sum : usage_of rest + 2 * x.capacity ≡ 2 * a.doubling = usage_doubled (2 * x.capacity) rest (kept_doubled (2 * x.capacity) xs) ∙ kept_next (2 * x.capacity) xs ∙ next in
        let spares : spare_in (take (length (kept_of (x ∷ xs)) - 1) rest) ≡ usage_of rest = ap spare_in whole ∙ spare_emptied (doubled_from (2 * x.capacity) xs) in
        let usage = sum_by-cons (λ (r : Extent). r.capacity) (emptied x) rest in
        same_account (account_of (record a { all = emptied x ∷ rest; current = 0; kept = length (kept_of (x ∷ xs)); most = most_of a })) (clear x.capacity (account_of a)) (omega arith) (omega (arith, spares, sum)) refl (omega (arith, usage, sum)) refl

pub cleared_first : (a : Regions) → first_of (cleared a) ≡ first_of a
cleared_first a = of a.all
  where
    of : (xs : List Extent) → (region_at (map emptied (kept_of xs)) 0).capacity ≡ (region_at xs 0).capacity
    of [] = refl
    of (x ∷ xs) = refl

pub cleared_copied : (a : Regions) → copied_of (cleared a) ≡ 0
cleared_copied a = copied_emptied (kept_of a.all)

pub cleared_sound : (a : Regions) → IsSound a → IsSound (cleared a)
cleared_sound a sound =
    let order = sound.order in
    let copied = cleared_copied a in
    let most : most_of a ≡ most_of (cleared a) = omega (arith, copied) in
    record {
      order = of a.all (omega (arith, order.kept.0, order.kept.1)) order.some order.next;
      thrift = subst (λ (m : ℕ). IsThriftySince (first_of (cleared a)) (copied_of (cleared a)) m (account_of (cleared a))) most
          (moved (first_of a) (first_of (cleared a)) 0 (copied_of (cleared a)) (most_of a) _ _ (sym (cleared_first a)) (sym copied) (sym (cleared_account a order)) (since_clear (first_of a) (copied_of a) (most_of a) (account_of a) sound.thrift));
    }
  where
    of : (xs : List Extent) → 0 < length xs → 0 < (region_at xs 0).capacity → next_of (2 * (region_at xs 0).capacity) (drop 1 xs) ≡ 2 * a.doubling
        → IsOrdered (record a { all = map emptied (kept_of xs); current = 0; kept = length (kept_of xs); most = most_of a })
    of [] some first next = absurd (omega (arith, some))
    of (x ∷ xs) some first next =
        let rest = map emptied (doubled_from (2 * x.capacity) xs) in
        let count = length-map (doubled_from (2 * x.capacity) xs) emptied in
        let whole : take (length (kept_of (x ∷ xs)) - 1) rest ≡ rest = take_all (length (kept_of (x ∷ xs)) - 1) rest (omega (arith, count)) in
        record {
          some = first;
          kept = (omega arith, omega (arith, count));
          doubled = subst (AreDoubled (2 * x.capacity)) (sym whole) (kept_doubled (2 * x.capacity) xs);
          next = kept_next (2 * x.capacity) xs ∙ next;
          current = omega arith;
          filled = inl refl;
        }
