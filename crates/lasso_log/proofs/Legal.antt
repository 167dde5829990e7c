-- What every legal history keeps.
--
-- A history adds up to what its parts add up to, one after the other, and it is legal where its parts are. An append puts a
-- text last that the list lacks and that has a key, and no other event changes the list: so the list stays distinct,
-- fits the keys, and only grows. A bucket that is charged has room for its bytes and lies within the limit.
use mathlib.Core.List.{IsPrefix}
use Rattle.std.proofs.Common.{◌≡◌, ◌≢◌, ◌↔◌, ℕ, zero, suc, ◌+◌, ◌<◌, ◌≤◌, List, [], ◌∷◌, ◌++◌, length, All, slice_get, Option, Some, None, refl, sym, ap, ◌∙◌, subst, arith, append-nil, append_assoc}
use Rattle.std.specs.Prelude.{IsSomeAnd, sum_by}
use Rattle.std.specs.List.{AllByRecursion}
use Rattle.std.proofs.lemmas.Bool.Decides.{nat_tests}
use Rattle.std.proofs.lemmas.List.{length_push}
use Rattle.std.proofs.lemmas.List.Elements.{All-from_recursion, recursion_from_All, All-push, All-cons, All-nil}
use Rattle.std.proofs.lemmas.List.Sums.{sum_by-append, sum_by-cons}
use Rattle.lasso_parts.specs.Texts.{IsDistinct, Fits}
use Rattle.lasso_parts.proofs.TextLemmas.{distinct_push, fits_push}
use Rattle.lasso_log.specs.Buckets.{CountedBucket, with_taken, changed_at, bucket_size}
use Rattle.lasso_log.specs.History.{Event, Reserve, Charge, Append, Limit, History, Totals, IsOpening, opened, totals, counted, MayFollow, IsLegal}
use Rattle.lasso_log.specs.Laws.{IsSoundTotals, HoldsOfHistory}

pub totals_append : (s : Totals) (h g : History) → totals s (h ++ g) ≡ totals (totals s h) g
totals_append s [] g = refl
totals_append s (e ∷ h) g = totals_append (counted s e.1) h g

pub legal_append : {K : Type 0} (key_at : ℕ → Option K) (s : Totals) (h g : History) → IsLegal key_at s h → IsLegal key_at (totals s h) g → IsLegal key_at s (h ++ g)
legal_append key_at s [] g lh lg = lg
legal_append key_at s (e ∷ h) g lh lg = (lh.0, legal_append key_at (counted s e.1) h g lh.1 lg)

-- the parts of a legal history are legal
pub legal_parts : {K : Type 0} (key_at : ℕ → Option K) (s : Totals) (h g : History) → IsLegal key_at s (h ++ g) → IsLegal key_at s h × IsLegal key_at (totals s h) g
legal_parts key_at s [] g l = (tt, l)
legal_parts key_at s (e ∷ h) g l = let parts = legal_parts key_at (counted s e.1) h g l.1 in ((l.0, parts.0), parts.1)

-- one event more
pub legal_push : {K : Type 0} (key_at : ℕ → Option K) (s : Totals) (h : History) (e : ℕ × Event) → IsLegal key_at s h → MayFollow key_at (totals s h) e.1 → IsLegal key_at s (h ++ e ∷ [])
legal_push key_at s h e legal may = legal_append key_at s h (e ∷ []) legal (may, tt)

-- ---- the list

-- one event keeps the list distinct and within the keys
keeps_list : {K : Type 0} (key_at : ℕ → Option K) (s : Totals) (e : Event) → IsDistinct s.texts → Fits key_at (length s.texts) → MayFollow key_at s e → IsDistinct (counted s e).texts × Fits key_at (length (counted s e).texts)
keeps_list key_at s (Append text) distinct fits may =
    (distinct_push s.texts text distinct may.0, subst (Fits key_at) (sym (length_push s.texts text)) (fits_push key_at (length s.texts) fits may.1))
keeps_list key_at s (Reserve bucket n) distinct fits may = (distinct, fits)
keeps_list key_at s (Charge size n) distinct fits may = (distinct, fits)
keeps_list key_at s (Limit limit) distinct fits may = (distinct, fits)

-- the list stays distinct, and fits the keys
pub list_kept : {K : Type 0} (key_at : ℕ → Option K) (s : Totals) (h : History) → IsDistinct s.texts → Fits key_at (length s.texts) → IsLegal key_at s h → IsDistinct (totals s h).texts × Fits key_at (length (totals s h).texts)
list_kept key_at s [] distinct fits legal = (distinct, fits)
list_kept key_at s (e ∷ h) distinct fits legal = let kept = keeps_list key_at s e.1 distinct fits legal.0 in list_kept key_at (counted s e.1) h kept.0 kept.1 legal.1

grows_by : (s : Totals) (e : Event) → IsPrefix s.texts (counted s e).texts
grows_by s (Append text) = (text ∷ [], refl)
grows_by s (Reserve bucket n) = ([], append-nil s.texts)
grows_by s (Charge size n) = ([], append-nil s.texts)
grows_by s (Limit limit) = ([], append-nil s.texts)

-- the list only grows
pub list_grows : (s : Totals) (h : History) → IsPrefix s.texts (totals s h).texts
list_grows s [] = ([], append-nil s.texts)
list_grows s (e ∷ h) =
    let one = grows_by s e.1 in
    let more = list_grows (counted s e.1) h in
    (one.0 ++ more.0, sym (append_assoc s.texts one.0 more.0) ∙ ap (λ l. l ++ more.0) one.1 ∙ more.1)

-- ---- the buckets

-- a bucket that is charged has room for its bytes, and lies within the limit
pub bucket_fits : (doubling usage limit n size : ℕ) → n ≢ 0 → bucket_size doubling usage limit n ≡ Some size → (n ≤ size) × (usage + size ≤ limit)
bucket_fits doubling usage limit n size ne e = grind (arith, nat_tests)

-- where no bucket has room, a text is refused exactly where the limit leaves none for its bytes
pub refused_exactly : (doubling usage limit n : ℕ) → n ≢ 0 → (bucket_size doubling usage limit n ≡ None) ↔ (limit < usage + n)
refused_exactly doubling usage limit n ne = grind (arith, nat_tests)

-- no event raises the usage past the limit
pub usage_limited : {K : Type 0} (key_at : ℕ → Option K) (s : Totals) (e : Event) → MayFollow key_at s e → s.usage < (counted s e).usage → (counted s e).usage ≤ (counted s e).limit
usage_limited key_at s (Charge size n) may grew = may.3
usage_limited key_at s (Reserve bucket n) may grew = absurd (omega arith)
usage_limited key_at s (Append text) may grew = absurd (omega arith)
usage_limited key_at s (Limit limit) may grew = absurd (omega arith)

taken_within : (n position : ℕ) (bs : List CountedBucket) → AllByRecursion (λ (b : CountedBucket). b.used ≤ b.size) bs → IsSomeAnd (slice_get bs position) (λ (b : CountedBucket). b.used + n ≤ b.size) → AllByRecursion (λ (b : CountedBucket). b.used ≤ b.size) (changed_at position (with_taken n) bs)
taken_within n position [] within room = within
taken_within n zero (b ∷ bs) within room = (room, within.1)
taken_within n (suc position) (b ∷ bs) within room = (within.0, taken_within n position bs within.1 room)

taken_sizes : (n position : ℕ) (bs : List CountedBucket) → sum_by (λ (b : CountedBucket). b.size) (changed_at position (with_taken n) bs) ≡ sum_by (λ (b : CountedBucket). b.size) bs
taken_sizes n position [] = refl
taken_sizes n zero (b ∷ bs) = grind arith
taken_sizes n (suc position) (b ∷ bs) =
    sum_by-cons (λ (b : CountedBucket). b.size) b (changed_at position (with_taken n) bs) ∙ ap (λ k. b.size + k) (taken_sizes n position bs) ∙ sym (sum_by-cons (λ (b : CountedBucket). b.size) b bs)

-- one event keeps the buckets within their sizes, and the usage their sum
keeps_buckets : {K : Type 0} (key_at : ℕ → Option K) (s : Totals) (e : Event) → All (λ (b : CountedBucket). b.used ≤ b.size) s.buckets → s.usage ≡ sum_by (λ (b : CountedBucket). b.size) s.buckets → MayFollow key_at s e → All (λ (b : CountedBucket). b.used ≤ b.size) (counted s e).buckets × ((counted s e).usage ≡ sum_by (λ (b : CountedBucket). b.size) (counted s e).buckets)
keeps_buckets key_at s (Reserve bucket n) within usage may = (
  All-from_recursion (λ (b : CountedBucket). b.used ≤ b.size) (changed_at bucket (with_taken n) s.buckets) (taken_within n bucket s.buckets (recursion_from_All (λ (b : CountedBucket). b.used ≤ b.size) s.buckets within) may.1),
  usage ∙ sym (taken_sizes n bucket s.buckets),
)
keeps_buckets key_at s (Charge size n) within usage may = (
  All-push (λ (b : CountedBucket). b.used ≤ b.size) s.buckets (record { size = size; used = n }) within (bucket_fits s.doubling s.usage s.limit n size may.0 may.2).0,
  (let sum = sum_by-append (λ (b : CountedBucket). b.size) s.buckets (record { size = size; used = n } ∷ []) in omega (arith, sum, usage)),
)
keeps_buckets key_at s (Append text) within usage may = (within, usage)
keeps_buckets key_at s (Limit limit) within usage may = (within, usage)

-- ---- all of it

kept_by : {K : Type 0} (key_at : ℕ → Option K) (s : Totals) (e : Event) → IsSoundTotals key_at s → MayFollow key_at s e → IsSoundTotals key_at (counted s e)
kept_by key_at s e kept may =
    let list = keeps_list key_at s e kept.distinct kept.fits may in
    let buckets = keeps_buckets key_at s e kept.within kept.usage may in
    record { distinct = list.0; fits = list.1; within = buckets.0; usage = buckets.1 }

kept_after : {K : Type 0} (key_at : ℕ → Option K) (s : Totals) (h : History) → IsSoundTotals key_at s → IsLegal key_at s h → IsSoundTotals key_at (totals s h)
kept_after key_at s [] kept legal = kept
kept_after key_at s (e ∷ h) kept legal = kept_after key_at (counted s e.1) h (kept_by key_at s e.1 kept legal.0) legal.1

kept_opening : {K : Type 0} (key_at : ℕ → Option K) (opening : Totals) → IsOpening key_at opening → IsSoundTotals key_at opening
kept_opening key_at opening opens = record {
  distinct = opens.distinct;
  fits = opens.fits;
  within = subst (λ (t : Totals). All (λ (b : CountedBucket). b.used ≤ b.size) t.buckets) (sym is)
      (All-cons (λ (b : CountedBucket). b.used ≤ b.size) (record { size = opens.bucket.0; used = opens.bucket.1 }) [] opens.bucket.3 (All-nil (λ (b : CountedBucket). b.used ≤ b.size)));
  usage = subst (λ (t : Totals). t.usage ≡ sum_by (λ (b : CountedBucket). b.size) t.buckets) (sym is) (omega arith);
}
  where
    is : opening ≡ opened opening.texts opens.bucket.0 opens.bucket.1 opening.limit
    is = opens.bucket.4

pub holds_of_history : {K : Type 0} (key_at : ℕ → Option K) (opening : Totals) (h : History) → IsOpening key_at opening → IsLegal key_at opening h → HoldsOfHistory key_at opening h
holds_of_history key_at opening h opens legal = record {
  kept = kept_after key_at opening h (kept_opening key_at opening opens) legal;
  grows = λ more. subst (λ (t : Totals). IsPrefix (totals opening h).texts t.texts) (sym (totals_append opening h more)) (list_grows (totals opening h) more);
  limited = λ e may grew. usage_limited key_at (totals opening h) e may grew;
}
