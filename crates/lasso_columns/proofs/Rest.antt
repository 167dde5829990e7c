-- Texts of a part that are encoded or counted after its distinct texts were interned, or the first of them.
--
-- Interning the part's texts from the first on passes over those that were interned already. It stops at an
-- absent text or nowhere, so not before the text at which interning the distinct texts stopped. So it leaves
-- what it would have left on its own.
use Rattle.std.proofs.Common.{ℕ, zero, suc, ◌≡◌, ◌+◌, ◌-◌, ◌<◌, ◌≤◌, List, [], ◌∷◌, ◌++◌, length, take, drop, get_or, map, Bor, Bool, true, false, cond, Option, Some, None, Result, Ok, Err, OnOk, IfErr, IfSome, IsSomeAnd, Vec, vec_capacity, vec_len, is_some, refl, sym, ap, subst, ◌∙◌, arith}
use Rattle.std.specs.Prelude.{All, IsSome, option_and_then, slice_get}
use Rattle.std.proofs.lemmas.List.{length-take, take_all, take-append-drop, take-map, drop-map}
use Rattle.std.proofs.lemmas.List.Elements.{All-push}
use Rattle.std.proofs.lemmas.Option.{slice_get_past, slice_get_within}
use Rattle.lasso_parts.proofs.IndexLaws.{slice_get-append_left}
use Rattle.lasso_parts.proofs.TextLemmas.{position_here}
use Rattle.lasso_parts.specs.Texts.{Text, position_of, key_of}
use Rattle.lasso_parts.specs.declared.util.LassoError.{LassoError}
use Rattle.lasso_parts.specs.declared.util.LassoErrorKind.TheVariants.{MemoryLimitReached, KeySpaceExhaustion, FailedAllocation}
use Rattle.lasso_single.specs.Codes.{AreCodes}
use Rattle.lasso_single.specs.Coding.{spur_at, IsAdmitted, IsNextRefused, IsRefused, MayLackMemory, MayLackMemoryNext}
use Rattle.lasso_single.specs.Filling.{extend}
use Rattle.lasso_single.specs.Interner.{InternerView}
use Rattle.lasso_single.proofs.Coded.{rewriting_keeps_texts_lem}
use Rattle.lasso_single.proofs.Encoded.{Encoded}
use Rattle.lasso_single.proofs.Filled.{accepted}
use Rattle.lasso_single.proofs.InternFacts.{present_idle}
use Rattle.lasso_single.proofs.RefusalFacts.{limit_of, no_key_of}
use Rattle.lasso_columns.specs.Adding.{RefusesNewAmong, counted_of}
use Rattle.lasso_columns.specs.Parts.{new_texts, AddsRewritten, IsEncoded}
use Rattle.lasso_columns.specs.declared.counts.error.CountError.{CountError}
use Rattle.lasso_columns.proofs.PartLists.{Found, interns_found, found_stays, found_interned, first, there_at, all_at, not_full, extend_all, list_extended}

-- ---- texts that are there

found_extended : (old new : InternerView) (texts : List Text) (text : Text) → extend spur_at old texts accepted new → Found old text → Found new text
found_extended old new [] text h found = subst (λ (i : InternerView). Found i text) (sym h.1) found
found_extended old new (t ∷ texts) text h found =
    let f = first old new t texts h in
    found_extended f.1 new texts text f.3 (found_stays old f.1 t f.0 f.2 text found)

not_found : (now : InternerView) (text : Text) → Found now text → position_of now.texts text ≡ None → ⊥
not_found now text found none = let at = found.2 in absurd (cc)

key_is : (p : Option ℕ) → IsSome p → (key : ℕ) × (p ≡ Some key)
key_is None some = absurd (cc)
key_is (Some key) some = (key, refl)

found_at : (now : InternerView) (text : Text) (o : Option ℕ) → position_of now.texts text ≡ o → IsSome (option_and_then spur_at o) → Found now text
found_at now text None at some = absurd (cc)
found_at now text (Some n) at some = let key = key_is (spur_at n) some in (n, key.0, at, key.1)

pub found_key : (now : InternerView) (text : Text) → IsSome (key_of spur_at now.texts text) → Found now text
found_key now text some = found_at now text (position_of now.texts text) refl some

-- ---- up to the first text that is not there

still : (old now : InternerView) (n : ℕ) → extend spur_at old (take n []) accepted now → now ≡ old
still old now zero h = h.1
still old now (suc n) h = h.1

stops_here : (list : List Text) (t : Text) (part : List Text) (n : ℕ) (old now : InternerView) (there : Bool) → is_some (position_of list t) ≡ there → All (Found old) list → extend spur_at old (take n (cond there (new_texts list part) (t ∷ new_texts (list ++ t ∷ []) part))) accepted now → position_of now.texts t ≡ None → now ≡ old
stops_here list t part n old now true e found h none =
    let at = there_at (position_of list t) e in
    let here : Found old t = all_at (λ x. Found old x) list at.0 t found (position_here list t at.0 at.1) in
    absurd (not_found now t (found_extended old now (take n (new_texts list part)) t h here) none)
stops_here list t part zero old now false e found h none = h.1
stops_here list t part (suc n) old now false e found h none =
    let f = first old now t (take n (new_texts (list ++ t ∷ []) part)) h in
    absurd (not_found now t (found_extended f.1 now (take n (new_texts (list ++ t ∷ []) part)) t f.3 (found_interned old f.1 t f.0 f.2)) none)

-- a present text is passed over
passed_over : (now new : InternerView) (t : Text) (texts : List Text) → Found now t → extend spur_at now (t ∷ texts) accepted new → extend spur_at now texts accepted new
passed_over now new t texts found h =
    let f = first now new t texts h in
    let same : f.1 ≡ now = (present_idle spur_at now f.1 t (Ok f.0) f.2 (ap is_some found.2)).1 in
    subst (λ (i : InternerView). extend spur_at i texts accepted new) same f.3

-- the first k texts leave the same without the distinct ones before them
abbrev GoesOn : InternerView → InternerView → List Text → ℕ → Type 0
GoesOn now new part k =
    (list : List Text) (n : ℕ) (old : InternerView) → All (Found old) list → extend spur_at old (take n (new_texts list part)) accepted now → extend spur_at old (take k part) accepted new

passes : (list : List Text) (t : Text) (part : List Text) (n k : ℕ) (old now new : InternerView) (there : Bool) → is_some (position_of list t) ≡ there → All (Found old) list → extend spur_at old (take n (cond there (new_texts list part) (t ∷ new_texts (list ++ t ∷ []) part))) accepted now → extend spur_at now (t ∷ take k part) accepted new → (extend spur_at now (take k part) accepted new → GoesOn now new part k) → extend spur_at old (t ∷ take k part) accepted new
passes list t part n k old now new true e found put h others =
    let at = there_at (position_of list t) e in
    let here : Found old t = all_at (Found old) list at.0 t found (position_here list t at.0 at.1) in
    let later : Found now t = found_extended old now (take n (new_texts list part)) t put here in
    (Ok here.1, old, interns_found old t here, others (passed_over now new t (take k part) later h) list n old found put)
passes list t part zero k old now new false e found put h others =
    subst (λ (i : InternerView). extend spur_at i (t ∷ take k part) accepted new) put.1 h
passes list t part (suc n) k old now new false e found put h others =
    let f = first old now t (take n (new_texts (list ++ t ∷ []) part)) put in
    let here : Found f.1 t = found_interned old f.1 t f.0 f.2 in
    let later : Found now t = found_extended f.1 now (take n (new_texts (list ++ t ∷ []) part)) t f.3 here in
    let more : All (Found f.1) (list ++ t ∷ []) =
    All-push (Found f.1) list t (λ k d small. found_stays old f.1 t f.0 f.2 (get_or list k d) (found k d small)) here in
    (Ok f.0, f.1, f.2, others (passed_over now new t (take k part) later h) (list ++ t ∷ []) n f.1 more f.3)

goes_on : (now new : InternerView) (part : List Text) (k : ℕ) → IfSome (slice_get part k) (λ t. position_of new.texts t ≡ None) → extend spur_at now (take k part) accepted new → GoesOn now new part k
goes_on now new [] zero stop h = λ list n old found put. (refl, h.1 ∙ still old now n put)
goes_on now new [] (suc k) stop h = λ list n old found put. (refl, h.1 ∙ still old now n put)
goes_on now new (t ∷ part) zero stop h = λ list n old found put.
    let none : position_of now.texts t ≡ None = subst (λ (i : InternerView). position_of i.texts t ≡ None) h.1 stop in
    (refl, h.1 ∙ stops_here list t part n old now (is_some (position_of list t)) refl found put none)
goes_on now new (t ∷ part) (suc k) stop h = λ list n old found put.
    passes list t part n k old now new (is_some (position_of list t)) refl found put h (λ left. goes_on now new part k stop left)

none_found : (old : InternerView) → All (Found old) []
none_found old = λ k d small. absurd (omega (arith, small))

-- the same where the first n distinct texts of the part were interned
pub part_goes_on : (old now new : InternerView) (part list : List Text) (n k : ℕ) → list ≡ new_texts [] part → extend spur_at old (take n list) accepted now → extend spur_at now (take k part) accepted new → IfSome (slice_get part k) (λ t. position_of new.texts t ≡ None) → extend spur_at old (take k part) accepted new
part_goes_on old now new part list n k is put h stop =
    goes_on now new part k stop h [] n old (none_found old) (subst (λ (ts : List Text). extend spur_at old (take n ts) accepted now) is put)

within_by : (P : Text → Type 0) (xs : List Text) (k : ℕ) (o : Option Text) → slice_get xs k ≡ o → IsSomeAnd o P → k < length xs
within_by P xs k None at holds = absurd holds
within_by P xs k (Some text) at holds = slice_get_within xs k text at

pub within : (P : Text → Type 0) (xs : List Text) (k : ℕ) → IsSomeAnd (slice_get xs k) P → k < length xs
within P xs k holds = within_by P xs k (slice_get xs k) refl holds

-- encoding the part's texts stops at an absent one or nowhere, if there is room for all codes
pub stops_absent : {A : Type 0} (new : InternerView) (part : List Text) (result : Result (Unit {0}) LassoError) (before : List ℕ) (codes : Vec ℕ A) (start count : ℕ) → start ≡ length before → count ≡ length part → OnOk result (vec_len codes ≡ start + count) → IfErr result (IsNextRefused new before codes.items part) → IfErr result (MayLackMemoryNext new before codes part) → start + count ≤ vec_capacity codes → IfSome (slice_get part (length codes.items - length before)) (λ t. position_of new.texts t ≡ None)
stops_absent new part (Ok done) before codes start count begins all whole refused lacks room =
    let past : length part ≤ length codes.items - length before = omega (arith, whole, begins, all, codes.ok.0) in
    subst (λ o. IfSome o (λ t. position_of new.texts t ≡ None)) (sym (slice_get_past part (length codes.items - length before) past)) tt
stops_absent new part (Err error) before codes start count begins all whole refused lacks room =
    let inside = within (λ text. IsRefused new text error) part (length codes.items - length before) refused in
    let some : vec_len codes < vec_capacity codes = omega (arith, inside, room, begins, all, codes.ok.0) in
    absent (slice_get part (length codes.items - length before)) refused lacks some
  where
    why_absent : (text : Text) (error : LassoError) → IsRefused new text error → (error ≡ FailedAllocation → IsAdmitted new text) → position_of new.texts text ≡ None
    why_absent text KeySpaceExhaustion refused admits = (no_key_of new text KeySpaceExhaustion refused refl).0
    why_absent text MemoryLimitReached refused admits = (limit_of new text MemoryLimitReached refused refl).0
    why_absent text FailedAllocation refused admits = (admits refl).0

    absent : (o : Option Text) → IsSomeAnd o (λ text. IsRefused new text error) → IsSomeAnd o (λ text. MayLackMemory new codes text error) → vec_len codes < vec_capacity codes → IfSome o (λ t. position_of new.texts t ≡ None)
    absent None refused lacks some = tt
    absent (Some text) refused lacks some = why_absent text error refused (λ why. not_full (IsAdmitted new text) (vec_capacity codes) (vec_len codes) (lacks why) some)

-- the texts of the part that were counted then
pub counts_on : {A : Type 0} (old now new : InternerView) (part list : List Text) (n : ℕ) (result : Result (Unit {0}) CountError) (counts : Vec ℕ A) → list ≡ new_texts [] part → extend spur_at old (take n list) accepted now → extend spur_at now (counted_of result part) accepted new → IfErr result (λ error. RefusesNewAmong new counts part error) → extend spur_at old (counted_of result part) accepted new
counts_on old now new part list n (Ok done) counts is put h refused =
    let all : take (length part) part ≡ part = take_all (length part) part (omega arith) in
    let past = subst (λ o. IfSome o (λ t. position_of new.texts t ≡ None)) (sym (slice_get_past part (length part) (omega arith))) tt in
    subst (λ (ts : List Text). extend spur_at old ts accepted new) all
    (part_goes_on old now new part list n (length part) is put (subst (λ (ts : List Text). extend spur_at now ts accepted new) (sym all) h) past)
counts_on old now new part list n (Err error) counts is put h refused =
    part_goes_on old now new part list n error.position is put h (absent (slice_get part error.position) (λ t. MayLackMemory new counts t error.error) refused)
  where
    absent : (o : Option Text) (P : Text → Type 0) → IsSomeAnd o (λ t. (position_of new.texts t ≡ None) × P t) → IfSome o (λ t. position_of new.texts t ≡ None)
    absent None P holds = tt
    absent (Some t) P holds = holds.0

-- the distinct texts of a part leave what all its texts leave
pub part_extends : (old now : InternerView) (part list : List Text) → list ≡ new_texts [] part → extend spur_at old list accepted now → extend spur_at old part accepted now
part_extends old now part list is h = extend_all old now [] part (none_found old) (subst (λ (ts : List Text). extend spur_at old ts accepted now) is h)

-- and its codes are rewritten to theirs
pub part_encoded : (texts list : List Text) (part table before after : List ℕ) (old new : InternerView) → IsEncoded texts list part → extend spur_at old list accepted new → AreCodes new.texts list table → AddsRewritten table part before after → Encoded old texts before new after
part_encoded texts list part table before after old new encoded interned merged put = record {
  list = part_extends old new texts list encoded.0 interned;
  codes = (put.0, put.1, rewriting_keeps_texts_lem list new.texts texts part table put.0 encoded.1 merged put.2);
}

-- ---- how much a list grows

new_few : (list texts : List Text) → length (new_texts list texts) ≤ length texts
new_few list [] = omega arith
new_few list (t ∷ texts) = few (is_some (position_of list t)) (new_few list texts) (new_few (list ++ t ∷ []) texts)
  where
    few : (there : Bool) → length (new_texts list texts) ≤ length texts → length (new_texts (list ++ t ∷ []) texts) ≤ length texts → length (cond there (new_texts list texts) (t ∷ new_texts (list ++ t ∷ []) texts)) ≤ suc (length texts)
    few true a b = omega (arith, a)
    few false a b = omega (arith, b)

-- the list has grown, by no more than were interned
abbrev pub Grown : List Text → List Text → ℕ → Type 0
Grown before after n = (more : List Text) × (after ≡ before ++ more) × (length more ≤ n)

grown_by : (old now : InternerView) (texts : List Text) (n : ℕ) → length texts ≤ n → extend spur_at old texts accepted now → Grown old.texts now.texts n
grown_by old now texts n few h =
    let most = new_few old.texts texts in (new_texts old.texts texts, list_extended old now texts h, omega (arith, most, few))

-- whether merging a list succeeded or not
pub merged_grown : {X : Type 0} (old now : InternerView) (list : List Text) (r : Result X LassoError) (P : LassoError → ℕ → Type 0) → OnOk r (extend spur_at old list accepted now) → IfErr r (λ error. (n : ℕ) × extend spur_at old (take n list) accepted now × P error n) → Grown old.texts now.texts (length list)
merged_grown old now list (Ok x) P ok err = grown_by old now list (length list) (omega arith) ok
merged_grown old now list (Err e) P ok err =
    let few = length-take err.0 list in grown_by old now (take err.0 list) (length list) (omega (arith, few)) err.1

-- ---- a text among those after the first

slice_get_drop : (xs : List Text) (i k : ℕ) → slice_get (drop i xs) k ≡ slice_get xs (i + k)
slice_get_drop xs zero k = let same : 0 + k ≡ k = omega arith in ap (λ n. slice_get xs n) (sym same)
slice_get_drop [] (suc i) k = refl
slice_get_drop (x ∷ xs) (suc i) k =
    let next : suc i + k ≡ suc (i + k) = omega arith in slice_get_drop xs i k ∙ ap (λ n. slice_get (x ∷ xs) n) (sym next)

next_after : (xs : List Text) (i k : ℕ) (P : Text → Type 0) → IsSomeAnd (slice_get (drop i xs) k) P → IsSomeAnd (slice_get xs (i + k)) P
next_after xs i k P holds = subst (λ o. IsSomeAnd o P) (slice_get_drop xs i k) holds

-- ---- a part among all texts

pub part_here : (texts : List (Bor Text)) (start count : ℕ) → map (λ t. t.now) (take (start + count - start) (drop start texts)) ≡ take count (drop start (map (λ t. t.now) texts))
part_here texts start count =
    let now = λ (t : Bor Text). t.now in
    let same : start + count - start ≡ count = omega arith in
    ap (λ n. map now (take n (drop start texts))) same ∙ sym (take-map now count (drop start texts)) ∙ ap (take count) (sym (drop-map now start texts))

take_front : (n : ℕ) (front back : List Text) → n ≤ length front → take n (front ++ back) ≡ take n front
take_front zero front back few = refl
take_front (suc n) [] back few = absurd (omega (arith, few))
take_front (suc n) (x ∷ front) back few = ap (λ (ts : List Text). x ∷ ts) (take_front n front back (omega (arith, few)))

-- the first texts of a part are the first ones from its start on
pub first_here : (xs : List Text) (count k : ℕ) → k ≤ length (take count xs) → take k (take count xs) ≡ take k xs
first_here xs count k few = sym (take_front k (take count xs) (drop count xs) few) ∙ ap (take k) (take-append-drop count xs)

-- the position of a text among all is the start of its part plus its position there
pub next_here : (P : Text → Type 0) (all : List Text) (start count k : ℕ) → IsSomeAnd (slice_get (take count (drop start all)) k) P → IsSomeAnd (slice_get all (start + k)) P
next_here P all start count k holds =
    let xs = drop start all in
    let small = within P (take count xs) k holds in
    let there : slice_get (take count xs) k ≡ slice_get xs k =
    sym (slice_get-append_left (take count xs) (drop count xs) k small) ∙ ap (λ (ts : List Text). slice_get ts k) (take-append-drop count xs) in
    next_after all start k P (subst (λ o. IsSomeAnd o P) there holds)
