-- The keys of a list of texts, and the texts of a list of keys, one after another.
use denote.Ref.{Bor}
use Rattle.std.proofs.Common.{ℕ, map, get_or, ◌≡◌, ◌+◌, ◌<◌, ◌≤◌, List, [], ◌∷◌, ◌++◌, length, take, drop, Option, Some, refl, sym, ap, subst, ◌∙◌, append_assoc, arith}
use Rattle.std.specs.Prelude.{slice_get}
use Rattle.std.proofs.lemmas.List.{append-nil, map-append, map_push, take-map, drop-map, take_more, length-take-le, length-drop}
use Rattle.std.proofs.Math.Seq.{take-add}
use Rattle.std.proofs.lemmas.Option.{slice_get-get_or}
use Rattle.lasso_parts.specs.Texts.{Text, key_of}
use Rattle.lasso_single.specs.KeyLists.{AddsFound, AddsTexts, HaveTexts}

pub found_none : {K : Type 0} (key_at : ℕ → Option K) (list : List Text) (before after : List (Option K)) → after ≡ before → AddsFound key_at list [] before after
found_none key_at list before after same = same ∙ sym (append-nil before)

-- one text more
pub found_push : {K : Type 0} (key_at : ℕ → Option K) (list texts : List Text) (text : Text) (key : Option K) (before keys after : List (Option K)) → AddsFound key_at list texts before keys → key ≡ key_of key_at list text → after ≡ keys ++ key ∷ [] → AddsFound key_at list (texts ++ text ∷ []) before after
found_push {K} key_at list texts text key before keys after so_far here is =
    let found : List (Option K) = map (key_of key_at list) texts in
    is ∙ ap (λ (ks : List (Option K)). ks ++ key ∷ []) so_far ∙ append_assoc before found (key ∷ []) ∙ ap (λ (k : Option K). before ++ (found ++ k ∷ [])) here
    ∙ ap (λ (ks : List (Option K)). before ++ ks) (sym (map_push (key_of key_at list) texts text))

-- the texts of a batch more, those from an index on
pub found_batch : {K : Type 0} (key_at : ℕ → Option K) (list : List Text) (texts batch : List (Bor Text)) (from count : ℕ) (before keys after : List (Option K)) → batch ≡ take count (drop from texts) →
    AddsFound key_at list (take from (map (λ t. t.now) texts)) before keys → AddsFound key_at list (map (λ t. t.now) batch) keys after → AddsFound key_at list (take (from + count) (map (λ t. t.now) texts)) before after
found_batch {K} key_at list texts batch from count before keys after is so_far here =
    let all : List Text = map (λ (t : Bor Text). t.now) texts in
    let one : List Text → List (Option K) = map (key_of key_at list) in
    let picked : map (λ (t : Bor Text). t.now) batch ≡ take count (drop from all) = ap (map (λ (t : Bor Text). t.now)) is ∙ sym (take-map (λ (t : Bor Text). t.now) count (drop from texts)) ∙ ap (take count) (sym (drop-map (λ (t : Bor Text). t.now) from texts)) in
    here ∙ ap (λ (ts : List Text). keys ++ one ts) picked ∙ ap (λ (ks : List (Option K)). ks ++ one (take count (drop from all))) so_far ∙ append_assoc before (one (take from all)) (one (take count (drop from all)))
    ∙ ap (λ (ks : List (Option K)). before ++ ks) (sym (map-append (key_of key_at list) (take from all) (take count (drop from all))) ∙ ap one (sym (take-add from count all)))

pub batch_length : {X : Type 0} (xs : List X) (from count : ℕ) → from + count ≤ length xs → length (take count (drop from xs)) ≡ count
batch_length xs from count inside = let left : count ≤ length (drop from xs) = omega (arith, length-drop from xs, inside) in length-take-le count (drop from xs) left

-- the key in a list of texts that has another name
pub key_of_same : {K : Type 0} (key_at : ℕ → Option K) (here list : List Text) (text : Text) (key : Option K) → here ≡ list → key ≡ key_of key_at here text → key ≡ key_of key_at list text
key_of_same key_at here list text key same is = subst (λ (ts : List Text). key ≡ key_of key_at ts text) same is

pub texts_none : {K : Type 0} (number : K → ℕ) (list : List Text) (before after : List (Bor Text)) → after ≡ before → AddsTexts number list [] before after
texts_none number list before after same = ([], same ∙ sym (append-nil before), refl)

-- one key more
pub texts_push : {K : Type 0} (number : K → ℕ) (list : List Text) (keys : List K) (key : K) (text : Bor Text) (before texts after : List (Bor Text)) → AddsTexts number list keys before texts → slice_get list (number key) ≡ Some text.now → after ≡ texts ++ text ∷ [] → AddsTexts number list (keys ++ key ∷ []) before after
texts_push {K} number list keys key text before texts after so_far here is =
    let lent : List (Bor Text) = so_far.0 in
    let now : Bor Text → Text = λ t. t.now in (
      lent ++ text ∷ [],
      is ∙ ap (λ (ts : List (Bor Text)). ts ++ text ∷ []) so_far.1 ∙ append_assoc before lent (text ∷ []),
      rw (map_push (λ (k : K). slice_get list (number k)) keys key, map_push now lent text, map_push Some (map now lent) text.now, so_far.2, here) refl,
    )

-- the keys up to an index and the one there
pub keys_more : {K : Type 0} (keys : List K) (i : ℕ) (d : K) → i < length keys → take (i + 1) keys ≡ take i keys ++ get_or keys i d ∷ []
keys_more keys i d small = take_more keys i d small

pub has_text : {K : Type 0} (number : K → ℕ) (list : List Text) (keys : List K) (i : ℕ) (d : K) → HaveTexts number list keys → i < length keys → number (get_or keys i d) < length list
has_text number list keys i d have small = have i (get_or keys i d) (slice_get-get_or keys i d small)
