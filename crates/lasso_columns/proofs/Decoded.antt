-- Codes that are decoded one after another.
--
-- The texts that were appended stand for the codes before the position, so there are as many of them as
-- codes. The next code's text goes after them. So the number of appended texts is the position, and it says
-- which code was not decoded.
use denote.Ref.{Bor}
use Rattle.std.proofs.Common.{ℕ, ◌≡◌, ◌+◌, ◌-◌, ◌<◌, ◌≤◌, List, [], ◌∷◌, ◌++◌, map, length, take, get_or, Bool, true, false, not, if◌then◌else◌, Some, Result, Ok, Err, is_ok, refl, sym, ap, subst, ◌∙◌, arith, append_assoc}
use Rattle.std.specs.Prelude.{slice_get}
use Rattle.std.proofs.lemmas.Bool.{false≢true}
use Rattle.std.proofs.lemmas.List.{append-nil, length-append, length-map, length-take-le, map_push, take_more}
use Rattle.lasso_parts.specs.Texts.{Text}
use Rattle.lasso_single.proofs.Coded.{map_some_length, map_some_push}
use Rattle.lasso_single.specs.Codes.{AddsTexts, StandFor}

-- no text yet
pub none_decoded : (list : List Text) (codes : List ℕ) (before : List (Bor Text)) → AddsTexts list (take 0 codes) before before
none_decoded list codes before = ([], sym (append-nil before), refl)

-- one text more
pub one_decoded : (list : List Text) (codes : List ℕ) (n : ℕ) (before now after : List (Bor Text)) (text : Bor Text) → AddsTexts list (take n codes) before now → n < length codes → slice_get list (get_or codes n 0) ≡ Some text.now → after ≡ now ++ text ∷ [] → AddsTexts list (take (n + 1) codes) before after
one_decoded list codes n before now after text added small here is =
    let lent = added.0 in
    let more : take (n + 1) codes ≡ take n codes ++ get_or codes n 0 ∷ [] = take_more codes n 0 small in
    let texts : map (λ (t : Bor Text). t.now) (lent ++ text ∷ []) ≡ map (λ (t : Bor Text). t.now) lent ++ text.now ∷ [] = map_push (λ (t : Bor Text). t.now) lent text in
    let stand = map_some_push (slice_get list) (take n codes) (map (λ (t : Bor Text). t.now) lent) (get_or codes n 0) text.now added.2 here in
    (lent ++ text ∷ [], is ∙ ap (λ ts. ts ++ text ∷ []) added.1 ∙ append_assoc before lent (text ∷ []), subst (λ (cs : List ℕ). StandFor list cs (map (λ (t : Bor Text). t.now) (lent ++ text ∷ []))) (sym more) (subst (λ (ts : List Text). map (slice_get list) (take n codes ++ get_or codes n 0 ∷ []) ≡ map Some ts) (sym texts) stand))

-- how many texts were appended
pub decoded_length : (list : List Text) (codes : List ℕ) (n : ℕ) (before after : List (Bor Text)) → AddsTexts list (take n codes) before after → n ≤ length codes → length after ≡ length before + n
decoded_length list codes n before after added within =
    let lent = added.0 in
    let many = map_some_length (slice_get list) (take n codes) (map (λ (t : Bor Text). t.now) lent) added.2 in
    omega (arith, ap length added.1, length-append before lent, many, length-map lent (λ (t : Bor Text). t.now), length-take-le n codes within)

-- the number of appended texts is the position
pub count_is : (list : List Text) (codes : List ℕ) (n : ℕ) (before after : List (Bor Text)) (many had : ℕ) → AddsTexts list (take n codes) before after → n ≤ length codes → many ≡ length after → had ≡ length before → many - had ≡ n
count_is list codes n before after many had added within is was =
    omega (arith, decoded_length list codes n before after added within, is, was)

-- the texts of the codes whose number is read off the list
pub decoded_told : (list : List Text) (codes : List ℕ) (n : ℕ) (before after : List (Bor Text)) (many had : ℕ) → AddsTexts list (take n codes) before after → n ≤ length codes → many ≡ length after → had ≡ length before → AddsTexts list (take (many - had) codes) before after
decoded_told list codes n before after many had added within is was =
    subst (λ m. AddsTexts list (take m codes) before after) (sym (count_is list codes n before after many had added within is was)) added

-- what a push that failed leaves, and one that did not
pub push_failed : {A E X : Type 0} (r : Result A E) (failed : Bool) (old more new : List X) → new ≡ (if is_ok r then more else old) → is_ok r ≡ not failed → failed ≡ true → new ≡ old
push_failed (Ok done) failed old more new is told so = absurd (false≢true (sym (ap not so) ∙ sym told))
push_failed (Err error) failed old more new is told so = is

pub push_done : {A E X : Type 0} (r : Result A E) (failed : Bool) (old more new : List X) → new ≡ (if is_ok r then more else old) → is_ok r ≡ not failed → failed ≡ false → new ≡ more
push_done (Ok done) failed old more new is told so = is
push_done (Err error) failed old more new is told so = absurd (false≢true (told ∙ ap not so))
