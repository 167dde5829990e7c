-- A list by its ends: where it has at most twice n items, its first n and its last n are all of it.
--
-- The items before the last n are among the first n, since they are at most n. So whoever writes the first n, and then
-- the last n over the end of them, has written the list; and two lists of one length with the same first n and the
-- same last n are the same.
use Rattle.std.proofs.Common.{◌≡◌, ◌∙◌, ℕ, ◌+◌, ◌≤◌, Bool, true, false, List, ◌++◌, length, take, drop, bytes_eq, refl, ap, sym, arith}
use Rattle.std.proofs.lemmas.List.{take-append-drop, take-append-le, take-take, length-take-le, length-drop, length-append, append_assoc, drop-drop}
use Rattle.std.proofs.Math.Seq.{take-append-add, drop-append-add}
use borrow.Rule.Slice.PartMut.{put_mid}
use Rattle.std.proofs.lemmas.Slice.{take-put_mid}
use Rattle.std.proofs.lemmas.Slice.Eq.{bytes_eq-Decides}

-- what is before the last items, among the first n and whatever comes after those
pub before_last : {X : Type 0} (t rest : List X) (n last : ℕ) → last ≤ n → n ≤ length t → take last (take n t ++ rest) ≡ take last t
before_last t rest n last few fits = take-append-le last (take n t) rest (omega (arith, few, length-take-le n t fits)) ∙ take-take last n t few

-- the first n, and the last ones over the end of them
pub written : {X : Type 0} (t rest : List X) (n last : ℕ) → last ≤ n → n ≤ length t → take last (take n t ++ rest) ++ drop last t ≡ t
written t rest n last few fits = ap (λ (p : List _). p ++ drop last t) (before_last t rest n last few fits) ∙ take-append-drop last t

-- the same at the front of a list
pub written_first : {X : Type 0} (t xs ys rest : List X) (n last k : ℕ) → last + n ≡ length t → last ≤ n → xs ≡ take n t → ys ≡ drop last t → take (length t) (put_mid last k (xs ++ rest) ys) ≡ t
written_first t xs ys rest n last k count few first second =
    let fits : n ≤ length t = omega (arith, count) in
    let inside : last ≤ length (xs ++ rest) = omega (arith, few, ap length first, length-take-le n t fits, length-append xs rest) in
    take-put_mid last k (xs ++ rest) ys (length t) (omega (arith, ap length second, length-drop last t, count)) inside ∙ ap (λ (p : List _). take last (p ++ rest) ++ ys) first
    ∙ ap (λ (p : List _). take last (take n t ++ rest) ++ p) second ∙ written t rest n last few fits

-- the same in the middle of a list, from the place s on
pub written_in : {X : Type 0} (xs ys zs t : List X) (s n last : ℕ) → s + length t ≤ length xs → last + n ≡ length t → last ≤ n → ys ≡ take s xs ++ take n t ++ drop (s + length (take n t)) xs
    → zs ≡ take (s + last) ys ++ drop last t ++ drop (s + last + length (drop last t)) ys → zs ≡ take s xs ++ t ++ drop (s + length t) xs
written_in xs ys zs t s n last fits count few first second =
    let p : List _ = take s xs in
    let rest : List _ = drop (s + length (take n t)) xs in
    let long : length p ≡ s = length-take-le s xs (omega (arith, fits)) in
    let some : length (take n t) ≡ n = length-take-le n t (omega (arith, count)) in
    let end : length (drop last t) ≡ n = omega (arith, length-drop last t, count) in
    let split : ys ≡ p ++ (take n t ++ rest) = first ∙ append_assoc p (take n t) rest in
    let front : take (s + last) ys ≡ p ++ take last t =
    ap (take (s + last)) split ∙ ap (λ (k : ℕ). take (k + last) (p ++ (take n t ++ rest))) (sym long) ∙ take-append-add p (take n t ++ rest) last ∙ ap (λ (q : List _). p ++ q) (before_last t rest n last few (omega (arith, count))) in
    let past : s + last + length (drop last t) ≡ length p + (length (take n t) + last) = omega (arith, long, some, end) in
    let behind : drop (s + last + length (drop last t)) ys ≡ drop (s + length t) xs =
    ap (λ (k : ℕ). drop k ys) past ∙ ap (drop (length p + (length (take n t) + last))) split ∙ drop-append-add p (take n t ++ rest) (length (take n t) + last) ∙ drop-append-add (take n t) rest last
    ∙ drop-drop last (s + length (take n t)) xs ∙ ap (λ (k : ℕ). drop k xs) (omega (arith, some, count)) in
    second ∙ ap (λ (q : List _). q ++ drop last t ++ drop (s + last + length (drop last t)) ys) front ∙ ap (λ (q : List _). p ++ take last t ++ drop last t ++ q) behind
    ∙ ap (λ (q : List _). q ++ drop (s + length t) xs) (append_assoc p (take last t) (drop last t) ∙ ap (λ (q : List _). p ++ q) (take-append-drop last t))

-- two lists with the same ends
pub same_by_ends : {X : Type 0} (s t : List X) (n last : ℕ) → last ≤ n → take n s ≡ take n t → drop last s ≡ drop last t → s ≡ t
same_by_ends s t n last few first rest =
    let front : take last s ≡ take last t = sym (take-take last n s few) ∙ ap (take last) first ∙ take-take last n t few in
    sym (take-append-drop last s) ∙ ap (λ (p : List _). p ++ drop last s) front ∙ ap (λ (q : List _). take last t ++ q) rest ∙ take-append-drop last t

same_bool : (a b : Bool) → (a ≡ true → b ≡ true) → (b ≡ true → a ≡ true) → a ≡ b
same_bool true b f g = sym (f refl)
same_bool false true f g = g refl
same_bool false false f g = refl

-- where the first n are the same, two lists are the same exactly where the last ones are
pub told_by_last : (s t : List ℕ) (n last last_too : ℕ) → last ≤ n → last ≡ last_too → take n s ≡ take n t → bytes_eq (drop last s) (drop last_too t) ≡ bytes_eq s t
told_by_last s t n last last_too few one first =
    let at : bytes_eq (drop last s) (drop last_too t) ≡ bytes_eq (drop last s) (drop last t) = ap (λ (k : ℕ). bytes_eq (drop last s) (drop k t)) (sym one) in
    at
    ∙ same_bool _ _ (λ h. (bytes_eq-Decides s t).1 (same_by_ends s t n last few first ((bytes_eq-Decides (drop last s) (drop last t)).0 h))) (λ h. (bytes_eq-Decides (drop last s) (drop last t)).1 (ap (drop last) ((bytes_eq-Decides s t).0 h)))
