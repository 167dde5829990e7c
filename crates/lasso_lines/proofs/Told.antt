-- Texts that are written one after another, each followed by a line feed.
use Rattle.std.proofs.Common.{ℕ, ◌≡◌, ◌+◌, ◌<◌, List, [], ◌∷◌, ◌++◌, length, get_or, take, drop, map, Bor, refl, sym, ap, ◌∙◌, append_assoc, append-nil, arith}
use Rattle.std.proofs.lemmas.List.{take_more, take-append-drop, get_or-map, length-map}
use Rattle.lasso_parts.specs.Texts.{Text}
use Rattle.lasso_lines.specs.Ordered.{told}

told_both : (texts more : List Text) → told (texts ++ more) ≡ told texts ++ told more
told_both [] more = refl
told_both (text ∷ texts) more = ap (λ bs. (text ++ 10 ∷ []) ++ bs) (told_both texts more) ∙ sym (append_assoc (text ++ 10 ∷ []) (told texts) (told more))

-- one more text
pub told_more : (texts : List Text) (i : ℕ) (d : Text) → i < length texts → told (take (i + 1) texts) ≡ told (take i texts) ++ (get_or texts i d ++ 10 ∷ [])
told_more texts i d small =
    ap told (take_more texts i d small) ∙ told_both (take i texts) (get_or texts i d ∷ []) ∙ ap (λ bs. told (take i texts) ++ bs) (append-nil (get_or texts i d ++ 10 ∷ []))

-- the first texts and the rest
pub told_split : (texts : List Text) (i : ℕ) → told (take i texts) ++ told (drop i texts) ≡ told texts
told_split texts i = sym (told_both (take i texts) (drop i texts)) ∙ ap told (take-append-drop i texts)

-- ---- the texts of pairs

-- the text of the pair at position i is the next one
pub told_next : (pairs : List (ℕ × Bor Text)) (i : ℕ) (line : Text) (d : ℕ × Bor Text) → i < length pairs → line ≡ (get_or pairs i d).1.now → told (take (i + 1) (map (λ p. p.1.now) pairs)) ≡ told (take i (map (λ p. p.1.now) pairs)) ++ (line ++ 10 ∷ [])
told_next pairs i line d small is =
    let texts = map (λ (p : ℕ × Bor Text). p.1.now) pairs in
    let here : get_or texts i [] ≡ line = get_or-map (λ (p : ℕ × Bor Text). p.1.now) pairs i d [] small ∙ sym is in
    told_more texts i [] (omega (arith, length-map pairs (λ (p : ℕ × Bor Text). p.1.now))) ∙ ap (λ (t : Text). told (take i texts) ++ (t ++ 10 ∷ [])) here

-- and the rest follows it
pub told_rest : (pairs : List (ℕ × Bor Text)) (i : ℕ) (line : Text) (d : ℕ × Bor Text) → i < length pairs → line ≡ (get_or pairs i d).1.now → told (take i (map (λ p. p.1.now) pairs)) ++ ((line ++ 10 ∷ []) ++ told (drop (i + 1) (map (λ p. p.1.now) pairs))) ≡ told (map (λ p. p.1.now) pairs)
told_rest pairs i line d small is =
    let texts = map (λ (p : ℕ × Bor Text). p.1.now) pairs in
    sym (append_assoc (told (take i texts)) (line ++ 10 ∷ []) (told (drop (i + 1) texts))) ∙ ap (λ bs. bs ++ told (drop (i + 1) texts)) (sym (told_next pairs i line d small is)) ∙ told_split texts (i + 1)
