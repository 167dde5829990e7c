-- Items that are written one after another, each as some bytes.
--
-- The bytes of the first items and one more are the bytes of the first items, and then its own. So after each
-- item the bytes of the items so far are written. If a part of an item is written, that is a beginning of the
-- bytes of all.
use Rattle.std.proofs.Common.{ℕ, ◌≡◌, ◌+◌, List, [], ◌∷◌, ◌++◌, take, drop, Err, sym, ap, ◌∙◌, append_assoc}
use Rattle.std.specs.Prelude.{flat_map}
use Rattle.std.proofs.lemmas.Grind.{flat_map-append}
use Rattle.std.proofs.lemmas.List.{append-nil, take-append-drop}
use Rattle.lasso_codes.specs.Streams.{WritesAll}
use Rattle.lasso_codes.specs.declared.error.RunError.{RunError}

module _ {X : Type 0} (f : X → List ℕ) (xs : List X) (i : ℕ) (x : X) (next : take (i + 1) xs ≡ take i xs ++ x ∷ []) where
  -- the bytes of one item more
  pub flat_more : flat_map f (take (i + 1) xs) ≡ flat_map f (take i xs) ++ f x
  flat_more = ap (λ ys. flat_map f ys) next ∙ flat_map-append f (take i xs) (x ∷ []) ∙ ap (λ bs. flat_map f (take i xs) ++ bs) (append-nil (f x))

  -- an item is written
  pub flat_then : (part more : List ℕ) → part ≡ flat_map f (take i xs) → more ≡ f x → part ++ more ≡ flat_map f (take (i + 1) xs)
  flat_then part more so_far is = ap (λ bs. bs ++ more) so_far ∙ ap (λ bs. flat_map f (take i xs) ++ bs) is ∙ sym flat_more

  -- a part of an item is written
  pub flat_fails : (part more : List ℕ) (error : RunError) → part ≡ flat_map f (take i xs) → WritesAll (f x) (Err error) more → WritesAll (flat_map f xs) (Err error) (part ++ more)
  flat_fails part more error so_far written =
      let others = flat_map f (drop (i + 1) xs) in
      let front : flat_map f (take (i + 1) xs) ≡ part ++ f x = flat_more ∙ ap (λ bs. bs ++ f x) (sym so_far) in
      let whole : flat_map f xs ≡ flat_map f (take (i + 1) xs) ++ others = ap (λ ys. flat_map f ys) (sym (take-append-drop (i + 1) xs)) ∙ flat_map-append f (take (i + 1) xs) (drop (i + 1) xs) in
      let grown : part ++ f x ≡ (part ++ more) ++ written.1.0 = ap (λ bs. part ++ bs) written.1.1 ∙ sym (append_assoc part more written.1.0) in
      (written.0, (written.1.0 ++ others, whole ∙ ap (λ bs. bs ++ others) (front ∙ grown) ∙ append_assoc (part ++ more) written.1.0 others))
