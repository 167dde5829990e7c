-- The texts that an interner opens with, copied one after another into one bucket of their bytes: the next one fits, and after it the
-- bucket has the bytes of one text more. The texts are seen in a list of things that each show one.
use Rattle.std.proofs.Common.{◌≡◌, ℕ, ◌+◌, ◌<◌, List, [], ◌∷◌, ◌++◌, Some, length, map, get_or, take, slice_get, sym, ap, ◌∙◌, arith}
use Rattle.std.proofs.lemmas.List.{length-map, get_or-map}
use Rattle.std.proofs.lemmas.List.Sums.{sum_by-take-le}
use Rattle.std.proofs.lemmas.Option.{slice_get-get_or}
use Rattle.lasso_parts.specs.Texts.{Text}
use Rattle.lasso_parts.proofs.TextLemmas.{take_more_at}
use Rattle.lasso_single.specs.Copies.{bytes_of, clone_size}
use Rattle.lasso_single.proofs.Copied.{bytes_more_at, bytes-le-clone_size}

module _ {A : Type 0} (see : A → Text) (xs : List A) (other : A) (n : ℕ) (inside : n < length xs) where
  at : slice_get (map see xs) n ≡ Some (see (get_or xs n other))
  at =
      let long = length-map xs see in
      slice_get-get_or (map see xs) n [] (omega (arith, long, inside)) ∙ ap (λ (t : Text). Some t) (get_or-map see xs n other [] inside)

  -- the next text fits
  pub next_fits : (used size : ℕ) → used ≡ bytes_of (take n (map see xs)) → size ≡ clone_size (map see xs) → size < used + length (see (get_or xs n other)) → ⊥
  next_fits used size is all small =
      let more = bytes_more_at (map see xs) n (see (get_or xs n other)) at in
      let whole = sum_by-take-le (λ (u : Text). length u) (map see xs) (n + 1) in
      let room = bytes-le-clone_size (map see xs) in
      omega (arith, more, whole, room, is, all, small)

  -- the texts with it
  pub texts_more : (old copied new : List Text) (text : Text) → old ≡ take n (map see xs) → copied ≡ old → text ≡ see (get_or xs n other) → new ≡ copied ++ text ∷ [] → new ≡ take (n + 1) (map see xs)
  texts_more old copied new text so_far same is put =
      put ∙ (ap (λ (ts : List Text). ts ++ text ∷ []) (same ∙ so_far) ∙ (ap (λ (t : Text). take n (map see xs) ++ t ∷ []) is ∙ sym (take_more_at (map see xs) n (see (get_or xs n other)) at)))

  -- and their bytes
  pub bytes_more : (old new : ℕ) → old ≡ bytes_of (take n (map see xs)) → new ≡ old + length (see (get_or xs n other)) → new ≡ bytes_of (take (n + 1) (map see xs))
  bytes_more old new so_far put =
      let more = bytes_more_at (map see xs) n (see (get_or xs n other)) at in
      omega (arith, more, so_far, put)
