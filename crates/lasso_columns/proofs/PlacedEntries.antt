-- Entries that are appended one after another, each as the table has it.
use Rattle.std.proofs.Common.{ℕ, ◌≡◌, ◌+◌, ◌<◌, ◌≤◌, List, [], ◌∷◌, ◌++◌, length, map, take, Some, None, IfSome, refl, sym, ap, subst, ◌∙◌, arith, append_assoc, append-nil, get_or}
use Rattle.std.specs.Prelude.{slice_get}
use Rattle.std.proofs.lemmas.List.{length_push, take_more, take_all}
use Rattle.std.proofs.lemmas.Option.{slice_get_past, slice_get-get_or}
use Rattle.lasso_single.proofs.Coded.{map_some_push}
use Rattle.lasso_columns.specs.Blocks.{placed, AddsPlaced}

-- the first i entries were appended
pub record PutSoFar (base : ℕ) (table part before : List ℕ) (i : ℕ) (after : List ℕ) : Type 0 where
  pub put : List ℕ
  pub grown : after ≡ before ++ put
  pub count : length put ≡ i
  pub are : map (placed base table) (take i part) ≡ map Some put

module _ (base : ℕ) (table part before : List ℕ) where
  pub put_begins : (after : List ℕ) → after ≡ before → PutSoFar base table part before 0 after
  put_begins after same = record { put = []; grown = same ∙ sym (append-nil before); count = refl; are = refl }

  -- one more
  pub put_push : (i entry value : ℕ) (after after' : List ℕ) → PutSoFar base table part before i after → i < length part → entry ≡ get_or part i 0 → placed base table entry ≡ Some value → after' ≡ after ++ value ∷ [] → PutSoFar base table part before (i + 1) after'
  put_push i entry value after after' so_far small is here grown =
      let at : placed base table (get_or part i 0) ≡ Some value = ap (placed base table) (sym is) ∙ here in
      record {
        put = so_far.put ++ value ∷ [];
        grown = grown ∙ ap (λ (es : List ℕ). es ++ value ∷ []) so_far.grown ∙ append_assoc before so_far.put (value ∷ []);
        count = length_push so_far.put value ∙ ap (λ n. n + 1) so_far.count;
        are =
            subst (λ (es : List ℕ). map (placed base table) es ≡ map Some (so_far.put ++ value ∷ [])) (sym (take_more part i 0 small))
            (map_some_push (placed base table) (take i part) so_far.put (get_or part i 0) value so_far.are at);
      }

  ends_by : (i : ℕ) (after : List ℕ) → PutSoFar base table part before i after → IfSome (slice_get part i) (λ entry. placed base table entry ≡ None) → AddsPlaced base table part before after
  ends_by i after so_far next = (
    so_far.put,
    so_far.grown,
    subst (λ n. map (placed base table) (take n part) ≡ map Some so_far.put) (sym so_far.count) so_far.are,
    subst (λ n. IfSome (slice_get part n) (λ entry. placed base table entry ≡ None)) (sym so_far.count) next,
  )

  -- all
  pub put_ends : (i : ℕ) (after : List ℕ) → PutSoFar base table part before i after → length part ≤ i → AddsPlaced base table part before after
  put_ends i after so_far all = ends_by i after so_far (subst (λ o. IfSome o (λ entry. placed base table entry ≡ None)) (sym (slice_get_past part i all)) tt)

  -- the next one is lacking
  pub put_stops : (i entry : ℕ) (after : List ℕ) → PutSoFar base table part before i after → i < length part → entry ≡ get_or part i 0 → placed base table entry ≡ None → AddsPlaced base table part before after
  put_stops i entry after so_far small is lacks =
      ends_by i after so_far
      (subst (λ o. IfSome o (λ entry. placed base table entry ≡ None)) (sym (slice_get-get_or part i 0 small)) (ap (placed base table) (sym is) ∙ lacks))

  -- all at once, since none is rewritten
  pub put_whole : (after : List ℕ) → after ≡ before ++ part → map (placed base table) part ≡ map Some part → AddsPlaced base table part before after
  put_whole after grown stays = (
    part,
    grown,
    subst (λ (es : List ℕ). map (placed base table) es ≡ map Some part) (sym (take_all (length part) part (omega arith))) stays,
    subst (λ o. IfSome o (λ entry. placed base table entry ≡ None)) (sym (slice_get_past part (length part) (omega arith))) tt,
  )
