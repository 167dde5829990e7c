-- Codes that are rewritten by a table.
--
-- A part's codes are positions in its own list, so each is below the list's length. The table has a new code for
-- each text of that list, so it has one for each code.
use Rattle.std.proofs.Common.{ℕ, zero, suc, ◌≡◌, ◌-◌, ◌<◌, List, [], ◌∷◌, ◌++◌, map, take, drop, length, Some, refl, sym, ap, ◌∙◌, arith, get_or}
use Rattle.std.specs.Prelude.{slice_get, All}
use Rattle.std.proofs.lemmas.List.{length-append, take_all}
use Rattle.std.proofs.Math.Seq.{drop-append_seam}
use Rattle.std.proofs.lemmas.Option.{slice_get-get_or, slice_get_within}
use Rattle.lasso_input.proofs.Ends.{end_written}
use Rattle.lasso_parts.specs.Texts.{Text}
use Rattle.lasso_single.proofs.Coded.{codes_stand}
use Rattle.lasso_single.specs.Codes.{AreCodes, StandFor}
use Rattle.lasso_columns.specs.Parts.{AddsRewritten}

inside_at : (list texts : List Text) (codes : List ℕ) → StandFor list codes texts → (k d : ℕ) → k < length codes → get_or codes k d < length list
inside_at list texts [] stand k d small = absurd (omega (arith, small))
inside_at list [] (c ∷ codes) stand k d small = absurd (cc)
inside_at list (t ∷ texts) (c ∷ codes) stand zero d small = slice_get_within list c t (cc)
inside_at list (t ∷ texts) (c ∷ codes) stand (suc k) d small = inside_at list texts codes (cc) k d (omega (arith, small))

-- codes are positions in their list
pub codes_inside : (list texts : List Text) (codes : List ℕ) → AreCodes list texts codes → All (λ c. c < length list) codes
codes_inside list texts codes are k d small = inside_at list texts codes (codes_stand list texts codes are) k d small

each_rewritten : (table codes rewritten : List ℕ) → length rewritten ≡ length codes → ((k : ℕ) → k < length codes → slice_get table (get_or codes k 0) ≡ Some (get_or rewritten k 0)) → map (slice_get table) codes ≡ map Some rewritten
each_rewritten table [] [] long each = refl
each_rewritten table [] (r ∷ rs) long each = absurd (omega (arith, long))
each_rewritten table (c ∷ cs) [] long each = absurd (omega (arith, long))
each_rewritten table (c ∷ cs) (r ∷ rs) long each =
    let here : slice_get table c ≡ Some r = each 0 (omega arith) in
    let others : map (slice_get table) cs ≡ map Some rs = each_rewritten table cs rs (omega (arith, long)) (λ k small. each (suc k) (omega (arith, small))) in
    cc

-- the codes were appended, and then each of them was rewritten
module _ (table codes before mid : List ℕ) (start total : ℕ) (begins : start ≡ length before) (is : mid ≡ before ++ codes) (long : total ≡ length mid) (below : All (λ code. code < length table) codes) where
  end_is : take (total - start) (drop start mid) ≡ codes
  end_is =
      let end : drop start mid ≡ codes = ap (λ k. drop k mid) begins ∙ ap (drop (length before)) is ∙ drop-append_seam before codes in
      ap (take (total - start)) end ∙ take_all (total - start) codes (omega (arith, begins, long, ap length is, length-append before codes))

  pub end_rewritten : (old written : List ℕ) → old ≡ take (total - start) (drop start mid) → length written ≡ length old → ((k : ℕ) → k < length old → get_or written k 0 ≡ get_or table (get_or old k 0) 0) → AddsRewritten table codes before (take total ((take start mid ++ (written ++ drop (length written) (drop start mid))) ++ drop (length (take start mid ++ (written ++ drop (length written) (drop start mid)))) mid))
  end_rewritten old written was same each =
      let old_is : old ≡ codes = was ∙ end_is in
      let whole : length written ≡ length codes = same ∙ ap length old_is in
      let here : (k : ℕ) → k < length codes → slice_get table (get_or codes k 0) ≡ Some (get_or written k 0) = λ k small.
      slice_get-get_or table (get_or codes k 0) 0 (below k 0 small)
      ∙ ap (λ c. Some c) (sym (each k (omega (arith, small, same, whole)) ∙ ap (λ xs. get_or table (get_or xs k 0) 0) old_is)) in
      (written, end_written before codes written mid start total begins is long whole, each_rewritten table codes written whole here)
