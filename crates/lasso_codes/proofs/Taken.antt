-- The lines of bytes that were read one after another.
--
-- The lines of the input are those that were read, and then those of the rest. So the first lines are those
-- that were read, and the next one is the first of the rest. If nothing is left, all lines were read.
use Rattle.std.proofs.Common.{ℕ, Bool, ◌≡◌, ◌+◌, ◌≤◌, List, [], ◌∷◌, ◌++◌, length, take, Option, Some, refl, sym, ap, subst, ◌∙◌, arith, append_assoc}
use Rattle.std.specs.Prelude.{slice_get}
use Rattle.std.proofs.Math.Seq.{take-append_seam}
use Rattle.std.proofs.lemmas.List.{append-nil, length_push, length-append}
use Rattle.std.proofs.lemmas.List.Elements.{All-push}
use Rattle.lasso_parts.specs.Texts.{Text}
use Rattle.lasso_input.specs.Lines.{lines_of}
use Rattle.lasso_codes.specs.Limits.{AreLetIn, IsLetIn}
use Rattle.lasso_codes.specs.Stages.{Taken}
use Rattle.lasso_codes.specs.Streams.{FailsAfter, LosesPart}

-- one line more
pub taken_push : (input rest : List ℕ) (only : Bool) (number : ℕ) (done : List Text) (line : Text) (left : List ℕ) → Taken input rest only number done → lines_of rest ≡ line ∷ lines_of left → IsLetIn only line → Taken input left only (number + 1) (done ++ line ∷ [])
taken_push input rest only number done line left taken cut let_in = record {
  split = taken.split ∙ ap (λ (ls : List Text). done ++ ls) cut ∙ sym (append_assoc done (line ∷ []) (lines_of left));
  let_in = All-push (IsLetIn only) done line taken.let_in let_in;
  counted = ap (λ n. n + 1) (length_push done line ∙ taken.counted);
}

-- all of them
pub taken_all : (input rest : List ℕ) (only : Bool) (number : ℕ) (done : List Text) → Taken input rest only number done → rest ≡ [] → lines_of input ≡ done
taken_all input rest only number done taken none = taken.split ∙ ap (λ bs. done ++ lines_of bs) none ∙ append-nil done

pub taken_first : (input rest : List ℕ) (only : Bool) (number : ℕ) (done : List Text) → Taken input rest only number done → take (length done) (lines_of input) ≡ done
taken_first input rest only number done taken = ap (take (length done)) taken.split ∙ take-append_seam done (lines_of rest)

-- they are let in
pub taken_let_in : (input rest : List ℕ) (only : Bool) (number : ℕ) (done : List Text) → Taken input rest only number done → AreLetIn only (take (length done) (lines_of input))
taken_let_in input rest only number done taken = subst (λ (ls : List Text). AreLetIn only ls) (sym (taken_first input rest only number done taken)) taken.let_in

-- they are lines of the input
pub taken_few : (input rest : List ℕ) (only : Bool) (number : ℕ) (done : List Text) → Taken input rest only number done → length done ≤ length (lines_of input)
taken_few input rest only number done taken =
    let all : length (lines_of input) ≡ length done + length (lines_of rest) = ap length taken.split ∙ length-append done (lines_of rest) in omega (arith, all)

at_seam : (done : List Text) (line : Text) (more : List Text) → slice_get (done ++ line ∷ more) (length done) ≡ Some line
at_seam [] line more = refl
at_seam (t ∷ done) line more = at_seam done line more

-- the next line
pub taken_next : (input rest : List ℕ) (only : Bool) (number : ℕ) (done : List Text) (line : Text) (more : List Text) → Taken input rest only number done → lines_of rest ≡ line ∷ more → slice_get (lines_of input) (length done) ≡ Some line
taken_next input rest only number done line more taken cut =
    ap (λ (ls : List Text). slice_get ls (length done)) (taken.split ∙ ap (λ (ls : List Text). done ++ ls) cut) ∙ at_seam done line more

-- a read failed at the next line
pub taken_fails : (input rest : List ℕ) (only : Bool) (number : ℕ) (done : List Text) → Taken input rest only number done → (before after : Option (List ℕ)) → before ≡ Some rest → LosesPart before after → FailsAfter (lines_of input) (length done) after
taken_fails input rest only number done taken before after there loses =
    let lost = loses rest there in (
      lost.0,
      lost.1,
      lost.2,
      taken.split ∙ ap (λ bs. done ++ lines_of bs) lost.3
          ∙ ap (λ (ls : List Text). ls ++ lines_of (lost.0 ++ lost.1)) (sym (taken_first input rest only number done taken)),
      lost.4,
    )
