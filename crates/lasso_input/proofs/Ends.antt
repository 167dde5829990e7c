-- Lists that are appended to, and whose end is written anew.
use Rattle.std.proofs.Common.{ℕ, ◌≡◌, List, [], ◌++◌, take, drop, length, cond, Result, Ok, Err, is_ok, ap, ◌∙◌, arith}
use Rattle.std.specs.Prelude.{OnOk}
use Rattle.std.proofs.lemmas.List.{append-nil, length-append, take_all}
use Rattle.std.proofs.Math.ListN.{drop_of_length-le}
use Rattle.std.proofs.Math.Seq.{take-append_seam, drop-append_seam}

-- a list whose end was appended and then overwritten
pub end_written : (before added written mid : List ℕ) (m n : ℕ) → m ≡ length before → mid ≡ before ++ added → n ≡ length mid → length written ≡ length added → take n ((take m mid ++ (written ++ drop (length written) (drop m mid))) ++ drop (length (take m mid ++ (written ++ drop (length written) (drop m mid)))) mid) ≡ before ++ written
end_written before added written mid m n start is long same =
    let front : take m mid ≡ before = ap (λ k. take k mid) start ∙ ap (take (length before)) is ∙ take-append_seam before added in
    let end : drop m mid ≡ added = ap (λ k. drop k mid) start ∙ ap (drop (length before)) is ∙ drop-append_seam before added in
    let none : drop (length written) (drop m mid) ≡ [] = ap (drop (length written)) end ∙ drop_of_length-le added (omega (arith, same)) in
    let whole : take m mid ++ (written ++ drop (length written) (drop m mid)) ≡ before ++ written =
    ap (λ (xs : List ℕ). xs ++ (written ++ drop (length written) (drop m mid))) front ∙ ap (λ (xs : List ℕ). before ++ (written ++ xs)) none ∙ ap (λ (xs : List ℕ). before ++ xs) (append-nil written) in
    let total : length (before ++ written) ≡ length mid = omega (arith, length-append before written, length-append before added, ap length is, same) in
    let past : drop (length (before ++ written)) mid ≡ [] = drop_of_length-le mid (omega (arith, total)) in
    ap (λ (xs : List ℕ). take n (xs ++ drop (length xs) mid)) whole ∙ ap (λ (xs : List ℕ). take n ((before ++ written) ++ xs)) past ∙ ap (take n) (append-nil (before ++ written))
    ∙ take_all n (before ++ written) (omega (arith, long, total))

-- what is appended, unless an error is returned
pub appended : {A B : Type 0} (r : Result A B) (new old before more line : List ℕ) → new ≡ cond (is_ok r) (old ++ more) old → old ≡ before → more ≡ line → OnOk r (new ≡ before ++ line)
appended (Ok x) new old before more line is same same' = is ∙ ap (λ (xs : List ℕ). xs ++ more) same ∙ ap (λ (xs : List ℕ). before ++ xs) same'
appended (Err e) new old before more line is same same' = tt
