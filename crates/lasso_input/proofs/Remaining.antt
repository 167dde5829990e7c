-- The bytes of a stretch that are left, while line after line is taken.
--
-- What is left is the end of the stretch. A line and the line feed after it are taken off its front, so what is
-- left then is an end too, and the number of bytes taken is the difference of the lengths.
use Rattle.std.proofs.Common.{ℕ, suc, ◌≡◌, ◌+◌, ◌-◌, ◌≤◌, List, [], ◌∷◌, ◌++◌, length, drop, refl, sym, ap, ◌∙◌, arith, length-append, drop-drop}

-- the bytes are the last of the others
abbrev pub IsEndOf : List ℕ → List ℕ → Type 0
IsEndOf rest bytes = (length rest ≤ length bytes) × (rest ≡ drop (length bytes - length rest) bytes)

-- no byte is taken
pub whole_is_end : (bytes : List ℕ) → IsEndOf bytes bytes
whole_is_end bytes = let none : length bytes - length bytes ≡ 0 = omega arith in (omega arith, ap (λ n. drop n bytes) (sym none))

after_feed : (line after : List ℕ) → drop (suc (length line)) (line ++ 10 ∷ after) ≡ after
after_feed [] after = refl
after_feed (b ∷ line) after = after_feed line after

-- a line and its line feed are taken
pub end_after : (rest bytes line after : List ℕ) → IsEndOf rest bytes → rest ≡ line ++ 10 ∷ after → IsEndOf after bytes
end_after rest bytes line after end cut =
    let many : length rest ≡ length line + length (10 ∷ after) = ap length cut ∙ length-append line (10 ∷ after) in
    let used : length bytes - length after ≡ (length bytes - length rest) + suc (length line) = omega (arith, many, end.0) in
    let is : drop (length bytes - length after) bytes ≡ after =
    ap (λ n. drop n bytes) used ∙ sym (drop-drop (suc (length line)) (length bytes - length rest) bytes) ∙ ap (λ bs. drop (suc (length line)) bs) (sym end.1 ∙ cut) ∙ after_feed line after in
    (omega (arith, many, end.0), sym is)
