-- The front of a text: its first bytes as a number. Fronts that differ order their texts. Texts are sorted
-- with their fronts: by the front first and then by the text, which is the order of the texts.
use Rattle.std.specs.Prelude.{◌≡◌, ◌<◌, All, ℕ, zero, suc, ◌+◌, ◌*◌, List, [], ◌∷◌}
use denote.Ref.{Bor}
use Rattle.std.specs.Cmp.Lexicographic.{slice_cmp}
use Rattle.std.specs.Ordering.{ordering_then, nat_cmp}
use Rattle.std.specs.declared.cmp.Ordering.{Ordering}
use Rattle.lasso_parts.specs.Texts.{Text}

-- the number followed by n digits of base 256: the first n bytes of the text, with zeros past its end
abbrev pub front_from : ℕ → ℕ → Text → ℕ
front_from number zero text = number
front_from number (suc n) [] = front_from (number * 256) n []
front_from number (suc n) (b ∷ text) = front_from (number * 256 + b) n text

-- the first eight bytes of the text as a number
abbrev pub front : Text → ℕ
front text = front_from 0 8 text

-- each number is a byte
abbrev pub AreBytes : List ℕ → Type 0
AreBytes bytes = All (λ b. b < 256) bytes

-- the pair's number is the front of its text
abbrev pub IsFronted : ℕ × Bor Text → Type 0
IsFronted p = (p.0 ≡ front p.1.now) × AreBytes p.1.now

-- the order of the texts' bytes
abbrev pub text_cmp : Text → Text → Ordering
text_cmp = slice_cmp nat_cmp

-- the order of pairs: by number, and then by text
abbrev pub fronted_cmp : ℕ × Bor Text → ℕ × Bor Text → Ordering
fronted_cmp x y = ordering_then (nat_cmp x.0 y.0) (text_cmp x.1.now y.1.now)
