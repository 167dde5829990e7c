-- Lists of bytes that are compared as the numbers read from them.
--
-- Where something gives each list back from its number, two lists are the same exactly where their numbers are: lists
-- of one number come back as one list, and one list has one number.
use Rattle.std.proofs.Common.{◌≡◌, ◌∙◌, ℕ, List, bytes_eq, nat_eq, ap, sym}
use Rattle.std.proofs.lemmas.Bool.Decides.{Decides-eqb, Decides-like, same_from_decides}
use Rattle.std.proofs.lemmas.Slice.Eq.{bytes_eq-Decides}

pub told_by_number : (back : ℕ → List ℕ) (s t : List ℕ) (m n : ℕ) → back m ≡ s → back n ≡ t → (s ≡ t → m ≡ n) → nat_eq m n ≡ bytes_eq s t
told_by_number back s t m n one other number =
    same_from_decides _ _ (Decides-like (nat_eq m n) (λ (e : m ≡ n). sym one ∙ ap back e ∙ other) number (Decides-eqb m n)) (bytes_eq-Decides s t)
