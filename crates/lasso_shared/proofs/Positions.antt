-- Positions of texts in a list, and in the list with one text more.
--
-- A text's position is the first one whose item is equal to it. A text that goes last changes the position of no other.
use Rattle.std.proofs.Common.{◌≡◌, ◌≢◌, ◌⊎◌, ℕ, List, [], ◌∷◌, ◌++◌, Some, slice_get, arith}
use Rattle.std.specs.Str.{bytes_eq}
use Rattle.std.proofs.lemmas.Grind.{common_steps}
use Rattle.std.proofs.lemmas.Bool.Decides.{nat_tests}
use Rattle.std.proofs.lemmas.List.{length_push}
use Rattle.std.proofs.lemmas.List.Folds.{position_or_len_push}
use Rattle.std.proofs.lemmas.Option.{gets}
use Rattle.std.proofs.lemmas.Slice.Eq.{bytes_eq-Decides}
use Rattle.lasso_parts.specs.Texts.{Text, position_of}

pub same_or_not : (x t : Text) → (x ≡ t) ⊎ (x ≢ t)
same_or_not x t = grind (arith, bytes_eq-Decides x t)

-- a text that goes last changes the position of no other
pub position_other : (texts : List Text) (text other : Text) → other ≢ text → position_of (texts ++ text ∷ []) other ≡ position_of texts other
position_other texts text other ne = grind (arith, nat_tests, position_or_len_push (λ t. bytes_eq t other) texts text, length_push texts text, bytes_eq-Decides text other)

pub get_front : {A : Type 0} (xs ys : List A) (n : ℕ) (x : A) → slice_get xs n ≡ Some x → slice_get (xs ++ ys) n ≡ Some x
get_front xs ys n x h = grind (arith, common_steps, gets)
