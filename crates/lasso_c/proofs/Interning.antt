-- Interning the texts of a layout one after another.
--
-- A text in the dictionary keeps its position whatever is appended. So its code is its position in the
-- dictionary of all the texts as soon as it is interned, and what is left of the layout says the rest.
use Rattle.std.proofs.Common.{ℕ, ◌≡◌, ◌+◌, ◌-◌, ◌≤◌, Bool, true, false, not, List, [], ◌∷◌, ◌++◌, length, is_some, if◌then◌else◌, Option, Some, None, refl, ap, ◌∙◌, arith, length-append}
use Rattle.std.specs.List.{concat}
use Rattle.std.specs.Option.{unwrap_or}
use Rattle.std.specs.Str.{bytes_eq}
use Rattle.std.proofs.lemmas.Bool.Decides.{nat_tests}
use Rattle.std.proofs.lemmas.Option.{cond_some}
use Rattle.std.proofs.lemmas.List.{length_push}
use Rattle.std.proofs.lemmas.List.Folds.{position_or_len_push, concat-append}
use Rattle.std.proofs.lemmas.List.Sums.{prefix_len-le-length}
use Rattle.lasso_parts.specs.Kept.{kept_at}
use Rattle.lasso_parts.specs.Texts.{Text, position_of}
use Rattle.lasso_parts.proofs.TextLemmas.{position_last}
use Rattle.lasso_single.specs.Intern.{interned_position}
use Rattle.lasso_c.specs.Encoding.{with_new, with_all_new}

-- a text keeps its position where another goes last
position_push : (texts : List Text) (text other : Text) (n : ℕ) → position_of texts text ≡ Some n → position_of (texts ++ other ∷ []) text ≡ Some n
position_push texts text other n at = grind (arith, nat_tests, prefix_len-le-length (λ t. not (bytes_eq t text)) texts, position_or_len_push (λ t. bytes_eq t text) texts other, length_push texts other)

with_new_by : (there : Bool) (texts : List Text) (text other : Text) (n : ℕ) → position_of texts text ≡ Some n → position_of (if there then texts else texts ++ other ∷ []) text ≡ Some n
with_new_by true texts text other n at = at
with_new_by false texts text other n at = position_push texts text other n at

-- a text keeps its position whatever is interned
pub position_stays : (texts more : List Text) (text : Text) (n : ℕ) → position_of texts text ≡ Some n → position_of (with_all_new texts more) text ≡ Some n
position_stays texts [] text n at = at
position_stays texts (other ∷ more) text n at = position_stays (with_new texts other) more text n (with_new_by (is_some (position_of texts other)) texts text other n at)

key_of_position : (position key : ℕ) → kept_at 4294967295 position ≡ Some key → Some position ≡ Some (key - 1)
key_of_position position key is = let sum = (cond_some _ _ _ is).1 in let same : position ≡ key - 1 = omega arith in ap (λ n. Some n) same

position_interned_by : (found : Option ℕ) (texts : List Text) (text : Text) (key : ℕ) → position_of texts text ≡ found → kept_at 4294967295 (unwrap_or found (length texts)) ≡ Some key → position_of (if is_some found then texts else texts ++ text ∷ []) text ≡ Some (key - 1)
position_interned_by None texts text key none is = position_last texts text none ∙ key_of_position (length texts) key is
position_interned_by (Some n) texts text key at is = at ∙ key_of_position n key is

-- the key of a text that was interned is that of its position
pub position_interned : (texts : List Text) (text : Text) (key : ℕ) → kept_at 4294967295 (interned_position texts text) ≡ Some key → position_of (with_new texts text) text ≡ Some (key - 1)
position_interned texts text key is = position_interned_by (position_of texts text) texts text key refl is

-- a text adds at most its bytes to those of the list
pub new_bytes : (there : Bool) (texts : List Text) (text : Text) → length (concat (if there then texts else texts ++ text ∷ [])) ≤ length (concat texts) + length text
new_bytes true texts text = omega arith
new_bytes false texts text = omega (arith, ap length (concat-append texts (text ∷ [])), length-append (concat texts) (text ++ []), length-append text [])
