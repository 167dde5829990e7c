-- Codes that are found one after another.
--
-- The position of a key that is found is the text's code. In a distinct list a
-- text's code is the place where it is.
use Rattle.std.proofs.Common.{ℕ, ◌≡◌, ◌+◌, ◌-◌, ◌++◌, ◌∷◌, [], false, List, take, Option, None, Some, refl, sym, subst, ap, ◌∙◌}
use Rattle.std.specs.Prelude.{IsSomeAnd, is_some, slice_get}
use Rattle.lasso_parts.proofs.IndexLaws.{position_of_at}
use Rattle.lasso_parts.proofs.TextLemmas.{take_more_at}
use Rattle.lasso_parts.specs.Texts.{Text, IsDistinct, key_of, position_of}
use Rattle.lasso_single.specs.Codes.{AreCodes}
use Rattle.lasso_single.specs.Coding.{spur_at}
use Rattle.lasso_single.proofs.Coded.{map_some_push}
use Rattle.lasso_single.proofs.Encoded.{found_at}

none_by : (o : Option ℕ) → is_some o ≡ false → o ≡ None
none_by None e = refl
none_by (Some n) e = absurd (cc)

-- the text at a position is absent
pub absent_at : (list texts : List Text) (n : ℕ) (text : Text) → slice_get texts n ≡ Some text → is_some (position_of list text) ≡ false → IsSomeAnd (slice_get texts n) (λ t. position_of list t ≡ None)
absent_at list texts n text at none = subst (λ (o : Option Text). IsSomeAnd o (λ t. position_of list t ≡ None)) (sym at) (none_by (position_of list text) none)

-- the code of a key that was found
pub code_of_key : (list : List Text) (text : Text) (key position : ℕ) → key_of spur_at list text ≡ Some key → position ≡ key - 1 → position_of list text ≡ Some position
code_of_key list text key position found one = found_at (position_of list text) key found ∙ ap (λ n. Some n) (sym one)

-- one code more
pub codes_push : (list texts : List Text) (n : ℕ) (text : Text) (code : ℕ) (codes codes' : List ℕ) → AreCodes list (take n texts) codes → slice_get texts n ≡ Some text → position_of list text ≡ Some code → codes' ≡ codes ++ code ∷ [] → AreCodes list (take (n + 1) texts) codes'
codes_push list texts n text code codes codes' are at here is =
    subst (λ (ts : List Text). AreCodes list ts codes') (sym (take_more_at texts n text at))
    (subst (λ cs. AreCodes list (take n texts ++ text ∷ []) cs) (sym is) (map_some_push (position_of list) (take n texts) codes text code are here))

-- the code of a text of the list itself
pub own_push : (list : List Text) (n : ℕ) (text : Text) (codes codes' : List ℕ) → IsDistinct list → AreCodes list (take n list) codes → slice_get list n ≡ Some text → codes' ≡ codes ++ n ∷ [] → AreCodes list (take (n + 1) list) codes'
own_push list n text codes codes' distinct are at is = codes_push list list n text n codes codes' are at (position_of_at list text n distinct at) is
