-- Entries of lines.
--
-- An entry is that of a null, or the position of its line in a list. The list only grows at its end, so
-- positions stay the same.
use Rattle.std.proofs.Common.{ℕ, ◌≡◌, ◌+◌, ◌-◌, ◌<◌, Bool, true, false, not, cond, List, [], ◌∷◌, ◌++◌, length, Option, Some, None, sym, ap, subst, ◌∙◌, arith, append_assoc}
use Rattle.std.specs.Prelude.{option_and_then}
use Rattle.std.specs.Str.{bytes_eq}
use Rattle.std.proofs.lemmas.Bool.Decides.{nat_tests}
use Rattle.std.proofs.lemmas.List.{append-nil, length-append}
use Rattle.std.proofs.lemmas.List.Elements.{filter-append}
use Rattle.std.proofs.lemmas.List.Folds.{prefix_len-append}
use Rattle.std.proofs.lemmas.List.Sums.{prefix_len-le-length}
use Rattle.lasso_parts.specs.Texts.{Text, position_of}
use Rattle.lasso_single.specs.Coding.{spur_at}
use Rattle.lasso_single.proofs.Coded.{position_stays}
use Rattle.lasso_single.proofs.Encoded.{key_kept}
use Rattle.lasso_columns.specs.Rows.{is_null, texts_of, IsEntryAs, AreEntries}

-- the key of a text is that of its position, which is less than the entry of a null
pub code_small : (o : Option ℕ) (key : ℕ) → option_and_then spur_at o ≡ Some key → key - 1 < 4294967295
code_small None key has = absurd (cc)
code_small (Some n) key has = let kept = key_kept n key has in omega (arith, kept.0, kept.1)

-- ---- positions in two lists, one after the other

-- a text keeps its position when others follow
pub position_longer : (list more : List Text) (text : Text) (n : ℕ) → position_of list text ≡ Some n → position_of (list ++ more) text ≡ Some n
position_longer list [] text n e = subst (λ (ts : List Text). position_of ts text ≡ Some n) (sym (append-nil list)) e
position_longer list (last ∷ more) text n e =
    subst (λ (ts : List Text). position_of ts text ≡ Some n) (append_assoc list (last ∷ []) more) (position_longer (list ++ last ∷ []) more text n (position_stays list last text n e))

-- a text that the first list lacks is found in the second one
pub position_past : (list more : List Text) (text : Text) (n : ℕ) → position_of list text ≡ None → position_of more text ≡ Some n → position_of (list ++ more) text ≡ Some (length list + n)
position_past list more text n none e =
    grind (arith, nat_tests, prefix_len-append (λ t. not (bytes_eq t text)) list more, prefix_len-le-length (λ t. not (bytes_eq t text)) list, prefix_len-le-length (λ t. not (bytes_eq t text)) more, length-append list more)

-- or in neither
pub position_nowhere : (list more : List Text) (text : Text) → position_of list text ≡ None → position_of more text ≡ None → position_of (list ++ more) text ≡ None
position_nowhere list more text none e =
    grind (arith, nat_tests, prefix_len-append (λ t. not (bytes_eq t text)) list more, prefix_len-le-length (λ t. not (bytes_eq t text)) list, prefix_len-le-length (λ t. not (bytes_eq t text)) more, length-append list more)

-- ---- entries

entry_longer : (b : Bool) (list more : List Text) (line : Text) (entry : ℕ) → IsEntryAs b list line entry → IsEntryAs b (list ++ more) line entry
entry_longer true list more line entry is = is
entry_longer false list more line entry is = (position_longer list more line entry is.0, is.1)

-- they stay the same when texts are appended
pub entries_longer : (null : Option Text) (list more lines : List Text) (entries : List ℕ) → AreEntries null list lines entries → AreEntries null (list ++ more) lines entries
entries_longer null list more [] [] are = are
entries_longer null list more [] (n ∷ ns) are = are
entries_longer null list more (l ∷ ls) [] are = are
entries_longer null list more (l ∷ ls) (n ∷ ns) are = (entry_longer (is_null null l) list more l n are.0, entries_longer null list more ls ns are.1)

-- one more
pub entries_push : (null : Option Text) (list lines : List Text) (entries : List ℕ) (line : Text) (entry : ℕ) → AreEntries null list lines entries → IsEntryAs (is_null null line) list line entry → AreEntries null list (lines ++ line ∷ []) (entries ++ entry ∷ [])
entries_push null list [] [] line entry are is = (is, tt)
entries_push null list [] (n ∷ ns) line entry are is = absurd are
entries_push null list (l ∷ ls) [] line entry are is = absurd are
entries_push null list (l ∷ ls) (n ∷ ns) line entry are is = (are.0, entries_push null list ls ns line entry are.1 is)

-- the texts of one line more
pub texts_push : (null : Option Text) (lines : List Text) (line : Text) (b : Bool) → is_null null line ≡ b → texts_of null (lines ++ line ∷ []) ≡ texts_of null lines ++ cond b [] (line ∷ [])
texts_push null lines line true e =
    filter-append (λ l. not (is_null null l)) lines (line ∷ []) ∙ ap (λ b. texts_of null lines ++ cond (not b) (line ∷ []) []) e
texts_push null lines line false e =
    filter-append (λ l. not (is_null null l)) lines (line ∷ []) ∙ ap (λ b. texts_of null lines ++ cond (not b) (line ∷ []) []) e
