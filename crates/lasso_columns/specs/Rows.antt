-- Lines as rows of a column: each is a text or a null, and has an entry.
use denote.Ref.{Bor}
use Rattle.std.specs.Prelude.{ℕ, ◌≡◌, ◌+◌, ◌-◌, ◌<◌, ◌≤◌, Bool, true, false, not, List, [], ◌∷◌, ◌++◌, length, All, Option, Some, None, Ok, Vec, vec_capacity, vec_len, option_map, bytes_eq}
use Rattle.std.specs.List.{filter}
use Rattle.std.specs.Str.{IsUtf8}
use Rattle.lasso_parts.specs.Texts.{Text, position_of}
use Rattle.lasso_parts.specs.declared.util.LassoError.{LassoError}
use Rattle.lasso_parts.specs.declared.util.LassoErrorKind.TheVariants.{FailedAllocation}
use Rattle.lasso_single.specs.Filling.{extend}
use Rattle.lasso_single.specs.Intern.{InternsIn}
use Rattle.lasso_single.specs.Interner.{InternerView}
use Rattle.lasso_single.specs.Coding.{spur_at, IsRefused, MayLackMemory}
use Rattle.lasso_columns.specs.declared.faults.LineError.{LineError}
use Rattle.lasso_columns.specs.declared.faults.LineError.TheVariants.{Refused, NotText}

-- ---- nulls

-- the bytes of a borrowed word
abbrev pub word_of : Option (Bor Text) → Option Text
word_of word = option_map (λ w. w.now) word

-- whether the line is a null
abbrev pub is_null : Option Text → Text → Bool
is_null None line = false
is_null (Some word) line = bytes_eq word line

-- the lines that are not null
abbrev pub texts_of : Option Text → List Text → List Text
texts_of null lines = filter (λ line. not (is_null null line)) lines

-- ---- entries

-- the entry of a line: that of a null; or its code, its position in the list, which is never that of a null
abbrev pub IsEntryAs : Bool → List Text → Text → ℕ → Type 0
IsEntryAs true list line entry = entry ≡ 4294967295
IsEntryAs false list line entry = (position_of list line ≡ Some entry) × (entry < 4294967295)

-- the entries are those of the lines, in order
abbrev pub AreEntries : Option Text → List Text → List Text → List ℕ → Type 0
AreEntries null list [] [] = Unit {0}
AreEntries null list [] (n ∷ ns) = ⊥
AreEntries null list (l ∷ ls) [] = ⊥
AreEntries null list (l ∷ ls) (n ∷ ns) = IsEntryAs (is_null null l) list l n × AreEntries null list ls ns

-- the entries of the lines were appended
abbrev pub AddsEntries : Option Text → List Text → List Text → List ℕ → List ℕ → Type 0
AddsEntries null list lines before after = (entries : List ℕ) × (after ≡ before ++ entries) × AreEntries null list lines entries

-- ---- one row

-- the row of a line: a null changes nothing; another line is interned, and its entry is its code
abbrev pub IsRowAs : Bool → InternerView → Text → InternerView → ℕ → Type 0
IsRowAs true old line new entry = (new ≡ old) × (entry ≡ 4294967295)
IsRowAs false old line new entry =
    ((key : ℕ) × InternsIn {K = ℕ} spur_at old line (Ok key) new) × (position_of new.texts line ≡ Some entry) × (entry < 4294967295)

abbrev pub IsRow : Option Text → InternerView → Text → InternerView → ℕ → Type 0
IsRow null old line new entry = IsRowAs (is_null null line) old line new entry

-- why a row is refused: a null, only if the entries are full and memory ran out; another line, as a text is
abbrev pub IsRefusedRow : {A : Type 0} → Bool → InternerView → Vec ℕ A → Text → LassoError → Type 0
IsRefusedRow true now entries line error = (error ≡ FailedAllocation) × (vec_capacity entries ≤ vec_len entries)
IsRefusedRow false now entries line error = IsRefused now line error × MayLackMemory now entries line error

-- the row of this number is refused, or its line is not UTF-8
abbrev pub IsRowFault : {A : Type 0} → Option Text → InternerView → Vec ℕ A → Text → ℕ → LineError → Type 0
IsRowFault null now entries line number (Refused at error) = (at ≡ number) × IsUtf8 line × IsRefusedRow (is_null null line) now entries line error
IsRowFault null now entries line number (NotText at) = (at ≡ number) × ¬ (IsUtf8 line)

-- ---- rows one after another

-- the lines before the rest are UTF-8, those of them that are no nulls were interned, and their entries were
-- appended
pub record EncodesRows (null : Option Text) (old : InternerView) (lines rest : List Text) (before : List ℕ) (new : InternerView) (after : List ℕ) : Type 0 where
  pub done : List Text
  pub split : lines ≡ done ++ rest
  pub texts : All IsUtf8 done
  pub list : extend spur_at old (texts_of null done) (Ok tt) new
  pub entries : AddsEntries null new.texts done before after

-- the first lines were encoded so, and the next one has this fault; lines are numbered from 1
abbrev pub StopsAtRow : {A : Type 0} → Option Text → InternerView → List Text → List ℕ → InternerView → Vec ℕ A → LineError → Type 0
StopsAtRow null old lines before new after error =
    (line : Text) × (rest : List Text) × EncodesRows null old lines (line ∷ rest) before new after.items
    × IsRowFault null new after line (length after.items - length before + 1) error
