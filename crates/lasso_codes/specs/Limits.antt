-- Which lines are taken, what an interner with a limit takes, and why it takes no more.
use Rattle.std.specs.Prelude.{ℕ, ◌≡◌, ◌+◌, ◌≤◌, ◌⊎◌, Bool, true, false, List, length, map, All, Ok, IsSomeAnd, is_none, slice_get}
use Rattle.hex.specs.Hex.{IsBytes}
use Rattle.lasso_parts.specs.Texts.{Text, position_of}
use Rattle.lasso_parts.specs.declared.util.LassoError.{LassoError}
use Rattle.lasso_parts.specs.declared.util.LassoErrorKind.TheVariants.{FailedAllocation}
use Rattle.lasso_single.specs.Filling.{extend}
use Rattle.lasso_single.specs.Intern.{InternsIn}
use Rattle.lasso_single.specs.Interner.{InternerView, made_with}
use Rattle.lasso_single.specs.Coding.{spur_at, IsAdmitted, IsRefused}
use Rattle.lasso_input.specs.Texts.{is_let_in, is_own_text, text_of}
use Rattle.lasso_columns.specs.declared.faults.LineError.{LineError}
use Rattle.lasso_columns.specs.declared.faults.LineError.TheVariants.{Refused, NotText}

-- the line is a list of bytes, and is let in
abbrev pub IsLetIn : Bool → List ℕ → Type 0
IsLetIn only line = IsBytes line × (is_let_in only line ≡ true)

-- the lines are let in
abbrev pub AreLetIn : Bool → List (List ℕ) → Type 0
AreLetIn only lines = All (IsLetIn only) lines

-- the texts of the lines
abbrev pub line_texts : List (List ℕ) → List Text
line_texts lines = map text_of lines

-- the line is let in, and its text is interned
abbrev pub InternsLine : Bool → InternerView → List ℕ → InternerView → Type 0
InternsLine only old line new = IsLetIn only line × ((key : ℕ) × InternsIn {K = ℕ} spur_at old (text_of line) (Ok key) new)

-- the same, and whether the text is new
abbrev pub InternsOrFinds : Bool → InternerView → List ℕ → InternerView → Bool → Type 0
InternsOrFinds only old line new is_new =
    IsLetIn only line × ((key : ℕ) × InternsIn {K = ℕ} spur_at old (text_of line) (Ok key) new) × (is_new ≡ is_none (position_of old.texts (text_of line)))

-- the texts of the lines are interned
abbrev pub InternsLines : InternerView → List (List ℕ) → InternerView → Type 0
InternsLines old lines new = extend spur_at old (line_texts lines) (Ok tt) new

-- the interner's own texts were interned, from the first one on
abbrev pub InternsOwn : InternerView → InternerView → Type 0
InternsOwn old new = extend spur_at old new.texts (Ok tt) new

-- if the interner is new, P holds of its limit
abbrev pub IfNew : InternerView → (ℕ → Type 0) → Type 0
IfNew old P = (limit : ℕ) → old ≡ made_with 4096 limit → P limit

-- a new interner with this limit takes the texts
abbrev pub Admits : ℕ → List Text → Type 0
Admits limit texts = (now : InternerView) × extend spur_at (made_with 4096 limit) texts (Ok tt) now

-- the lines are let in, and a new interner with this limit takes their texts
abbrev pub AreTaken : Bool → ℕ → List (List ℕ) → Type 0
AreTaken only limit lines = AreLetIn only lines × Admits limit (line_texts lines)

-- why the line of this number has no text: it is not let in; or memory ran out, and it is not its own text
abbrev pub IsNotLetIn : Bool → List ℕ → ℕ → LineError → Type 0
IsNotLetIn only line number (Refused at error) = (at ≡ number) × IsLetIn only line × (error ≡ FailedAllocation) × (is_own_text line ≡ false)
IsNotLetIn only line number (NotText at) = (at ≡ number) × (is_let_in only line ≡ false)

-- the line of this number is let in and its text is refused, or the line is not let in
abbrev pub IsLineFault : Bool → InternerView → List ℕ → ℕ → LineError → Type 0
IsLineFault only now line number (Refused at error) = (at ≡ number) × IsLetIn only line × IsRefused now (text_of line) error
IsLineFault only now line number (NotText at) = (at ≡ number) × (is_let_in only line ≡ false)

-- why this interner doesn't take the line after the first n: it is refused or not let in, or there was no memory
-- for it; a reader may say so at the end too, where there is no next line
abbrev pub IsNextError : Bool → InternerView → List (List ℕ) → ℕ → LineError → Type 0
IsNextError only now lines n error =
    ((error ≡ Refused (n + 1) FailedAllocation) × (n ≤ length lines)) ⊎ IsSomeAnd (slice_get lines n) (λ line. IsLineFault only now line (n + 1) error)

-- memory runs out for a line only if it is not its own text, or its text is absent, and neither the keys nor the
-- limit refuse it
abbrev pub IsTextLackingMemory : InternerView → List ℕ → LassoError → Type 0
IsTextLackingMemory now line error = error ≡ FailedAllocation → (is_own_text line ≡ false) ⊎ IsAdmitted now (text_of line)

-- the same for the error of a line
abbrev pub LacksMemory : InternerView → List ℕ → LineError → Type 0
LacksMemory now line (Refused number error) = IsTextLackingMemory now line error
LacksMemory now line (NotText number) = Unit {0}
