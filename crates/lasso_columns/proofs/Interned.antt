-- The list of an interner with one text more.
--
-- Interning a text leaves the list as it is, or puts the text last, if the list lacked it. So then the list has
-- the text at the position where it was found, or else last.
use Rattle.std.proofs.Common.{ℕ, ◌≡◌, List, [], ◌∷◌, ◌++◌, Option, Some, None, Ok, is_some, refl}
use Rattle.std.specs.Prelude.{if◌then◌else◌}
use Rattle.lasso_parts.proofs.TextLemmas.{position_last}
use Rattle.lasso_parts.specs.Texts.{Text, position_of}
use Rattle.lasso_single.specs.Intern.{InternsIn, interned_position}
use Rattle.lasso_single.specs.Interner.{InternerView}
use Rattle.lasso_single.proofs.KeyLists.{list_left}

-- the list once the text is in it
abbrev pub with_last : List Text → Text → List Text
with_last texts text = if is_some (position_of texts text) then texts else texts ++ text ∷ []

-- an intern call leaves the list with the text
pub list_interned : {K : Type 0} (key_at : ℕ → Option K) (old new : InternerView) (text : Text) (k : K) → InternsIn key_at old text (Ok k) new → new.texts ≡ with_last old.texts text
list_interned key_at old new text k h = list_left key_at old new text k h

-- a text that was interned is at its position
pub position_with_last : (texts : List Text) (text : Text) (o : Option ℕ) → position_of texts text ≡ o → position_of (with_last texts text) text ≡ Some (interned_position texts text)
position_with_last texts text None e = rw (e) (position_last texts text e)
position_with_last texts text (Some i) e = rw (e) e
