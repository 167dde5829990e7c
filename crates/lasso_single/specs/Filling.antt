-- Interning one text after another.
use Rattle.std.specs.Prelude.{◌≡◌, ℕ, List, [], ◌∷◌, ◌++◌, length, drop, map, is_some, if◌then◌else◌, Option, Result, Ok, Err, MatchResult}
use Rattle.std.specs.Iterator.{Drains, Yields}
use Rattle.lasso_parts.specs.Account.{Account}
use Rattle.lasso_parts.specs.Texts.{Text, position_of}
use Rattle.lasso_parts.specs.declared.util.LassoError.{LassoError}
use Rattle.lasso_single.specs.Copies.{store_all}
use Rattle.lasso_single.specs.Intern.{InternsIn}
use Rattle.lasso_single.specs.Interner.{InternerView}

-- the list with the text last, unless it is present
abbrev pub with_new : List Text → Text → List Text
with_new texts text = if is_some (position_of texts text) then texts else texts ++ text ∷ []

-- the list with each of these texts last, in order, unless it is present by then
abbrev pub with_all_new : List Text → List Text → List Text
with_all_new texts [] = texts
with_all_new texts (text ∷ more) = with_all_new (with_new texts text) more

-- the texts that were put after the old ones
abbrev pub added_texts : (old new : InternerView) → List Text
added_texts old new = drop (length old.texts) new.texts

-- the account once the bytes of these texts are stored too, in order, or none if the limit refuses one of them
abbrev pub account_with_all : InternerView → List Text → Option Account
account_with_all now texts = store_all now.first now.account texts

-- interning the texts in order, up to the first refusal, which is the result
abbrev pub extend : {K : Type 0} → (ℕ → Option K) → InternerView → List Text → Result (Unit {0}) LassoError → InternerView → Type 0
extend key_at old [] reply new = (reply ≡ Ok tt) × (new ≡ old)
extend {K} key_at old (text ∷ texts) reply new =
    (one : Result K LassoError) × (mid : InternerView) × InternsIn key_at old text one mid
    × MatchResult one (λ _. extend key_at mid texts reply new) (λ error. (reply ≡ Err error) × (new ≡ mid))

-- interning the texts in order, none of which was refused
abbrev pub InternsEach : {K : Type 0} → (ℕ → Option K) → InternerView → List Text → InternerView → Type 0
InternsEach key_at old texts new = extend key_at old texts (Ok tt) new

-- the texts were interned in order, and the last of them was refused: it changed nothing
abbrev pub StopsAtRefusal : {K : Type 0} → (ℕ → Option K) → InternerView → List Text → LassoError → InternerView → Type 0
StopsAtRefusal {K} key_at old texts error new =
    (before : List Text) × (last : Text) × (mid : InternerView) × (texts ≡ before ++ last ∷ []) × InternsEach key_at old before mid
    × InternsIn {K = K} key_at mid last (Err error) new

-- P holds of the last of the texts, and the list has those before it, in order, after the old ones
abbrev pub FillsUpTo : (old new : InternerView) → List Text → (Text → Type 0) → Type 0
FillsUpTo old new texts P =
    (before : List Text) × (last : Text) × (texts ≡ before ++ last ∷ []) × (new.texts ≡ with_all_new old.texts before) × P last

-- an iterator gives some items and ends; the list has the text of each, in order, after the old ones
abbrev pub AddsItems : {S T : Type 0} → (S → Option T → S → Type 0) → (T → Text) → S → (old new : InternerView) → Type 0
AddsItems {S} {T} next_gives text from old new =
    (items : List T) × Drains next_gives from items × (new.texts ≡ with_all_new old.texts (map text items))

-- the same up to an item, and P holds of its text
abbrev pub AddsUpToItem : {S T : Type 0} → (S → Option T → S → Type 0) → (T → Text) → S → (old new : InternerView) → (Text → Type 0) → Type 0
AddsUpToItem {S} {T} next_gives text from old new P =
    (items : List T) × ((rest : S) × Yields next_gives from items rest) × FillsUpTo old new (map text items) P

-- an iterator gives some items and ends; `text` of each is interned in order, and none is refused
abbrev pub InternsItems : {K S T : Type 0} → (S → Option T → S → Type 0) → (T → Text) → (ℕ → Option K) → S → InternerView → InternerView → Type 0
InternsItems {K} {S} {T} next_gives text key_at from old new =
    (items : List T) × Drains next_gives from items × InternsEach key_at old (map text items) new

-- the same up to an item that is refused, whose text changes nothing
abbrev pub StopsAtItem : {K S T : Type 0} → (S → Option T → S → Type 0) → (T → Text) → (ℕ → Option K) → S → InternerView → LassoError → InternerView → Type 0
StopsAtItem {K} {S} {T} next_gives text key_at from old error new =
    (items : List T) × ((rest : S) × Yields next_gives from items rest) × StopsAtRefusal key_at old (map text items) error new
