-- A text that an arena stored goes to the end of a list of entries.
--
-- The regions keep the texts that they had, so the entries before the new one stand for the same texts. The
-- new one's text is present. What a list that was never cleared may waste follows from the account.
use Rattle.std.proofs.Common.{◌≡◌, ◌∙◌, ℕ, ◌+◌, Bool, false, List, [], ◌∷◌, ◌++◌, length, Some, ap}
use Rattle.std.proofs.Math.Seq.{set-append_seam}
use Rattle.std.specs.Prelude.{slice_set}
use Rattle.lasso_parts.specs.Account.{store}
use Rattle.lasso_parts.specs.Arena.{Regions, account_of, copied_of, first_of, KeepsTexts}
use Rattle.lasso_parts.specs.Entries.{EntryView, LentText, IsThere, AllThere, entry_text, texts_of}
use Rattle.lasso_parts.specs.Texts.{Text}
use Rattle.lasso_parts.specs.Waste.{IsThrifty}
use Rattle.lasso_parts.proofs.EntryTexts.{there_pushed, texts_pushed, places_same}
use Rattle.lasso_parts.proofs.Wasted.{thrifty_store}
use Rattle.lasso_single.specs.Interner.{InternerView, KeepsOrigin}

-- what a list of texts keeps
abbrev pub IsKept : Regions → List LentText → List EntryView → Bool → Type 0
IsKept a vast entries is_cleared = AllThere a.all vast entries × (is_cleared ≡ false → IsThrifty (first_of a) (copied_of a) (account_of a))

module _ (old new : Regions) (vast : List LentText) (entries grown : List EntryView) (entry : EntryView) (text : Text) (is_cleared : Bool) (had : IsKept old vast entries is_cleared) (keeps : KeepsTexts old.all new.all)
    (e : grown ≡ entries ++ entry ∷ []) where
  pub kept_pushed : IsThere new.all vast entry → first_of new ≡ first_of old → copied_of new ≡ copied_of old + length text → store (first_of old) (account_of old) (length text) ≡ Some (account_of new) → IsKept new vast grown is_cleared
  kept_pushed there first copied stored = (
    there_pushed old.all new.all vast vast entries grown entry had.0 keeps (places_same vast) e there,
    λ h. rw (first, copied) (thrifty_store (first_of old) (copied_of old) (length text) (account_of old) (account_of new) (had.1 h) stored),
  )

  pub text_pushed : entry_text new.all vast entry ≡ text → texts_of new.all vast grown ≡ texts_of old.all vast entries ++ text ∷ []
  text_pushed is = texts_pushed old.all new.all vast vast entries grown entry had.0 keeps (places_same vast) e text is

-- the last entry gets another value
pub last_put : (entries more : List EntryView) (empty entry : EntryView) → more ≡ entries ++ empty ∷ [] → slice_set more (length entries) entry ≡ entries ++ entry ∷ []
last_put entries more empty entry e = ap (λ (xs : List EntryView). slice_set xs (length entries) entry) e ∙ set-append_seam entries empty [] entry

-- what a list of texts shows of its parts
abbrev pub shown : Regions → List LentText → List EntryView → Bool → InternerView
shown a vast entries is_cleared = record { texts = texts_of a.all vast entries; account = account_of a; first = first_of a; copied = copied_of a; most = a.most; is_cleared = is_cleared }

-- the same parts show the same
pub shown_same : (old new : Regions) (vast longer : List LentText) (entries grown : List EntryView) (is_cleared : Bool) (before : InternerView) → new ≡ old → longer ≡ vast → grown ≡ entries → shown old vast entries is_cleared ≡ before → shown new longer grown is_cleared ≡ before
shown_same old new vast longer entries grown is_cleared before same_regions same_vast same_entries is =
    ap (λ (a : Regions). shown a longer grown is_cleared) same_regions ∙ ap (λ (ts : List LentText). shown old ts grown is_cleared) same_vast ∙ ap (λ (xs : List EntryView). shown old vast xs is_cleared) same_entries ∙ is

pub origin_same : (old new : InternerView) → new ≡ old → KeepsOrigin old new
origin_same old new e = (ap (λ (v : InternerView). v.first) e, ap (λ (v : InternerView). v.is_cleared) e, ap (λ (v : InternerView). v.most) e)
