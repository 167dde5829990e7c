-- What contracts see of an interner, and what calls that add no bytes leave of it.
use Rattle.std.specs.Prelude.{◌≡◌, ◌-◌, ◌*◌, ◌^◌, ◌<◌, ◌≤◌, ℕ, Bool, false, List, [], length, max, is_some, if◌then◌else◌}
use Rattle.lasso_parts.specs.Texts.{Text, position_of}
use Rattle.lasso_parts.specs.Account.{Account, fresh}
use Rattle.lasso_parts.specs.Arena.{Regions, account_of, copied_of, first_of}
use Rattle.lasso_parts.specs.Waste.{IsThrifty}

-- an interner
pub record InternerView : Type 0 where
  -- the texts in the order of their keys
  pub texts : List Text
  -- the account of the buckets that copied texts are in
  pub account : Account
  -- the bytes of the first bucket
  pub first : ℕ
  -- how many bytes were copied into buckets since it was last cleared, or since it was made; those copied
  -- while it was made are counted, and no static text is
  pub copied : ℕ
  -- the most bytes that were copied in between two clears, or before the first; those since the last one are not counted
  pub most : ℕ
  -- whether it was ever cleared
  pub is_cleared : Bool

-- the most bytes copied in between two clears so far; the time before the first clear and that after the last
-- one count too. Copying over an interner counts as a clear, and its copies as after it
abbrev pub most_copied : InternerView → ℕ
most_copied i = max i.most i.copied

-- an interner with these texts, whose copied texts are in this arena
abbrev pub interner_over : List Text → Regions → (is_cleared : Bool) → InternerView
interner_over texts arena is_cleared =
    record {
      texts = texts;
      account = account_of arena;
      first = first_of arena;
      copied = copied_of arena;
      most = arena.most;
      is_cleared = is_cleared;
    }

-- unless the interner was ever cleared, its arena wastes little, as `IsThrifty` of `lasso_parts` says
abbrev pub IsThriftyUnlessCleared : (is_cleared : Bool) → Regions → Type 0
IsThriftyUnlessCleared is_cleared arena = is_cleared ≡ false → IsThrifty (first_of arena) (copied_of arena) (account_of arena)

-- a new interner, with that first bucket's size and that limit
abbrev pub made_with : ℕ → ℕ → InternerView
made_with bytes limit = record { texts = []; account = fresh bytes limit; first = bytes; copied = 0; most = 0; is_cleared = false }

-- a new interner of default capacity and without a limit: its first bucket has 4096 bytes
abbrev pub made_by_default : InternerView
made_by_default = made_with 4096 (2 ^ 64 - 1)

-- a new interner with that first bucket's size, into which this number of bytes was copied
abbrev pub IsMadeWith : ℕ → ℕ → InternerView → Type 0
IsMadeWith first copied made = (made.first ≡ first) × (made.copied ≡ copied) × (made.is_cleared ≡ false) × (made.most ≡ 0)

-- the first bucket is the same, and nothing was cleared
abbrev pub KeepsOrigin : InternerView → InternerView → Type 0
KeepsOrigin old new = (new.first ≡ old.first) × (new.is_cleared ≡ old.is_cleared) × (new.most ≡ old.most)

-- how many bytes a copied text adds to the list: none if it is present
abbrev pub bytes_added : List Text → Text → ℕ
bytes_added texts text = if is_some (position_of texts text) then 0 else length text

-- the bytes are no fewer than those that the entries of the texts take, 16 each
abbrev pub HaveEntriesOf : List Text → ℕ → Type 0
HaveEntriesOf texts bytes = length texts * 16 < 2 ^ 64 → length texts * 16 ≤ bytes
