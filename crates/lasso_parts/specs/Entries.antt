-- The entries of a list of texts, and the texts that they stand for: an entry has a short text itself, or leads to
-- a text outside it. A text that is too long for an entry's words is named in a separate list, and the entry
-- names its place there.
use Rattle.std.specs.Prelude.{◌≡◌, ℕ, ◌^◌, ◌<◌, List, [], length, map, get_or, All, IsUtf8}
use denote.RawPtr.{Ptr, null_ptr}
use Rattle.lasso_parts.specs.Texts.{Text}
use Rattle.lasso_parts.specs.Bucket.{Extent}
use Rattle.lasso_parts.specs.Block.{LeadsToBlock}
use Rattle.lasso_parts.specs.Arena.{text_at, address_of, IsStored}
use Rattle.lasso_parts.specs.declared.arena.Span.{Span}

-- whose memory the bytes of a text outside the entries are
pub data Source : Type 0 where
  -- an arena's, which copied the text to this span
  Copied : Span → Source
  -- the program's: these bytes are never freed
  Static : Text → Source

-- a text outside the entries: where its first byte is, and whose memory that is
pub record LentText : Type 0 where
  pub at : Ptr
  pub source : Source

-- the bytes of a text outside the entries, by whose memory they are
abbrev pub source_text : List Extent → Source → Text
source_text regions (Copied span) = text_at regions span
source_text regions (Static text) = text

-- how many bytes they are
abbrev pub source_len : Source → ℕ
source_len (Copied span) = span.len
source_len (Static text) = length text

-- a text that was copied is stored among these regions, at this address
abbrev pub LiesAt : List Extent → Ptr → Source → Type 0
LiesAt regions at (Copied span) = IsStored regions span × (at ≡ address_of regions span)
LiesAt regions at (Static text) = Unit {0}

-- the bytes of a static text are UTF-8, and fewer than 2 ^ 63
abbrev pub IsWhole : Source → Type 0
IsWhole (Copied span) = Unit {0}
IsWhole (Static text) = (length text < 2 ^ 63) × IsUtf8 text

-- these are the two words of a text outside the entries: where it is, which is not null, and how many bytes it has
pub record AreWordsOf (t : LentText) (at : Ptr) (len : ℕ) : Type 0 where
  pub address : at ≡ t.at
  pub block : LeadsToBlock t.at
  pub count : len ≡ source_len t.source
  pub whole : IsWhole t.source

-- the bytes of such a text
abbrev pub lent_bytes : List Extent → LentText → Text
lent_bytes regions t = source_text regions t.source

-- a copied text is stored among these regions, at its address; a static text is always there
abbrev pub IsLent : List Extent → LentText → Type 0
IsLent regions t = LiesAt regions t.at t.source

-- an entry: what a list of texts keeps for a text
pub data EntryView : Type 0 where
  -- has a short text itself
  Inside : Text → EntryView
  -- leads to a long one
  Outside : LentText → EntryView
  -- names its place in the list of the texts that are too long for an entry: of 2 ^ 32 bytes or more
  Listed : ℕ → EntryView

-- what is at a place without a text
abbrev pub no_text : LentText
no_text = record { at = null_ptr; source = Static [] }

-- the text of an entry
abbrev pub entry_text : List Extent → List LentText → EntryView → Text
entry_text regions vast (Inside text) = text
entry_text regions vast (Outside t) = lent_bytes regions t
entry_text regions vast (Listed k) = lent_bytes regions (get_or vast k no_text)

-- the entry leads to its text, among these regions and in this list: the text is lent, or the place is in the
-- list and the text there is lent; a text that it has itself is always there
abbrev pub IsThere : List Extent → List LentText → EntryView → Type 0
IsThere regions vast (Inside text) = Unit {0}
IsThere regions vast (Outside t) = IsLent regions t
IsThere regions vast (Listed k) = (k < length vast) × IsLent regions (get_or vast k no_text)

-- so for each entry of a list
abbrev pub AllThere : List Extent → List LentText → List EntryView → Type 0
AllThere regions vast entries = All (IsThere regions vast) entries

-- the texts of a list of entries
abbrev pub texts_of : List Extent → List LentText → List EntryView → List Text
texts_of regions vast entries = map (entry_text regions vast) entries

-- the later list of texts outside the entries shows the same ones at the places of the earlier one
abbrev pub KeepsPlaces : List LentText → List LentText → Type 0
KeepsPlaces earlier later = (k : ℕ) → k < length earlier → (k < length later) × (get_or later k no_text ≡ get_or earlier k no_text)
