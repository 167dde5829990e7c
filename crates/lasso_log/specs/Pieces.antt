-- What contracts see of a range and of a piece.
use Rattle.std.specs.Prelude.{◌≡◌, ℕ, ◌^◌, ◌<◌, List, length, IsUtf8}
use denote.RawPtr.{Ptr, block_ptr}
use Rattle.lasso_parts.specs.Block.{LeadsToBlock}
use Rattle.lasso_log.specs.declared.shared_memory.rights.Free.{Free}
use Rattle.lasso_log.specs.declared.shared_memory.rights.Lent.{Lent}

-- a range, the right to fill some bytes: the era that they are lent for, and where they are
pub record RangeView : Type 0 where
  pub era : ℕ
  pub block : ℕ
  pub start : ℕ
  pub len : ℕ

-- a piece, which a cell of the shared list holds: a text, and the lifetime up to whose end it is there,
-- that of an era, or for a static text the one without end, `[]`
pub record PieceView : Type 0 where
  pub until : List ℕ
  pub text : List ℕ

-- these are the two words of a range
pub record IsRange (r : Free) (ptr : Ptr) (len : ℕ) : Type 0 where
  pub at : ptr ≡ block_ptr r.block r.start
  pub count : len ≡ r.len

-- these are the two words of a piece
pub record IsPiece (l : Lent) (ptr : Ptr) (len : ℕ) : Type 0 where
  pub at : ptr ≡ l.at
  pub block : LeadsToBlock ptr
  pub count : len ≡ length l.bytes
  pub small : len < 2 ^ 63
  pub text : IsUtf8 l.bytes
