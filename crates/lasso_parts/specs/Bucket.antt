-- What a region of memory shows, what the right to free it shows, and what a bucket shows.
use Rattle.std.specs.Prelude.{ℕ, List}
use denote.RawPtr.{Ptr}

-- a region: where it is, the bytes pushed since the last clear, and how many fit in all
pub record Extent : Type 0 where
  pub at : Ptr
  pub bytes : List ℕ
  pub capacity : ℕ

-- a block of memory
pub record Block : Type 0 where
  pub at : Ptr
  pub len : ℕ

-- the block that a region is in
abbrev pub block_of : Extent → Block
block_of region = record { at = region.at; len = region.capacity }

-- the bytes that a bucket holds, and how many fit in all
pub record Filled : Type 0 where
  pub bytes : List ℕ
  pub capacity : ℕ
