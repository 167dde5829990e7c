-- What a clause sees of a reader and of a writer.
use Rattle.std.specs.Prelude.{ℕ, List, Option}
use Rattle.std.specs.declared.io.Error.{Error}

-- a reader: the bytes in its buffer, all bytes left to read, those in the buffer first, where they are known,
-- the number of failed reads, and the error of the last of them
pub record InputView : Type 0 where
  pub at_hand : List ℕ
  pub left : Option (List ℕ)
  pub failures : ℕ
  pub cause : Option Error

-- a writer: the bytes that it has taken, where they are known, those of them that are still in its buffer, the
-- number of failed calls, the number of those that failed with a broken pipe, and the error of the last failed call
pub record OutputView : Type 0 where
  pub written : Option (List ℕ)
  pub pending : List ℕ
  pub failures : ℕ
  pub gone : ℕ
  pub cause : Option Error
