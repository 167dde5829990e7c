-- How much of the memory can be waste: linear facts that hold of an account, and from which the bounds
-- follow.
--
-- Of an interner that was never cleared the usage is at most `first + 4 * copied`: a current bucket that was
-- left has less room than its successor's first text, so left buckets add up to less than twice the copied
-- bytes; the last one is at most twice the size of a left one; buckets of exact size are full.
--
-- Of any interner it is at most `first + 8 * most`, with `most` as the most bytes copied in between two
-- clears. When the doubling size was doubled, or a remnant was made, the greatest bucket kept until then had
-- been left, or was current without room, or was a spare too small for the text. So more bytes were copied in
-- since the last clear than that bucket has.
use Rattle.std.specs.Prelude.{◌≡◌, ℕ, ◌+◌, ◌-◌, ◌*◌, ◌<◌, ◌≤◌, ◌⊎◌, max, min}
use Rattle.lasso_parts.specs.Account.{Account}

-- in an arena that was never cleared: the first bucket had `first` bytes, and `copied` bytes were copied in
-- since
pub record IsThrifty (first copied : ℕ) (a : Account) : Type 0 where
  pub spare : a.spare ≡ 0
  pub usage : a.usage ≤ 2 * copied + a.room
  pub doubling : a.doubling ≤ copied + a.room
  pub room : a.room ≤ 2 * copied + first

-- in any arena: the first bucket had `first` bytes, `copied` bytes were copied in since the last clear, and
-- at most `most` between two clears
pub record IsThriftySince (first copied most : ℕ) (a : Account) : Type 0 where
  pub counted : copied ≤ most
  pub grown : first ≤ a.doubling
  -- the doubling size is the first bucket's, or at least twice that
  pub step : min (a.doubling - first) (2 * first - a.doubling) ≡ 0
  -- the first bucket and the doubled ones take twice the doubling size less the first
  pub held : 2 * a.doubling ≤ a.usage + first
  -- the others take at most twice the copied bytes and the room
  pub left : a.usage + first ≤ 2 * a.doubling + 2 * copied + a.room
  -- and at most four times the copied bytes
  pub over : a.usage + first ≤ 2 * a.doubling + 4 * copied
  pub doubling : a.doubling ≤ first + 2 * most
  -- the greatest kept bucket is a spare, or was filled or left since the clear
  pub greatest : a.doubling ≤ max a.spare (copied + a.room)

-- what follows of the size of a spare: the spares have different sizes, of which the greatest possible is the doubling size
pub record IsSpare (a : Account) (size : ℕ) : Type 0 where
  pub part : size ≤ a.spare
  pub apart : (size ≡ a.doubling) ⊎ ((a.spare < a.doubling) ⊎ (size + a.doubling ≤ a.spare))

-- what follows if no spare has n bytes: the greatest possible one, if it is a spare, has fewer
abbrev pub HasNoSpare : Account → ℕ → Type 0
HasNoSpare a n = a.doubling ≤ a.spare → a.doubling < n
