-- The turns of a history, its charges and limits: what they add up to, and what a charge asks.
use Rattle.std.specs.Prelude.{◌≡◌, ℕ, ◌+◌, ◌<◌, ◌≤◌, List, length, Option}
use mathlib.Core.List.{IsPrefix}
use Rattle.logbook.specs.Pages.{Cell}
use Rattle.lasso_log.specs.Buckets.{HasNoRoom}
use Rattle.lasso_log.specs.History.{Totals}
use Rattle.lasso_log.specs.Notes.{NoteView, state, IsWordWith}
use Rattle.lasso_log.specs.Book.{KeepsRule}
use Rattle.lasso_log.specs.SharedBuckets.{LacksRoom}

-- the numbers of a history that the rule holds of: its turns, doubling size, usage and limit, and how many buckets it has
pub record IsTurned {Key : Type 0} (keys : ℕ → Option Key) (o : Totals) (notes : List NoteView) (turns doubling usage limit count : ℕ) : Type 0 where
  pub word : IsWordWith notes 1 1 turns
  pub kept : (cells : List Cell) × KeepsRule keys cells o notes
  pub doubled : doubling ≡ (state o notes).doubling
  pub used : usage ≡ (state o notes).usage
  pub most : limit ≡ (state o notes).limit
  pub all : count ≡ length (state o notes).buckets

-- none of the first `count` buckets has room for n bytes
abbrev pub NoneHasRoom : Totals → (count n : ℕ) → Type 0
NoneHasRoom s count n = (position : ℕ) → position < count → LacksRoom s position n

-- nor has one of them from this position on
abbrev pub LackFrom : Totals → (first count n : ℕ) → Type 0
LackFrom s first count n = (position : ℕ) → first ≤ position → position < count → LacksRoom s position n

-- usage, limit, doubling size and the number of buckets are what they were: so it is while the turn word has
-- one value, since no charge and no limit comes then, and a bucket that lacked room lacks it still
pub record IsSameTurn (s more : Totals) : Type 0 where
  pub usage : more.usage ≡ s.usage
  pub limit : more.limit ≡ s.limit
  pub doubling : more.doubling ≡ s.doubling
  pub count : length more.buckets ≡ length s.buckets

-- the ground of a refusal: at one step between `before` and `after` the list has this length, no bucket has
-- room for the bytes, and usage and bytes are above the limit
pub record IsPastLimit (o : Totals) (before after : List NoteView) (len n : ℕ) : Type 0 where
  pub notes : List NoteView
  pub past : IsPrefix before notes
  pub begins : IsPrefix notes after
  pub list : length (state o notes).texts ≡ len
  pub room : HasNoRoom (state o notes).buckets n
  pub limit : (state o notes).limit < (state o notes).usage + n
