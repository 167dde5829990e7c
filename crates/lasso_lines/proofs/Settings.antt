-- The limit in settings. Equal settings have equal limits.
use Rattle.std.proofs.Common.{ℕ, ◌≡◌, Option, Some, None, ap}

abbrev limit_in : Option (ℕ × Option ℕ) → ℕ
limit_in None = 0
limit_in (Some settings) = settings.0

pub same_limit : (one other : ℕ × Option ℕ) → Some one ≡ Some other → one.0 ≡ other.0
same_limit one other same = ap limit_in same
