-- The key of a position stands for that position, for each of the four key types. Lemmas about any key type take this as their law `made`.
use Rattle.std.proofs.Common.{ℕ, ◌≡◌, Some, lit≤}
use Rattle.lasso_parts.specs.Kept.{kept_made}
use Rattle.lasso_parts.specs.Spurs.{spur_number, spur_at, mini_spur_number, mini_spur_at, micro_spur_number, micro_spur_at, large_spur_number, large_spur_at}

pub spur_made : (n key : ℕ) → spur_at n ≡ Some key → spur_number key ≡ n
spur_made n key made = (kept_made 4294967295 (lit≤ tt) n key made).2

pub mini_spur_made : (n key : ℕ) → mini_spur_at n ≡ Some key → mini_spur_number key ≡ n
mini_spur_made n key made = (kept_made 65535 (lit≤ tt) n key made).2

pub micro_spur_made : (n key : ℕ) → micro_spur_at n ≡ Some key → micro_spur_number key ≡ n
micro_spur_made n key made = (kept_made 255 (lit≤ tt) n key made).2

pub large_spur_made : (n key : ℕ) → large_spur_at n ≡ Some key → large_spur_number key ≡ n
large_spur_made n key made = (kept_made 18446744073709551615 (lit≤ tt) n key made).2
