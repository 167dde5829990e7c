-- What is known of a shard while its lock is held.
use Rattle.std.specs.Prelude.{ℕ}
use Rattle.lasso_parts.specs.Texts.{Text}
use Rattle.lasso_log.specs.Views.{InternerId, PassView}
use Rattle.lasso_shared.specs.Shards.{IsShard, IsWholeShard}
use Rattle.lasso_shared.specs.declared.shards.shard.Shard.{Shard}

-- the locked shard is that of this number, for these hashes and this interner
abbrev pub IsLocked : {A B C : Type 0} → (hash_of : Text → ℕ) → (number : ℕ) → InternerId → Shard A B C → Type 0
IsLocked hash_of number of shard = IsShard hash_of number of shard.known shard.index shard.count

-- no text of this shard is in what the pass has seen but those that the locked shard has
abbrev pub IsWholeFor : {A B C : Type 0} → (hash_of : Text → ℕ) → (number : ℕ) → InternerId → Shard A B C → PassView → Type 0
IsWholeFor hash_of number of shard pass = IsWholeShard hash_of number of shard.known.notes pass.notes
