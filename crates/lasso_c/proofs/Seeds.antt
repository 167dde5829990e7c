-- A hasher of one kind stays of that kind through all writes, and ends with the hash of its own kind.
use Rattle.std.proofs.Common.{ℕ, ◌≡◌, List, [], ◌∷◌, refl, ap}
use Rattle.std.specs.List.{fold}
use Rattle.core.specs.Hash.DefaultHasher as keyed_hasher
use Rattle.core.specs.declared.hash.sip.DefaultHasher.{DefaultHasher}
use Rattle.lasso_parts.specs.TextHash as text_hasher
use Rattle.lasso_parts.specs.declared.hasher.TextHasher.{TextHasher}
use Rattle.lasso_c.specs.Seeds.{finished, written}
use Rattle.lasso_c.specs.declared.seed.SeededHasher.TheVariants.{Text, Keyed}

text_writes : (hasher : TextHasher) (writes : List (List ℕ)) → fold written (Text hasher) writes ≡ Text (fold text_hasher.written hasher writes)
text_writes hasher [] = refl
text_writes hasher (bytes ∷ writes) = text_writes (text_hasher.written hasher bytes) writes

keyed_writes : (hasher : DefaultHasher) (writes : List (List ℕ)) → fold written (Keyed hasher) writes ≡ Keyed (fold keyed_hasher.write hasher writes)
keyed_writes hasher [] = refl
keyed_writes hasher (bytes ∷ writes) = keyed_writes (keyed_hasher.write hasher bytes) writes

pub text_hash : (hasher : TextHasher) (writes : List (List ℕ)) → finished (fold written (Text hasher) writes) ≡ text_hasher.finished (fold text_hasher.written hasher writes)
text_hash hasher writes = ap finished (text_writes hasher writes)

pub keyed_hash : (hasher : DefaultHasher) (writes : List (List ℕ)) → finished (fold written (Keyed hasher) writes) ≡ keyed_hasher.finish (fold keyed_hasher.write hasher writes)
keyed_hash hasher writes = ap finished (keyed_writes hasher writes)
