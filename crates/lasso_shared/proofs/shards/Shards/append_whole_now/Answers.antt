use Rattle.std.proofs.Common.{◌≡◌, ◌+◌, ◌++◌, ◌∷◌, [], ℕ, List, Some, None, length, refl, sym, ap, ◌∙◌, subst, arith}
use Rattle.std.proofs.lemmas.List.{length-set}
use Rattle.lasso_parts.specs.Texts.{Text, IsDistinct}
use Rattle.lasso_parts.specs.Hashing.{hash_by}
use Rattle.lasso_log.specs.History.{Lacks}
use Rattle.lasso_log.specs.Views.{InternerId, list_of}
use Rattle.lasso_shared.specs.Shards.{shard_of, is_in, count_in, IsShardOf, Counts}
use Rattle.lasso_shared.proofs.Stored.{key_of_last}
use Rattle.lasso_shared.proofs.Whole.{list_good, is_home, exact_lacks, exact_shard, is_some_at, since_self, count_in_one, count_short, pushed, tally_pushed}
use Rattle.lasso_shared.proofs.shards.Shards.append_whole_now.Goals as goal

pub returns-in_default-clause-put : goal.returns-in_default-clause-put
returns-in_default-clause-put g c =
    let hash_of = hash_by g.S.BuildHasher g.S.Hasher.Hasher c.args.self.now.hasher in
    let n = shard_of c.args.hash in
    let log = c.args.self.now.log in
    let t = c.args.text.text in
    let before = c.args.pass.now.notes in
    let spine = c.args.tally.now.spine.notes in
    let is = is_home hash_of c.args.hash t c.requires.hashed in
    let lacks : Lacks (list_of log before) t = exact_lacks hash_of n log c.args.shard.now.known.notes before c.requires.whole t is c.requires.held.exact.distinct c.requires.lacks in
    let long : c.len.result ≡ length (list_of log spine) = c.len.ensures.len ∙ ap (λ of. length (list_of of spine)) c.requires.tally.mine in
    let none : None ≡ g.K.Key.key_at (length (list_of log before)) = subst (λ (m : ℕ). None ≡ g.K.Key.key_at m) (long ∙ ap (λ (ts : List Text). length ts) (sym c.requires.list)) c.in_default.ensures in
    rw c.new.ensures (refl, since_self c.args.pass.now.number before, lacks, sym none)

pub append_now-requires-clause-may : goal.append_now-requires-clause-may
append_now-requires-clause-may g c =
    let hash_of = hash_by g.S.BuildHasher g.S.Hasher.Hasher c.args.self.now.hasher in
    let n = shard_of c.args.hash in
    let log = c.args.self.now.log in
    let t = c.args.text.text in
    let before = c.args.pass.now.notes in
    let spine = c.args.tally.now.spine.notes in
    let is = is_home hash_of c.args.hash t c.requires.hashed in
    let lacks : Lacks (list_of log before) t = exact_lacks hash_of n log c.args.shard.now.known.notes before c.requires.whole t is c.requires.held.exact.distinct c.requires.lacks in
    let long : c.len.result ≡ length (list_of log spine) = c.len.ensures.len ∙ ap (λ of. length (list_of of spine)) c.requires.tally.mine in
    (subst (λ (ts : List Text). Lacks ts t) c.requires.list lacks, is_some_at g.K.Key.key_at c.len.result (length (list_of log spine)) c.in-Some.key long c.in-Some.ensures)

pub overflow_add-shard : goal.overflow_add-shard
overflow_add-shard g c =
    let hash_of = hash_by g.S.BuildHasher g.S.Hasher.Hasher c.args.self.now.hasher in
    let n = shard_of c.args.hash in
    let log = c.args.self.now.log in
    let t = c.args.text.text in
    let before = c.args.pass.now.notes in
    let spine = c.args.tally.now.spine.notes in
    let is = is_home hash_of c.args.hash t c.requires.hashed in
    let lacks : Lacks (list_of log before) t = exact_lacks hash_of n log c.args.shard.now.known.notes before c.requires.whole t is c.requires.held.exact.distinct c.requires.lacks in
    let long : c.len.result ≡ length (list_of log spine) = c.len.ensures.len ∙ ap (λ of. length (list_of of spine)) c.requires.tally.mine in
    let a = c.if-not-append_now.ensures in
    let after = c.append_now.new.pass.notes in
    let list : list_of log after ≡ list_of log before ++ t ∷ [] = (a.done refl).list ∙ ap (λ (ts : List Text). ts ++ t ∷ []) (sym c.requires.list) in
    let good = (list_good g.K.Key.key_at c.args.pass.now.of.opening before c.prove_legal.ensures.opening c.prove_legal.ensures.legal).0 in
    let distinct : IsDistinct (list_of log before) = subst (λ (o : InternerId). IsDistinct (list_of o before)) c.requires.of.0 good in
    let made : Some c.in-Some.key ≡ g.K.Key.key_at (length (list_of log before)) = subst (λ (m : ℕ). Some c.in-Some.key ≡ g.K.Key.key_at m) (long ∙ ap (λ (ts : List Text). length ts) (sym c.requires.list)) c.in-Some.ensures in
    let count : c.args.shard.now.count ≡ count_in hash_of n (list_of log before) = c.requires.held.counts ∙ c.requires.whole.counts in
    let more : c.args.shard.now.count + 1 ≡ count_in hash_of n (list_of log after) = ap (λ m. m + 1) count ∙ (sym (count_in_one (is_in hash_of n) (list_of log before) t is) ∙ ap (count_in hash_of n) (sym list)) in
    let of : c.append_now.new.spine.of ≡ log = a.same.1 ∙ c.requires.tally.mine in
    let there : list_of c.append_now.new.spine.of c.append_now.new.spine.notes ≡ list_of log after = ap (λ o. list_of o c.append_now.new.spine.notes) of ∙ ap (list_of log) (a.done refl).spine in
    let few = count_short (is_in hash_of n) (list_of log after) in
    let short = c.len-len.type_inv in
    omega (arith, more, few, short, c.len-len.ensures.len, ap (λ (ts : List Text). length ts) there)

pub returns-clause-put : goal.returns-clause-put
returns-clause-put g c =
    let hash_of = hash_by g.S.BuildHasher g.S.Hasher.Hasher c.args.self.now.hasher in
    let n = shard_of c.args.hash in
    let log = c.args.self.now.log in
    let t = c.args.text.text in
    let before = c.args.pass.now.notes in
    let spine = c.args.tally.now.spine.notes in
    let is = is_home hash_of c.args.hash t c.requires.hashed in
    let lacks : Lacks (list_of log before) t = exact_lacks hash_of n log c.args.shard.now.known.notes before c.requires.whole t is c.requires.held.exact.distinct c.requires.lacks in
    let long : c.len.result ≡ length (list_of log spine) = c.len.ensures.len ∙ ap (λ of. length (list_of of spine)) c.requires.tally.mine in
    let a = c.if-not-append_now.ensures in
    let after = c.append_now.new.pass.notes in
    let list : list_of log after ≡ list_of log before ++ t ∷ [] = (a.done refl).list ∙ ap (λ (ts : List Text). ts ++ t ∷ []) (sym c.requires.list) in
    let good = (list_good g.K.Key.key_at c.args.pass.now.of.opening before c.prove_legal.ensures.opening c.prove_legal.ensures.legal).0 in
    let distinct : IsDistinct (list_of log before) = subst (λ (o : InternerId). IsDistinct (list_of o before)) c.requires.of.0 good in
    let made : Some c.in-Some.key ≡ g.K.Key.key_at (length (list_of log before)) = subst (λ (m : ℕ). Some c.in-Some.key ≡ g.K.Key.key_at m) (long ∙ ap (λ (ts : List Text). length ts) (sym c.requires.list)) c.in-Some.ensures in
    ((a.done refl).event, key_of_last g.K.Key.key_at (list_of log before) (list_of log after) t c.in-Some.key list distinct lacks (sym made))

pub returns-clause-held : goal.returns-clause-held
returns-clause-held g c =
    let hash_of = hash_by g.S.BuildHasher g.S.Hasher.Hasher c.args.self.now.hasher in
    let n = shard_of c.args.hash in
    let log = c.args.self.now.log in
    let t = c.args.text.text in
    let before = c.args.pass.now.notes in
    let spine = c.args.tally.now.spine.notes in
    let is = is_home hash_of c.args.hash t c.requires.hashed in
    let lacks : Lacks (list_of log before) t = exact_lacks hash_of n log c.args.shard.now.known.notes before c.requires.whole t is c.requires.held.exact.distinct c.requires.lacks in
    let long : c.len.result ≡ length (list_of log spine) = c.len.ensures.len ∙ ap (λ of. length (list_of of spine)) c.requires.tally.mine in
    let a = c.if-not-append_now.ensures in
    let after = c.append_now.new.pass.notes in
    let list : list_of log after ≡ list_of log before ++ t ∷ [] = (a.done refl).list ∙ ap (λ (ts : List Text). ts ++ t ∷ []) (sym c.requires.list) in
    let good = (list_good g.K.Key.key_at c.args.pass.now.of.opening before c.prove_legal.ensures.opening c.prove_legal.ensures.legal).0 in
    let distinct : IsDistinct (list_of log before) = subst (λ (o : InternerId). IsDistinct (list_of o before)) c.requires.of.0 good in
    let made : Some c.in-Some.key ≡ g.K.Key.key_at (length (list_of log before)) = subst (λ (m : ℕ). Some c.in-Some.key ≡ g.K.Key.key_at m) (long ∙ ap (λ (ts : List Text). length ts) (sym c.requires.list)) c.in-Some.ensures in
    let count : c.args.shard.now.count ≡ count_in hash_of n (list_of log before) = c.requires.held.counts ∙ c.requires.whole.counts in
    let more : c.args.shard.now.count + 1 ≡ count_in hash_of n (list_of log after) = ap (λ m. m + 1) count ∙ (sym (count_in_one (is_in hash_of n) (list_of log before) t is) ∙ ap (count_in hash_of n) (sym list)) in
    let of = c.snapshot.ensures.0 ∙ (a.same.0.1 ∙ c.requires.of.0) in
    let notes : c.snapshot.result.notes ≡ after = c.snapshot.ensures.1 in
    let number : g.K.Key.number c.in-Some.key ≡ length (list_of log before) = (g.met.K.Key.made (length (list_of log before)) c.in-Some.key (sym made)).2 in
    let shard = exact_shard hash_of n log c.args.shard.now.known.notes before c.requires.whole c.args.shard.now.index c.requires.held.exact distinct in
    let i = c.insert_reserved.ensures in record {
      mine = of;
      exact = subst (λ (ts : List Text). IsShardOf hash_of n ts c.insert_reserved.new.self) (sym list ∙ ap (list_of log) (sym notes))
          (pushed hash_of n (list_of log before) t c.args.hash (g.K.Key.number c.in-Some.key) c.args.shard.now.index c.insert_reserved.new.self shard lacks is number c.requires.hashed i.holds i.filed);
      counts = more ∙ ap (λ l. count_in hash_of n (list_of log l)) (sym notes);
    }

pub returns-clause-tally : goal.returns-clause-tally
returns-clause-tally g c =
    let hash_of = hash_by g.S.BuildHasher g.S.Hasher.Hasher c.args.self.now.hasher in
    let n = shard_of c.args.hash in
    let log = c.args.self.now.log in
    let t = c.args.text.text in
    let before = c.args.pass.now.notes in
    let spine = c.args.tally.now.spine.notes in
    let is = is_home hash_of c.args.hash t c.requires.hashed in
    let lacks : Lacks (list_of log before) t = exact_lacks hash_of n log c.args.shard.now.known.notes before c.requires.whole t is c.requires.held.exact.distinct c.requires.lacks in
    let long : c.len.result ≡ length (list_of log spine) = c.len.ensures.len ∙ ap (λ of. length (list_of of spine)) c.requires.tally.mine in
    let a = c.if-not-append_now.ensures in
    let after = c.append_now.new.pass.notes in
    let list : list_of log after ≡ list_of log before ++ t ∷ [] = (a.done refl).list ∙ ap (λ (ts : List Text). ts ++ t ∷ []) (sym c.requires.list) in
    let good = (list_good g.K.Key.key_at c.args.pass.now.of.opening before c.prove_legal.ensures.opening c.prove_legal.ensures.legal).0 in
    let distinct : IsDistinct (list_of log before) = subst (λ (o : InternerId). IsDistinct (list_of o before)) c.requires.of.0 good in
    let made : Some c.in-Some.key ≡ g.K.Key.key_at (length (list_of log before)) = subst (λ (m : ℕ). Some c.in-Some.key ≡ g.K.Key.key_at m) (long ∙ ap (λ (ts : List Text). length ts) (sym c.requires.list)) c.in-Some.ensures in
    let count : c.args.shard.now.count ≡ count_in hash_of n (list_of log before) = c.requires.held.counts ∙ c.requires.whole.counts in
    let more : c.args.shard.now.count + 1 ≡ count_in hash_of n (list_of log after) = ap (λ m. m + 1) count ∙ (sym (count_in_one (is_in hash_of n) (list_of log before) t is) ∙ ap (count_in hash_of n) (sym list)) in
    let of : c.append_now.new.spine.of ≡ log = a.same.1 ∙ c.requires.tally.mine in
    let lists : list_of log c.append_now.new.spine.notes ≡ list_of log spine ++ t ∷ [] = ap (list_of log) (a.done refl).spine ∙ (a.done refl).list in
    let number = c.number_of.ensures in
    let one : c.args.shard.now.count + 1 ≡ count_in hash_of c.number_of.result (list_of log spine) + 1 = rw number.0 (ap (λ m. m + 1) (count ∙ ap (count_in hash_of n) c.requires.list)) in
    let each : Counts hash_of (list_of log spine ++ t ∷ []) _ = tally_pushed hash_of c.number_of.result (list_of log spine) t c.args.tally.now.counts (c.args.shard.now.count + 1) number.1 c.requires.tally.all (rw number.0 is) one c.requires.tally.counts_each in record {
      mine = of;
      all = length-set c.args.tally.now.counts c.number_of.result (c.args.shard.now.count + 1) ∙ c.requires.tally.all;
      counts_each = rw lists each;
    }
