use Rattle.std.proofs.Common.{◌≡◌, ◌∙◌, None, Some, [], ap, refl, subst, sym}
use Rattle.std.specs.Prelude.{option_and_then}
use Rattle.lasso_parts.specs.Texts.{IsDistinct}
use Rattle.lasso_parts.specs.Hashing.{hash_by}
use Rattle.lasso_log.specs.History.{IsLegal, Lacks}
use Rattle.lasso_log.specs.Notes.{Since, history}
use Rattle.lasso_log.specs.Replies.{Get, Found}
use Rattle.lasso_log.specs.Views.{InternerId, list_of}
use Rattle.lasso_shared.proofs.Called.{plain, got, unused, seen_alone}
use Rattle.lasso_shared.proofs.Whole.{since_both, still_lacks}
use Rattle.lasso_shared.proofs.shards.Shards.get_once.Goals as goal

pub returns-in-Some : goal.returns-in-Some
returns-in-Some g c =
    let found = c.in-Some.ensures.found in
    let o = c.args.self.now.log.opening in
    let notes = c.deref-shard.result.now.known.notes in
    let p = unused (history notes) in record {
      call = plain g.K.Key.key_at o p [] notes (Get c.args.text.now) (Found (Some c.in-Some.key)) refl
          (got g.K.Key.key_at o p [] notes c.args.text.now (Some c.in-Some.key) (seen_alone notes) (sym found.1)) found.0;
    }

pub returns : goal.returns
returns g c =
    let pass = c.pass-pass.result in
    let o = c.args.self.now.log.opening in
    let learned = c.learn.new.self in
    let after = c.wait_until_current.new.pass in
    let since : Since pass.number pass.notes after.notes [] = since_both pass.number learned.number pass.notes learned.notes after.notes c.learn.ensures.same.0 c.learn.ensures.since c.wait_until_current.ensures.since in
    let hash_of = hash_by g.S.BuildHasher g.S.Hasher.Hasher c.args.self.now.hasher in
    let log = c.args.self.now.log in
    let known = c.deref-shard.result.now.known.notes in
    let t = c.args.text.now in
    let mine : c.read-guard.result.tag.log ≡ log = ap (λ tag. tag.log) c.read-guard.ensures ∙ c.lock.ensures.0 in
    let distinct : IsDistinct (list_of log known) = rw (c.deref-shard.ensures, sym mine) c.get.ensures.1.exact.distinct in
    let lacks : Lacks (list_of log after.notes) t =
    still_lacks hash_of c.hash_text-hash.result c.number_of-2.result log known after.notes t c.wait_until_current.ensures.whole c.hash_text-hash.ensures c.number_of-2.ensures.0 distinct c.in_default.ensures.missing in
    let of : after.of ≡ c.args.self.now.log = c.wait_until_current.ensures.same.1 ∙ (c.learn.ensures.same.1 ∙ c.pass-pass.ensures.of) in
    let legal : IsLegal g.K.Key.key_at o (history after.notes) = subst (λ (x : InternerId). IsLegal g.K.Key.key_at x.opening (history after.notes)) of c.prove_legal.ensures.legal in record {
      call = plain g.K.Key.key_at o pass.number pass.notes after.notes (Get c.args.text.now) (Found None) c.pass-pass.ensures.notes
          (got g.K.Key.key_at o pass.number pass.notes after.notes c.args.text.now None since (ap (option_and_then g.K.Key.key_at) (sym lacks))) legal;
    }
