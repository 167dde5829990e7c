-- A new pass has seen the opening alone, so the texts that it shows are the opening's. Each is hashed in its turn.
use Rattle.std.proofs.Common.{◌≡◌, ◌+◌, ◌∷◌, ◌++◌, [], List, ℕ, Some, length, map, slice_get, take, ap, ◌∙◌, subst, arith, rules}
use Rattle.std.proofs.lemmas.List.{take_all, length_push}
use Rattle.lasso_parts.specs.Hashing.{hash_by}
use Rattle.lasso_parts.specs.Texts.{Text}
use Rattle.lasso_log.specs.Views.{InternerId, list_of}
use Rattle.lasso_shared.proofs.Built.{hashed_more}
use Rattle.lasso_shared.proofs.shards.tag.ShardTag.hashes.Goals as goal

pub text_at-requires : goal.text_at-requires
text_at-requires g c =
    let log = c.args.self.now.log in
    let is : c.seen_texts-texts.result ≡ list_of log [] = c.seen_texts-texts.ensures ∙ (ap (λ (o : InternerId). list_of o c.pass-pass.result.notes) c.pass-pass.ensures.of ∙ ap (list_of log) c.pass-pass.ensures.notes) in
    let long : length c.seen_texts-texts.result ≡ length (list_of log []) = ap (λ (ts : List Text). length ts) is in
    omega (arith, long, c.requires)

pub loop-position-preserved : goal.loop-position-preserved
loop-position-preserved g c =
    let hash_of = hash_by g.S.BuildHasher g.S.Hasher.Hasher c.args.self.now.hasher in
    let log = c.args.self.now.log in
    let n = c.loop-position.position in
    let t = c.text_at.result.now in
    let is : c.seen_texts-texts.result ≡ list_of log [] = c.seen_texts-texts.ensures ∙ (ap (λ (o : InternerId). list_of o c.pass-pass.result.notes) c.pass-pass.ensures.of ∙ ap (list_of log) c.pass-pass.ensures.notes) in
    let at : slice_get (list_of log []) n ≡ Some t = subst (λ (ts : List Text). slice_get ts n ≡ Some t) is c.text_at.ensures in
    let i = c.loop-position.invariant in record {
      room = search (rules, i.room);
      long = rw c.push_reserved.ensures.items (length_push c.loop-position.hashes.items c.hash_text.result ∙ ap (λ (m : ℕ). m + 1) i.long);
      hashed = c.push_reserved.ensures.items ∙ (ap (λ (hs : List ℕ). hs ++ c.hash_text.result ∷ []) i.hashed ∙ (ap (λ (h : ℕ). map hash_of (take n (list_of log [])) ++ h ∷ []) c.hash_text.ensures ∙ hashed_more hash_of (list_of log []) n t at));
    }

pub returns : goal.returns
returns g c =
    let hash_of = hash_by g.S.BuildHasher g.S.Hasher.Hasher c.args.self.now.hasher in
    let texts = list_of c.args.self.now.log [] in
    c.loop-position.invariant.hashed ∙ ap (map hash_of) (take_all c.loop-position.position texts (omega (arith, c.requires)))
