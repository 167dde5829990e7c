use Rattle.std.proofs.Common.{◌≡◌, ◌∙◌, Ok, [], refl, subst}
use Rattle.lasso_log.specs.History.{IsLegal}
use Rattle.lasso_log.specs.Notes.{history}
use Rattle.lasso_log.specs.Replies.{Interned}
use Rattle.lasso_log.specs.Views.{InternerId}
use Rattle.lasso_shared.specs.NewTexts.{intern_of, keeping_of, text_of}
use Rattle.lasso_shared.proofs.Called.{plain, unused, seen_alone}
use Rattle.lasso_shared.proofs.Stored.{called_found}
use Rattle.lasso_shared.proofs.shards.Shards.intern_once.Goals as goal

pub returns-in-Some : goal.returns-in-Some
returns-in-Some g c =
    let told = rw c.as_str-letters.ensures at c.in-Some.ensures.told in
    let log = c.args.self.now.log in
    let p = unused (history told.0) in record {
      call = plain g.K.Key.key_at log.opening p [] told.0 (intern_of c.args.text) (Interned (Ok c.in-Some.key)) refl
          (called_found g.K.Key.key_at log p (keeping_of c.args.text) [] told.0 (text_of c.args.text) c.in-Some.key (seen_alone told.0) told.2) told.1;
    }

pub returns : goal.returns
returns g c =
    let pass = c.pass-pass.result in
    let o = c.args.self.now.log.opening in
    let called = c.intern_new-reply.ensures in
    let after = c.intern_new-reply.new.pass in
    let of : after.of ≡ c.args.self.now.log = called.same.1 ∙ c.pass-pass.ensures.of in
    let legal : IsLegal g.K.Key.key_at o (history after.notes) = subst (λ (x : InternerId). IsLegal g.K.Key.key_at x.opening (history after.notes)) of c.prove_legal.ensures.legal in record {
      call = plain g.K.Key.key_at o pass.number pass.notes after.notes (intern_of c.args.text) (Interned c.intern_new-reply.result) c.pass-pass.ensures.notes called.call legal;
    }
