-- The list that the pass has seen at the load of its length is the one that is copied. It is distinct and fits the keys, as the list of
-- a legal history does.
use Rattle.std.proofs.Common.{◌≡◌, ◌≤◌, ◌^◌, ◌∙◌, ap, sym, subst, inl, inr, List, length, Ok, Err}
use Rattle.lasso_parts.specs.Texts.{Text, IsDistinct, Fits}
use Rattle.lasso_single.specs.Copies.{bytes_of}
use Rattle.lasso_log.specs.Notes.{history, state}
use Rattle.lasso_log.specs.Views.{InternerId, list_of}
use Rattle.lasso_shared.proofs.Frozen.{frozen}
use Rattle.lasso_log.proofs.Legal.{list_kept}
use Rattle.lasso_shared.proofs.threaded.ThreadedRodeo.into_reader_as.Goals as goal

pub copy_of-requires-clause-distinct : goal.copy_of-requires-clause-distinct
copy_of-requires-clause-distinct g c =
    let after = c.len-len.new.pass in
    let opens = c.prove_legal.ensures.opening in
    let kept = list_kept g.K.Key.key_at after.of.opening (history after.notes) opens.distinct opens.fits c.prove_legal.ensures.legal in
    subst (λ (ts : List Text). IsDistinct ts) (sym c.seen_texts-texts.ensures) kept.0

pub copy_of-requires-clause-fits : goal.copy_of-requires-clause-fits
copy_of-requires-clause-fits g c =
    let after = c.len-len.new.pass in
    let opens = c.prove_legal.ensures.opening in
    let kept = list_kept g.K.Key.key_at after.of.opening (history after.notes) opens.distinct opens.fits c.prove_legal.ensures.legal in
    subst (λ (ts : List Text). Fits g.K.Key.key_at (length ts)) (sym c.seen_texts-texts.ensures) kept.1

pub returns-in-Ok-clause-call : goal.returns-in-Ok-clause-call
returns-in-Ok-clause-call g c =
    let o = c.args.self.opening in
    let after = c.len-len.new.pass.notes in
    let mine = ap (λ (of : InternerId). list_of of after) (c.len-len.ensures.same.1 ∙ c.requires) in
    let list : c.into_reader.result ≡ (state o after).texts = c.into_reader.ensures ∙ (c.in-Ok.ensures.texts ∙ (c.seen_texts-texts.ensures ∙ mine)) in
    frozen g.K.Key.key_at o c.args.pass.now.number c.args.pass.now.notes after (Ok c.into_reader.result) c.len-len.ensures.since (inl (ap (λ (ts : List Text). Ok ts) list))

pub returns-clause-call : goal.returns-clause-call
returns-clause-call g c =
    let o = c.args.self.opening in
    let after = c.len-len.new.pass.notes in
    frozen g.K.Key.key_at o c.args.pass.now.number c.args.pass.now.notes after (Err c.in-Err.error) c.len-len.ensures.since (inr (ap Err c.in-Err.ensures.refused))

pub returns-in-Ok-clause-overflow : goal.returns-in-Ok-clause-overflow
returns-in-Ok-clause-overflow g c large =
    let after = c.len-len.new.pass.notes in
    let mine = ap (λ (of : InternerId). list_of of after) (c.len-len.ensures.same.1 ∙ c.requires) in
    let no = c.in-Ok.ensures.overflow (subst (λ (ts : List Text). 2 ^ 64 ≤ bytes_of ts) (sym (c.seen_texts-texts.ensures ∙ mine)) large) in
    absurd (cc no)
