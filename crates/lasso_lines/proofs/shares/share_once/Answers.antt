use Rattle.std.proofs.Common.{ℕ, ◌<◌, ◌≤◌, ◌∙◌, List, Option, None, inr, refl, sym, subst, arith}
use Rattle.std.specs.Prelude.{IfSome}
use Rattle.lasso_input.specs.Lines.{lines_of}
use Rattle.lasso_single.specs.Coding.{spur_at}
use Rattle.lasso_log.specs.History.{IsLegal}
use Rattle.lasso_log.specs.Views.{InternerId, list_of, seen}
use Rattle.lasso_log.proofs.Lengths.{texts_past}
use Rattle.lasso_lines.specs.Shares.{IsRefusedIn, IsShareOf, NumberedError}
use Rattle.lasso_lines.proofs.Lowest.{AreReached, reached_none, reached_of_worker, all_before}
use Rattle.lasso_lines.proofs.Refusals.{refused_of_worker}
use Rattle.lasso_lines.proofs.ShareLines.{Gathered, gathered_none, gathered_worker, gathered_all}
use Rattle.lasso_lines.proofs.shares.share_once.Goals as goal

pub loop-share-init : goal.loop-share-init
loop-share-init g c =
    let lines = lines_of c.args.lines.now in
    let list = list_of c.args.rodeo.now c.args.pass.now.notes in
    record {
      same = (refl, refl);
      gathered = λ none. subst (λ (cs : List ℕ). Gathered list lines c.args.workers 0 cs) (sym c.new-codes.ensures.items) (gathered_none list lines c.args.workers);
      refused = tt;
      reached = reached_none list lines c.args.workers None;
      legal = subst (λ (i : InternerId). IsLegal spur_at i.opening (seen c.args.pass.now)) c.requires.of c.prove_legal.ensures.legal;
    }

pub loop-share-preserved : goal.loop-share-preserved
loop-share-preserved g c =
    let of = c.args.rodeo.now in
    let lines = lines_of c.args.lines.now in
    let workers = c.args.workers in
    let share = c.loop-share.share in
    let done = c.index-done.result.now in
    let known = c.learn.ensures in
    let after = c.learn.new.self.notes in
    let inside : share < workers = omega (arith, c.loop-share-test.true, c.len-share-end.ensures, c.in-Ok.ensures.len) in
    let each = (c.in-Ok.ensures.each share done inside).1 in
    let gave : IsShareOf of lines share workers done.known done.codes = subst (λ p. IsShareOf of lines share workers p.known p.codes) (sym c.index-done.ensures) each.met in
    record {
      same = (known.same.0 ∙ c.loop-share.invariant.same.0, known.same.1 ∙ c.loop-share.invariant.same.1);
      gathered = λ none.
          let added = c.in_ok-lowest.ensures.added none in
          gathered_worker _ (list_of of c.loop-share.pass.notes) (list_of of done.known.notes) (list_of of after) lines workers share c.loop-share.codes.items done.codes c.add_codes.new.codes.items
          (texts_past of.opening c.loop-share.pass.notes after (known.since.rest, known.since.begins)) (texts_past of.opening done.known.notes after known.known)
          (c.loop-share.invariant.gathered added.0) gave.1 added.1;
      refused =
          refused_of_worker of.opening c.loop-share.pass.notes done.known.notes after lines share workers (known.since.rest, known.since.begins) known.known _ c.loop-share.lowest _ done.codes
          c.loop-share.invariant.refused gave.1 c.in_ok-lowest.ensures.lowest;
      reached =
          reached_of_worker of.opening c.loop-share.pass.notes done.known.notes after lines workers share
          (texts_past of.opening c.loop-share.pass.notes after (known.since.rest, known.since.begins)) (texts_past of.opening done.known.notes after known.known)
          c.loop-share.lowest _ done.codes c.loop-share.invariant.reached gave.1 c.in_ok-lowest.ensures.lowest;
      legal =
          subst (λ (i : InternerId). IsLegal spur_at i.opening (seen c.learn.new.self)) (known.same.1 ∙ c.loop-share.invariant.same.1 ∙ c.requires.of) known.legal;
    }

pub returns-clause-codes : goal.returns-clause-codes
returns-clause-codes g c =
    let lines = lines_of c.args.lines.now in
    gathered_all (list_of c.args.rodeo.now c.loop-share.pass.notes) lines c.args.workers c.loop-share.share c.loop-share.codes.items c.requires.some
    (omega (arith, c.loop-share-test.false, c.len-share-end.ensures, c.in-Ok.ensures.len)) (c.loop-share.invariant.gathered c.in-None.is)

-- the lowest refused line, after all workers
pub returns-in-Some-clause-refused : goal.returns-in-Some-clause-refused
returns-in-Some-clause-refused g c =
    let of = c.args.rodeo.now in
    let lines = lines_of c.args.lines.now in
    let told : NumberedError = (c.in-Some.number, c.in-Some.error) in
    let why : IsRefusedIn of.opening (seen c.loop-share.pass) lines told =
    subst (λ (r : Option NumberedError). IfSome r (IsRefusedIn of.opening (seen c.loop-share.pass) lines)) c.in-Some.is c.loop-share.invariant.refused in
    let reached = subst (AreReached (list_of of c.loop-share.pass.notes) lines c.args.workers c.loop-share.share) c.in-Some.is c.loop-share.invariant.reached in
    let all : c.args.workers ≤ c.loop-share.share = omega (arith, c.loop-share-test.false, c.len-share-end.ensures, c.in-Ok.ensures.len) in
    inr (why, all_before (list_of of c.loop-share.pass.notes) lines c.args.workers c.loop-share.share told.0 told c.requires.some all (omega (arith, why.1, why.2)) refl reached)
