use Rattle.std.proofs.Common.{length, ap, arith}
use Rattle.std.proofs.lemmas.Result.{err_from_is_err_and}
use Rattle.lasso_single.proofs.Encoded.{told_list, told_codes}
use Rattle.lasso_columns.proofs.EncodedLines.{LinesSoFar, lines_begin, lines_push, lines_still, told_texts, told_next, told_fault}
use Rattle.lasso_columns.specs.Faults.{LineMayLackMemory}
use Rattle.lasso_columns.proofs.encoding.encode_each_line.Given.{Over}
use Rattle.lasso_columns.proofs.encoding.encode_each_line.Goals as goal

-- encoding ended at a line
stopped : (g : Over) (c : goal.After-from_residual g) → LinesSoFar c.args.rodeo.now c.args.bytes.now c.args.codes.now.items c.loop-line.number c.loop-line.lines c.encode_line.new.rodeo c.encode_line.new.codes.items
stopped g c =
    let told = c.in_err-encode_line.ensures in
    lines_still c.args.rodeo.now c.loop-line.rodeo c.encode_line.new.rodeo c.args.bytes.now c.args.codes.now.items c.loop-line.number c.loop-line.lines c.loop-line.codes.items c.encode_line.new.codes.items c.loop-line.invariant.lines told.0 told.1

pub returns-in_err-encode_line-clause-list : goal.returns-in_err-encode_line-clause-list
returns-in_err-encode_line-clause-list g c = let lines = stopped g c in told_list _ _ _ lines.split _ _ _ _ lines.so_far

pub returns-in_err-encode_line-clause-codes : goal.returns-in_err-encode_line-clause-codes
returns-in_err-encode_line-clause-codes g c = let lines = stopped g c in told_codes _ _ _ lines.split _ _ _ _ lines.so_far

pub returns-in_err-encode_line-clause-texts : goal.returns-in_err-encode_line-clause-texts
returns-in_err-encode_line-clause-texts g c = told_texts _ _ _ _ _ _ _ (stopped g c)

pub returns-in_err-encode_line-clause-fault : goal.returns-in_err-encode_line-clause-fault
returns-in_err-encode_line-clause-fault g c =
    let p = err_from_is_err_and c.from_residual.result c.from_residual.ensures.1 in
    let told = c.in_err-encode_line.ensures in
    rw (p.1, p.2) (told_fault _ _ _ _ _ _ _ (stopped g c) c.in-Some.line c.next_line.new.self _ c.in-Some.ensures.lines (rw (told.0) told.2))

pub returns-in_err-encode_line-clause-memory : goal.returns-in_err-encode_line-clause-memory
returns-in_err-encode_line-clause-memory g c =
    let p = err_from_is_err_and c.from_residual.result c.from_residual.ensures.1 in
    let told = c.in_err-encode_line.ensures in
    rw (p.1, p.2) (told_next _ _ _ _ _ _ _ (stopped g c) (λ line. LineMayLackMemory c.encode_line.new.rodeo c.encode_line.new.codes line c.in_err-encode_line.field-0.0) c.in-Some.line c.next_line.new.self c.in-Some.ensures.lines (rw (told.0) told.3))

pub loop-line-init : goal.loop-line-init
loop-line-init g c = record {
  lines = lines_begin c.args.rodeo.now c.args.bytes.now c.args.codes.now.items c.new-lines.result c.new-lines.ensures;
  fits = omega (arith, ap length c.new-lines.ensures);
}

pub loop-line-preserved : goal.loop-line-preserved
loop-line-preserved g c =
    let told = c.in_ok-encode_line.ensures in record {
      lines = lines_push c.args.rodeo.now c.loop-line.rodeo c.encode_line.new.rodeo c.args.bytes.now c.args.codes.now.items c.loop-line.number c.loop-line.lines c.loop-line.codes.items c.in-Some.line c.next_line.new.self told.1.0 told.2.0 c.encode_line.new.codes.items c.loop-line.invariant.lines c.in-Some.ensures.lines told.0 told.1.1 told.2.1 told.2.2;
      fits = omega (arith, c.in-Some.ensures.less, c.loop-line.invariant.fits);
    }

pub returns-clause-list : goal.returns-clause-list
returns-clause-list g c = let lines = c.loop-line.invariant.lines in told_list _ _ _ lines.split _ _ _ _ lines.so_far

pub returns-clause-codes : goal.returns-clause-codes
returns-clause-codes g c = let lines = c.loop-line.invariant.lines in told_codes _ _ _ lines.split _ _ _ _ lines.so_far

pub returns-clause-texts : goal.returns-clause-texts
returns-clause-texts g c = told_texts _ _ _ _ _ _ _ c.loop-line.invariant.lines
