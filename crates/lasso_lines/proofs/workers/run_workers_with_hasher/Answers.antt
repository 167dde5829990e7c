use Rattle.std.proofs.Common.{ℕ, ◌++◌, ◌∙◌, List, ap, sym, subst}
use Rattle.std.proofs.lemmas.Result.{err_from_is_err_and}
use Rattle.lasso_parts.specs.Texts.{Text}
use Rattle.lasso_single.specs.Coding.{spur_at}
use Rattle.lasso_input.specs.Lines.{lines_of}
use Rattle.lasso_log.specs.History.{Totals, IsLegal}
use Rattle.lasso_log.specs.Views.{list_of, seen}
use Rattle.lasso_lines.specs.Explained.{IsExplainedIn}
use Rattle.lasso_lines.specs.LineFaults.{AreTexts, IsFaultOf}
use Rattle.lasso_lines.specs.Shares.{AreCodesOf}
use Rattle.lasso_lines.proofs.Explaining.{no_interner_explained, input_explained, write_explained, end_explained}
use Rattle.lasso_lines.proofs.FirstFaults.{no_interner, input_fault_is, end_fault_is, where_ok}
use Rattle.lasso_lines.proofs.Known.{only_grows_then}
use Rattle.lasso_lines.proofs.Named.{writes_lines, begins_lines}
use Rattle.lasso_lines.proofs.workers.run_workers_with_hasher.Goals as goal

pub returns-clause-lines : goal.returns-clause-lines
returns-clause-lines g c = λ input left.
    let list = list_of c.in_ok-rodeo.rodeo c.intern_lines.new.pass.notes in
    let whole = c.deref-2.ensures.value ∙ c.in_ok-read_all.ensures.bytes input left ∙ ap (λ bs. bs ++ input) c.new-input.ensures.items in
    let of_lines = subst (λ (ls : List Text). AreCodesOf list ls c.in_ok-codes.codes.items) (ap lines_of whole) c.in_ok-codes.ensures.codes in
    let coded = subst (λ (cs : List ℕ). AreCodesOf list (lines_of input) cs) (sym c.deref-3.ensures.value) of_lines in
    writes_lines list _ (lines_of input) _ c.write_in_order.ensures.grows coded _ _ _ c.write_in_order.result c.flush_all.ensures.written c.write_in_order.ensures.texts

pub returns-clause-begins : goal.returns-clause-begins
returns-clause-begins g c = λ input left.
    let list = list_of c.in_ok-rodeo.rodeo c.intern_lines.new.pass.notes in
    let whole = c.deref-2.ensures.value ∙ c.in_ok-read_all.ensures.bytes input left ∙ ap (λ bs. bs ++ input) c.new-input.ensures.items in
    let of_lines = subst (λ (ls : List Text). AreCodesOf list ls c.in_ok-codes.codes.items) (ap lines_of whole) c.in_ok-codes.ensures.codes in
    let coded = subst (λ (cs : List ℕ). AreCodesOf list (lines_of input) cs) (sym c.deref-3.ensures.value) of_lines in
    begins_lines list _ (lines_of input) _ c.write_in_order.ensures.grows coded _ _ _ c.write_in_order.result c.flush_all.ensures.written c.write_in_order.ensures.begins

pub returns-clause-delivered : goal.returns-clause-delivered
returns-clause-delivered g c = only_grows_then _ _ _ c.flush_all.ensures.delivered c.write_in_order.ensures.delivered

-- the pending bytes could not be written
pub returns-in_err-flush_all-clause-refused : goal.returns-in_err-flush_all-clause-refused
returns-in_err-flush_all-clause-refused g c = λ input left.
    let p = err_from_is_err_and c.from_residual.result c.from_residual.ensures.1 in
    rw (p.1, p.2) (write_explained c.args.limits (lines_of input) _ c.in_err-flush_all.ensures.faults)

-- the input could not be read
pub returns-in_err-read_all-clause-fault : goal.returns-in_err-read_all-clause-fault
returns-in_err-read_all-clause-fault g c = λ input left.
    let p = err_from_is_err_and c.from_residual-in_err-read_all.result c.from_residual-in_err-read_all.ensures.1 in
    rw (p.1, p.2) (input_fault_is (lines_of input) _ c.in_err-read_all.ensures.faults)

pub returns-in_err-read_all-clause-refused : goal.returns-in_err-read_all-clause-refused
returns-in_err-read_all-clause-refused g c = λ input left.
    let p = err_from_is_err_and c.from_residual-in_err-read_all.result c.from_residual-in_err-read_all.ensures.1 in
    rw (p.1, p.2) (input_explained c.args.limits (lines_of input) _ c.in_err-read_all.ensures.faults)

-- out of memory for the interner
pub returns-in_err-rodeo-clause-fault : goal.returns-in_err-rodeo-clause-fault
returns-in_err-rodeo-clause-fault g c = λ input left.
    let p = err_from_is_err_and c.from_residual-in_err-rodeo.result c.from_residual-in_err-rodeo.ensures.1 in
    rw (p.1, p.2) (no_interner (lines_of input) _ c.in_err-rodeo.ensures.fault)

pub returns-in_err-rodeo-clause-refused : goal.returns-in_err-rodeo-clause-refused
returns-in_err-rodeo-clause-refused g c = λ input left.
    let p = err_from_is_err_and c.from_residual-in_err-rodeo.result c.from_residual-in_err-rodeo.ensures.1 in
    rw (p.1, p.2) (no_interner_explained c.args.limits (lines_of input) _ c.in_err-rodeo.ensures.fault)

-- a line is faulty
pub returns-in_err-codes-clause-fault : goal.returns-in_err-codes-clause-fault
returns-in_err-codes-clause-fault g c = λ input left.
    let p = err_from_is_err_and c.from_residual-in_err-codes.result c.from_residual-in_err-codes.ensures.1 in
    let whole = c.deref-2.ensures.value ∙ c.in_ok-read_all.ensures.bytes input left ∙ ap (λ bs. bs ++ input) c.new-input.ensures.items in
    rw (p.1, p.2) (subst (λ (bs : List ℕ). IsFaultOf (lines_of bs) c.in_err-codes.field-0.0) whole c.in_err-codes.ensures.told)

-- the history that the pass has seen explains it
pub returns-in_err-codes-clause-refused : goal.returns-in_err-codes-clause-refused
returns-in_err-codes-clause-refused g c = λ input left.
    let p = err_from_is_err_and c.from_residual-in_err-codes.result c.from_residual-in_err-codes.ensures.1 in
    let whole = c.deref-2.ensures.value ∙ c.in_ok-read_all.ensures.bytes input left ∙ ap (λ bs. bs ++ input) c.new-input.ensures.items in
    let past = seen c.intern_lines.new.pass in
    let fault = c.in_err-codes.field-0.0 in
    let of_input = subst (λ (bs : List ℕ). IsExplainedIn c.in_ok-rodeo.rodeo.opening past (lines_of bs) fault) whole c.in_err-codes.ensures.refused in
    rw (p.1, p.2) (
      past,
      subst (λ (o : Totals). IsLegal spur_at o past) c.in_ok-rodeo.ensures.opening c.intern_lines.ensures.legal,
      subst (λ (o : Totals). IsExplainedIn o past (lines_of input) fault) c.in_ok-rodeo.ensures.opening of_input,
    )

-- the lines could not be written
pub returns-clause-fault : goal.returns-clause-fault
returns-clause-fault g c = λ input left. end_fault_is (lines_of input) c.write_in_order.result c.write_in_order.ensures.faults

pub returns-clause-refused : goal.returns-clause-refused
returns-clause-refused g c = λ input left. end_explained c.args.limits (lines_of input) c.write_in_order.result c.write_in_order.ensures.faults

pub returns-clause-texts : goal.returns-clause-texts
returns-clause-texts g c = λ input left.
    let whole = c.deref-2.ensures.value ∙ c.in_ok-read_all.ensures.bytes input left ∙ ap (λ bs. bs ++ input) c.new-input.ensures.items in
    where_ok (AreTexts (lines_of input)) c.write_in_order.result (subst (λ (bs : List ℕ). AreTexts (lines_of bs)) whole c.in_ok-codes.ensures.texts)
