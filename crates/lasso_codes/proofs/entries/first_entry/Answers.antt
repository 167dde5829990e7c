use Rattle.std.proofs.Common.{◌+◌, ◌++◌, drop, sym, ap, ◌∙◌}
use Rattle.lasso_codes.specs.Reading.{cut_entry, on_entry_line}
use Rattle.lasso_codes.proofs.Stretches.{first_cut}
use Rattle.lasso_codes.proofs.entries.first_entry.Goals as goal

pub returns-in-Some-clause-cut : goal.returns-in-Some-clause-cut
returns-in-Some-clause-cut c = λ later.
    let stretch = c.args.stretch.now in
    let len = c.in-Some.len in
    ap (λ b. cut_entry b (stretch ++ later)) c.if-binary.false ∙ ap on_entry_line (first_cut stretch len later c.in-Some.ensures) ∙ ap (λ e. (e, drop (len + 1) stretch ++ later)) (sym c.entry_in.ensures)
