use Rattle.std.proofs.Common.{◌∙◌, ap, is_some, refl, sym}
use Rattle.lasso_columns.proofs.PartLists.{interns_found}
use Rattle.lasso_columns.proofs.Added.{counted_found}
use Rattle.lasso_columns.proofs.Rest.{found_key}
use Rattle.lasso_columns.proofs.counts.counting.add_text.Goals as goal

pub returns-clause-counted : goal.returns-clause-counted
returns-clause-counted g c =
    let list = c.args.rodeo.now.texts in
    let lengths = sym c.args.counts.now.ok.0 ∙ c.requires.lengths in
    let found = sym c.in-Some.ensures.value in
    let here = found_key c.args.rodeo.now c.args.text.now (ap is_some found) in
    let is = counted_found list c.args.counts.now.items _ c.args.text.now c.in-Some.key c.into_usize.result c.index_mut.result.now lengths found c.into_usize.ensures c.index_mut.ensures.value refl in
    ((here.1, interns_found c.args.rodeo.now c.args.text.now here), is)
