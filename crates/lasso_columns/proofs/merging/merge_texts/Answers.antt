use Rattle.std.proofs.Common.{List, subst, arith}
use Rattle.std.proofs.lemmas.List.{take_all}
use Rattle.lasso_parts.specs.Texts.{Text}
use Rattle.lasso_single.proofs.Coded.{codes_stand}
use Rattle.lasso_single.specs.Codes.{AreCodes}
use Rattle.lasso_columns.proofs.merging.merge_texts.Goals as goal

pub returns-clause-texts : goal.returns-clause-texts
returns-clause-texts g c =
    let put = c.in_ok-encode_list.ensures in
    codes_stand _ _ _ (subst (λ (ts : List Text). AreCodes c.encode_list.new.into.texts ts c.encode_list.new.codes.items) (take_all _ c.args.from.now (omega (arith, put.whole))) put.codes)
