use Rattle.std.proofs.Common.{Ok, List, sym, subst}
use Rattle.lasso_parts.specs.Texts.{Text}
use Rattle.lasso_single.proofs.Copied.{copied_more}
use Rattle.lasso_single.proofs.list_copies.copy_all.Goals as goal

pub copy_text-requires : goal.copy_text-requires
copy_text-requires g c =
    let at = c.requires.taken c.loop-position.position c.text_at.result.now c.text_at.ensures in
    subst (λ (ts : List Text). g.C.CopyTarget.takes ts c.text_at.result.now) (sym c.loop-position.invariant.texts) at

pub loop-position-preserved : goal.loop-position-preserved
loop-position-preserved g c =
    copied_more (g.C.CopyTarget.holds c.args.target.now) (g.T.Texts.list c.args.texts.now) c.loop-position.position c.text_at.result.now (g.C.CopyTarget.holds c.loop-position.target) (Ok c.in_ok-copy_text.field-0) (g.C.CopyTarget.holds c.copy_text.new.self) c.text_at.ensures c.loop-position.invariant c.in_ok-copy_text.ensures
