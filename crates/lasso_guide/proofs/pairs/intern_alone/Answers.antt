-- The key is the name's in what the pass had seen at the end of the call, and that is what it handed out.
use Rattle.std.proofs.Common.{List, ◌∙◌, sym, subst}
use Rattle.lasso.specs.Notes.{NoteView, history}
use Rattle.lasso.specs.Replies.{Copied}
use Rattle.lasso.specs.Views.{seen}
use Rattle.lasso.specs.CallerLaws.{HasKey}
use Rattle.lasso.proofs.CallerLaws.{tells_keys}
use Rattle.lasso_guide.proofs.pairs.intern_alone.Goals as goal

pub returns : goal.returns
returns g c =
    let opening = c.args.rodeo.now.opening in
    let key_at = g.K.Key.key_at in
    let told = c.in_ok-key.ensures in
    let named = (tells_keys key_at opening (seen c.pass-pass.result) (seen c.try_get_or_intern_as.new.pass) c.pass-pass.result.number).interned Copied c.args.name.now c.in_ok-key.key told.call in (
      c.snapshot.ensures.0 ∙ told.same.1 ∙ c.pass-pass.ensures.of,
      subst (λ (notes : List NoteView). HasKey key_at opening (history notes) c.args.name.now c.in_ok-key.key) (sym c.snapshot.ensures.1) named,
    )
