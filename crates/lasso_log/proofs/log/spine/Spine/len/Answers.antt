use Rattle.lasso_log.specs.Notes.{notes_of, opening_of}
use Rattle.lasso_log.proofs.Reading.{length_read, list_fits}
use Rattle.lasso_log.proofs.log.spine.Spine.len.Goals as goal

pub returns-clause-len : goal.returns-clause-len
returns-clause-len g c =
    let i = c.self.invariant in
    rw (← c.self.view_is) (length_read g.K.Key.key_at (opening_of c.self.inside.seen.log) (notes_of c.self.inside.seen.log) c.self.inside.first c.self.inside.appended i.1 i.2)

pub returns-clause-fits : goal.returns-clause-fits
returns-clause-fits g c =
    let i = c.self.invariant in
    rw (← c.self.view_is) (list_fits g.K.Key.key_at (opening_of c.self.inside.seen.log) (notes_of c.self.inside.seen.log) i.2.1)
