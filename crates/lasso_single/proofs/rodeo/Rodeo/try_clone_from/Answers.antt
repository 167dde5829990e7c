use Rattle.lasso_single.specs.CloneFacts.{CloneFacts}
use Rattle.lasso_single.proofs.CloneFacts.{clone_facts}
use Rattle.lasso_single.proofs.rodeo.Rodeo.try_clone_from.Given.{Over}
use Rattle.lasso_single.proofs.rodeo.Rodeo.try_clone_from.Goals as goal

facts : (g : Over) (c : goal.After-clone_over g) → CloneFacts c.args.self.now c.args.source.now.texts c.clone_over.result c.clone_over.new.self
facts g c = clone_facts c.args.self.now c.clone_over.new.self c.args.source.now.texts c.clone_over.result c.clone_over.ensures

pub returns-clause-texts : goal.returns-clause-texts
returns-clause-texts g c = (facts g c).texts

pub returns-clause-account : goal.returns-clause-account
returns-clause-account g c = (facts g c).account

pub returns-clause-copied : goal.returns-clause-copied
returns-clause-copied g c = (facts g c).copied

pub returns-clause-most : goal.returns-clause-most
returns-clause-most g c = (facts g c).most

pub returns-clause-first : goal.returns-clause-first
returns-clause-first g c = (facts g c).first

pub returns-clause-mark : goal.returns-clause-mark
returns-clause-mark g c = (facts g c).mark

pub returns-clause-reason : goal.returns-clause-reason
returns-clause-reason g c = (facts g c).reason

pub returns-clause-emptied : goal.returns-clause-emptied
returns-clause-emptied g c = (facts g c).emptied

pub returns-clause-uncopied : goal.returns-clause-uncopied
returns-clause-uncopied g c = (facts g c).uncopied

pub returns-clause-limit : goal.returns-clause-limit
returns-clause-limit g c = (facts g c).limit

pub returns-clause-memory : goal.returns-clause-memory
returns-clause-memory g c = (facts g c).memory
