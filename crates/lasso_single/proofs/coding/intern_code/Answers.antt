use Rattle.lasso_single.proofs.InternedCode.{code_account, code_appended, code_copied, code_limit, code_memory, code_no_key, code_origin, code_present, code_unchanged}
use Rattle.lasso_single.proofs.coding.intern_code.Goals as goal

pub returns-clause-present : goal.returns-clause-present
returns-clause-present g c = code_present c.args.rodeo.now c.intern_code_next.new.rodeo c.args.text.now c.intern_code_next.result c.intern_code_next.ensures.interns

pub returns-clause-appended : goal.returns-clause-appended
returns-clause-appended g c = code_appended c.args.rodeo.now c.intern_code_next.new.rodeo c.args.text.now c.intern_code_next.result c.intern_code_next.ensures.interns

pub returns-clause-account : goal.returns-clause-account
returns-clause-account g c = code_account c.args.rodeo.now c.intern_code_next.new.rodeo c.args.text.now c.intern_code_next.result c.intern_code_next.ensures.interns

pub returns-clause-copied : goal.returns-clause-copied
returns-clause-copied g c = code_copied c.args.rodeo.now c.intern_code_next.new.rodeo c.args.text.now c.intern_code_next.result c.intern_code_next.ensures.interns

pub returns-clause-origin : goal.returns-clause-origin
returns-clause-origin g c = code_origin c.args.rodeo.now c.intern_code_next.new.rodeo c.args.text.now c.intern_code_next.result c.intern_code_next.ensures.interns

pub returns-clause-unchanged : goal.returns-clause-unchanged
returns-clause-unchanged g c = code_unchanged c.args.rodeo.now c.intern_code_next.new.rodeo c.args.text.now c.intern_code_next.result c.intern_code_next.ensures.interns

pub returns-clause-no_key : goal.returns-clause-no_key
returns-clause-no_key g c = code_no_key c.args.rodeo.now c.intern_code_next.new.rodeo c.args.text.now c.intern_code_next.result c.intern_code_next.ensures.interns

pub returns-clause-limit : goal.returns-clause-limit
returns-clause-limit g c = code_limit c.args.rodeo.now c.intern_code_next.new.rodeo c.args.text.now c.intern_code_next.result c.intern_code_next.ensures.interns

pub returns-clause-memory : goal.returns-clause-memory
returns-clause-memory g c = code_memory c.args.rodeo.now c.intern_code_next.new.rodeo c.args.text.now c.intern_code_next.result c.intern_code_next.ensures.interns
