use Rattle.std.specs.Str.{is_utf8}
use Rattle.lasso_c.proofs.TextFacts.{text_account, text_limit, text_memory, text_no_code, text_no_interner, text_not_utf8, text_present}
use Rattle.lasso_c.proofs.interner.lasso_intern.Goals as goal

pub returns-clause-account : goal.returns-clause-account
returns-clause-account c = text_account c.intern_text.new.lasso.seat.value c.args.text.now c.intern_text.result (is_utf8 c.args.text.now) c.args.lasso.now.seat.value c.intern_text.ensures.outcome

pub returns-clause-present : goal.returns-clause-present
returns-clause-present c = text_present c.intern_text.new.lasso.seat.value c.args.text.now c.intern_text.result (is_utf8 c.args.text.now) c.args.lasso.now.seat.value c.intern_text.ensures.outcome

pub returns-clause-not_utf8 : goal.returns-clause-not_utf8
returns-clause-not_utf8 c = text_not_utf8 c.intern_text.new.lasso.seat.value c.args.text.now c.intern_text.result (is_utf8 c.args.text.now) c.args.lasso.now.seat.value c.intern_text.ensures.outcome

pub returns-clause-no_interner : goal.returns-clause-no_interner
returns-clause-no_interner c = text_no_interner c.intern_text.new.lasso.seat.value c.args.text.now c.intern_text.result (is_utf8 c.args.text.now) c.args.lasso.now.seat.value c.intern_text.ensures.outcome

pub returns-clause-no_code : goal.returns-clause-no_code
returns-clause-no_code c = text_no_code c.intern_text.new.lasso.seat.value c.args.text.now c.intern_text.result (is_utf8 c.args.text.now) c.args.lasso.now.seat.value c.intern_text.ensures.outcome

pub returns-clause-limit : goal.returns-clause-limit
returns-clause-limit c = text_limit c.intern_text.new.lasso.seat.value c.args.text.now c.intern_text.result (is_utf8 c.args.text.now) c.args.lasso.now.seat.value c.intern_text.ensures.outcome

pub returns-clause-memory : goal.returns-clause-memory
returns-clause-memory c = text_memory c.intern_text.new.lasso.seat.value c.args.text.now c.intern_text.result (is_utf8 c.args.text.now) c.args.lasso.now.seat.value c.intern_text.ensures.outcome
