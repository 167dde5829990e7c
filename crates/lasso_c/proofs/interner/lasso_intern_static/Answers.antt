use Rattle.std.specs.Str.{is_utf8}
use Rattle.lasso_c.proofs.StaticFacts.{static_account, static_memory, static_no_code, static_no_interner, static_no_limit, static_not_utf8, static_present}
use Rattle.lasso_c.proofs.interner.lasso_intern_static.Goals as goal

pub returns-clause-account : goal.returns-clause-account
returns-clause-account c = static_account c.intern_static_text.new.lasso.seat.value c.args.text.now c.intern_static_text.result (is_utf8 c.args.text.now) c.args.lasso.now.seat.value c.intern_static_text.ensures.outcome

pub returns-clause-present : goal.returns-clause-present
returns-clause-present c = static_present c.intern_static_text.new.lasso.seat.value c.args.text.now c.intern_static_text.result (is_utf8 c.args.text.now) c.args.lasso.now.seat.value c.intern_static_text.ensures.outcome

pub returns-clause-not_utf8 : goal.returns-clause-not_utf8
returns-clause-not_utf8 c = static_not_utf8 c.intern_static_text.new.lasso.seat.value c.args.text.now c.intern_static_text.result (is_utf8 c.args.text.now) c.args.lasso.now.seat.value c.intern_static_text.ensures.outcome

pub returns-clause-no_interner : goal.returns-clause-no_interner
returns-clause-no_interner c = static_no_interner c.intern_static_text.new.lasso.seat.value c.args.text.now c.intern_static_text.result (is_utf8 c.args.text.now) c.args.lasso.now.seat.value c.intern_static_text.ensures.outcome

pub returns-clause-no_code : goal.returns-clause-no_code
returns-clause-no_code c = static_no_code c.intern_static_text.new.lasso.seat.value c.args.text.now c.intern_static_text.result (is_utf8 c.args.text.now) c.args.lasso.now.seat.value c.intern_static_text.ensures.outcome

pub returns-clause-no_limit : goal.returns-clause-no_limit
returns-clause-no_limit c = static_no_limit c.intern_static_text.new.lasso.seat.value c.args.text.now c.intern_static_text.result (is_utf8 c.args.text.now) c.args.lasso.now.seat.value c.intern_static_text.ensures.outcome

pub returns-clause-memory : goal.returns-clause-memory
returns-clause-memory c = static_memory c.intern_static_text.new.lasso.seat.value c.args.text.now c.intern_static_text.result (is_utf8 c.args.text.now) c.args.lasso.now.seat.value c.intern_static_text.ensures.outcome
