use Rattle.std.proofs.Common.{ℕ, ◌≡◌, ◌+◌, ◌-◌, ◌≤◌, List, true, Option, None, Some, Ok, Err, length, get_or, take, ap, sym, subst, ◌∙◌, arith}
use Rattle.std.proofs.lemmas.Bool.Decides.{nat_tests}
use Rattle.lasso_single.specs.Interner.{InternerView}
use Rattle.lasso_c.specs.Bitmap.{bits_fit}
use Rattle.lasso_c.specs.Layout.{column_rows, over}
use Rattle.lasso_c.specs.Encoding.{row_codes}
use Rattle.lasso_c.specs.Interning.{batch_start_fault}
use Rattle.lasso_c.specs.declared.error.CallError.{CallError}
use Rattle.lasso_c.proofs.Layouts.{length-layout_texts}
use Rattle.lasso_c.proofs.BatchSteps.{next_done, none_done}
use Rattle.lasso_c.proofs.LayoutSteps.{Begun, next_unchanged, none_begun_at, not_begun_at, next_begun, next_ends, all_done, roomed}
use Rattle.lasso_c.proofs.batches.intern_column.Goals as goal

-- why the batch is not begun, by its offsets
fault_is : (greatest : ℕ) (bits bytes offsets : List ℕ) (first count room : ℕ) (fault : Option CallError) → first ≡ get_or offsets 0 0 → count ≡ length offsets → fault ≡ batch_start_fault greatest bits bytes first (count - 1) room
    → batch_start_fault greatest bits bytes (get_or offsets 0 0) (length offsets - 1) room ≡ fault
fault_is greatest bits bytes offsets first count room fault is all known =
    ap (λ n. batch_start_fault greatest bits bytes n (length offsets - 1) room) (sym is) ∙ ap (λ n. batch_start_fault greatest bits bytes first (n - 1) room) (sym all) ∙ sym known

pub returns-in-Err-code_at-clause-interned : goal.returns-in-Err-code_at-clause-interned
returns-in-Err-code_at-clause-interned g c =
    let bits = c.args.bits.now in
    let bytes = c.args.bytes.now in
    let offsets = (g.O.Offset.numbers c.args.offsets.now) in
    let rows = (length offsets - 1) in
    let whole : length offsets ≡ rows + 1 = omega arith in
    let good = fault_is g.O.Offset.GREATEST bits bytes offsets c.number-first.result c.count-count.result (length c.args.codes.now) None c.number-first.ensures c.count-count.ensures c.in_default.ensures in
    let room : rows ≤ length c.args.codes.now = grind (arith, nat_tests, good) in
    let bit : bits_fit bits rows ≡ true = grind (arith, nat_tests, good) in
    roomed g.O.Offset.GREATEST (length c.args.codes.now) bits bytes offsets c.loop-at.at c.args.dictionary.now (Err c.in-Err-code_at.refusal) c.code_at.new.dictionary (omega arith) bit
    (next_ends g.O.Offset.GREATEST bits c.args.null bytes offsets c.loop-at.at c.args.dictionary.now c.loop-at.dictionary c.code_at.new.dictionary c.loop-at.invariant.begun (omega arith) c.in-Err-code_at.refusal c.in-Err-code_at.ensures)

pub loop-at-preserved : goal.loop-at-preserved
loop-at-preserved g c =
    let bits = c.args.bits.now in
    let bytes = c.args.bytes.now in
    let offsets = (g.O.Offset.numbers c.args.offsets.now) in
    let at = c.loop-at.at in
    let code = c.in-Ok.code in
    let whole : length offsets ≡ (length offsets - 1) + 1 = omega arith in
    let good = fault_is g.O.Offset.GREATEST bits bytes offsets c.number-first.result c.count-count.result (length c.args.codes.now) None c.number-first.ensures c.count-count.ensures c.in_default.ensures in
    let room : (length offsets - 1) ≤ length c.args.codes.now = grind (arith, nat_tests, good) in
    let next = next_begun g.O.Offset.GREATEST bits c.args.null bytes offsets at c.args.dictionary.now c.loop-at.dictionary c.code_at.new.dictionary c.loop-at.invariant.begun (omega arith) code c.in-Ok.ensures in
    record {
      codes = next_done c.args.null bits bytes offsets c.args.dictionary.now.texts at c.args.codes.now c.loop-at.dictionary.texts c.loop-at.codes code c.code_at.new.dictionary.texts c.loop-at.invariant.codes (omega arith) (omega arith) next.1;
      begun = next.0;
    }

pub returns-clause-interned : goal.returns-clause-interned
returns-clause-interned g c =
    let bits = c.args.bits.now in
    let bytes = c.args.bytes.now in
    let offsets = g.O.Offset.numbers c.args.offsets.now in
    let rows = length offsets - 1 in
    let done = c.count-count.result - 1 in
    let all : c.count-count.result ≡ length offsets = c.count-count.ensures in
    let whole : length offsets ≡ done + 1 = omega arith in
    let good = fault_is g.O.Offset.GREATEST bits bytes offsets c.number-first.result c.count-count.result (length c.args.codes.now) None c.number-first.ensures c.count-count.ensures c.in_default.ensures in
    let room : rows ≤ length c.args.codes.now = grind (arith, nat_tests, good) in
    let bit : bits_fit bits rows ≡ true = grind (arith, nat_tests, good) in
    let here : c.loop-at.at ≡ done = omega arith in
    roomed g.O.Offset.GREATEST (length c.args.codes.now) bits bytes offsets done c.args.dictionary.now (Ok tt) c.loop-at.dictionary (omega arith) bit
    (all_done g.O.Offset.GREATEST bits bytes offsets done c.args.dictionary.now c.loop-at.dictionary (subst (λ n. Begun g.O.Offset.GREATEST bits bytes offsets n c.args.dictionary.now c.loop-at.dictionary) here c.loop-at.invariant.begun) whole (omega (arith, length-layout_texts bytes offsets)))

pub loop-at-init : goal.loop-at-init
loop-at-init g c =
    let bits = c.args.bits.now in
    let bytes = c.args.bytes.now in
    let offsets = g.O.Offset.numbers c.args.offsets.now in
    let good = fault_is g.O.Offset.GREATEST bits bytes offsets c.number-first.result c.count-count.result (length c.args.codes.now) None c.number-first.ensures c.count-count.ensures c.in_default.ensures in
    record {
      codes = none_done c.args.null c.args.dictionary.now.texts c.args.codes.now;
      begun = none_begun_at g.O.Offset.GREATEST c.args.bits.now c.args.bytes.now offsets c.args.dictionary.now (omega arith) (grind (arith, nat_tests, good));
    }

pub returns-in-Err-clause-interned : goal.returns-in-Err-clause-interned
returns-in-Err-clause-interned g c =
    not_begun_at g.O.Offset.GREATEST (length c.args.codes.now) c.args.bits.now c.args.bytes.now (g.O.Offset.numbers c.args.offsets.now) c.args.dictionary.now c.in-Err.refusal (omega arith)
    (fault_is g.O.Offset.GREATEST c.args.bits.now c.args.bytes.now (g.O.Offset.numbers c.args.offsets.now) c.number-first.result c.count-count.result (length c.args.codes.now) (Some c.in-Err.refusal) c.number-first.ensures c.count-count.ensures c.in-Err.ensures)

pub returns-in-Err-code_at-clause-texts : goal.returns-in-Err-code_at-clause-texts
returns-in-Err-code_at-clause-texts g c =
    ap (λ (i : InternerView). i.texts) (next_unchanged g.O.Offset.GREATEST c.args.bits.now c.args.null c.args.bytes.now (g.O.Offset.numbers c.args.offsets.now) c.loop-at.at c.loop-at.dictionary c.code_at.new.dictionary c.in-Err-code_at.refusal c.in-Err-code_at.ensures)
    ∙ c.loop-at.invariant.codes.dictionary

pub returns-in-Err-code_at-clause-codes : goal.returns-in-Err-code_at-clause-codes
returns-in-Err-code_at-clause-codes g c =
    let same = next_unchanged g.O.Offset.GREATEST c.args.bits.now c.args.null c.args.bytes.now (g.O.Offset.numbers c.args.offsets.now) c.loop-at.at c.loop-at.dictionary c.code_at.new.dictionary c.in-Err-code_at.refusal c.in-Err-code_at.ensures in
    c.loop-at.invariant.codes.written
    ∙ ap (λ (i : InternerView). over (row_codes c.args.null i.texts (take c.loop-at.at (column_rows c.args.bits.now c.args.bytes.now (g.O.Offset.numbers c.args.offsets.now)))) c.args.codes.now) (sym same)
