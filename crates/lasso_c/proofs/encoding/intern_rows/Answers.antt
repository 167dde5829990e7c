use Rattle.std.proofs.Common.{ℕ, ◌≡◌, ◌-◌, ◌^◌, ◌≤◌, ◌⊎◌, Some, Ok, length, drop, sym, subst, ◌∙◌, arith}
use Rattle.std.proofs.lemmas.List.{take_at}
use Rattle.lasso_single.specs.Filling.{extend}
use Rattle.lasso_single.specs.Interner.{InternerView}
use Rattle.lasso_single.proofs.Filled.{just_made}
use Rattle.lasso_c.specs.Encoding.{column_refusal}
use Rattle.lasso_parts.specs.Layout.{greatest_offset, layout_texts}
use Rattle.lasso_c.specs.Layout.{column_rows, present_texts}
use Rattle.lasso_c.specs.Interning.{key_of_code, InternsPart}
use Rattle.lasso_c.specs.declared.error.CallError.TheVariants.{NoMemory}
use Rattle.lasso_c.proofs.Columns.{ColumnDone, column_done, column_list, part_err}
use Rattle.lasso_c.proofs.Layouts.{length-layout_texts}
use Rattle.lasso_c.proofs.encoding.intern_rows.Goals as goal

whole : (c : goal.In-Ok) → InternsPart greatest_offset (length c.deref_mut.result.now) c.args.bits.now c.args.bytes.now c.args.offsets.now c.intern_column-progress.result.done c.in_ok-dictionary.dictionary (Ok tt) c.intern_column-progress.new.dictionary
whole c = subst (λ o. InternsPart greatest_offset (length c.deref_mut.result.now) c.args.bits.now c.args.bytes.now c.args.offsets.now c.intern_column-progress.result.done c.in_ok-dictionary.dictionary o c.intern_column-progress.new.dictionary) c.in-Ok.is c.intern_column-progress.ensures.interned

done : (c : goal.In-Ok) → ColumnDone c.args.null c.args.bits.now c.args.bytes.now c.args.offsets.now c.intern_column-progress.new.dictionary.texts c.intern_column-progress.new.codes
done c =
    let room : length c.deref_mut.result.now ≡ length c.args.offsets.now - 1 = omega (arith, c.deref_mut.ensures.len, c.in_ok-codes.ensures.len, c.saturating_sub.ensures) in
    let part = c.intern_column-progress.ensures in
    column_done c.args.null c.args.bits.now c.args.bytes.now c.args.offsets.now c.deref_mut.result.now c.intern_column-progress.result.done c.in_ok-dictionary.dictionary c.intern_column-progress.new.dictionary c.intern_column-progress.new.codes
    c.in_ok-dictionary.ensures.texts room (whole c) part.texts part.codes

pub returns-in-Ok-clause-dictionary : goal.returns-in-Ok-clause-dictionary
returns-in-Ok-clause-dictionary c = (done c).dictionary

pub returns-in-Ok-clause-codes : goal.returns-in-Ok-clause-codes
returns-in-Ok-clause-codes c =
    let all : length c.intern_column-progress.new.codes ≡ c.in_ok-codes.codes.len = omega (arith, c.intern_column-progress.auto.codes, c.deref_mut.ensures.len) in
    take_at c.intern_column-progress.new.codes (drop (length c.intern_column-progress.new.codes) c.in_ok-codes.codes.items) c.in_ok-codes.codes.len all ∙ (done c).codes_of_rows

pub returns-in-Ok-clause-small : goal.returns-in-Ok-clause-small
returns-in-Ok-clause-small c = (done c).small

pub returns-in-Ok-clause-unlimited : goal.returns-in-Ok-clause-unlimited
returns-in-Ok-clause-unlimited c =
    let made = c.in_ok-dictionary.ensures in
    subst (λ (i : InternerView). extend {K = ℕ} key_of_code i (present_texts (column_rows c.args.bits.now c.args.bytes.now c.args.offsets.now)) (Ok tt) c.intern_column-progress.new.dictionary)
    (just_made c.in_ok-dictionary.dictionary 4096 (2 ^ 64 - 1) made.texts made.account made.made)
    (column_list (length c.deref_mut.result.now) c.args.bits.now c.args.bytes.now c.args.offsets.now c.intern_column-progress.result.done c.in_ok-dictionary.dictionary c.intern_column-progress.new.dictionary (whole c))

pub returns-in-Err-clause-refused : goal.returns-in-Err-clause-refused
returns-in-Err-clause-refused c =
    let bytes = c.args.bytes.now in
    let offsets = c.args.offsets.now in
    let part = subst (λ o. InternsPart greatest_offset (length c.deref_mut.result.now) c.args.bits.now bytes offsets c.intern_column-progress.result.done c.in_ok-dictionary.dictionary o c.intern_column-progress.new.dictionary) c.in-Err.is c.intern_column-progress.ensures.interned in
    let room : length (layout_texts bytes offsets) ≤ length c.deref_mut.result.now = omega (arith, c.deref_mut.ensures.len, c.in_ok-codes.ensures.len, c.saturating_sub.ensures, length-layout_texts bytes offsets) in
    subst (λ r. (column_refusal c.args.bits.now bytes offsets ≡ Some r) ⊎ (r ≡ NoMemory)) (sym c.of_column.ensures)
    (part_err (length c.deref_mut.result.now) c.args.bits.now bytes offsets c.intern_column-progress.result.done c.in_ok-dictionary.dictionary c.intern_column-progress.new.dictionary c.in-Err.refusal room part)
