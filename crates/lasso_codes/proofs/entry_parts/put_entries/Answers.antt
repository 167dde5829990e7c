use Rattle.std.proofs.Common.{ℕ, ◌≡◌, ◌≤◌, ◌+◌, ◌*◌, List, length, take, get_or, refl, ap, ◌∙◌, arith}
use Rattle.std.proofs.lemmas.List.{take_all, take_more}
use Rattle.lasso_codes.specs.Columns.{entries_of, entry_at, entry_bytes}
use Rattle.lasso_codes.proofs.Flat.{flat_then}
use Rattle.lasso_codes.proofs.entry_parts.put_entries.Goals as goal

pub loop-number-preserved : goal.loop-number-preserved
loop-number-preserved c =
    let at = c.loop-number in
    let numbers = c.args.numbers.now in
    let i = at.number-index in
    let put = c.put_entry-filled in
    let bytes : ℕ → List ℕ = λ n. entry_bytes c.args.binary (entry_at n) in
    record {
      fits = omega (arith, put.ensures.within, at.invariant.fits);
      long = put.ensures.len ∙ at.invariant.long;
      put = put.ensures.put ∙ flat_then bytes numbers i (get_or numbers i 0) (take_more numbers i 0 c.loop-number-test.true) (take at.filled at.bytes) (bytes (get_or numbers i 0)) at.invariant.put refl;
    }

pub returns : goal.returns
returns c =
    let at = c.loop-number in
    let numbers = c.args.numbers.now in
    let all = take_all at.number-index numbers c.loop-number-test.false in
    let within : at.filled ≤ length at.bytes = omega (arith, at.invariant.fits, at.invariant.long, c.requires, c.loop-number-test.false) in
    (within, at.invariant.put ∙ ap (λ ns. entries_of c.args.binary ns) all)
