use Rattle.std.proofs.Common.{◌≡◌, ◌∙◌, rules, ap, sym, w32}
use Rattle.std.specs.Int.{from_le_bytes, to_le_bytes}
use Rattle.std.proofs.lemmas.Nat.{le_bytes_4}
use Rattle.lasso_parts.proofs.ReadNumbers.{told_by_number}
use Rattle.lasso_parts.proofs.same.is_same_half.Goals as goal

pub returns : goal.returns
returns c =
    let s = c.args.one.now in
    let t = c.args.other.now in
    told_by_number (to_le_bytes w32) s t _ _ (le_bytes_4 s _ (search rules) (search rules) c.from_le_bytes.ensures) (le_bytes_4 t _ (search rules) (search rules) c.from_le_bytes-2.ensures)
    (λ (e : s ≡ t). c.from_le_bytes.ensures ∙ ap (from_le_bytes w32) e ∙ sym c.from_le_bytes-2.ensures)
