use Rattle.std.proofs.Common.{◌≡◌, ◌∙◌, ℕ, ◌+◌, ◌-◌, ◌≤◌, List, ◌++◌, length, take, drop, ap, arith}
use Rattle.core.specs.Mem.Slots.{slots_items, slots_len}
use Rattle.lasso_parts.proofs.Ends.{written_in}
use Rattle.lasso_parts.proofs.bucket.block.ByteBlock.write_ends.Goals as goal

pub returns-clause-items : goal.returns-clause-items
returns-clause-items g c =
    let t = c.args.bytes.now in
    let last = length t - g.row.N in
    let again : List ℕ = slots_items c.copy_in.new.self in
    let row : List ℕ = slots_items c.self.inside.slots in
    let head = ap (λ (ys : List ℕ). take c.args.start row ++ ys ++ drop (c.args.start + length ys) row) c.first.ensures in
    let tail = ap (λ (ys : List ℕ). take (c.args.start + last) again ++ ys ++ drop (c.args.start + last + length ys) again) c.last.ensures in
    let slots = c.self.inside.slots in
    let fits : c.args.start + length t ≤ length row = omega (arith, c.requires.room, ap slots_len c.self.view_is, slots.ok.0) in
    written_in row again (slots_items c.copy_in-2.new.self) t c.args.start g.row.N last fits (omega (arith, c.requires.ends)) (omega (arith, c.requires.all))
    (c.copy_in.ensures.items ∙ head) (c.copy_in-2.ensures.items ∙ tail)
    ∙ ap (λ (xs : List ℕ). take c.args.start xs ++ t ++ drop (c.args.start + length t) xs) (ap slots_items c.self.view_is)
