use Rattle.std.proofs.Common.{◌≤◌, length, sym, subst}
use Rattle.std.specs.Io.Buffered.{reader_buffer}
use Rattle.lasso_codes.proofs.Stretches.{used_up}
use Rattle.lasso_codes.proofs.streams.Input.consume.Goals as goal

pub returns-clause-left : goal.returns-clause-left
returns-clause-left g c =
    let held = reader_buffer c.self.inside.inner in
    let small = subst (λ v. c.args.count ≤ length v.at_hand) (sym c.self.view_is) c.requires in
    rw (← c.self.view_is) (λ later e. used_up _ _ held later c.args.count c.consume.ensures.bytes small e)
