use Rattle.std.proofs.Common.{ℕ, ◌≡◌, ◌==◌, List, ◌++◌, sym, subst}
use Rattle.std.specs.Io.Buffered.{reader_buffer, reader_capacity, reader_inner}
use Rattle.lasso_codes.proofs.Stretches.{held_first}
use Rattle.lasso_codes.proofs.streams.Input.buffered.Goals as goal

pub returns-clause-first : goal.returns-clause-first
returns-clause-first g c =
    let input = c.self.inside.inner in
    rw (← c.self.view_is) (λ bytes e.
    subst (λ bs. (later : List ℕ) × (bytes ≡ bs ++ later)) (sym c.buffer.ensures) (held_first (reader_capacity input == 0) (reader_buffer input) (g.R.Read.remaining (reader_inner input)) bytes e))
