-- What a seat and a handle end as that have lent their interner.
use Rattle.std.specs.Prelude.{◌≡◌, ⊤, true, refl, Option, Some}
use Rattle.std.specs.Borrow.{Lends, LendsIf, follows_so, MutBor, Fml}
use mathlib.Core.Option.{none}
use Rattle.lasso_c.specs.declared.seat.Seat.{Seat}
use Rattle.lasso_c.specs.declared.handle.Lasso.{Lasso}
use Rattle.lasso_c.specs.contracts.seat.Seat as seat
use Rattle.lasso_c.specs.contracts.handle.Lasso as handle
use Rattle.lasso_c.specs.Seeded.{the_row}

-- a seat that holds this interner
abbrev pub with_interner : Seat → the_row.Denot → Seat
with_interner s interner = record s { value = Some interner }

-- a seat ends with the last value of what r leads to
abbrev pub LendsInterner : MutBor Seat → MutBor the_row.Denot → Fml
LendsInterner s r = Lends seat.the_row the_row s r (with_interner s.now)

-- a handle that holds this interner
abbrev pub holding : Lasso → the_row.Denot → Lasso
holding l interner = record { seat = with_interner l.seat interner; live = true; agree = refl }

-- a handle ends with the last value of what r leads to, and as it was if it lent none
abbrev pub LendsHeld : MutBor Lasso → Option (MutBor the_row.Denot) → Fml
LendsHeld l r = LendsIf handle.the_row the_row l r (holding l.now) l.now

-- a handle ends with what it held, after it lent texts
abbrev pub KeepsHeld : MutBor Lasso → Fml
KeepsHeld l = follows_so handle.the_row handle.the_row l.ghost_name none (λ _ _. ⊤) (λ ended. ended.seat.value ≡ l.now.seat.value)
