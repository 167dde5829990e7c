-- What a seat and a handle end as of a shared interner that have lent what they hold.
use Rattle.std.specs.Prelude.{◌≡◌, ⊤, true, refl, Option, Some}
use Rattle.std.specs.Borrow.{Lends, LendsIf, follows_so, MutBor, Fml}
use mathlib.Core.Option.{none}
use Rattle.lasso_c.specs.declared.shared.seat.Seat.{Seat}
use Rattle.lasso_c.specs.declared.shared.handle.LassoShared.{LassoShared}
use Rattle.lasso_c.specs.contracts.shared.seat.Seat as seat
use Rattle.lasso_c.specs.contracts.shared.handle.LassoShared as handle
use Rattle.lasso_c.specs.contracts.shared.member.Member.{the_row}

-- a seat that holds this member
abbrev pub with_member : Seat → the_row.Denot → Seat
with_member s member = record s { value = Some member }

-- a seat ends with the last value of what r leads to
abbrev pub LendsMember : MutBor Seat → MutBor the_row.Denot → Fml
LendsMember s r = Lends seat.the_row the_row s r (with_member s.now)

-- a handle that holds this member
abbrev pub holding : LassoShared → the_row.Denot → LassoShared
holding l member = record { seat = with_member l.seat member; live = true; agree = refl }

-- a handle ends with the last value of what r leads to, and as it was if it lent none
abbrev pub LendsHeld : MutBor LassoShared → Option (MutBor the_row.Denot) → Fml
LendsHeld l r = LendsIf handle.the_row the_row l r (holding l.now) l.now

-- a handle ends with what it held, after it lent texts
abbrev pub KeepsHeld : MutBor LassoShared → Fml
KeepsHeld l = follows_so handle.the_row handle.the_row l.ghost_name none (λ _ _. ⊤) (λ ended. ended.seat.value ≡ l.now.seat.value)
