-- What a seat of a shared interner owns: the block of what its handle holds, if it holds one.
use base.Fml.{Fml, ftrue}
use denote.RawPtr.{Ptr}
use Rattle.std.specs.Coded.{Coded, coded_option}
use Rattle.std.specs.Prelude.{Option, None, Some}
use Rattle.std.specs.Box.Ownership.{box_owns}
use Rattle.lasso_c.specs.Held.{freed_by_heap}
use Rattle.lasso_c.specs.contracts.shared.member.Member.{the_row}

-- what such a seat owns: nothing, or the block of the member that it holds
abbrev pub held : Ptr → Option the_row.Denot → Fml
held at None = ftrue
held at (Some member) = box_owns freed_by_heap the_row at member

abbrev pub member_coded : Coded (Option the_row.Denot)
member_coded = coded_option the_row.coded
