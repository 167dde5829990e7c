-- A seat may cross threads as its interner may: it holds nothing, or the interner's memory with the right to free it.
use base.Shift.{Keyless}
use mir.Raw.{raw}
use denote.Memory.{lone}
use denote.RawPtr.{Ptr}
use denote.Struct.Struct.{exits_of}
use denote.Struct.Owning.{shape, fields, to}
use denote.Param.Send.{IsSend, AllSend, owning_send, struct_send, sendable}
use Rattle.std_alloc.proofs.SendSync.{quiet, lies}
use Rattle.std_heap.proofs.Global.TheSendSync as heap
use Rattle.std.proofs.Crossing.{frees}
use Rattle.std.specs.Prelude.{Option, None, Some}
use Rattle.lasso_c.specs.SharedHeld.{held}
use Rattle.lasso_c.specs.contracts.shared.member.Member as Interner
use Rattle.lasso_c.proofs.shared.member.Member.TheSendSync.{the_send as interner_send}
use Rattle.lasso_c.specs.contracts.shared.seat.Seat.{the_row, the_type}

held_keyless : (at : Ptr) (value : Option (Interner.the_row).Denot) → Keyless (held at value)
held_keyless at None = tt
held_keyless at (Some interner) = (lies Interner.the_row interner_send at interner, frees.frees (record { memory = record { seal = tt } }) (raw (lone (Interner.the_row).mir)) at)

pub send : IsSend the_row
send =
    let fields_send : AllSend (fields the_type) = (search sendable, (heap.the_field_send, tt)) in
    owning_send the_type fields_send (λ seat. held_keyless seat.at seat.value)
    (λ kept. quiet (to the_type) (exits_of kept (fields the_type)) ((struct_send (shape the_type) fields_send).leaving kept))
