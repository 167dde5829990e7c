-- The parts of a bucket may cross threads, and so may an entry's loan.
--
-- What names no thread may go to another: that is what has to be shown of all that a value owns, or, where it
-- is to be shared, of all that a `&` to it holds. The places of a block own their bytes and the room between
-- them, and lend a `&` to each byte, and bytes go anywhere. The right to a block owns the allocator's token, which goes where
-- the allocator goes, and a `&` to it holds nothing. A loan is nothing, or a `&` to each byte of a text, and a
-- `&` to the loan is that too.
use Rattle.std.proofs.Common.{ℕ, Bool, true, false, List, [], ◌∷◌}
use base.Shift.{Keyless}
use mir.Syntax.{Ty, w8, ty_int}
use denote.Builtin.{u8}
use denote.Param.Send.{IsSend, IsSync, Common, AllSend, array_sync, owning_send, struct_send, struct_sync, sendable}
use denote.RattleType.{RattleType}
use denote.RawPtr.{Ptr, block_ptr, null_ptr, room_for, block_of, count_of, ◌+ₚ◌}
use denote.Struct.Owning as owning
use denote.Struct.Struct.{exits_of}
use Rattle.core.specs.Mem.Slots.Ownership.{slots, slots_lent, owned}
use Rattle.core.specs.declared.alloc.Allocator.{Ghosts}
use Rattle.core.specs.contracts.slots.Slots as row
use Rattle.std_alloc.proofs.SendSync.{FreesAnywhere, quiet, lies, seen}
use Rattle.lasso_parts.specs.Block.{bytes_type}
use Rattle.lasso_parts.specs.Loans.{lent_for_ever}
use Rattle.lasso_parts.specs.Entries.{Source, Copied, Static}
use Rattle.lasso_parts.specs.contracts.bucket.block.ByteBlock as block
use Rattle.lasso_parts.specs.contracts.bucket.block.ByteBlock.TheInside as fields
use Rattle.lasso_parts.specs.contracts.bucket.block.ByteBlockRight as block_right
use Rattle.lasso_parts.specs.contracts.entries.loan.Loan as loan

byte_send : IsSend u8
byte_send = search sendable

byte_sync : IsSync u8
byte_sync = search sendable

room_keyless : (τ : Ty) (p : Ptr) → Keyless (room_for τ p)
room_keyless τ (block_ptr b o) = tt
room_keyless τ null_ptr = tt

places_keyless : (p : Ptr) (xs : List ℕ) (fs : List Bool) → Keyless (slots u8 p xs fs)
places_keyless p [] fs = tt
places_keyless p (x ∷ xs) [] = tt
places_keyless p (x ∷ xs) (true ∷ fs) = (lies u8 byte_send p x, places_keyless (p +ₚ 1) xs fs)
places_keyless p (x ∷ xs) (false ∷ fs) = (room_keyless (ty_int w8) p, places_keyless (p +ₚ 1) xs fs)

row_keyless : (p : Ptr) (n : ℕ) (xs : List ℕ) (fs : List Bool) → Keyless (owned u8 p n xs fs)
row_keyless (block_ptr b o) n xs fs = (tt, places_keyless (block_ptr b o) xs fs)
row_keyless null_ptr n xs fs = (tt, tt)

lent_common : (p : Ptr) (xs : List ℕ) (fs : List Bool) → Common (slots_lent u8 p xs fs)
lent_common p [] fs κ = tt
lent_common p (x ∷ xs) [] κ = tt
lent_common p (x ∷ xs) (true ∷ fs) κ = (seen u8 byte_sync p x κ, lent_common (p +ₚ 1) xs fs κ)
lent_common p (x ∷ xs) (false ∷ fs) κ = (tt, lent_common (p +ₚ 1) xs fs κ)

row_send : IsSend (row.the_row u8)
row_send =
    let O = row.the_type u8 in let words : AllSend (owning.fields O) = (search sendable, (search sendable, tt)) in
    owning_send O words (λ d. row_keyless d.ptr d.len d.items d.filled) (λ k. quiet (owning.to O) (exits_of k (owning.fields O)) ((struct_send (owning.shape O) words).leaving k))

row_sync : IsSync (row.the_row u8)
row_sync = let O = row.the_type u8 in record {
  shared = λ d b o κ. ((struct_sync (owning.shape O) (search sendable, (search sendable, tt))).shared (owning.to O d) b o κ, (tt, lent_common d.ptr d.items d.filled κ));
}

-- the fields of the places
fields_send : IsSend fields.the_row
fields_send =
    let O = fields.the_type in let both : AllSend (owning.fields O) = (search sendable, (row_send, tt)) in
    owning_send O both (λ _. tt) (λ k. quiet (owning.to O) (exits_of k (owning.fields O)) ((struct_send (owning.shape O) both).leaving k))

fields_sync : IsSync fields.the_row
fields_sync = let O = fields.the_type in record { shared = λ d b o κ. ((struct_sync (owning.shape O) (search sendable, (row_sync, tt))).shared (owning.to O d) b o κ, tt) }

pub block_send : IsSend block.the_row
block_send = search (sendable, fields_send)

pub block_sync : IsSync block.the_row
block_sync = search (sendable, fields_sync)

module _ (A : RattleType) (heap : Ghosts A.Denot) where
  pub deed_send : FreesAnywhere A.Denot heap → IsSend (block_right.the_row A heap)
  deed_send frees =
      let O = block_right.the_type A heap in let mark : AllSend (owning.fields O) = (search sendable, tt) in
      owning_send O mark (λ d. frees.frees d.alloc (bytes_type d.len) d.at) (λ k. quiet (owning.to O) (exits_of k (owning.fields O)) ((struct_send (owning.shape O) mark).leaving k))

  pub deed_sync : IsSync (block_right.the_row A heap)
  deed_sync = let O = block_right.the_type A heap in record { shared = λ d b o κ. ((struct_sync (owning.shape O) (search sendable, tt)).shared (owning.to O d) b o κ, tt) }

lent_keyless : (source : Source) (p : Ptr) → Keyless (lent_for_ever source p)
lent_keyless (Copied span) p = tt
lent_keyless (Static text) p = ((array_sync u8 0 byte_sync).shared text (block_of p) (count_of p) []).1

pub loan_send : IsSend loan.the_row
loan_send = owning_send loan.the_type tt (λ d. lent_keyless d.text.source d.text.at) (λ k x w. tt)

pub loan_sync : IsSync loan.the_row
loan_sync = let O = loan.the_type in record { shared = λ d b o κ. ((struct_sync (owning.shape O) tt).shared (owning.to O d) b o κ, lent_keyless d.text.source d.text.at) }
