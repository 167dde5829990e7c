-- The rights to lent bytes may cross threads: what they own names no thread.
use Rattle.std.proofs.Common.{ℕ, zero, suc, ◌+◌}
use base.Fml.{Fml}
use base.Shift.{Keyless}
use denote.Builtin.{u8}
use denote.Param.Send.{IsSend, IsSync, array_sync, sendable}
use denote.RawPtr.{block_of, count_of}
use denote.Struct.Struct.{Struct}
use denote.Struct.Owning.{shape}
use Rattle.lasso_log.specs.Eras.{along, lies}
use Rattle.lasso_log.specs.contracts.shared_memory.era.Era as Era
use Rattle.lasso_log.specs.contracts.shared_memory.rights.Free as Free
use Rattle.lasso_log.specs.contracts.shared_memory.rights.Owed as Owed
use Rattle.lasso_log.specs.contracts.shared_memory.rights.Lent as Lent

along_keyless : (F : ℕ → Fml) → ((k : ℕ) → Keyless (F k)) → (e n : ℕ) → Keyless (along F e n)
along_keyless F each e zero = tt
along_keyless F each e (suc n) = (each e, along_keyless F each (e + 1) n)

lies_keyless : (l : (Lent.the_row).Denot) → Keyless (lies l.bytes l.at l.until)
lies_keyless l = let byte_sync : IsSync u8 = search sendable in ((array_sync u8 0 byte_sync).shared l.bytes (block_of l.at) (count_of l.at) l.until).1

pub era_send : IsSend Era.the_row
era_send = record { owned = λ d vs. ((λ vss. (tt, ((λ uss. (tt, tt)), tt))), tt); leaving = λ k f vs. tt }

pub era_sync : IsSync Era.the_row
era_sync = let fields : IsSync (Struct (shape Era.the_type)) = search sendable depth 20 in record { shared = λ d b o κ. (fields.shared (tt, tt) b o κ, λ q. tt) }

pub free_send : IsSend Free.the_row
free_send = record { owned = λ d vs. ((λ vss. (tt, ((λ uss. (tt, tt)), tt))), along_keyless _ (λ k. tt) d.start d.len); leaving = λ k f vs. tt }

pub owed_send : IsSend Owed.the_row
owed_send = record { owned = λ d vs. ((λ vss. (tt, ((λ uss. (tt, tt)), tt))), along_keyless _ (λ k. tt) d.start d.len); leaving = λ k f vs. tt }

pub owed_sync : IsSync Owed.the_row
owed_sync = let fields : IsSync (Struct (shape Owed.the_type)) = search sendable depth 20 in record { shared = λ d b o κ. (fields.shared (tt, tt) b o κ, tt) }

pub lent_send : IsSend Lent.the_row
lent_send = record { owned = λ d vs. ((λ vss. (tt, ((λ uss. (tt, tt)), tt))), lies_keyless d); leaving = λ k f vs. tt }

pub lent_sync : IsSync Lent.the_row
lent_sync = let fields : IsSync (Struct (shape Lent.the_type)) = search sendable depth 20 in record { shared = λ d b o κ. (fields.shared (tt, tt) b o κ, lies_keyless d) }
