pub mod Latches
pub mod LatchWords
pub mod Locks
