pub mod Positions
mod Ranges
mod MachineGood
mod MachineSteps
mod MachineCalls
pub mod Called
pub mod CallerLaws
mod PassFacts
mod MomentFacts
pub mod Alike
pub mod Whole
pub mod Stored
pub mod Frozen
pub mod Filled
pub mod Placed
pub mod Batched
mod BatchFacts
pub mod Listed
pub mod Walked
pub mod Built
pub mod ReadList
pub mod Copied
pub mod Now
pub mod Together
