pub mod Merging
pub mod Finding
pub mod Faults
pub mod Parts
pub mod Rows
pub mod Blocks
pub mod Texts
pub mod Streams
pub mod Steps
pub mod Layout
pub mod Dictionaries
pub mod Counts
pub mod Adding
-- the definitions of codes and of lines, so that a caller's crate names `lasso_columns` alone
pub use Rattle.lasso_single.specs.Codes
pub use Rattle.lasso_single.specs.Coding
pub use Rattle.lasso_input.specs.Lines
