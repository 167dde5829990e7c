pub mod Counting
pub mod Naming
pub mod Compiled
pub mod Pieces
pub mod Keywords
pub mod TextSets
