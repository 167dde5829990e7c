pub mod WordKeys
pub mod Scopes
pub mod Compiling
pub mod Lexing
pub mod Pairs
pub mod TextSets
