pub mod Claims
pub mod Lending
pub mod Lots
pub mod Steps
pub mod Values
pub mod Walks
