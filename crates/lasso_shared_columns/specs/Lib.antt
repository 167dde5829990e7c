pub mod Sharing
-- the definition of codes, so that a caller's crate names `lasso_shared_columns` alone
pub use Rattle.lasso_single.specs.Codes
