-- Lemmas, one subject a file.
pub mod Members
pub mod Least
pub mod Noting
