-- The definitions that contracts of this crate and of those above it cite.
pub mod Flags
pub mod Next
