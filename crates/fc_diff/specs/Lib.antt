-- The definitions that contracts of this crate and of those above it cite: first what is kept, and what a trigger does to it;
-- then the law; then what a row is told, and how the rows are found.
pub mod State
pub mod Law
pub mod Told
pub mod Index
