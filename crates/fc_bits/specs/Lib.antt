-- The definitions that contracts of this crate and of those above it cite: sets of grains first, then the words that hold them.
pub mod Grains
pub mod Words
