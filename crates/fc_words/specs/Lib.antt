-- The definitions that contracts of this crate and of those above it cite, one subject a file.
pub mod Answers
pub mod Canonical
pub mod Digits
pub mod Given
pub mod Grammar
pub mod Lines
pub mod Values
pub mod Words
