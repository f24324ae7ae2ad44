-- Lemmas, one subject a file; and the definitions on closed examples.
pub mod Examples
pub mod Left
pub mod Steps
pub mod Whole
