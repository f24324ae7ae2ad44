-- Lemmas, one subject a file.
pub mod Preparing
pub mod Triggered
pub mod Started
pub mod Looped
pub mod Together
