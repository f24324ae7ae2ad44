-- Lemmas, one subject a file.
pub mod Counted
pub mod Few
pub mod Places
pub mod Leaving
pub mod Standing
pub mod Naming
pub mod Adding
pub mod Counting
pub mod Room
pub mod Deciding
